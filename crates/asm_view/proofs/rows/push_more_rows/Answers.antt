use Rattle.std.proofs.Common.{◌≡◌, ◌+◌, ◌-◌, ◌<◌, ◌++◌, ◌⊎◌, ℕ, List, length, refl, sym, ap, ◌∙◌, inl, inr, arith}
use Rattle.std.specs.Prelude.{◌∷◌, [], map, min}
use Rattle.std.specs.List.{range_with_len}
use Rattle.std.proofs.lemmas.Bool.{cases_lt}
use Rattle.text_picture.specs.Pictures.{lined}
use Rattle.asm_view.specs.Rows.{more_row}
use Rattle.asm_view.proofs.Listed.{next_word, same_rows}
use Rattle.asm_view.proofs.rows.push_more_rows.Goals as goal

pub loop-at-preserved : goal.loop-at-preserved
loop-at-preserved c =
    let low = c.loop-at.invariant.low in
    let from = c.saturating_add-at.result in
    let g = more_row c.args.words.now c.args.line.now.base in
    let here : from + (c.loop-at.at - from) ≡ c.loop-at.at = omega (arith, low) in
    let more : c.loop-at.at - from + 1 ≡ c.loop-at.at + 1 - from = omega (arith, low) in
    record {
      low = omega (arith, low);
      none = λ past. absurd (omega (arith, past, low, c.loop-at-test.true));
      added = next_word g c.args.page.now.items c.loop-at.page.items c.push_more_row.new.page.items from (c.loop-at.at - from) c.loop-at.invariant.added
          (c.in_ok-push_more_row.ensures ∙ ap (λ (at : ℕ). c.loop-at.page.items ++ (g at ++ 10 ∷ [])) (sym here))
          ∙ ap (λ (n : ℕ). c.args.page.now.items ++ lined (map g (range_with_len from n))) more;
    }

pub returns : goal.returns
returns c =
    let line = c.args.line.now in
    let words = c.args.words.now in
    let from = c.saturating_add-at.result in
    let n = c.loop-at.at - from in
    let m = min (line.place + line.count) (length words) - (line.place + 1) in
    let end = c.min-end.result in
    let last : c.loop-at.at - from ≡ end - from = elim (cases_lt end from) [
      | inl past ↦ let none = c.loop-at.invariant.none past in omega (arith, none, past)
      | inr before ↦ let at_end = c.loop-at.auto.at-end before in omega (arith, at_end, c.loop-at-test.false)
    ] in
    let alike : ((from ≡ line.place + 1) × (n ≡ m)) ⊎ ((n ≡ 0) × (m ≡ 0)) = elim (cases_lt line.place 18446744073709551615) [
      | inl fits ↦ inl (
        omega (arith, fits, c.saturating_add-at.ensures),
        omega (arith, fits, last, c.saturating_add-at.ensures, c.saturating_add.ensures, c.min-end.ensures),
      )
      | inr over ↦ inr (
        omega (arith, over, last, c.saturating_add-at.ensures, c.saturating_add.ensures, c.min-end.ensures),
        omega (arith, over),
      )
    ] in
    c.loop-at.invariant.added
    ∙ ap (λ (rows : List (List ℕ)). c.args.page.now.items ++ lined rows) (same_rows (more_row words line.base) from (line.place + 1) n m alike)
