use Rattle.std.proofs.Common.{◌≡◌, ℕ, ◌+◌, ◌-◌, ◌++◌, ◌∷◌, [], map, sym, ap, ◌∙◌, append_assoc, arith}
use Rattle.std.specs.List.{range_with_len}
use Rattle.std.proofs.lemmas.List.FromFn.{map-range_with_len_more}
use Rattle.two_d.specs.Cells.{cell}
use Rattle.two_d.specs.Places.{at}
use Rattle.grid_reader.proofs.box_frame.push_row.Goals as goal

pub loop-col-preserved : goal.loop-col-preserved
loop-col-preserved c =
    let byte_at = λ (col : ℕ). cell c.args.grid.now (at c.args.row col) in
    let from = c.args.rect.now.left + 1 in
    let old = c.args.text.now.items in
    let n = c.loop-col.col - c.args.rect.now.left - 1 in
    let count : n + 1 ≡ c.loop-col.col + 1 - c.args.rect.now.left - 1 = omega arith in
    let more = map-range_with_len_more byte_at from n c.loop-col.col (omega arith) in
    c.in_ok-push.ensures.items ∙ ap (λ xs. xs ++ c.cell.result ∷ []) c.loop-col.invariant ∙ append_assoc old (map byte_at (range_with_len from n)) (c.cell.result ∷ [])
    ∙ ap (λ b. old ++ (map byte_at (range_with_len from n) ++ b ∷ [])) c.cell.ensures.byte ∙ ap (λ xs. old ++ xs) (sym more) ∙ ap (λ k. old ++ map byte_at (range_with_len from k)) count
