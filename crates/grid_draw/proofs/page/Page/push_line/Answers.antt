use Rattle.std.proofs.Common.{◌≡◌, ◌+◌, ℕ, List, [], ◌∷◌, ◌++◌, map, ap, sym, ◌∙◌, append_assoc, arith}
use Rattle.std.specs.List.{range_with_len}
use Rattle.std.proofs.lemmas.List.FromFn.{map-range_with_len_more}
use Rattle.grid_draw.specs.Layout.{byte_at}
use Rattle.grid_draw.specs.inner.Pages.{module_on}
use Rattle.grid_draw.proofs.page.Page.push_line.Goals as goal

-- one byte more
next_byte : (f : ℕ → ℕ) (old now next : List ℕ) (col byte : ℕ) → now ≡ old ++ map f (range_with_len 0 col) → byte ≡ f col
    → next ≡ now ++ byte ∷ [] → next ≡ old ++ map f (range_with_len 0 (col + 1))
next_byte f old now next col byte before is pushed =
    let line = map f (range_with_len 0 col) in
    pushed
    ∙ (ap (λ (t : List ℕ). t ++ byte ∷ []) before
    ∙ (append_assoc old line (byte ∷ [])
    ∙ ap (λ (t : List ℕ). old ++ t) (ap (λ (x : ℕ). line ++ x ∷ []) is ∙ sym (map-range_with_len_more f 0 col col (omega arith)))))

pub loop-col-preserved : goal.loop-col-preserved
loop-col-preserved c =
    next_byte (byte_at (module_on c.args.self.now) c.args.row) c.args.text.now.items c.loop-col.text.items c.push.new.self.items c.loop-col.col
    c.byte.result c.loop-col.invariant c.byte.ensures c.in_ok-push.ensures.items
