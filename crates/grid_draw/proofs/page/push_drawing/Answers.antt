use Rattle.std.proofs.Common.{◌≡◌, ◌+◌, ℕ, List, [], ◌∷◌, ◌++◌, map, ap, sym, ◌∙◌, append_assoc, append-nil, arith}
use Rattle.std.specs.List.{range_with_len}
use Rattle.std.proofs.lemmas.List.FromFn.{map-range_with_len_more}
use Rattle.grid_picture.specs.Lined.{lined}
use Rattle.grid_draw.specs.inner.Layouts.{module_in}
use Rattle.grid_draw.proofs.Drawn.{line_of}
use Rattle.grid_draw.proofs.Sizes.{lined_append}
use Rattle.grid_draw.proofs.page.push_drawing.Goals as goal

-- one line more
next_line : (f : ℕ → List ℕ) (old now next : List ℕ) (row : ℕ) → now ≡ old ++ lined (map f (range_with_len 0 row))
    → next ≡ now ++ (f row ++ 10 ∷ []) → next ≡ old ++ lined (map f (range_with_len 0 (row + 1)))
next_line f old now next row before pushed =
    let lines = map f (range_with_len 0 row) in
    pushed
    ∙ (ap (λ (t : List ℕ). t ++ (f row ++ 10 ∷ [])) before
    ∙ (append_assoc old (lined lines) (f row ++ 10 ∷ [])
    ∙ ap (λ (t : List ℕ). old ++ t)
    (ap (λ (t : List ℕ). lined lines ++ t) (sym (append-nil (f row ++ 10 ∷ [])))
    ∙ (sym (lined_append lines (f row ∷ [])) ∙ ap lined (sym (map-range_with_len_more f 0 row row (omega arith)))))))

pub loop-row-preserved : goal.loop-row-preserved
loop-row-preserved c =
    next_line (line_of (module_in c.args.layout.now)) c.args.text.now.items c.loop-row.text.items c.push_line.new.text.items c.loop-row.row
    c.loop-row.invariant c.in_ok-push_line.ensures
