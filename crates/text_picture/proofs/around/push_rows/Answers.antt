use Rattle.std.proofs.Common.{◌≡◌, ◌+◌, ℕ, List, ◌++◌, ap, arith, subst, ◌∙◌, map}
use Rattle.std.specs.List.{range_with_len}
use Rattle.text_picture.specs.Pictures.{first_row, joined, lined, lines_at, lines_of_row}
use Rattle.text_picture.proofs.Pushed.{next_lines}
use Rattle.text_picture.proofs.Window.{count_read, count_shown, row_read}
use Rattle.text_picture.proofs.around.push_rows.Goals as goal

pub loop-k-preserved : goal.loop-k-preserved
loop-k-preserved c all are =
    let mark = c.args.mark in
    let top = c.first_row-top.result in
    let shown = row_read c.args.rows.now all mark.row top c.loop-k.k c.max-k-end.result are c.first_row-top.ensures.row c.max-k-end.ensures c.loop-k-test.true in
    let row : c.push_lines.new.page.items ≡ c.loop-k.page.items ++ lined (lines_at all mark (top + c.loop-k.k)) =
    c.in_ok-push_lines.ensures ∙ ap (λ (r : List ℕ). c.loop-k.page.items ++ lined (lines_of_row mark (top + c.loop-k.k) r)) (c.row_at.ensures ∙ shown) in
    next_lines (lines_at all mark) c.args.page.now.items c.loop-k.page.items c.push_lines.new.page.items (first_row mark.row) c.loop-k.k
    (c.loop-k.invariant all are)
    (subst (λ (n : ℕ). c.push_lines.new.page.items ≡ c.loop-k.page.items ++ lined (lines_at all mark (n + c.loop-k.k))) c.first_row-top.ensures.row row)

pub returns : goal.returns
returns c all are =
    let mark = c.args.mark in
    let counted = count_read c.args.rows.now all mark.row c.first_row-top.result c.max-k-end.result are c.first_row-top.ensures.row c.max-k-end.ensures ∙ count_shown all mark.row in
    let at : c.loop-k.k ≡ c.max-k-end.result = omega (arith, c.loop-k-test.false, c.loop-k.auto.k-end) in
    subst (λ (n : ℕ). c.loop-k.page.items ≡ c.args.page.now.items ++ lined (joined (map (lines_at all mark) (range_with_len (first_row mark.row) n))))
    counted (subst (λ (n : ℕ). c.loop-k.page.items ≡ c.args.page.now.items ++ lined (joined (map (lines_at all mark) (range_with_len (first_row mark.row) n)))) at (c.loop-k.invariant all are))
