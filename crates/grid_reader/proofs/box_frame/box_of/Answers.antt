use Rattle.std.proofs.Common.{◌≡◌, ◌+◌, ◌-◌, ◌++◌, ◌∷◌, [], map, sym, ap, ◌∙◌, append_assoc, arith}
use Rattle.std.specs.List.{range_with_len, join_with_byte}
use Rattle.std.proofs.lemmas.List.FromFn.{map-range_with_len_more, length-map-range_with_len}
use Rattle.two_d.specs.Boxes.{row_text}
use Rattle.grid_reader.specs.inner.Rects.{rect_shown}
use Rattle.grid_reader.proofs.Joined.{join-push}
use Rattle.grid_reader.proofs.box_frame.box_of.Goals as goal

pub loop-row-preserved : goal.loop-row-preserved
loop-row-preserved c =
    let row_at = row_text c.args.grid.now (rect_shown c.args.rect.now) in
    let from = c.args.rect.now.top + 1 in
    let n = c.loop-row.row - c.args.rect.now.top - 1 in
    let count : n + 1 ≡ c.loop-row.row + 1 - c.args.rect.now.top - 1 = omega arith in
    let rows = map row_at (range_with_len from n) in
    let row = row_at c.loop-row.row in
    let more = map-range_with_len_more row_at from n c.loop-row.row (omega arith) in
    c.in_ok-push_row-2.ensures ∙ ap (λ xs. xs ++ row) (c.in_ok-push.ensures.items ∙ ap (λ xs. xs ++ 32 ∷ []) c.loop-row.invariant)
    ∙ append_assoc (join_with_byte 32 rows) (32 ∷ []) row ∙ sym (join-push 32 rows row (omega (arith, length-map-range_with_len row_at from n)))
    ∙ ap (join_with_byte 32) (sym more) ∙ ap (λ k. join_with_byte 32 (map row_at (range_with_len from k))) count
