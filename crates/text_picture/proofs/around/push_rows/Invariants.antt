use Rattle.std.proofs.Common.{◌≡◌, ◌++◌, ℕ, List, map}
use Rattle.std.specs.List.{range_with_len}
use Rattle.text_picture.specs.Pictures.{first_row, joined, lined, lines_at}
use Rattle.text_picture.specs.Rows.{rows_read}
use Rattle.text_picture.specs.inner.Shown.{shown_rows}
use Rattle.text_picture.proofs.around.push_rows.Given as goal

abbrev pub invariant-loop-k : goal.invariant-loop-k
invariant-loop-k l =
    (all : List (List ℕ)) → rows_read l.rows ≡ shown_rows all l.mark.row →
    l.page.items ≡ l.initial.page.items ++ lined (joined (map (lines_at all l.mark) (range_with_len (first_row l.mark.row) l.k)))
