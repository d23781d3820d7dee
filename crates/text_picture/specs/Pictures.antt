-- The picture of the rows of a text around a place.
use Rattle.std.specs.Prelude.{ℕ, ◌+◌, ◌-◌, ◌/◌, ◌%◌, ◌==◌, List, [], ◌∷◌, ◌++◌, map, drop, length}
use Rattle.std.specs.Prelude.{slice_index_or, if◌then◌else◌, codes, decimal, max, min, nat_lt}
use Rattle.std.specs.List.{flat_map, range_with_len}
use Rattle.std.specs.Str.{byte}
use Rattle.umix_base.specs.declared.place.Place.{Place}
use Rattle.text_picture.specs.Rows.{text_rows, cells_from}

-- the first column that is shown around a column: the first of all, where the column is one of 80
abbrev pub first_column : ℕ → ℕ
first_column col = if nat_lt 80 col then col - 40 else 1

-- the first row that is shown around a row: the one four rows above it, or the first of all
abbrev pub first_row : ℕ → ℕ
first_row row = if nat_lt 4 row then row - 4 else 1

-- how many rows are shown around a row of so many: up to the one four rows below it, if it exists, and
-- always the row itself
abbrev pub row_count : ℕ → ℕ → ℕ
row_count row most = min (row + 4) (max most row) + 1 - first_row row

-- what stands to the left of the cells: a label of up to seven columns, on the right, and a bar
abbrev pub margin : List ℕ → List ℕ
margin label = drop (length label) (codes "       ") ++ label ++ codes " | "

-- the sign of a column in the ruler: the last digit of its tens at each tenth, `+` at each fifth
-- column between them, and a dot elsewhere
abbrev pub ruler_sign : ℕ → ℕ
ruler_sign col =
    if col % 10 == 0 then byte "0" + col / 10 % 10 else if col % 5 == 0 then byte "+" else byte "."

-- the ruler of 80 columns
abbrev pub ruler : ℕ → List ℕ
ruler first = margin [] ++ map ruler_sign (range_with_len first 80)

-- the line of a row: its number and its cells
abbrev pub row_line : ℕ → ℕ → List ℕ → List ℕ
row_line first number row = margin (decimal number) ++ cells_from first row

-- the line under the marked row: spaces up to the mark's column
abbrev pub mark_line : ℕ → ℕ → List ℕ
mark_line first col =
    margin [] ++ map (λ _. byte " ") (range_with_len first (col - first)) ++ codes "^"

-- the lines of a row of a number: the row, and under the marked one the mark
abbrev pub lines_of_row : Place → ℕ → List ℕ → List (List ℕ)
lines_of_row mark number row =
    row_line (first_column mark.col) number row
    ∷ (if number == mark.row then mark_line (first_column mark.col) mark.col ∷ [] else [])

-- the lines of the row of a number among these rows
abbrev pub lines_at : List (List ℕ) → Place → ℕ → List (List ℕ)
lines_at all mark number = lines_of_row mark number (slice_index_or all (number - 1) [])

-- lists of lines, one after the other
abbrev pub joined : List (List (List ℕ)) → List (List ℕ)
joined lists = flat_map (λ lines. lines) lists

-- the lines of at most nine of these rows, around a place
abbrev pub lines_around : List (List ℕ) → Place → List (List ℕ)
lines_around all mark =
    joined (map (lines_at all mark)
    (range_with_len (first_row mark.row) (row_count mark.row (length all))))

-- the lines of the picture of a text around a place: the ruler, and those of the rows
abbrev pub picture_lines : List ℕ → Place → List (List ℕ)
picture_lines text mark = ruler (first_column mark.col) ∷ lines_around (text_rows text) mark

-- lines as a text, each ended by LF
abbrev pub lined : List (List ℕ) → List ℕ
lined lines = flat_map (λ line. line ++ 10 ∷ []) lines
