-- The rows that the code keeps.
use Rattle.std.specs.Prelude.{ℕ, ◌+◌, ◌-◌, List, take, drop}
use Rattle.text_picture.specs.Pictures.{first_row}

-- those of these rows that are shown around a row: from the first of them to the one four rows below it
abbrev pub shown_rows : List (List ℕ) → ℕ → List (List ℕ)
shown_rows all row = take (row + 5 - first_row row) (drop (first_row row - 1) all)
