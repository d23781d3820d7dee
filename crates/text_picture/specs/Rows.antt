-- The rows of a text as they are shown.
use Rattle.std.specs.Prelude.{ℕ, ◌-◌, ◌==◌, ◌&&◌, List, map, take, drop, length, slice_index}
use Rattle.std.specs.Prelude.{if◌then◌else◌, nat_le}
use Rattle.std.specs.List.{slice_split}
use Rattle.std.specs.Borrow.{Bor}
use Rattle.std.specs.Str.{byte}

-- bytes without the one at their end, if it is this one
abbrev pub less_end : ℕ → List ℕ → List ℕ
less_end end bytes =
    if slice_index bytes (length bytes - 1) == end then take (length bytes - 1) bytes else bytes

-- the rows of a text: what stands between its LFs, of which one may end it
abbrev pub text_rows : List ℕ → List (List ℕ)
text_rows text = slice_split (λ b. b == 10) (less_end 10 text)

-- a byte as it is shown: itself where it is printable, and else a `?`
abbrev pub shown : ℕ → ℕ
shown b = if nat_le 32 b && nat_le b 126 then b else byte "?"

-- the cells of a row that are shown: at most 80 from a column on, without a CR at the row's end
abbrev pub cells_from : ℕ → List ℕ → List ℕ
cells_from first row = map shown (take 80 (drop (first - 1) (less_end 13 row)))

-- rows, as the code keeps them
abbrev pub rows_read : List (Bor (List ℕ)) → List (List ℕ)
rows_read parts = map (λ part. part.now) parts
