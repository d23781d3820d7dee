-- The cells of a text (docs/GRID.md, "Cells").
use Rattle.std.specs.Prelude.{◌≡◌, ℕ, ◌+◌, ◌<◌, ◌≤◌, ◌==◌, List, [], ◌∷◌, length, take, fold, ◌⊎◌}
use Rattle.std.specs.Prelude.{if◌then◌else◌, slice_index, slice_index_or}
use Rattle.std.specs.Str.Lines.{lines}
use Rattle.umix_base.specs.declared.place.Place.{Place}
use Rattle.two_d.specs.Places.{at, IsLeast}
use Rattle.two_d.specs.Faults.{TextFault, too_long, bad_byte, line_too_long}
use Rattle.two_d.specs.Reading.{Reading, give, refuse, refuse_at, ◌>>◌}

-- A grid is its lines. In the text a line ends with LF or CR LF, and the last one may lack it.
abbrev pub Grid : Type 0
Grid = List (List ℕ)

-- the byte at a place, and a space outside all lines, in row 0 and column 0 too
abbrev pub cell : Grid → Place → ℕ
cell grid p = slice_index_or (32 ∷ slice_index_or ([] ∷ grid) p.row []) p.col 32

-- the place after p: the next of its row, and after an LF the first of the next row
abbrev pub next_place : Place → ℕ → Place
next_place p byte = if byte == 10 then at (p.row + 1) 1 else at p.row (p.col + 1)

-- the place of the byte at an offset of the text
abbrev pub place_at : List ℕ → ℕ → Place
place_at text i = fold next_place (at 1 1) (take i text)

-- the byte at an offset is printable, an LF, or a CR right before an LF
abbrev pub MayStand : List ℕ → ℕ → Type 0
MayStand text i =
    ((32 ≤ slice_index text i) × (slice_index text i ≤ 126))
    ⊎ (slice_index text i ≡ 10)
    ⊎ ((slice_index text i ≡ 13) × (slice_index text (i + 1) ≡ 10))

-- the text has a byte at the offset, which may not stand there
pub record IsBadByte (text : List ℕ) (i : ℕ) : Type 0 where
  pub within : i < length text
  pub bad : MayStand text i → ⊥

-- line i, from 0, has more than 4,096 columns
abbrev pub IsTooLong : Grid → ℕ → Type 0
IsTooLong grid i = 4096 < length (slice_index_or grid i [])

-- the grid of a text, or the first of faults 1 to 3
abbrev pub grid_of : List ℕ → Reading TextFault Grid
grid_of text = do
  refuse too_long (262144 < length text)
  refuse_at (λ i. bad_byte (place_at text i)) (IsLeast (IsBadByte text))
  refuse_at (λ i. line_too_long (at (i + 1) 4097)) (IsLeast (IsTooLong (lines text)))
  give (lines text)
