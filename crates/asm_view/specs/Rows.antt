-- The rows of a listing (docs/EXPLAIN.md, "The page of an assembly text").
use Rattle.std.specs.Prelude.{ℕ, ◌+◌, ◌-◌, ◌==◌, List, [], ◌∷◌, ◌++◌, map, take, drop, length, codes, decimal}
use Rattle.std.specs.Prelude.{if◌then◌else◌, min, slice_index}
use Rattle.std.specs.List.{range_with_len}
use Rattle.std.specs.Int.{w32, to_be_bytes}
use Rattle.hex.specs.Hex.{encode_lower}
use Rattle.text_picture.specs.Rows.{shown}
use Rattle.um_asm.specs.declared.text_line.TextLine.{TextLine}

-- a label of up to nine columns, on their right
abbrev pub column : List ℕ → List ℕ
column label = drop (length label) (codes "         ") ++ label

-- a word, eight digits in lower case
abbrev pub hex_digits : ℕ → List ℕ
hex_digits word = encode_lower (to_be_bytes w32 word)

-- where a word stands in its block and in the scroll, and the word
abbrev pub word_columns : List ℕ → ℕ → ℕ → List ℕ
word_columns words base at =
    column (decimal (at - base)) ++ column (decimal at) ++ column (hex_digits (slice_index words at))

-- the first word of a line; blanks for a line without words
abbrev pub word_part : List ℕ → TextLine (List ℕ) → List ℕ
word_part words l =
    if l.count == 0 then column [] ++ column [] ++ column [] else word_columns words l.base l.place

-- the first bytes of a line
abbrev pub source_part : ℕ → List ℕ → List ℕ
source_part count bytes = codes " | " ++ map shown (take count bytes)

-- a line with its number and its first word
abbrev pub row : List ℕ → TextLine (List ℕ) → List ℕ
row words l = column (decimal l.number) ++ word_part words l ++ source_part 61 l.bytes

-- a word more of a line
abbrev pub more_row : List ℕ → ℕ → ℕ → List ℕ
more_row words base at = column [] ++ word_columns words base at

-- the other words of a line
abbrev pub more_rows : List ℕ → TextLine (List ℕ) → List (List ℕ)
more_rows words l =
    map (more_row words l.base)
    (range_with_len (l.place + 1) (min (l.place + l.count) (length words) - (l.place + 1)))

-- a line with its number and its words, a row for each
abbrev pub rows_at : List ℕ → TextLine (List ℕ) → List (List ℕ)
rows_at words l = row words l ∷ more_rows words l

-- a line with its number alone
abbrev pub plain_row : TextLine (List ℕ) → List ℕ
plain_row l = column (decimal l.number) ++ source_part 88 l.bytes
