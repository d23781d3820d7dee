-- The bytes of a scroll, and how many there may be.
use Rattle.std.specs.Prelude.{◌≡◌, ◌≢◌, ℕ, ◌*◌, ◌%◌, ◌<◌, ◌≤◌, List, [], ◌∷◌, ◌++◌, length}
use Rattle.std.specs.Int.{w32, to_be_bytes}
use Rattle.um_word.specs.declared.scroll.ScrollFault.{ScrollFault}
use Rattle.um_word.specs.declared.scroll.ScrollFault.TheVariants.{TooLong, Ragged, Memory}

-- the most words that a scroll has
abbrev pub most_scroll_words : ℕ
most_scroll_words = 16_777_216

-- the most bytes that it has
abbrev pub most_scroll_bytes : ℕ
most_scroll_bytes = 4 * most_scroll_words

-- the four bytes of each word, the most significant first
abbrev pub scroll : List ℕ → List ℕ
scroll [] = []
scroll (word ∷ words) = to_be_bytes w32 word ++ scroll words

-- why these bytes are no scroll, with their count; want of memory takes the place of neither
abbrev pub IsScrollFault : List ℕ → ScrollFault → Type 0
IsScrollFault bytes (TooLong count) = (count ≡ length bytes) × (most_scroll_bytes < length bytes)
IsScrollFault bytes (Ragged count) = (count ≡ length bytes) × (length bytes ≤ most_scroll_bytes) ×
    (length bytes % 4 ≢ 0)
IsScrollFault bytes Memory = (length bytes ≤ most_scroll_bytes) × (length bytes % 4 ≡ 0)
