-- How the bytes of the commands are cut into lines.
use Rattle.std.specs.Prelude.{◌≢◌, ◌≡◌, ℕ, ◌<◌, List, [], ◌∷◌, ◌++◌, All, codes, length}

-- the most bytes of a line
abbrev pub most_line_bytes : ℕ
most_line_bytes = 64

-- none of these bytes is LF
abbrev pub HasNoLineFeed : List ℕ → Type 0
HasNoLineFeed bytes = All (λ byte. byte ≢ 10) bytes

-- The first line of bytes, and what is left of them: what stands before the first LF, which is taken with it, where
-- that is fewer than 64 bytes; or all bytes, where they are fewer, at least one, and none is LF; or the first 64, where
-- none of them is LF.
pub data IsLine : (bytes line rest : List ℕ) → Type 0 where
  ended : (line rest : List ℕ) → length line < most_line_bytes → HasNoLineFeed line →
      IsLine (line ++ 10 ∷ rest) line rest
  last : (line : List ℕ) → line ≢ [] → length line < most_line_bytes → HasNoLineFeed line →
      IsLine line line []
  full : (line rest : List ℕ) → length line ≡ most_line_bytes → HasNoLineFeed line →
      IsLine (line ++ rest) line rest

-- the line that ends a session
abbrev pub quit_line : List ℕ
quit_line = codes "q"

-- these lines come first, in this order, none of them `q`; and this is left
pub data Passes : (bytes : List ℕ) → (lines : List (List ℕ)) → (rest : List ℕ) → Type 0 where
  none : (bytes : List ℕ) → Passes bytes [] bytes
  more : (bytes line between : List ℕ) (lines : List (List ℕ)) (rest : List ℕ) →
      IsLine bytes line between → line ≢ quit_line → Passes between lines rest →
      Passes bytes (line ∷ lines) rest
