-- The tokens of texts. `P a b ..` says that the text a begins with a P and goes on with b.
use Rattle.std.specs.Prelude.{◌≡◌, ℕ, ◌⊎◌, List, [], ◌∷◌, ◌++◌, replicate}
use Rattle.std.specs.Char.{IsAsciiLowercase, IsAsciiUppercase, IsAsciiDigit}

-- a letter, a digit or `_`
abbrev pub IsWordByte : ℕ → Type 0
IsWordByte b = IsAsciiLowercase b ⊎ IsAsciiUppercase b ⊎ IsAsciiDigit b ⊎ (b ≡ 95)

-- the text doesn't go on with a letter, a digit or `_`
abbrev pub EndsWord : List ℕ → Type 0
EndsWord [] = Unit {0}
EndsWord (b ∷ bs) = IsWordByte b → ⊥

-- spaces, and then these bytes
pub record Symbol (bytes a b : List ℕ) : Type 0 where
  pub spaces : ℕ
  pub is : a ≡ replicate spaces 32 ++ bytes ++ b

-- spaces, and then this word, whole
pub record Word (word a b : List ℕ) : Type 0 where
  pub symbol : Symbol word a b
  pub whole : EndsWord b
