-- Names of modules.
use Rattle.std.specs.Prelude.{◌≡◌, ℕ, ◌≤◌, ◌⊎◌, List, [], ◌∷◌, length, All}
use Rattle.std.specs.Char.{IsAsciiLowercase, IsAsciiDigit}

-- a letter `a` to `z`, a digit or `_`
abbrev pub IsNameByte : ℕ → Type 0
IsNameByte b = IsAsciiLowercase b ⊎ IsAsciiDigit b ⊎ (b ≡ 95)

abbrev pub BeginsWithLetter : List ℕ → Type 0
BeginsWithLetter [] = ⊥
BeginsWithLetter (b ∷ bs) = IsAsciiLowercase b

-- 1 to 32 letters, digits and `_`, of which the first is a letter
pub record IsName (name : List ℕ) : Type 0 where
  pub letters : All IsNameByte name
  pub first : BeginsWithLetter name
  pub short : length name ≤ 32
