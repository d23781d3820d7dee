-- The numbers of a line.
use Rattle.std.specs.Prelude.{◌≡◌, ◌≢◌, ℕ, ◌^◌, ◌<◌, ◌≤◌, List, ◌++◌, All, codes, decimal}
use Rattle.um_debug.specs.declared.command.WordPlace.{WordPlace}

-- the word writes this number in decimal, and it is at most `most`
pub record IsDecimal (most : ℕ) (word : List ℕ) (n : ℕ) : Type 0 where
  pub writes : word ≡ decimal n
  pub small : n ≤ most

abbrev pub HasNoSpace : List ℕ → Type 0
HasNoSpace text = All (λ byte. byte ≢ 32) text

-- the text writes the identifier and the offset of a place
pub record IsPlace (text : List ℕ) (place : WordPlace) : Type 0 where
  pub writes : text ≡ decimal place.id ++ codes " " ++ decimal place.offset
  pub id : place.id < 2 ^ 32
  pub offset : place.offset < 2 ^ 32
