-- The bytes that a run takes from its input.
use Rattle.std.specs.Prelude.{◌≡◌, ℕ, ◌+◌, nat_lt, if◌then◌else◌, List, [], ◌∷◌, ◌++◌}
use Rattle.um_word.specs.State.{State}

-- how many of what was put into registers were bytes, and no end of the input
abbrev pub bytes_in : List ℕ → ℕ
bytes_in [] = 0
bytes_in (x ∷ xs) = (if nat_lt x 256 then 1 else 0) + bytes_in xs

-- From the one state to the other this many Inputs gave a byte: what is gone from the rest of the
-- input has so many bytes.
pub record TakesBytes (s t : State) (count : ℕ) : Type 0 where
  pub gone : List ℕ
  pub split : s.rest ≡ gone ++ t.rest
  pub given : count ≡ bytes_in gone
