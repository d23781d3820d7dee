-- Where code stands, and what it is to be within it.
use Rattle.std.specs.Prelude.{◌≡◌, ◌≢◌, ℕ, ◌+◌, ◌<◌, ◌≤◌, List, [], ◌∷◌, Contains}
use Rattle.std.specs.Prelude.{Option, Some, None, slice_get}
use Rattle.std.specs.FinMap as map
use Rattle.um_word.specs.declared.op.Op.{Op}
use Rattle.um_word.specs.declared.op.Op.TheVariants.{Abandon, Amend, Input}
use Rattle.um_word.specs.State.{State, Arrays, reg}
use Rattle.um_word.specs.Table.{op_of, op_under}
use Rattle.um_word.specs.Loads.{Loads}

-- the operators stand in these words from this place on
abbrev pub StandsAt : List ℕ → ℕ → List Op → Type 0
StandsAt words place [] = Unit {0}
StandsAt words place (op ∷ ops) =
    (op_of (slice_get words place) ≡ Some op) × StandsAt words (place + 1) ops

-- there is an operator, and it is neither Input nor Abandonment
abbrev pub IsOwn : Option Op → Type 0
IsOwn None = ⊥
IsOwn (Some (Input c)) = ⊥
IsOwn (Some (Abandon c)) = ⊥
IsOwn _ = Unit {0}

-- The operator under the finger is neither Input nor Abandonment, and it amends no word of array 0.
pub record IsOwnAt (t : State) : Type 0 where
  pub own : IsOwn (op_under t)
  pub not_zero : (a b c : ℕ) → op_under t ≡ Some (Amend a b c) → reg t a ≢ 0

-- what was loaded last into array 0, which held these words before the loads
abbrev pub last_loaded : List ℕ → Loads → List ℕ
last_loaded words [] = words
last_loaded words (load ∷ loads) = last_loaded load.words loads

-- each array that stood there stands as it was, but for these
abbrev pub StandStill : (but : List ℕ) → Arrays → Arrays → Type 0
StandStill but m n = (id : ℕ) (words : List ℕ) → (Contains but id → ⊥) →
    map.get m id ≡ Some words → map.get n id ≡ Some words

-- The machine stands within so many words from a place on, as it came there: array 0 is as it was,
-- and each array that stood there, but for these, and the table in register 1; nothing was written
-- or read, and the operator under the finger is the code's own.
pub record StandsWithin (place size : ℕ) (but : List ℕ) (came t : State) : Type 0 where
  pub from : place ≤ t.finger
  pub to : t.finger < place + size
  pub code : map.get t.arrays 0 ≡ map.get came.arrays 0
  pub stays : StandStill but came.arrays t.arrays
  pub table : reg t 1 ≡ reg came 1
  pub out : t.out ≡ came.out
  pub rest : t.rest ≡ came.rest
  pub own : IsOwnAt t
