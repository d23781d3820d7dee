-- What a count of faults tells of a call.
use Rattle.std.specs.Prelude.{◌≡◌, ℕ, ◌+◌, ◌-◌, ◌^◌, ◌≤◌, Option, Result, IsErr, is_some, min}

-- the count rose, or it stands at the last number of 64 bits
abbrev pub Rose : ℕ → ℕ → Type 0
Rose before now = min (before + 1) (2 ^ 64 - 1) ≤ now

-- the count never falls, and it rose where this failed
pub record HasCauseIf (failed : Type 0) (before now : ℕ) : Type 0 where
  pub later : before ≤ now
  pub rose : failed → Rose before now

-- a call that has failed has counted it
abbrev pub HasCause : {T E : Type 0} → ℕ → ℕ → Result T E → Type 0
HasCause before now result = HasCauseIf (IsErr result) before now

-- no call changes whether its object tells what it holds
abbrev pub KeepsTelling : {A : Type 0} → Option A → Option A → Type 0
KeepsTelling old new = is_some new ≡ is_some old
