-- The calls of an object in memory are numbered together from 0, and some numbers are those of calls that fail.
use Rattle.std.specs.Prelude.{if◌then◌else◌, ℕ, ◌+◌, ◌-◌, ◌^◌, ◌==◌, Bool, List, min}
use Rattle.std.specs.List.{list_any}

-- one more; the last number of 64 bits stays
abbrev pub one_more : ℕ → ℕ
one_more n = min (n + 1) (2 ^ 64 - 1)

-- a count of faults after a call
abbrev pub counted : Bool → ℕ → ℕ
counted failed faults = if failed then one_more faults else faults

-- the call with this number is one of those that fail
abbrev pub is_failing : List ℕ → ℕ → Bool
is_failing fails call = list_any (λ n. n == call) fails
