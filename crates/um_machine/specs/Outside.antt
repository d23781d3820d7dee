-- What a source and a sink may be taken to hold, whether they tell it or not.
use Rattle.std.specs.Prelude.{◌≡◌, ℕ, ◌-◌, ◌^◌, ◌<◌, ◌≤◌, ◌⊎◌, List, Option, Some, None, All}
use Rattle.umix_base.specs.Causes.{Rose, KeepsTelling}
use Rattle.umix_base.specs.declared.source.Source as source
use Rattle.umix_base.specs.declared.sink.Sink as sink

-- what an Input puts into its register: a byte, or 2 ^ 32 - 1 for an end that it met
abbrev pub IsInput : ℕ → Type 0
IsInput x = (x < 256) ⊎ (x ≡ 2 ^ 32 - 1)

-- The rest of a source may be taken to be this: the one that it tells, or else what its answers will put
-- into registers, in order.
abbrev pub MayRest : Option (List ℕ) → List ℕ → Type 0
MayRest None rest = All IsInput rest
MayRest (Some told) rest = told ≡ rest

-- a sink may be taken to have received these bytes: those that it tells, or else any
abbrev pub MayHold : Option (List ℕ) → List ℕ → Type 0
MayHold None out = Unit {0}
MayHold (Some told) out = told ≡ out

-- A call leaves whether its source or sink tells as it was; the count of faults didn't fall, and rose where
-- the call says that the outside failed.
pub record IsUsed (told_before told_now : Option (List ℕ)) (before now : ℕ) (failed : Type 0) : Type 0 where
  pub tells : KeepsTelling told_before told_now
  pub later : before ≤ now
  pub rose : failed → Rose before now

abbrev pub IsAsked : {I : Type 0} → source.Ghosts I → I → I → Type 0 → Type 0
IsAsked i old new failed = IsUsed (i.rest old) (i.rest new) (i.faults old) (i.faults new) failed

abbrev pub IsFed : {O : Type 0} → sink.Ghosts O → O → O → Type 0 → Type 0
IsFed o old new failed = IsUsed (o.written old) (o.written new) (o.faults old) (o.faults new) failed
