-- The rule by which identifiers are handed out.
use Rattle.std.specs.Prelude.{◌≡◌, ℕ, zero, suc, ◌+◌, ◌-◌, ◌^◌, ◌<◌, ◌≤◌, ◌⊎◌, ◌↔◌, if◌then◌else◌}
use Rattle.std.specs.Prelude.{List, [], ◌∷◌, ◌++◌, length, take, All, Contains, Option, Some, None}
use Rattle.std.specs.Prelude.{IsSome, slice_get, unwrap_or, nat_eq}
use Rattle.std.specs.List.{IsDistinct}
use Rattle.std.specs.FinMap as map
use Rattle.umix_base.specs.declared.limits.Limits.{Limits}
use Rattle.um_word.specs.declared.op.Op.{Op}
use Rattle.um_word.specs.declared.op.Op.TheVariants.{Alloc, Abandon}
use Rattle.um_word.specs.State.{State, Arrays, live_arrays, live_words, reg, start_of}
use Rattle.um_word.specs.Table.{Next, Goes, Stops, cycle, op_under}
use Rattle.um_word.specs.Run.{Standing, Stands, Failed, run_by, run, is_allocation, AreLegal}

-- the number of identifiers ever made, and those abandoned and not reused since, in the order of
-- their abandonment
pub record Identifiers : Type 0 where
  pub made : ℕ
  pub abandoned : List ℕ

-- at the start of a run none was made
abbrev pub none_made : Identifiers
none_made = record { made = 0; abandoned = [] }

-- the identifier abandoned last, or if there is none, one more than the number made
abbrev pub next_identifier : Identifiers → ℕ
next_identifier i = unwrap_or (slice_get i.abandoned (length i.abandoned - 1)) (i.made + 1)

-- the identifiers after the next one was handed out
abbrev pub taken_from : List ℕ → ℕ → Identifiers
taken_from [] made = record { made = made + 1; abandoned = [] }
taken_from (id ∷ ids) made = record { made = made; abandoned = take (length ids) (id ∷ ids) }

abbrev pub taken : Identifiers → Identifiers
taken i = taken_from i.abandoned i.made

-- the identifiers after this one was abandoned
abbrev pub handed_back : Identifiers → ℕ → Identifiers
handed_back i id = record i { abandoned = i.abandoned ++ id ∷ [] }

abbrev pub left_by : Option Op → State → Identifiers → Identifiers
left_by (Some (Alloc b c)) s i = taken i
left_by (Some (Abandon c)) s i = handed_back i (reg s c)
left_by _ s i = i

-- the identifiers after a cycle from s: an Allocation takes one, and an Abandonment returns one
abbrev pub identifiers_left : State → Identifiers → Identifiers
identifiers_left s i = left_by (op_under s) s i

-- n cycles in which identifiers are handed out by the rule
abbrev pub ruled : Limits → ℕ → Identifiers → State → Standing Identifiers
ruled = run_by next_identifier identifiers_left

-- What the rule keeps: the arrays are array 0 and just those made and not abandoned since; none is
-- abandoned twice; and the limits are kept.
pub record IsOrderly (L : Limits) (i : Identifiers) (arrays : Arrays) : Type 0 where
  pub active : (id : ℕ) → IsSome (map.get arrays id) ↔ ((id ≡ 0) ⊎
      ((1 ≤ id) × (id ≤ i.made) × (Contains i.abandoned id → ⊥)))
  pub abandoned : All (λ id. (1 ≤ id) × (id ≤ i.made)) i.abandoned
  pub once : IsDistinct nat_eq i.abandoned
  pub counted : live_arrays arrays + length i.abandoned ≡ i.made
  pub made : i.made ≤ L.arrays
  pub words : live_words arrays ≤ L.words

-- the identifiers that the rule hands out in n cycles, in order
abbrev pub handed_by : Option ℕ → Next → (State → List ℕ) → List ℕ
handed_by (Some id) (Goes t) more = id ∷ more t
handed_by None (Goes t) more = more t
handed_by id (Stops fault) more = []

abbrev pub handed_out : Limits → ℕ → Identifiers → State → List ℕ
handed_out L zero i s = []
handed_out L (suc n) i s =
    if s.halted then [] else
    handed_by (if is_allocation (op_under s) then Some (next_identifier i) else None)
    (cycle s L (next_identifier i)) (handed_out L n (identifiers_left s i))

-- the same state and fault, whatever identifiers are left
abbrev pub SameStanding : {I J : Type 0} → Standing I → Standing J → Type 0
SameStanding (Stands s i) (Stands t j) = s ≡ t
SameStanding (Failed s i fault) (Failed t j why) = (s ≡ t) × (fault ≡ why)
SameStanding x y = ⊥

-- Where the limit on arrays is below 2 ^ 32, the identifiers that the rule hands out are legal, and the
-- run by the rule is the run that is given them.
pub record RuleIsLegal (L : Limits) (n : ℕ) (i : Identifiers) (s : State) : Type 0 where
  pub legal : AreLegal L n (handed_out L n i s) s
  pub same : SameStanding (ruled L n i s) (run L n (handed_out L n i s) s)

abbrev pub RulesAreLegal : Type 0
RulesAreLegal = (L : Limits) (n : ℕ) (i : Identifiers) (s : State) →
    L.arrays < 2 ^ 32 → IsOrderly L i s.arrays → RuleIsLegal L n i s

-- the run of a scroll begins orderly, where the words are no more than the limit allows
abbrev pub RunsBeginOrderly : Type 0
RunsBeginOrderly = (L : Limits) (words input : List ℕ) →
    length words ≤ L.words → IsOrderly L none_made (start_of words input).arrays
