-- What is made of the plans of a good program realises it.
use Rattle.std.proofs.Common.{◌≡◌, ℕ, suc, ◌*◌, ◌≤◌, ◌⊎◌, inl, inr, Bool, true, List, [], ◌++◌, length, Option, Some, None, refl, sym, ◌∙◌, arith}
use Rattle.std.specs.Prelude.{IsSome, IfSome}
use Rattle.umix_base.specs.declared.limits.Limits.{Limits}
use Rattle.um_word.specs.State.{State, start_of}
use Rattle.um_word.specs.Run.{Standing, Stands, Failed, run, first_of, ids_left, AreLegal}
use Rattle.um_word.specs.Loads.{Loads, loads_by, IsLimit, state_in, fault_in}
use Rattle.two_d.specs.Programs.{Program, main_of}
use Rattle.two_d.specs.Good.{IsGood}
use Rattle.two_d.specs.Meaning.{Meaning, no_inputs, mean}
use Rattle.two_d.specs.Texts.{text_of}
use Rattle.two_d.specs.Walks.{route}
use Rattle.two_d.specs.Weights.{part, weight}
use Rattle.two_d.specs.Programs.{module_at}
use Rattle.two_d.proofs.Walks.{route_long}
use Rattle.lower_plan.specs.declared.plan.Plan.{Plan}
use Rattle.lower_plan.specs.Plans.{ArePlans}
use Rattle.lower_emit.specs.KnownOutcomes.{texts_of}
use Rattle.lower_emit.specs.inner.Plans.{plans_of, orders_of, prices_of}
use Rattle.lower_link.specs.inner.Lines.{line_at, all_lines}
use Rattle.lower_link.specs.Realises.{units, Realised}
use Rattle.lower_link.specs.Follows.{block_at}
use Rattle.lower_link.specs.inner.Made.{places_of, IsMade, RealisesLaw}
use Rattle.lower_link.proofs.Planned.{orders_are}
use Rattle.lower_link.proofs.Realising.{Stood, stands_to, stands_before}
use Rattle.lower_link.proofs.Whole.{SoundFor, has_outcome, goes_on}
use Rattle.lower_link.proofs.Weighing.{cycles_within}
use Rattle.lower_link.proofs.Made.{is_compiled, is_weighed}

none_some : {A : Type 0} (x : A) → None ≡ Some x → ⊥
none_some x e = cc

module _ (P : Program) (good : IsGood P) (plans : List Plan) (are : ArePlans P plans) (blocks : List (ℕ × ℕ)) (words : List ℕ) (made : IsMade P plans blocks words)
    (L : Limits) (input : List ℕ) (n : ℕ) (ids : List ℕ) (legal : AreLegal L n ids (start_of words input)) where
  abbrev codes : ℕ → List ℕ
  codes = block_at words blocks

  abbrev start : State
  start = start_of words input

  abbrev standing : Standing (List ℕ)
  standing = run L n ids start

  abbrev pub loads : Loads
  loads = loads_by first_of ids_left L n ids start

  abbrev pub route_to : ℕ → List (List ℕ × Bool)
  route_to = route P (orders_of plans) codes (codes (length P))

  -- what holds along the way, with what was written so far and at the end
  abbrev pub Holds : (depth : ℕ) → (List ℕ → Type 0) → (List ℕ → Type 0) → State → Loads → Type 0
  Holds depth Written Ended = SoundFor P (orders_of plans) (plans_of P plans) (texts_of P) codes (prices_of P) (places_of blocks) (line_at P) (length (all_lines P)) words
      (is_compiled P good plans are blocks words made) input (route_to depth) Written Ended

  abbrev pub Begins : Meaning → List ℕ → Type 0
  Begins r out = (more : List ℕ) × (out ++ more ≡ text_of P r.outcome)

  abbrev pub IsText : Meaning → List ℕ → Type 0
  IsText r out = out ≡ text_of P r.outcome

  abbrev enough : Meaning → ℕ
  enough r = 65_536 * units P r.instances (length (text_of P r.outcome))

  -- where the program means something to some depth
  pub with_outcome : (depth : ℕ) (r : Meaning) → mean P depth (main_of P) no_inputs ≡ Some r → Stood (Holds depth (Begins r) (IsText r)) L (λ t. enough r ≤ n → t.halted ≡ true) standing loads
  with_outcome depth r means =
      let way = has_outcome P (orders_of plans) (plans_of P plans) (texts_of P) codes (prices_of P) (places_of blocks) (line_at P) (length (all_lines P)) words
      (is_compiled P good plans are blocks words made) input depth r means in
      let few = cycles_within P (plans_of P plans) (prices_of P) (places_of blocks) (λ m. part (module_at P m)) (weight P) (is_weighed P good plans are blocks words made) r in
      let h = stands_to (Holds depth (Begins r) (IsText r)) L way.0 n ids start legal way.2 in
      because standing h (omega (arith, way.1, few))
    where
      because : (standing : Standing (List ℕ)) → {N : ℕ} → Stood (Holds depth (Begins r) (IsText r)) L (λ t. N ≤ n → t.halted ≡ true) standing loads → N ≤ enough r →
          Stood (Holds depth (Begins r) (IsText r)) L (λ t. enough r ≤ n → t.halted ≡ true) standing loads
      because (Stands t ids) h le = record { here = h.here; stands = λ most. h.stands (omega (arith, most, le)) }
      because (Failed t ids fault) h le = record { here = h.here; stands = h.stands }

  -- where it means nothing to the depth of the run
  pub without_outcome : mean P (suc n) (main_of P) no_inputs ≡ None → Stood (Holds (suc n) (λ out. out ≡ []) (λ out. ⊥)) L (λ t. Unit {0}) standing loads
  without_outcome none =
      let way = goes_on P (orders_of plans) (plans_of P plans) (texts_of P) codes (prices_of P) (places_of blocks) (line_at P) (length (all_lines P)) words
      (is_compiled P good plans are blocks words made) input n none (route_long P (orders_of plans) codes (codes (length P)) (orders_are P good plans are) (suc n) none) in
      stands_before (Holds (suc n) (λ out. out ≡ []) (λ out. ⊥)) L way.0 n ids start way.1 legal way.2

  at_limits : (J : State → Loads → Type 0) (E : State → Type 0) (standing : Standing (List ℕ)) (l : Loads) → Stood J L E standing l → IfSome (fault_in standing) IsLimit
  at_limits J E (Stands t ids) l h = tt
  at_limits J E (Failed t ids fault) l h = h.stands.limit

  over : (J : State → Loads → Type 0) (E : Type 0) (standing : Standing (List ℕ)) (l : Loads) → Stood J L (λ t. E → t.halted ≡ true) standing l → E → ((state_in standing).halted ≡ true) ⊎ IsSome (fault_in standing)
  over J E (Stands t ids) l h e = inl (h.stands e)
  over J E (Failed t ids fault) l h e = inr refl

  by : (o : Option Meaning) → mean P (suc n) (main_of P) no_inputs ≡ o → Realised P input n standing
  by (Some r) e =
      let h = with_outcome (suc n) r e in
      record {
        faults = at_limits _ _ standing loads h;
        untaken = h.here.same.rest_is;
        begins = λ q m. (with_outcome m.depth q m.means).here.writes;
        silent = λ none. absurd (none_some r (sym (none (suc n)) ∙ e));
        whole = λ halted. (r, record { depth = suc n; means = e }, h.here.wrote halted);
        ends = λ q m le. over _ (enough q ≤ n) standing loads (with_outcome m.depth q m.means) le;
      }
  by None e =
      let h = without_outcome e in
      record {
        faults = at_limits _ _ standing loads h;
        untaken = h.here.same.rest_is;
        begins = λ q m. (with_outcome m.depth q m.means).here.writes;
        silent = λ none. h.here.writes;
        whole = λ halted. absurd (h.here.wrote halted);
        ends = λ q m le. over _ (enough q ≤ n) standing loads (with_outcome m.depth q m.means) le;
      }

  realised : Realised P input n standing
  realised = by (mean P (suc n) (main_of P) no_inputs) refl

pub realises : RealisesLaw
unfolding RealisesLaw
realises P good plans are blocks words made L input n ids fits legal = realised P good plans are blocks words made L input n ids legal
