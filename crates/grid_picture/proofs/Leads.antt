-- A wire that leads from its start to its end, step by step, is read as it leads.
use Rattle.std.specs.Prelude.{◌≡◌, ◌+◌, ◌-◌, ◌<◌, ◌≤◌, ℕ, zero, suc, List, [], ◌∷◌, ◌++◌, length, slice_get, Some, Any, AllPairs, Ok}
use Rattle.std.proofs.Common.{arith, refl, sym, ap, subst, ◌∙◌, inl, inr, get_or, append_assoc, append-nil}
use Rattle.std.proofs.lemmas.Bool.{cases_lt}
use Rattle.std.proofs.lemmas.List.{length-append, get_or_at, get_or_append_left}
use Rattle.std.proofs.lemmas.Option.{slice_get_within, slice_get-get_or, same_Some}
use Rattle.two_d.specs.Reading.{goes_on, gave, it, passed, each_after}
use Rattle.two_d.specs.Ports.{Drawing}
use Rattle.two_d.specs.Wires.{Position, EndsAt, IsTurn, IsTaker, GoesOn, Step, Collide, Trace, IsWay, IsTrace}
use Rattle.two_d.specs.Wires as wires
use Rattle.two_d.specs.declared.module.To.{To}
use Rattle.two_d.specs.Clean.{tried_cell, wire_at}
use Rattle.two_d.proofs.GoesOnOne.{end_no_turn, goes_on_one}
use Rattle.two_d.proofs.SomeSteps.{collide_back}

-- from a position over these to this end
pub data Leads (m : Drawing) (end : To) : Position → Trace → Type 0 where
  ends : {s : Position} → EndsAt m s end → Leads m end s []
  leads : {s : Position} {more : Trace} (t : Position) → Step m s t → Leads m end t more → Leads m end s (t ∷ more)

-- no two of these have one cell on one axis
abbrev pub AreApart : Drawing → Trace → Type 0
AreApart m trace = AllPairs (λ s t. Collide m s t → ⊥) trace

module _ (m : Drawing) (end : To) where
  step_at : (s : Position) (more : Trace) → Leads m end s more → (k : ℕ) (t u : Position) → slice_get (s ∷ more) k ≡ Some t → slice_get (s ∷ more) (k + 1) ≡ Some u → Step m t u
  step_at s _ (ends e) k t u here there = absurd (let lt = slice_get_within (s ∷ []) (k + 1) u there in omega arith)
  step_at s _ (leads v step more) zero t u here there =
      let a : s ≡ t = same_Some s t here in
      let b : v ≡ u = same_Some v u there in
      subst (λ z. Step m z u) a (subst (Step m s) b step)
  step_at s _ (leads {more = rest} v step more) (suc k) t u here there =
      let n : suc k + 1 ≡ suc (k + 1) = omega arith in
      step_at v rest more k t u here (subst (λ j. slice_get (s ∷ v ∷ rest) j ≡ Some u) n there)

  -- the last position, an end
  pub last_of : (s : Position) (more : Trace) → Leads m end s more → (last : Position) × (slice_get (s ∷ more) (length more) ≡ Some last) × EndsAt m last end
  last_of s _ (ends e) = (s, refl, e)
  last_of s _ (leads t step more) = last_of t _ more

  -- no way goes on further
  no_longer : (way : Trace) → ((k : ℕ) (s t : Position) → slice_get way k ≡ Some s → slice_get way (k + 1) ≡ Some t → Step m s t)
      → (k : ℕ) (s : Position) (more : Trace) → Leads m end s more → slice_get way k ≡ Some s → length way ≤ k + 1 + length more
  no_longer way steps k s _ (ends e) here = elim (cases_lt (k + 1) (length way)) [
    | inr short ↦ omega arith
    | inl less ↦
        let t = get_or way (k + 1) s in
        let step = steps k s t here (slice_get-get_or way (k + 1) s less) in
        let none : t ∷ [] ≡ [] = goes_on_one m s (t ∷ []) [] step.0 (wires.ends (end, e)) in
        absurd (cc)
  ]
  no_longer way steps k s _ (leads {more = rest} t step more) here = elim (cases_lt (k + 1) (length way)) [
    | inr short ↦ omega arith
    | inl less ↦
        let u = get_or way (k + 1) s in
        let at_u : slice_get way (k + 1) ≡ Some u = slice_get-get_or way (k + 1) s less in
        let other = steps k s u here at_u in
        let same : u ∷ [] ≡ t ∷ [] = goes_on_one m s (u ∷ []) (t ∷ []) other.0 step.0 in
        let e : u ≡ t = cc in
        let le = no_longer way steps (k + 1) t rest more (at_u ∙ ap (λ z. Some z) e) in
        omega arith
  ]

  pub trace_of : (s : Position) (more : Trace) → Leads m end s more → AreApart m (s ∷ more) → IsTrace m s (s ∷ more)
  trace_of s more lead apart = record {
    way = record { first = refl; steps = step_at s more lead; apart = apart };
    longest = λ other way. let le = no_longer other way.steps 0 s more lead way.first in omega arith;
  }

  goes_on_from : (s : Position) (more : Trace) → Leads m end s more → IsTurn m s × GoesOn m s [] → ⊥
  goes_on_from s _ (ends e) (turn, go) = end_no_turn m s end e turn
  goes_on_from s _ (leads t step more) (turn, go) = let none : t ∷ [] ≡ [] = goes_on_one m s (t ∷ []) [] step.0 go in cc

  tried : (earlier : List Trace) (own : Trace) (s : Position) (more : Trace) → Leads m end s more → AreApart m (own ++ more)
      → ((k : ℕ) (d : Position) → k < length more → Any (Any (Collide m (get_or more k d))) earlier → ⊥)
      → each_after (tried_cell m earlier) own more (Ok (own ++ more))
  tried earlier own s _ (ends e) apart free = subst (λ l. each_after (tried_cell m earlier) own [] (Ok l)) (sym (append-nil own)) gave
  tried earlier own s _ (leads {more = rest} t step more) apart free =
      goes_on t
      (goes_on tt (passed (λ no_taker. no_taker step.1)) (goes_on tt (passed merges) (goes_on tt (passed (goes_on_from t rest more)) gave)))
      (subst (λ l. each_after (tried_cell m earlier) (own ++ t ∷ []) rest (Ok l)) (append_assoc own (t ∷ []) rest)
      (tried earlier (own ++ t ∷ []) t rest more (subst (AreApart m) (sym (append_assoc own (t ∷ []) rest)) apart) (λ k d lt. free (suc k) d (omega arith))))
    where
      merges : Any (Any (Collide m t)) (own ∷ earlier) → ⊥
      merges (zero, e, lt, is, (j, u, less, at_j, collide)) =
          let e_is : own ≡ e = is in
          let short : j < length own = subst (λ l. j < length l) (sym e_is) less in
          let at : get_or own j u ≡ u = ap (λ l. get_or l j u) e_is ∙ at_j in
          let n = length-append own (t ∷ rest) in
          let one : get_or (own ++ t ∷ rest) j u ≡ u = get_or_append_left own (t ∷ rest) u j short ∙ at in
          let other : get_or (own ++ t ∷ rest) (length own) u ≡ t = get_or_at own t rest u (length own) refl in
          apart j (length own) u short (omega arith) (subst (λ z. Collide m z (get_or (own ++ t ∷ rest) (length own) u)) (sym one) (subst (Collide m u) (sym other) (collide_back m t u collide)))
      merges (suc k, e, lt, is, any) = free 0 t (omega arith) (k, e, omega arith, is, any)

  -- a wire that leads from its start to an end, apart from itself and from the earlier ones
  pub wire_read : (earlier : List Trace) (s : Position) (more : Trace) → Leads m end s more → AreApart m (s ∷ more)
      → ((k : ℕ) (d : Position) → k < length more → Any (Any (Collide m (get_or more k d))) earlier → ⊥) → wire_at m earlier s (Ok (s ∷ more))
  wire_read earlier s more lead apart free =
      let (last, is, at_end) = last_of s more lead in
      goes_on (s ∷ more) (it (s ∷ more) (trace_of s more lead apart))
      (goes_on more (it more (record { last = last; more = []; is_last = ap (slice_get (s ∷ more)) (by more) ∙ is; goes_on = wires.ends (end, at_end); all = sym (append-nil more) }))
      (tried earlier (s ∷ []) s more lead apart free))
    where
      by : (more : Trace) → length (s ∷ more) - 1 ≡ length more
      by more = omega arith
