-- The ready events, instance by instance.
use Rattle.std.specs.Prelude.{◌≡◌, ℕ, zero, suc, ◌+◌, ◌≤◌, ◌==◌, ◌&&◌, List, [], ◌∷◌, ◌++◌, Bool, true, false, not, if◌then◌else◌, length, take}
use Rattle.std.specs.List.{filter}
use Rattle.std.proofs.Common.{refl, sym, ◌∙◌, ap, arith, inl, inr}
use Rattle.std.proofs.lemmas.Bool.{cases_eq, cases_Bool, eq-eqb, ne_eqb}
use Rattle.std.proofs.lemmas.List.{append_assoc, append-nil, length-take-le, length-append}
use Rattle.std.proofs.lemmas.List.Elements.{filter-append}
use Rattle.std.proofs.Math.Seq.{take-suc, take-length}
use Rattle.two_d.specs.Meaning.{all_below}
use Rattle.two_d.specs.Programs.{Program, box_count}
use Rattle.two_d.specs.Steps.{Table, Instance, Event, Fire, End, nobody, instance_at, is_live, is_inner, can_fire, is_ready, fires_below, events_from, ready}
use Rattle.fire_core.specs.inner.Instances.{inner_count}
use Rattle.fire_core.specs.inner.Ready.{fires_of, is_quiet, end_events, ready_of, ready_below}
use Rattle.fire_core.proofs.CountLemmas.{inner_count-alone, inner_count-not_alone}

pub events_from-append : (P : Program) (i : ℕ) (xs ys : Table) → events_from P i (xs ++ ys) ≡ events_from P i xs ++ events_from P (i + length xs) ys
events_from-append P i [] ys = let same : i + 0 ≡ i = omega arith in rw same refl
events_from-append P i (x ∷ xs) ys =
    let same : suc i + length xs ≡ i + suc (length xs) = omega arith in
    ap (λ l. fires_below i (box_count P x.kind) ++ End i ∷ l) (events_from-append P (suc i) xs ys ∙ ap (λ k. events_from P (suc i) xs ++ events_from P k ys) same)
    ∙ sym (append_assoc (fires_below i (box_count P x.kind)) (End i ∷ events_from P (suc i) xs) (events_from P (i + suc (length xs)) ys))

module _ (P : Program) (T : Table) (i : ℕ) where
  fires-live : is_live (instance_at T i) ≡ true → (n : ℕ) → filter (is_ready P T) (fires_below i n) ≡ fires_of P (instance_at T i) i n
  unfolding is_ready
  fires-live live zero = refl
  fires-live live (suc n) =
      filter-append (is_ready P T) (fires_below i n) (Fire i n ∷ [])
      ∙ (ap (λ l. l ++ filter (is_ready P T) (Fire i n ∷ [])) (fires-live live n)
      ∙ ap (λ (l : List Event). fires_of P (instance_at T i) i n ++ l) (rw live (by (can_fire P (instance_at T i) n))))
    where
      by : (t : Bool) → (if t then Fire i n ∷ [] else []) ≡ (if t then Fire i n ∷ [] else [])
      by t = refl

  fires-dead : is_live (instance_at T i) ≡ false → (n : ℕ) → filter (is_ready P T) (fires_below i n) ≡ []
  unfolding is_ready
  fires-dead dead zero = refl
  fires-dead dead (suc n) =
      filter-append (is_ready P T) (fires_below i n) (Fire i n ∷ [])
      ∙ (ap (λ l. l ++ filter (is_ready P T) (Fire i n ∷ [])) (fires-dead dead n) ∙ (rw dead refl))

  -- no inner instance is left just where there are none
  pub alone-count : all_below (length T) (λ h. not (is_inner i (instance_at T h))) ≡ (inner_count i T == 0)
  alone-count = elim (cases_eq (inner_count i T) 0) [
    | inl none ↦ inner_count-alone i T none ∙ sym (eq-eqb (inner_count i T) 0 none)
    | inr some ↦ elim (cases_Bool (all_below (length T) (λ h. not (is_inner i (instance_at T h))))) [
      | inl holds ↦ absurd (some (inner_count-not_alone i T holds))
      | inr fails ↦ fails ∙ sym (ne_eqb (inner_count i T) 0 some)
    ]
  ]

  ends-live : is_live (instance_at T i) ≡ true → filter (is_ready P T) (End i ∷ []) ≡ end_events P T i
  unfolding is_ready
  ends-live live = rw (live, alone-count) refl

  ends-dead : is_live (instance_at T i) ≡ false → filter (is_ready P T) (End i ∷ []) ≡ []
  unfolding is_ready
  ends-dead dead = rw dead refl

  pub ready_of-filter : filter (is_ready P T) (fires_below i (box_count P (instance_at T i).kind) ++ End i ∷ []) ≡ ready_of P T i
  ready_of-filter =
      filter-append (is_ready P T) (fires_below i (box_count P (instance_at T i).kind)) (End i ∷ [])
      ∙ elim (cases_Bool (is_live (instance_at T i))) [
        | inl live ↦ rw (live, fires-live live (box_count P (instance_at T i).kind), ends-live live) refl
        | inr dead ↦ rw (dead, fires-dead dead (box_count P (instance_at T i).kind), ends-dead dead) refl
      ]

module _ (P : Program) (T : Table) where
  ready_below-filter : (n : ℕ) → n ≤ length T → filter (is_ready P T) (events_from P 0 (take n T)) ≡ ready_below P T n
  ready_below-filter zero le = refl
  ready_below-filter (suc n) le =
      ap (λ l. filter (is_ready P T) (events_from P 0 l)) (take-suc T n nobody (omega arith))
      ∙ (ap (filter (is_ready P T)) (events_from-append P 0 (take n T) (instance_at T n ∷ []))
      ∙ (filter-append (is_ready P T) (events_from P 0 (take n T)) (events_from P (0 + length (take n T)) (instance_at T n ∷ []))
      ∙ (ap (λ l. l ++ filter (is_ready P T) (events_from P (0 + length (take n T)) (instance_at T n ∷ []))) (ready_below-filter n (omega arith))
      ∙ ap (λ l. ready_below P T n ++ l) (ap (λ k. filter (is_ready P T) (events_from P k (instance_at T n ∷ []))) number ∙ ready_of-filter P T n))))
    where
      number : 0 + length (take n T) ≡ n
      number = omega (arith, length-take-le n T (omega arith))

  pub ready-below : ready P T ≡ ready_below P T (length T)
  unfolding ready
  ready-below = ap (λ l. filter (is_ready P T) (events_from P 0 l)) (sym (take-length T)) ∙ ready_below-filter (length T) (omega arith)

quiet-fires : (P : Program) (x : Instance) (i n : ℕ) → is_quiet P x n ≡ (length (fires_of P x i n) == 0)
unfolding all_below
quiet-fires P x i zero = refl
quiet-fires P x i (suc n) = by (can_fire P x n) (quiet-fires P x i n)
  where
    by : (t : Bool) → is_quiet P x n ≡ (length (fires_of P x i n) == 0) →
        (is_quiet P x n && not t) ≡ (length (fires_of P x i n ++ (if t then Fire i n ∷ [] else [])) == 0)
    by false e = ap (λ b. b && true) e ∙ (and-true (length (fires_of P x i n) == 0) ∙ ap (λ l. length l == 0) (sym (append-nil (fires_of P x i n))))
      where
        and-true : (b : Bool) → (b && true) ≡ b
        and-true true = refl
        and-true false = refl
    by true e = and-false (is_quiet P x n) ∙ sym (ne_eqb (length (fires_of P x i n ++ Fire i n ∷ [])) 0 (λ none. omega (arith, none, length-append (fires_of P x i n) (Fire i n ∷ []))))
      where
        and-false : (b : Bool) → (b && false) ≡ false
        and-false true = refl
        and-false false = refl

-- what was added to a list of events is all that is ready of the instance
module _ (P : Program) (T : Table) (i : ℕ) (old new : List Event) (n : ℕ) (size : n ≡ box_count P (instance_at T i).kind)
    (live : is_live (instance_at T i) ≡ true) (added : new ≡ old ++ fires_of P (instance_at T i) i n) where
  all : new ≡ old ++ fires_of P (instance_at T i) i (box_count P (instance_at T i).kind)
  all = rw size at added

  -- some box can fire
  pub ready-firing : (length new ≡ length old → ⊥) → new ≡ old ++ ready_of P T i
  ready-firing longer =
      let loud : is_quiet P (instance_at T i) (box_count P (instance_at T i).kind) ≡ false =
      quiet-fires P (instance_at T i) i (box_count P (instance_at T i).kind)
      ∙ ne_eqb _ 0 (λ none. longer (omega (arith, none, ap length all, length-append old (fires_of P (instance_at T i) i (box_count P (instance_at T i).kind))))) in
      all ∙ ap (λ l. old ++ l) (rw (live, loud) (sym (append-nil (fires_of P (instance_at T i) i (box_count P (instance_at T i).kind)))))

  quiet : length new ≡ length old → is_quiet P (instance_at T i) (box_count P (instance_at T i).kind) ≡ true
  quiet same =
      quiet-fires P (instance_at T i) i (box_count P (instance_at T i).kind)
      ∙ eq-eqb _ 0 (omega (arith, same, ap length all, length-append old (fires_of P (instance_at T i) i (box_count P (instance_at T i).kind))))

  -- no box can fire, and an inner instance is left
  pub ready-waiting : length new ≡ length old → (inner_count i T ≡ 0 → ⊥) → new ≡ old ++ ready_of P T i
  ready-waiting same some =
      all ∙ ap (λ l. old ++ l) (rw (live, quiet same, ne_eqb (inner_count i T) 0 some) (sym (append-nil (fires_of P (instance_at T i) i (box_count P (instance_at T i).kind)))))

  -- no box can fire, and no inner instance is left
  pub ready-ending : length new ≡ length old → inner_count i T ≡ 0 → new ++ End i ∷ [] ≡ old ++ ready_of P T i
  ready-ending same none =
      ap (λ l. l ++ End i ∷ []) all
      ∙ (append_assoc old (fires_of P (instance_at T i) i (box_count P (instance_at T i).kind)) (End i ∷ [])
      ∙ ap (λ l. old ++ l) (rw (live, quiet same, eq-eqb (inner_count i T) 0 none) refl))

pub ready-dead : (P : Program) (T : Table) (i : ℕ) (old : List Event) → is_live (instance_at T i) ≡ false → old ≡ old ++ ready_of P T i
ready-dead P T i old dead = sym (append-nil old) ∙ ap (λ (l : List Event). old ++ l) (rw dead refl)

pub ready_below-next : (P : Program) (T : Table) (n : ℕ) (old new : List Event) → old ≡ ready_below P T n → new ≡ old ++ ready_of P T n → new ≡ ready_below P T (n + 1)
ready_below-next P T n old new e f = let next : n + 1 ≡ suc n = omega arith in rw next (f ∙ ap (λ l. l ++ ready_of P T n) e)

pub ready_below-whole : (P : Program) (T : Table) (n : ℕ) (events : List Event) → n ≡ length T → events ≡ ready_below P T n → events ≡ ready P T
ready_below-whole P T n events all e = (e ∙ ap (ready_below P T) all) ∙ sym (ready-below P T)
