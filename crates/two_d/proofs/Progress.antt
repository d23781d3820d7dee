-- As long as instance 0 has not ended, an event is ready.
use Rattle.std.specs.Prelude.{Option, Some, None, ◌≡◌, ℕ, zero, suc, ◌<◌, ◌≤◌, true, false, not, length}
use Rattle.std.proofs.Common.{refl, sym, ◌∙◌, arith, inl, inr}
use Rattle.std.proofs.lemmas.Bool.{cases_Bool, cases_eq, and_from, and_parts, not-false, not_from_false, false_from_ne_true, eqb-true}
use Rattle.two_d.specs.Programs.{Program, box_count}
use Rattle.two_d.specs.Meaning.{Answers, all_below}
use Rattle.two_d.specs.Steps.{Event, Fire, End, is_ready, Table, instance_at, is_live, can_fire, is_inner, is_box_of}
use Rattle.two_d.proofs.Below.{all_below-from, all_below-fails}
use Rattle.two_d.proofs.State.{Sound, live_within}

-- the last live instance
pub record IsLastLive (T : Table) (i : ℕ) : Type 0 where
  pub live : is_live (instance_at T i) ≡ true
  pub last : (h : ℕ) → i < h → is_live (instance_at T h) ≡ false

pub last_live : (T : Table) (n : ℕ) → ((h : ℕ) → n ≤ h → is_live (instance_at T h) ≡ false) → is_live (instance_at T 0) ≡ true →
    (i : ℕ) × IsLastLive T i
last_live T zero none live = absurd (let q : false ≡ true = sym (none 0 (omega arith)) ∙ live in cc)
last_live T (suc n) none live =
    elim (cases_Bool (is_live (instance_at T n))) [
      | inl up ↦ (n, record { live = up; last = λ h lt. none h (omega arith) })
      | inr down ↦ last_live T n (λ h le. elim (cases_eq h n) [ inl is ↦ rw is down | inr other ↦ none h (omega arith) ]) live
    ]

pub is_box_of-parent : (i : ℕ) (p : Option (ℕ × ℕ)) → is_box_of i p ≡ true → (b : ℕ) × (p ≡ Some (i, b))
is_box_of-parent i None e = absurd (cc)
is_box_of-parent i (Some p) e = (p.1, rw (eqb-true p.0 i e) refl)

pub no_inner-last : (P : Program) (answer : Answers) (T : Table) → Sound P answer T → (i : ℕ) → IsLastLive T i →
    (h : ℕ) → not (is_inner i (instance_at T h)) ≡ true
no_inner-last P answer T sound i last h = not_from_false (is_inner i (instance_at T h)) (false_from_ne_true _ (λ e.
    let r = and_parts (is_live (instance_at T h)) (is_box_of i (instance_at T h).parent) e in
    let (b, parent) = is_box_of-parent i (instance_at T h).parent r.1 in
    let s = sound.starts h i b r.0 parent in
    let q : false ≡ true = sym (last.last h s.later) ∙ r.0 in cc))

pub progress : (P : Program) (answer : Answers) (T : Table) → Sound P answer T → is_live (instance_at T 0) ≡ true →
    (e : Event) × (is_ready P T e ≡ true)
unfolding is_ready
progress P answer T sound live =
    let (i, last) = last_live T (length T) (λ h past. false_from_ne_true _ (λ up. omega (arith, live_within T h up))) live in
    elim (cases_Bool (all_below (box_count P (instance_at T i).kind) (λ b. not (can_fire P (instance_at T i) b)))) [
      | inl quiet ↦ (End i, and_from _ _ last.live (and_from _ _ quiet (all_below-from (length T) _ (λ h lt. no_inner-last P answer T sound i last h))))
      | inr busy ↦
          let (b, lt, fails) = all_below-fails (box_count P (instance_at T i).kind) (λ b. not (can_fire P (instance_at T i) b)) busy in
          (Fire i b, and_from _ _ last.live (not-false _ fails))
    ]
