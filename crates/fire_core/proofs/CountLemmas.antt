-- How many inner instances there are, from event to event.
use Rattle.std.specs.Prelude.{◌≡◌, ℕ, ◌+◌, ◌<◌, ◌≤◌, [], ◌∷◌, ◌++◌, Bool, true, false, not, length, slice_set}
use Rattle.std.proofs.Common.{refl, ◌∙◌, arith}
use Rattle.two_d.specs.Meaning.{Cell, Outcome, sum_below, all_below}
use Rattle.two_d.specs.Steps.{Table, Instance, instance_at, is_inner, with_cell, set_cell, ended}
use Rattle.two_d.proofs.Below.{all_below-at, all_below-from, sum_below-le, sum_below-none, sum_below-at}
use Rattle.two_d.proofs.Counts.{total_of, total_of-set, total_of-push, total_of-none, total_of-at}
use Rattle.fire_core.specs.inner.Instances.{one_if, inner_count}

abbrev weight : ℕ → Instance → ℕ
weight i y = one_if (is_inner i y)

inner_count-total : (i : ℕ) (T : Table) → inner_count i T ≡ total_of (weight i) T
unfolding inner_count total_of
inner_count-total i T = refl

weight-le : (t : Bool) → one_if t ≤ 1
weight-le true = omega arith
weight-le false = omega arith

pub inner_count-le : (i : ℕ) (T : Table) → inner_count i T ≤ length T
unfolding inner_count
inner_count-le i T = sum_below-le (length T) _ (λ h. weight-le (is_inner i (instance_at T h)))

-- a box of an instance has come to something
pub inner_count-cell : (j : ℕ) (T : Table) (i b : ℕ) (c : Cell) → i < length T → inner_count j (set_cell T i b c) ≡ inner_count j T
inner_count-cell j T i b c lt =
    let change = total_of-set (weight j) T i (with_cell (instance_at T i) b c) lt in
    omega (arith, change, inner_count-total j (set_cell T i b c), inner_count-total j T)

-- an instance has come
pub inner_count-push : (j : ℕ) (T : Table) (y : Instance) → inner_count j (T ++ y ∷ []) ≡ inner_count j T + one_if (is_inner j y)
inner_count-push j T y = omega (arith, total_of-push (weight j) T y, inner_count-total j (T ++ y ∷ []), inner_count-total j T)

-- an instance has ended
pub inner_count-end : (j : ℕ) (T : Table) (i : ℕ) (o : Outcome) → i < length T →
    inner_count j (slice_set T i (ended (instance_at T i) o)) + one_if (is_inner j (instance_at T i)) ≡ inner_count j T
inner_count-end j T i o lt =
    let change = total_of-set (weight j) T i (ended (instance_at T i) o) lt in
    omega (arith, change, inner_count-total j (slice_set T i (ended (instance_at T i) o)), inner_count-total j T)

pub inner_count-some : (j : ℕ) (T : Table) (i : ℕ) → i < length T → is_inner j (instance_at T i) ≡ true → 0 < inner_count j T
inner_count-some j T i lt is =
    let one : one_if (is_inner j (instance_at T i)) ≡ 1 = rw is refl in
    omega (arith, one, total_of-at (weight j) T i lt, inner_count-total j T)

pub inner_count-none : (j : ℕ) (T : Table) → ((i : ℕ) → i < length T → is_inner j (instance_at T i) ≡ false) → inner_count j T ≡ 0
inner_count-none j T none = inner_count-total j T ∙ total_of-none (weight j) T (λ i lt. rw (none i lt) refl)

-- no inner instance is left just where their number is 0
pub inner_count-alone : (j : ℕ) (T : Table) → inner_count j T ≡ 0 → all_below (length T) (λ h. not (is_inner j (instance_at T h))) ≡ true
unfolding inner_count
inner_count-alone j T none = all_below-from (length T) _ (λ h lt. by h (is_inner j (instance_at T h)) refl (sum_below-at (length T) weight-at h lt))
  where
    weight-at : ℕ → ℕ
    weight-at h = one_if (is_inner j (instance_at T h))

    by : (h : ℕ) (t : Bool) → is_inner j (instance_at T h) ≡ t → one_if (is_inner j (instance_at T h)) ≤ sum_below (length T) weight-at → not t ≡ true
    by h false is le = refl
    by h true is le = let one : one_if (is_inner j (instance_at T h)) ≡ 1 = rw is refl in absurd (omega (arith, one, le, none))

pub inner_count-not_alone : (j : ℕ) (T : Table) → all_below (length T) (λ h. not (is_inner j (instance_at T h))) ≡ true → inner_count j T ≡ 0
unfolding inner_count
inner_count-not_alone j T alone = sum_below-none (length T) _ (λ h lt. by (is_inner j (instance_at T h)) (all_below-at (length T) _ alone h lt))
  where
    by : (t : Bool) → not t ≡ true → one_if t ≡ 0
    by false is = refl
    by true is = absurd (cc)
