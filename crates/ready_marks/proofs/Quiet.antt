-- Marks of which none is set.
use Rattle.std.specs.Prelude.{◌≡◌, ℕ, zero, suc, ◌+◌, ◌≤◌, ◌==◌, ◌&&◌, List, Bool, true, false, not, nat_eq}
use Rattle.std.proofs.Common.{refl, sym, ◌∙◌, ap, arith, inl, inr}
use Rattle.std.proofs.lemmas.Bool.{cases_eq, cases_Bool, eq-eqb, ne_eqb}
use Rattle.mark_list.specs.Marks.{is_marked, one_if, count_before}
use Rattle.mark_list.proofs.Below.{count_before-next, count_before-more}
use Rattle.two_d.specs.Meaning.{all_below}

pub quiet-marks : (ms : List Bool) (a n : ℕ) → (count_before ms a == count_before ms (a + n)) ≡ all_below n (λ b. not (is_marked ms (a + b)))
unfolding all_below
quiet-marks ms a zero = let same : a + 0 ≡ a = omega arith in rw same (eq-eqb (count_before ms a) (count_before ms a) refl)
quiet-marks ms a (suc n) =
    let same : a + suc n ≡ a + n + 1 = omega arith in
    let next = count_before-next ms (a + n) in
    let low = count_before-more ms a (a + n) (omega arith) in
    rw same (by (is_marked ms (a + n)) refl next low (quiet-marks ms a n))
  where
    by : (t : Bool) → is_marked ms (a + n) ≡ t → count_before ms (a + n + 1) ≡ count_before ms (a + n) + one_if (is_marked ms (a + n)) → count_before ms a ≤ count_before ms (a + n) →
        (count_before ms a == count_before ms (a + n)) ≡ all_below n (λ b. not (is_marked ms (a + b))) →
        (count_before ms a == count_before ms (a + n + 1)) ≡ (all_below n (λ b. not (is_marked ms (a + b))) && not t)
    by true is next low rest = ne_eqb _ _ (λ e. omega (arith, e, next, low, ap one_if is)) ∙ sym (and-false (all_below n (λ b. not (is_marked ms (a + b)))))
      where
        and-false : (b : Bool) → (b && false) ≡ false
        and-false true = refl
        and-false false = refl
    by false is next low rest =
        let stays : count_before ms (a + n + 1) ≡ count_before ms (a + n) = omega (arith, next, ap one_if is) in
        rw stays (rest ∙ sym (and-true (all_below n (λ b. not (is_marked ms (a + b))))))
      where
        and-true : (b : Bool) → (b && true) ≡ b
        and-true true = refl
        and-true false = refl
