-- Runs that go on.
use Rattle.std.proofs.Common.{◌≡◌, ℕ, zero, suc, ◌+◌, Bool, true, false, refl, sym, ap, arith}
use Rattle.std.specs.Prelude.{if◌then◌else◌}
use Rattle.umix_base.specs.declared.limits.Limits.{Limits}
use Rattle.um_word.specs.State.{State}
use Rattle.um_word.specs.Table.{Next, Goes, Stops, cycle}
use Rattle.um_word.specs.Run.{Standing, Stands, run_after, run_by, going_on, RunsCompose}

module _ {I : Type 0} (offer : I → ℕ) (left : State → I → I) (L : Limits) where
  go : ℕ → I → State → Standing I
  go = run_by offer left L

  -- a halted state stays as it is
  pub halted_stays : (m : ℕ) (i : I) (s : State) → s.halted ≡ true → run_by offer left L m i s ≡ Stands s i
  halted_stays zero i s e = refl
  halted_stays (suc m) i s e =
      ap (λ b. if b then Stands s i else run_after (cycle s L (offer i)) s i (run_by offer left L m (left s i))) e

  by_cycle : (n m : ℕ) (i j : I) (s : State) (r : Next) →
      ((t : State) → run_by offer left L (n + m) j t ≡ going_on (run_by offer left L n j t) (λ t j. run_by offer left L m j t)) →
      run_after r s i (run_by offer left L (n + m) j) ≡ going_on (run_after r s i (run_by offer left L n j)) (λ t j. run_by offer left L m j t)
  by_cycle n m i j s (Goes t) ih = ih t
  by_cycle n m i j s (Stops fault) ih = refl

  by_halt : (n m : ℕ) (i : I) (s : State) (b : Bool) → s.halted ≡ b →
      ((t : State) → run_by offer left L (n + m) (left s i) t ≡ going_on (run_by offer left L n (left s i) t) (λ t j. run_by offer left L m j t)) →
      (if b then Stands s i else run_after (cycle s L (offer i)) s i (run_by offer left L (n + m) (left s i)))
      ≡ going_on (if b then Stands s i else run_after (cycle s L (offer i)) s i (run_by offer left L n (left s i))) (λ t j. run_by offer left L m j t)
  by_halt n m i s true e ih = sym (halted_stays m i s e)
  by_halt n m i s false e ih = by_cycle n m i (left s i) s (cycle s L (offer i)) ih

  compose : (n m : ℕ) (i : I) (s : State) →
      run_by offer left L (n + m) i s ≡ going_on (run_by offer left L n i s) (λ t j. run_by offer left L m j t)
  compose zero m i s = let e : 0 + m ≡ m = omega arith in rw e refl
  compose (suc n) m i s =
      let e : suc n + m ≡ suc (n + m) = omega arith in
      rw e (by_halt n m i s s.halted refl (λ t. compose n m (left s i) t))

pub runs_compose : {I : Type 0} (offer : I → ℕ) (left : State → I → I) → RunsCompose offer left
runs_compose offer left L n m i s = compose offer left L n m i s
