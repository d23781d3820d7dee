-- The numbers stay; what is new is 0, and isn't set.
use Rattle.std.specs.Prelude.{◌≡◌, ◌+◌, ◌*◌, ◌≤◌, ◌/◌}
use Rattle.std.proofs.Common.{refl, arith}
use Rattle.mark_list.proofs.Summed.{summed-same}
use Rattle.mark_list.proofs.marks.Marks.lengthen.Goals as goal

pub invariant_of-self : goal.invariant_of-self
invariant_of-self c =
    summed-same _ _ _ _ _ _ _ c.self.invariant _ _ _ _ _ _ (λ k. refl) (λ k. refl) (λ k. refl) (λ k. refl) (λ k. refl) c.lengthen.ensures.same
    (omega arith) (omega arith) (omega arith) (omega arith) (omega arith) (omega arith)

pub invariant_of-self-in_err-lengthen-2 : goal.invariant_of-self-in_err-lengthen-2
invariant_of-self-in_err-lengthen-2 c =
    summed-same _ _ _ _ _ _ _ c.self.invariant _ _ _ _ _ _ (λ k. refl) (λ k. refl) (λ k. refl) (λ k. refl) c.lengthen-2.ensures.same c.lengthen.ensures.same
    (omega arith) (omega arith) (omega arith) (omega arith) (omega arith) (omega (arith, c.in_ok-lengthen.ensures.ok))

pub invariant_of-self-in_err-lengthen-3 : goal.invariant_of-self-in_err-lengthen-3
invariant_of-self-in_err-lengthen-3 c =
    summed-same _ _ _ _ _ _ _ c.self.invariant _ _ _ _ _ _ (λ k. refl) (λ k. refl) (λ k. refl) c.lengthen-3.ensures.same c.lengthen-2.ensures.same c.lengthen.ensures.same
    (omega arith) (omega arith) (omega arith) (omega arith) (omega (arith, c.in_ok-lengthen-2.ensures.ok)) (omega (arith, c.in_ok-lengthen.ensures.ok))

pub invariant_of-self-in_err-lengthen-4 : goal.invariant_of-self-in_err-lengthen-4
invariant_of-self-in_err-lengthen-4 c =
    summed-same _ _ _ _ _ _ _ c.self.invariant _ _ _ _ _ _ (λ k. refl) (λ k. refl) c.lengthen-4.ensures.same c.lengthen-3.ensures.same c.lengthen-2.ensures.same c.lengthen.ensures.same
    (omega arith) (omega arith) (omega arith) (omega (arith, c.in_ok-lengthen-3.ensures.ok)) (omega (arith, c.in_ok-lengthen-2.ensures.ok)) (omega (arith, c.in_ok-lengthen.ensures.ok))

pub invariant_of-self-in_err-lengthen-5 : goal.invariant_of-self-in_err-lengthen-5
invariant_of-self-in_err-lengthen-5 c =
    summed-same _ _ _ _ _ _ _ c.self.invariant _ _ _ _ _ _ (λ k. refl) c.lengthen-5.ensures.same c.lengthen-4.ensures.same c.lengthen-3.ensures.same c.lengthen-2.ensures.same c.lengthen.ensures.same
    (omega arith) (omega arith) (omega (arith, c.in_ok-lengthen-4.ensures.ok)) (omega (arith, c.in_ok-lengthen-3.ensures.ok)) (omega (arith, c.in_ok-lengthen-2.ensures.ok)) (omega (arith, c.in_ok-lengthen.ensures.ok))

pub invariant_of-self-in_err-lengthen_marks : goal.invariant_of-self-in_err-lengthen_marks
invariant_of-self-in_err-lengthen_marks c =
    summed-same _ _ _ _ _ _ _ c.self.invariant _ _ _ _ _ _ c.lengthen_marks.ensures.same c.lengthen-5.ensures.same c.lengthen-4.ensures.same c.lengthen-3.ensures.same c.lengthen-2.ensures.same c.lengthen.ensures.same
    (omega arith) (omega (arith, c.in_ok-lengthen-5.ensures.ok)) (omega (arith, c.in_ok-lengthen-4.ensures.ok)) (omega (arith, c.in_ok-lengthen-3.ensures.ok)) (omega (arith, c.in_ok-lengthen-2.ensures.ok)) (omega (arith, c.in_ok-lengthen.ensures.ok))

pub invariant_of-self-2 : goal.invariant_of-self-2
invariant_of-self-2 c =
    summed-same _ _ _ _ _ _ _ c.self.invariant _ _ _ _ _ _ c.lengthen_marks.ensures.same c.lengthen-5.ensures.same c.lengthen-4.ensures.same c.lengthen-3.ensures.same c.lengthen-2.ensures.same c.lengthen.ensures.same
    (omega arith) (omega (arith, c.in_ok-lengthen-5.ensures.ok)) (omega (arith, c.in_ok-lengthen-4.ensures.ok)) (omega (arith, c.in_ok-lengthen-3.ensures.ok)) (omega (arith, c.in_ok-lengthen-2.ensures.ok)) (omega (arith, c.in_ok-lengthen.ensures.ok))
