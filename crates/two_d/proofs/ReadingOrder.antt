-- Reading order is a strict order of places.
use Rattle.std.proofs.Common.{inl, inr, arith}
use Rattle.umix_base.specs.declared.place.Place.{Place}
use Rattle.two_d.specs.Places.{Before}

pub Before-irreflexive : (p : Place) → Before p p → ⊥
Before-irreflexive p (inl a) = omega arith
Before-irreflexive p (inr a) = omega arith

pub Before-asymmetric : (p q : Place) → Before p q → Before q p → ⊥
Before-asymmetric p q (inl a) (inl b) = omega arith
Before-asymmetric p q (inl a) (inr b) = omega arith
Before-asymmetric p q (inr a) (inl b) = omega arith
Before-asymmetric p q (inr a) (inr b) = omega arith

pub Before-transitive : (p q r : Place) → Before p q → Before q r → Before p r
Before-transitive p q r (inl a) (inl b) = inl (omega arith)
Before-transitive p q r (inl a) (inr b) = inl (omega arith)
Before-transitive p q r (inr a) (inl b) = inl (omega arith)
Before-transitive p q r (inr a) (inr b) = inr (omega arith, omega arith)
