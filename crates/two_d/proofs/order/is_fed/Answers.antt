-- A box is fed where both its wires come from what is placed.
use Rattle.std.proofs.Common.{sym, subst}
use Rattle.std.proofs.lemmas.Bool.{iff_false}
use Rattle.two_d.specs.inner.Orders.{IsFrom}
use Rattle.two_d.specs.Programs.{module_of}
use Rattle.two_d.proofs.Targets.{north_below, west_below, fed_from, north_fed, west_fed}
use Rattle.two_d.proofs.order.is_fed.Goals as goal

pub is_from-requires : goal.is_from-requires
is_from-requires c = rw (c.north_of.ensures, c.requires.marks) (north_below (module_of c.args.module.now) c.args.number c.requires.sound c.requires.within)

pub is_from-requires-then-is_from : goal.is_from-requires-then-is_from
is_from-requires-then-is_from c = rw (c.west_of.ensures, c.requires.marks) (west_below (module_of c.args.module.now) c.args.number c.requires.sound c.requires.within)

pub returns-then-is_from : goal.returns-then-is_from
returns-then-is_from c = (
  λ is. fed_from (module_of c.args.module.now) c.args.placed.now c.args.number c.requires.within
      (subst (IsFrom c.args.placed.now) c.north_of.ensures (c.is_from.ensures.0 c.if-is_from.true))
      (subst (IsFrom c.args.placed.now) c.west_of.ensures (c.is_from-then-is_from.ensures.0 is)),
  λ fed. c.is_from-then-is_from.ensures.1 (subst (IsFrom c.args.placed.now) (sym c.west_of.ensures) (west_fed (module_of c.args.module.now) c.args.placed.now c.args.number c.requires.within fed)),
)

pub returns-else-is_from : goal.returns-else-is_from
returns-else-is_from c = (
  λ is. absurd (let e = sym c.if-is_from.false in let f = is in cc),
  λ fed. absurd (iff_false c.is_from.ensures c.if-is_from.false (subst (IsFrom c.args.placed.now) (sym c.north_of.ensures) (north_fed (module_of c.args.module.now) c.args.placed.now c.args.number c.requires.within fed))),
)
