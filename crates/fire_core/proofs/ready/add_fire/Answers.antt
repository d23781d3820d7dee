use Rattle.std.proofs.Common.{refl}
use Rattle.fire_core.specs.inner.Rows.{instance_in, row_of}
use Rattle.fire_core.proofs.RowReady.{fire-pushed, fire-passed}
use Rattle.fire_core.proofs.ready.add_fire.Goals as goal

pub returns-in_ok-push : goal.returns-in_ok-push
returns-in_ok-push c = record {
  added = λ P values trails is.
      fire-pushed P (instance_in values trails (row_of c.args.row.now)) c.args.number c.args.place _ _ _ c.can_fire.result (c.can_fire.ensures P values trails is) c.if-can_fire.true c.in_ok-push.ensures.items refl;
}

pub returns-else-can_fire : goal.returns-else-can_fire
returns-else-can_fire c = record {
  added = λ P values trails is.
      fire-passed P (instance_in values trails (row_of c.args.row.now)) c.args.number c.args.place _ c.can_fire.result (c.can_fire.ensures P values trails is) c.if-can_fire.false;
}
