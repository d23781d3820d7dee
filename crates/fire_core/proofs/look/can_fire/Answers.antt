use Rattle.two_d.specs.Programs.{box_of}
use Rattle.fire_core.specs.inner.Look.{inputs_at}
use Rattle.fire_core.specs.inner.Rows.{instance_in, row_of}
use Rattle.fire_core.proofs.LookLemmas.{can_fire-inputs, can_fire-fired}
use Rattle.fire_core.proofs.look.can_fire.Goals as goal

pub returns-then-not-has_fired : goal.returns-then-not-has_fired
returns-then-not-has_fired c = λ P values trails is.
    can_fire-inputs P (instance_in values trails (row_of c.args.row.now)) c.args.number (box_of c.args.bx.now) (inputs_at values) c.inputs_of.result _ _ is
    (c.has_fired.ensures values trails) c.if-not-has_fired.true c.is_some.ensures (c.inputs_of.ensures.value values trails)

pub returns-else-not-has_fired : goal.returns-else-not-has_fired
returns-else-not-has_fired c = λ P values trails is.
    can_fire-fired P (instance_in values trails (row_of c.args.row.now)) c.args.number _ (c.has_fired.ensures values trails) c.if-not-has_fired.false
