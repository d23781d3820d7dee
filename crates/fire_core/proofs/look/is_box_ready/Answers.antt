use Rattle.std.specs.Prelude.{◌≡◌, true}
use Rattle.two_d.specs.Steps.{is_live}
use Rattle.fire_core.specs.inner.Rows.{instance_in, row_of}
use Rattle.fire_core.proofs.RowReady.{live-none}
use Rattle.fire_core.proofs.look.is_box_ready.Goals as goal

pub returns-then-is_none : goal.returns-then-is_none
returns-then-is_none c = λ P values trails is.
    let live : is_live (instance_in values trails (row_of c.args.row.now)) ≡ true = live-none values trails (row_of c.args.row.now) _ c.is_none.ensures c.if-is_none.true in
    rw live (c.can_fire.ensures P values trails is)
