-- The box does what it did in the table.
use Rattle.std.specs.Prelude.{Some, ◌∷◌, [], ◌++◌}
use Rattle.std.proofs.Common.{sym, ◌∙◌, ap}
use Rattle.codex_values.specs.Store.{values_of}
use Rattle.two_d.specs.Meaning as mean
use Rattle.two_d.specs.Meaning.{Effect}
use Rattle.two_d.specs.Steps.{Table, wires, instance_at, set_cell, begun}
use Rattle.two_d.specs.Trails.{trails_of}
use Rattle.fire_core.specs.inner.Acts.{effect_in}
use Rattle.fire_core.specs.inner.Look.{inputs_at}
use Rattle.fire_core.specs.inner.Rows.{cell_in}
use Rattle.fire_core.proofs.ActLemmas.{OnOk-same}
use Rattle.fire_core.proofs.MarkLemmas.{may_fire, step-effect}
use Rattle.two_d.proofs.Starting.{starts-there}
use Rattle.fire_core.proofs.instances.Instances.fire.Goals as goal

pub mark-requires-clause-there : goal.mark-requires-clause-there
mark-requires-clause-there c = rw c.in_ok-cell.ensures.table (may_fire c.args.program.now c.args.self.now.table c.args.number c.args.bx c.modules-modules.ensures.good c.requires.state c.requires.ready).within

pub mark-requires-clause-has : goal.mark-requires-clause-has
mark-requires-clause-has c = rw c.in_ok-cell.ensures.table (may_fire c.args.program.now c.args.self.now.table c.args.number c.args.bx c.modules-modules.ensures.good c.requires.state c.requires.ready).has

pub begin-requires-clause-there : goal.begin-requires-clause-there
begin-requires-clause-there c = rw c.in_ok-cell.ensures.table (may_fire c.args.program.now c.args.self.now.table c.args.number c.args.bx c.modules-modules.ensures.good c.requires.state c.requires.ready).within

pub begin-requires-clause-has : goal.begin-requires-clause-has
begin-requires-clause-has c = rw c.in_ok-cell.ensures.table (may_fire c.args.program.now c.args.self.now.table c.args.number c.args.bx c.modules-modules.ensures.good c.requires.state c.requires.ready).has

pub begin-requires-clause-kind : goal.begin-requires-clause-kind
begin-requires-clause-kind c =
    starts-there c.args.program.now c.modules-modules.ensures.good (instance_at c.args.self.now.table c.args.number).kind (may_fire c.args.program.now c.args.self.now.table c.args.number c.args.bx c.modules-modules.ensures.good c.requires.state c.requires.ready).kind
    (wires (instance_at c.args.self.now.table c.args.number)) c.args.bx c.in-Starts.kind (inputs_at (values_of c.effect.new.self.nodes) c.in-Starts.inputs)
    (sym (ap (λ e. Some (effect_in (values_of c.effect.new.self.nodes) (trails_of c.effect.new.self.trails) e)) (sym c.in-Starts.is) ∙ c.in_ok-cell.ensures.effect))

pub begin-requires-clause-childless : goal.begin-requires-clause-childless
begin-requires-clause-childless c = rw c.in_ok-cell.ensures.table (may_fire c.args.program.now c.args.self.now.table c.args.number c.args.bx c.modules-modules.ensures.good c.requires.state c.requires.ready).alone

pub returns-in-Done-clause-ok : goal.returns-in-Done-clause-ok
returns-in-Done-clause-ok c =
    c.mark.ensures.table
    ∙ (ap (λ (U : Table). set_cell U c.args.number c.args.bx (cell_in (values_of c.effect.new.self.nodes) (trails_of c.effect.new.self.trails) c.in-Done.cell)) c.in_ok-cell.ensures.table
    ∙ step-effect c.args.program.now c.args.self.now.table c.args.number c.args.bx _
    (ap (λ e. Some (effect_in (values_of c.effect.new.self.nodes) (trails_of c.effect.new.self.trails) e)) (sym c.in-Done.is) ∙ c.in_ok-cell.ensures.effect))

pub returns-in-Starts-clause-ok : goal.returns-in-Starts-clause-ok
returns-in-Starts-clause-ok c =
    OnOk-same c.begin.result _ _ _ c.begin.ensures.ok
    (ap (λ (U : Table). set_cell U c.args.number c.args.bx mean.quiet ++ begun c.args.program.now c.in-Starts.kind (Some (c.args.number, c.args.bx)) (inputs_at (values_of c.effect.new.self.nodes) c.in-Starts.inputs) ∷ []) c.in_ok-cell.ensures.table
    ∙ step-effect c.args.program.now c.args.self.now.table c.args.number c.args.bx (mean.Starts c.in-Starts.kind (inputs_at (values_of c.effect.new.self.nodes) c.in-Starts.inputs))
    (ap (λ e. Some (effect_in (values_of c.effect.new.self.nodes) (trails_of c.effect.new.self.trails) e)) (sym c.in-Starts.is) ∙ c.in_ok-cell.ensures.effect))
