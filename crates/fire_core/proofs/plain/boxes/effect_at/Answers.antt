-- The box is there, and what it starts is.
use Rattle.std.specs.Prelude.{Some, None}
use Rattle.std.proofs.Common.{sym, ◌∙◌, ap}
use Rattle.codex_values.specs.Store.{values_of}
use Rattle.two_d.specs.Programs.{box_of}
use Rattle.two_d.specs.Steps.{wires}
use Rattle.two_d.specs.Trails.{trails_of}
use Rattle.fire_core.specs.inner.Look.{inputs_at}
use Rattle.fire_core.specs.inner.Rows.{instance_in, row_of}
use Rattle.fire_core.proofs.FireLemmas.{box-is, firing-inputs}
use Rattle.fire_core.proofs.PlainLemmas.{begins-there}
use Rattle.fire_core.proofs.plain.boxes.effect_at.Goals as goal

pub act-requires : goal.act-requires
act-requires c = c.in-Some.ensures.places _ _ c.requires.fits

pub returns-in-None-clause-effect : goal.returns-in-None-clause-effect
returns-in-None-clause-effect c =
    firing-inputs c.args.program.now (instance_in (values_of c.args.values.now) (trails_of c.args.trails.now) (row_of c.args.row.now)) c.args.bx (box_of c.index-form.result.now) None
    (box-is c.args.program.now c.modules-modules.result.now.items c.modules-modules.ensures.modules c.args.row.now.kind c.args.bx c.index-module.result.now c.index-form.result.now
    c.requires.kind c.requires.there c.index-module.ensures c.index-form.ensures)
    (c.in-None.ensures.value (values_of c.args.values.now) (trails_of c.args.trails.now))

pub returns-in_ok-effect-in-Some-clause-effect : goal.returns-in_ok-effect-in-Some-clause-effect
returns-in_ok-effect-in-Some-clause-effect c =
    ap Some c.in_ok-effect-in-Some.ensures.effect
    ∙ firing-inputs c.args.program.now (instance_in (values_of c.args.values.now) (trails_of c.args.trails.now) (row_of c.args.row.now)) c.args.bx (box_of c.index-form.result.now)
    (Some (inputs_at (values_of c.args.values.now) c.in-Some.inputs))
    (box-is c.args.program.now c.modules-modules.result.now.items c.modules-modules.ensures.modules c.args.row.now.kind c.args.bx c.index-module.result.now c.index-form.result.now
    c.requires.kind c.requires.there c.index-module.ensures c.index-form.ensures)
    (c.in-Some.ensures.value (values_of c.args.values.now) (trails_of c.args.trails.now))

pub returns-in_ok-effect-in-Some-clause-fits : goal.returns-in_ok-effect-in-Some-clause-fits
returns-in_ok-effect-in-Some-clause-fits c = (
  c.in_ok-effect-in-Some.ensures.fits,
  begins-there c.args.program.now c.modules-modules.ensures.good c.args.row.now.kind c.requires.kind
      (wires (instance_in (values_of c.args.values.now) (trails_of c.args.trails.now) (row_of c.args.row.now))) c.args.bx
      (values_of c.act.new.values) (trails_of c.act.new.trails) c.in_ok-effect-in-Some.effect
      (sym (returns-in_ok-effect-in-Some-clause-effect c)),
)
