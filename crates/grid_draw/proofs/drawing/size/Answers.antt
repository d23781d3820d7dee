use Rattle.std.proofs.Common.{◌≡◌, ◌≤◌, ap, ◌∙◌, refl, arith}
use Rattle.two_d.specs.Programs.{module_of, modules_of}
use Rattle.two_d.specs.Weights.{part}
use Rattle.two_d.proofs.TableLemmas.{module_there}
use Rattle.grid_draw.specs.Layout.{columns}
use Rattle.grid_draw.specs.inner.Sizes.{size_of}
use Rattle.grid_draw.proofs.ProgramDrawn.{counted_all, counted_next, fit_at, too_wide}
use Rattle.grid_draw.proofs.drawing.size.Goals as goal

pub layout_of-requires : goal.layout_of-requires
layout_of-requires c =
    fit_at (modules_of c.args.modules.now) c.loop-i.i (module_of c.index-modules-i.result) c.requires.good c.requires.light
    (module_there c.args.modules.now c.loop-i.i c.index-modules-i.result c.loop-i-test.true c.index-modules-i.is)

pub returns-then-columns-gt-MOST_COLUMNS-clause-refused : goal.returns-then-columns-gt-MOST_COLUMNS-clause-refused
returns-then-columns-gt-MOST_COLUMNS-clause-refused c = (
  c.loop-i.i,
  refl,
  too_wide c.args.modules.now c.loop-i.i c.loop-i.size c.index-modules-i.result c.loop-i-test.true c.index-modules-i.is c.loop-i.invariant
      (omega (arith, c.if-columns-gt-MOST_COLUMNS.true, c.columns.ensures, ap columns c.in_ok-layout.ensures.1)),
)

pub loop-i-preserved : goal.loop-i-preserved
loop-i-preserved c =
    let one = c.index-modules-i.result in
    let fit = fit_at (modules_of c.args.modules.now) c.loop-i.i (module_of one) c.requires.good c.requires.light
    (module_there c.args.modules.now c.loop-i.i one c.loop-i-test.true c.index-modules-i.is) in
    counted_next c.args.modules.now c.loop-i.i c.loop-i.size c.size-size.result one c.loop-i-test.true c.index-modules-i.is c.loop-i.invariant
    fit.light (omega (arith, c.if-columns-gt-MOST_COLUMNS.false, c.columns.ensures, ap columns c.in_ok-layout.ensures.1))
    (c.size-size.ensures ∙ ap size_of c.in_ok-layout.ensures.1)

pub returns-clause-counted : goal.returns-clause-counted
returns-clause-counted c = counted_all c.args.modules.now c.loop-i.i c.loop-i.size c.loop-i-test.false c.loop-i.invariant
