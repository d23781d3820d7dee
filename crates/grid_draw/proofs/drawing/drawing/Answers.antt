use Rattle.std.proofs.Common.{◌≡◌, ◌≤◌, ◌+◌, ◌*◌, ap, sym, subst, arith}
use Rattle.two_d.specs.Programs.{ModuleForm, module_of, modules_of}
use Rattle.two_d.proofs.TableLemmas.{module_there}
use Rattle.grid_draw.specs.Layout.{columns, rows}
use Rattle.grid_draw.proofs.ProgramDrawn.{cells_at, fit_at, narrow_at}
use Rattle.grid_draw.proofs.drawing.drawing.Goals as goal

pub layout_of-requires : goal.layout_of-requires
layout_of-requires c =
    fit_at (modules_of c.args.modules.now) c.loop-one.one-index (module_of c.one-item.result) c.requires.good c.requires.light
    (module_there c.args.modules.now c.loop-one.one-index c.one-item.result c.loop-one-test.true c.one-item.is)

pub push_drawing-requires-clause-narrow : goal.push_drawing-requires-clause-narrow
push_drawing-requires-clause-narrow c =
    let there = module_there c.args.modules.now c.loop-one.one-index c.one-item.result c.loop-one-test.true c.one-item.is in
    record {
      layout = c.in_ok-layout.ensures.0;
      narrow = subst (λ (m : ModuleForm). columns m ≤ 4094) (sym c.in_ok-layout.ensures.1)
          (narrow_at (modules_of c.args.modules.now) c.loop-one.one-index (module_of c.one-item.result) c.requires.narrow there);
    }

pub push_drawing-requires-clause-short : goal.push_drawing-requires-clause-short
push_drawing-requires-clause-short c =
    let there = module_there c.args.modules.now c.loop-one.one-index c.one-item.result c.loop-one-test.true c.one-item.is in
    subst (λ (m : ModuleForm). (rows m + 2) * (columns m + 2) ≤ 262144) (sym c.in_ok-layout.ensures.1)
    (cells_at (modules_of c.args.modules.now) c.loop-one.one-index (module_of c.one-item.result) c.requires.short there)
