use Rattle.std.proofs.Common.{◌+◌, ◌≤◌, ℕ, length, ap, subst, arith}
use Rattle.grid_draw.specs.Layout.{columns, rows}
use Rattle.grid_draw.specs.inner.Inks.{AreSized}
use Rattle.grid_draw.specs.inner.Layouts.{module_in}
use Rattle.grid_draw.proofs.SheetInked.{inking_at, inking_end, within_at}
use Rattle.grid_draw.proofs.sheet.Sheet.inked.Goals as goal

pub lay-requires-clause-within : goal.lay-requires-clause-within
lay-requires-clause-within c =
    within_at c.args.layout.now c.requires.narrow c.deref-wire-items.result.now c.deref-wire-items.ensures.value c.loop-j.j _ c.loop-j-test.true
    c.in_ok-course.course c.in_ok-course.ensures

pub loop-j-preserved : goal.loop-j-preserved
loop-j-preserved c =
    inking_at c.args.layout.now c.in_ok-sheet.sheet c.loop-j.sheet c.lay.new.self c.deref-wire-items.result.now c.deref-wire-items.ensures.value
    c.loop-j.j _ c.in_ok-course.course c.loop-j-test.true c.loop-j.invariant c.in_ok-course.ensures c.lay.ensures

pub returns : goal.returns
returns c =
    let m = module_in c.args.layout.now in
    let sheet = c.in_ok-sheet.sheet in
    let sized : AreSized (rows m + 2) (columns m + 2) sheet
    = subst (λ (n : ℕ). AreSized (n + 2) (columns m + 2) sheet) c.rows.ensures
    (subst (λ (n : ℕ). AreSized (c.rows.result + 2) (n + 2) sheet) c.columns.ensures c.in_ok-sheet.ensures.sized) in
    let past : length c.args.layout.now.wires.items ≤ c.loop-j.j = omega (arith, c.loop-j-test.false, ap length c.deref-wire-items.ensures.value) in
    inking_end m sheet c.loop-j.sheet c.args.layout.now.wires.items c.loop-j.j past sized c.in_ok-sheet.ensures.blank c.loop-j.invariant
