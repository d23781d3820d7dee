use Rattle.std.proofs.Common.{◌+◌, arith}
use Rattle.std.specs.Prelude.{◌==◌}
use Rattle.grid_draw.specs.inner.Sets.{is_in_row, is_at}
use Rattle.grid_draw.proofs.SetsGain.{gains_then, gains_none, gains_as, none_yet, one_more, all_there}
use Rattle.grid_draw.proofs.cells.CellSet.add_row.Goals as goal

pub loop-col-init : goal.loop-col-init
loop-col-init c = (
  gains_none c.args.self.now (is_in_row c.args.row c.args.left c.args.left) c.requires.sized
      (λ r k. none_yet (r == c.args.row) c.args.left k),
  omega arith,
)

pub loop-col-preserved : goal.loop-col-preserved
loop-col-preserved c =
    let row = c.args.row in
    let col = c.loop-col.col in (
      gains_then c.args.self.now c.loop-col.self c.add_cell.new.self (is_in_row row c.args.left col) (is_at row col)
          (is_in_row row c.args.left (col + 1)) c.loop-col.invariant.0 c.add_cell.ensures
          (λ r k in_r in_k. one_more (r == row) c.args.left col k c.loop-col.auto.col),
      omega (arith, c.loop-col-test.true),
    )

pub returns : goal.returns
returns c =
    let left = c.args.left in
    let right = c.args.right in
    let col = c.loop-col.col in
    gains_as c.args.self.now c.loop-col.self (is_in_row c.args.row left col) (is_in_row c.args.row left right) c.loop-col.invariant.0
    (λ r k in_r in_k. all_there (r == c.args.row) left right col k
    (λ le lt. omega (arith, c.loop-col.invariant.1, c.min-col-end.ensures))
    (λ le lt. omega (arith, c.loop-col-test.false, c.min-col-end.ensures)))
