use Rattle.std.proofs.Common.{◌+◌, arith}
use Rattle.std.specs.Prelude.{◌&&◌, nat_le, nat_lt}
use Rattle.grid_draw.specs.inner.Sets.{is_in, is_in_row}
use Rattle.grid_draw.proofs.SetsGain.{gains_then, gains_none, gains_as, no_row_yet, one_row_more, all_rows_there}
use Rattle.grid_draw.proofs.cells.CellSet.add.Goals as goal

pub loop-row-init : goal.loop-row-init
loop-row-init c =
    let area = c.args.area in (
      gains_none c.args.self.now (is_in (record { top = area.top; bottom = area.top; left = area.left; right = area.right })) c.requires
          (λ r k. no_row_yet (nat_le area.left k && nat_lt k area.right) area.top r),
      omega arith,
    )

pub loop-row-preserved : goal.loop-row-preserved
loop-row-preserved c =
    let area = c.args.area in
    let row = c.loop-row.row in (
      gains_then c.args.self.now c.loop-row.self c.add_row.new.self (is_in (record { top = area.top; bottom = row; left = area.left; right = area.right }))
          (is_in_row row area.left area.right) (is_in (record { top = area.top; bottom = row + 1; left = area.left; right = area.right }))
          c.loop-row.invariant.0 c.add_row.ensures
          (λ r k in_r in_k. one_row_more (nat_le area.left k && nat_lt k area.right) area.top row r c.loop-row.auto.row),
      omega (arith, c.loop-row-test.true),
    )

pub returns : goal.returns
returns c =
    let area = c.args.area in
    let row = c.loop-row.row in
    gains_as c.args.self.now c.loop-row.self (is_in (record { top = area.top; bottom = row; left = area.left; right = area.right })) (is_in area)
    c.loop-row.invariant.0
    (λ r k in_r in_k. all_rows_there (nat_le area.left k && nat_lt k area.right) area.top area.bottom row r
    (λ le lt. omega (arith, c.loop-row.invariant.1, c.min-row-end.ensures))
    (λ le lt. omega (arith, c.loop-row-test.false, c.min-row-end.ensures)))
