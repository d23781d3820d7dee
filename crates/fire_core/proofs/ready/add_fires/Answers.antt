use Rattle.std.specs.Prelude.{◌≡◌, ◌<◌, length}
use Rattle.std.proofs.Common.{arith}
use Rattle.fire_core.specs.inner.Rows.{instance_in, row_of}
use Rattle.fire_core.proofs.RowReady.{box_at-row, fires-more, fires-whole}
use Rattle.fire_core.proofs.ready.add_fires.Goals as goal

pub loop-bx-preserved : goal.loop-bx-preserved
loop-bx-preserved c = record {
  added = λ P values trails same.
      let lt : c.loop-bx.bx < length c.args.boxes.now = omega arith in
      fires-more P (instance_in values trails (row_of c.args.row.now)) c.args.number c.loop-bx.bx _ _ _ (c.loop-bx.invariant.added P values trails same)
      (c.in_ok-add_fire.ensures.added P values trails (box_at-row P c.args.row.now.kind c.loop-bx.bx c.args.boxes.now c.index-boxes-bx.result same lt c.index-boxes-bx.is));
}

pub returns : goal.returns
returns c = record {
  added = λ P values trails same.
      let all : c.loop-bx.bx ≡ length c.args.boxes.now = omega arith in
      fires-whole P (instance_in values trails (row_of c.args.row.now)) c.args.number c.loop-bx.bx (length c.args.boxes.now) _ _ all (c.loop-bx.invariant.added P values trails same);
}
