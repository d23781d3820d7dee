-- A box's wires begin where slots are noted, and its step has them.
use Rattle.std.specs.Prelude.{◌≡◌, ◌<◌, Some, length, slice_get, slice_index_or}
use Rattle.std.proofs.Common.{refl, ◌∙◌, arith}
use Rattle.std.proofs.lemmas.List.{length-map}
use Rattle.two_d.specs.declared.module.Origin.TheVariants.{South, East}
use Rattle.two_d.specs.Programs.{box_of, module_of}
use Rattle.lower_plan.proofs.Rows.{read_box}
use Rattle.lower_plan.proofs.Planned.{place_n, place_w, bx_at, box_in_order, end_is, step_is, steps_next}
use Rattle.lower_plan.proofs.planning.steps_of.Goals as goal

pub index-row-requires : goal.index-row-requires
index-row-requires c =
    let m = module_of c.args.owner.now in
    let here = bx_at c.args.order.now.items _ c.deref-bx-items.ensures.value c.loop-bx.bx-index c.loop-bx-test.true in
    omega (arith, box_in_order m c.args.order.now.items c.requires.order c.loop-bx.bx-index _ here, length-map c.args.owner.now.boxes.items box_of, c.args.owner.now.boxes.ok.0)

pub end-requires : goal.end-requires
end-requires c =
    let m = module_of c.args.owner.now in
    let bx = slice_index_or c.deref-bx-items.result.now c.loop-bx.bx-index 0 in
    let here = bx_at c.args.order.now.items _ c.deref-bx-items.ensures.value c.loop-bx.bx-index c.loop-bx-test.true in
    let lt : bx < length c.args.owner.now.boxes.items = omega (arith, box_in_order m c.args.order.now.items c.requires.order c.loop-bx.bx-index _ here, length-map c.args.owner.now.boxes.items box_of) in
    place_n m c.requires.sound c.args.slots.now c.requires.slots bx (box_of c.index-row.result.now) (read_box c.args.owner.now c.args.owner.now.boxes.items refl bx c.index-row.result.now lt c.index-row.ensures)

pub end-requires-in-loop-bx : goal.end-requires-in-loop-bx
end-requires-in-loop-bx c =
    let m = module_of c.args.owner.now in
    let bx = slice_index_or c.deref-bx-items.result.now c.loop-bx.bx-index 0 in
    let here = bx_at c.args.order.now.items _ c.deref-bx-items.ensures.value c.loop-bx.bx-index c.loop-bx-test.true in
    let lt : bx < length c.args.owner.now.boxes.items = omega (arith, box_in_order m c.args.order.now.items c.requires.order c.loop-bx.bx-index _ here, length-map c.args.owner.now.boxes.items box_of) in
    place_w m c.requires.sound c.args.slots.now c.requires.slots bx (box_of c.index-row.result.now) (read_box c.args.owner.now c.args.owner.now.boxes.items refl bx c.index-row.result.now lt c.index-row.ensures)

pub at-requires : goal.at-requires
at-requires c =
    let here = bx_at c.args.order.now.items _ c.deref-bx-items.ensures.value c.loop-bx.bx-index c.loop-bx-test.true in
    omega (arith, box_in_order (module_of c.args.owner.now) c.args.order.now.items c.requires.order c.loop-bx.bx-index _ here, c.requires.slots.south)

pub at-requires-in-loop-bx : goal.at-requires-in-loop-bx
at-requires-in-loop-bx c =
    let here = bx_at c.args.order.now.items _ c.deref-bx-items.ensures.value c.loop-bx.bx-index c.loop-bx-test.true in
    omega (arith, box_in_order (module_of c.args.owner.now) c.args.order.now.items c.requires.order c.loop-bx.bx-index _ here, c.requires.slots.east)

pub loop-bx-preserved : goal.loop-bx-preserved
loop-bx-preserved c =
    let m = module_of c.args.owner.now in
    let slots = c.args.slots.now in
    let bx = slice_index_or c.deref-bx-items.result.now c.loop-bx.bx-index 0 in
    let row = box_of c.index-row.result.now in
    let here = bx_at c.args.order.now.items _ c.deref-bx-items.ensures.value c.loop-bx.bx-index c.loop-bx-test.true in
    let lt : bx < length c.args.owner.now.boxes.items = omega (arith, box_in_order m c.args.order.now.items c.requires.order c.loop-bx.bx-index _ here, length-map c.args.owner.now.boxes.items box_of) in
    let there : slice_get m.boxes bx ≡ Some row = read_box c.args.owner.now c.args.owner.now.boxes.items refl bx c.index-row.result.now lt c.index-row.ensures in
    steps_next m c.args.order.now.items c.loop-bx.bx-index bx row c.loop-bx.steps.items _ _ here there
    (step_is m bx row _ _ _ _
    (c.end.ensures ∙ end_is m c.requires.sound slots c.requires.slots row.n) (c.end-in-loop-bx.ensures ∙ end_is m c.requires.sound slots c.requires.slots row.w)
    (c.at.ensures ∙ c.requires.slots.each (South bx)) (c.at-in-loop-bx.ensures ∙ c.requires.slots.each (East bx)))
    c.in_ok-push.ensures.items c.loop-bx.invariant
