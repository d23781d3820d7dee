-- The boxes so far are added.
use Rattle.std.specs.Prelude.{length, map, take}
use Rattle.lower_emit.specs.Boxes.{boxes_code}
use Rattle.lower_emit.specs.Plans.{box_in}
use Rattle.lower_emit.specs.inner.Codes.{AddsOps, layout_in}
use Rattle.lower_emit.proofs.steps.all_boxes.Given as goal

abbrev pub invariant-loop-step : goal.invariant-loop-step
invariant-loop-step l =
    AddsOps l.fn.code l.code (boxes_code (layout_in l.owner.places) (map (box_in l.program l.owner.number) (take l.step-index l.steps.items)) (length l.fn.code.words.items))
