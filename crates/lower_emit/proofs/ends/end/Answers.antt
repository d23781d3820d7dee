-- The parts of the end of a block, one after the other.
use Rattle.std.specs.Prelude.{◌++◌}
use Rattle.std.proofs.Common.{refl}
use Rattle.std.proofs.lemmas.Result.{on_ok_weaker}
use Rattle.code_templates.specs.Templates.{set_slot, choose_slot}
use Rattle.lower_emit.specs.Layouts.{temporary}
use Rattle.lower_emit.specs.inner.Codes.{AddsOps, layout_in}
use Rattle.lower_emit.specs.Blocks.{read_exits, no_result_code, two_results_code, marks_code, end_value_code}
use Rattle.lower_emit.proofs.Adding.{adds_then, adds_as, same_choose, same_set}
use Rattle.lower_emit.proofs.ends.end.Goals as goal

pub returns : goal.returns
returns c =
    let y = layout_in c.args.places.now in
    let c0 = c.args.code.now in
    let c1 = c.set_slot.new.self in
    let c2 = c.set_slot-2.new.self in
    let c3 = c.exits.new.code in
    let c4 = c.no_result.new.code in
    let c5 = c.two_results.new.code in
    let c6 = c.marks.new.code in
    let c7 = c.choose_slot.new.self in
    let last = c.temporary-last in
    let x3 = read_exits y c.args.wires.now.items in
    let x4 = no_result_code y c.args.none in
    let x5 = two_results_code y c.args.two in
    let x6 = marks_code y c.args.places.now.boxes in
    let x7 = end_value_code y in
    on_ok_weaker c.choose_slot.result (λ (h : AddsOps c6 c7 (choose_slot 6 7 last.result 5)).
    adds_then c0 c1 c7 (set_slot 0 (temporary y 0)) (set_slot 0 (temporary y 1) ++ (x3 ++ (x4 ++ (x5 ++ (x6 ++ x7)))))
    (adds_as c0 c1 (set_slot 0 last.result) (set_slot 0 (temporary y 0)) (same_set 0 last.result (temporary y 0) last.ensures.slot) c.in_ok-set_slot.ensures)
    (adds_then c1 c2 c7 (set_slot 0 (temporary y 1)) (x3 ++ (x4 ++ (x5 ++ (x6 ++ x7))))
    (adds_as c1 c2 (set_slot 0 c.temporary-before.result) (set_slot 0 (temporary y 1)) (same_set 0 c.temporary-before.result (temporary y 1) c.temporary-before.ensures.slot) c.in_ok-set_slot-2.ensures)
    (adds_then c2 c3 c7 x3 (x4 ++ (x5 ++ (x6 ++ x7))) c.in_ok-exits.ensures
    (adds_then c3 c4 c7 x4 (x5 ++ (x6 ++ x7)) c.in_ok-no_result.ensures
    (adds_then c4 c5 c7 x5 (x6 ++ x7) c.in_ok-two_results.ensures
    (adds_then c5 c6 c7 x6 x7 c.in_ok-marks.ensures
    (adds_as c6 c7 (choose_slot 6 7 last.result 5) x7 (same_choose 6 7 last.result 5 6 7 (temporary y 0) 5 refl refl last.ensures.slot refl) h))))))) c.choose_slot.ensures
