-- Box by box.
use Rattle.std.specs.Prelude.{◌≡◌, ◌<◌, ◌+◌, Some, length, map, slice_get}
use Rattle.std.proofs.Common.{arith, ap, subst, sym, ◌∙◌}
use Rattle.std.proofs.lemmas.List.{length-map}
use Rattle.two_d.specs.Programs.{ModuleForm, module_of, box_of}
use Rattle.ready_marks.specs.Ways.{WaysForm, ways_form}
use Rattle.ready_marks.specs.inner.Noted.{AreWaysBelow, IsWithin, lead_to}
use Rattle.ready_marks.proofs.Noted.{IsStep, ways-step, ways-none, ways-all, box-read}
use Rattle.ready_marks.proofs.ways.ways_of.Goals as goal

pub lead-requires : goal.lead-requires
lead-requires c =
    let m = module_of c.args.«module».now in
    let there = box-read c.args.«module».now.boxes.items c.loop-bx.bx c.index-row.result.now (omega arith) c.index-row.ensures in
    let step : IsStep m (ways_form c.loop-bx.ways) c.loop-bx.bx (box_of c.index-row.result.now) =
    ways-step m c.requires (ways_form c.loop-bx.ways) c.loop-bx.bx (box_of c.index-row.result.now) there (omega (arith, length-map c.args.«module».now.boxes.items box_of)) c.loop-bx.invariant in
    step.first

pub lead-requires-in-loop-bx : goal.lead-requires-in-loop-bx
lead-requires-in-loop-bx c =
    let m = module_of c.args.«module».now in
    let there = box-read c.args.«module».now.boxes.items c.loop-bx.bx c.index-row.result.now (omega arith) c.index-row.ensures in
    let step : IsStep m (ways_form c.loop-bx.ways) c.loop-bx.bx (box_of c.index-row.result.now) =
    ways-step m c.requires (ways_form c.loop-bx.ways) c.loop-bx.bx (box_of c.index-row.result.now) there (omega (arith, length-map c.args.«module».now.boxes.items box_of)) c.loop-bx.invariant in
    subst (λ (w : WaysForm). IsWithin w c.index-row.result.now.w) (sym c.lead.ensures) step.second

pub loop-bx-preserved : goal.loop-bx-preserved
loop-bx-preserved c =
    let m = module_of c.args.«module».now in
    let there = box-read c.args.«module».now.boxes.items c.loop-bx.bx c.index-row.result.now (omega arith) c.index-row.ensures in
    let step : IsStep m (ways_form c.loop-bx.ways) c.loop-bx.bx (box_of c.index-row.result.now) =
    ways-step m c.requires (ways_form c.loop-bx.ways) c.loop-bx.bx (box_of c.index-row.result.now) there (omega (arith, length-map c.args.«module».now.boxes.items box_of)) c.loop-bx.invariant in
    let is : ways_form c.lead-in-loop-bx.new.ways ≡ lead_to (lead_to (ways_form c.loop-bx.ways) c.index-row.result.now.n c.loop-bx.bx) c.index-row.result.now.w c.loop-bx.bx =
    c.lead-in-loop-bx.ensures ∙ ap (λ (w : WaysForm). lead_to w c.index-row.result.now.w c.loop-bx.bx) c.lead.ensures in
    subst (AreWaysBelow m (c.loop-bx.bx + 1)) (sym is) step.noted

pub returns : goal.returns
returns c =
    let all : c.loop-bx.bx ≡ length (map box_of c.args.«module».now.boxes.items) = omega (arith, length-map c.args.«module».now.boxes.items box_of) in
    ways-all (module_of c.args.«module».now) (ways_form c.loop-bx.ways)
    (subst (λ n. AreWaysBelow (module_of c.args.«module».now) n (ways_form c.loop-bx.ways)) all c.loop-bx.invariant)
