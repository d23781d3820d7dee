-- Two guards, one after the other.
use Rattle.lower_emit.proofs.Composed.{adds_guards}
use Rattle.lower_emit.proofs.steps.guards.Goals as goal

pub returns-in_ok-branch_on_slot-in-Some-Some : goal.returns-in_ok-branch_on_slot-in-Some-Some
returns-in_ok-branch_on_slot-in-Some-Some c =
    adds_guards c.branch_on_slot-in-Some-Some-2.result c.args.code.now c.branch_on_slot-in-Some-Some.new.self c.branch_on_slot-in-Some-Some-2.new.self c.args.step.now.n c.args.step.now.w
    c.in-Some-Some.field-0-0 c.in-Some-Some.field-0-1 c.north-north.result c.west-west.result c.args.place c.args.end c.in-Some-Some.is-0 c.in-Some-Some.is-1
    c.north-north.ensures.slot c.west-west.ensures.slot c.in_ok-branch_on_slot-in-Some-Some.ensures c.branch_on_slot-in-Some-Some-2.ensures
