-- The pieces of the block, one behind the other.
use Rattle.std.specs.Prelude.{◌++◌}
use Rattle.code_templates.specs.Templates.{return_outcome}
use Rattle.lower_emit.specs.Blocks.{block_code}
use Rattle.lower_emit.specs.Plans.{block_of}
use Rattle.lower_emit.proofs.Emitted.{boxes_fit, emitted, emitted_length, says_stand}
use Rattle.lower_emit.proofs.Runs.{block_runs}
use Rattle.lower_emit.proofs.block.emit_with.Goals as goal

pub all_boxes-requires-clause-place : goal.all_boxes-requires-clause-place
all_boxes-requires-clause-place c =
    let own = c.owner_of-owner.ensures in
    boxes_fit c.args.program.now c.args.plan.now c.requires.plan c.owner_of-owner.result own.owner own.number own.wires c.new-code.result c.entries.new.code c.new-code.ensures c.in_ok-entries.ensures
    own.owner.good own.owner.light

pub returns-clause-code : goal.returns-clause-code
returns-clause-code c =
    let own = c.owner_of-owner.ensures in
    says_stand c.return_outcome.new.self (block_code (block_of c.args.program.now c.args.plan.now) 0 ++ return_outcome)
    (emitted c.args.program.now c.args.plan.now c.requires.plan c.owner_of-owner.result own.owner own.number own.wires c.new-code.result c.entries.new.code c.new-code.ensures c.in_ok-entries.ensures
    c.all_boxes.new.code c.end.new.code c.return_outcome.new.self c.in_ok-all_boxes.ensures c.in_ok-end.ensures c.in_ok-return_outcome.ensures)

pub returns-clause-length : goal.returns-clause-length
returns-clause-length c =
    let own = c.owner_of-owner.ensures in
    emitted_length c.return_outcome.new.self (block_of c.args.program.now c.args.plan.now)
    (emitted c.args.program.now c.args.plan.now c.requires.plan c.owner_of-owner.result own.owner own.number own.wires c.new-code.result c.entries.new.code c.new-code.ensures c.in_ok-entries.ensures
    c.all_boxes.new.code c.end.new.code c.return_outcome.new.self c.in_ok-all_boxes.ensures c.in_ok-end.ensures c.in_ok-return_outcome.ensures)

pub returns-clause-runs : goal.returns-clause-runs
returns-clause-runs c =
    let own = c.owner_of-owner.ensures in
    block_runs c.args.program.now own.owner.good c.args.plan.now c.requires.plan c.return_outcome.new.self.words.items
    (says_stand c.return_outcome.new.self (block_code (block_of c.args.program.now c.args.plan.now) 0 ++ return_outcome)
    (emitted c.args.program.now c.args.plan.now c.requires.plan c.owner_of-owner.result own.owner own.number own.wires c.new-code.result c.entries.new.code c.new-code.ensures c.in_ok-entries.ensures
    c.all_boxes.new.code c.end.new.code c.return_outcome.new.self c.in_ok-all_boxes.ensures c.in_ok-end.ensures c.in_ok-return_outcome.ensures))
