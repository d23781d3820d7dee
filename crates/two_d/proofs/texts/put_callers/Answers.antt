-- One caller's line more.
use Rattle.std.proofs.Common.{arith, rules}
use Rattle.codex_values.proofs.PieceLemmas.{failed-writes}
use Rattle.two_d.specs.Texts.{caller_line, HasBox}
use Rattle.two_d.proofs.Written.{writing_more, writing_part, All-rest}
use Rattle.two_d.proofs.texts.put_callers.Goals as goal

pub loop-caller-preserved : goal.loop-caller-preserved
loop-caller-preserved g c = record {
  writing = writing_more (caller_line c.args.program.now) _ _ _ _ c.in-Some.ensures.items _ _ _ c.loop-caller.invariant.writing c.in_ok-put_caller.ensures.written;
  later = omega (arith, c.in_ok-put_caller.ensures.cause, c.loop-caller.invariant.later);
  boxes = All-rest (HasBox c.args.program.now) _ _ _ c.in-Some.ensures.items c.loop-caller.invariant.boxes;
}

pub returns-in_err-put_caller-clause-written : goal.returns-in_err-put_caller-clause-written
returns-in_err-put_caller-clause-written g c =
    failed-writes _ _ _ _ (search rules)
    (writing_part (caller_line c.args.program.now) _ _ _ _ c.in-Some.ensures.items _ _ _ c.loop-caller.invariant.writing c.in_err-put_caller.ensures.written)
