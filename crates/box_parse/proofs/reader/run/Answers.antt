use Rattle.std.proofs.Common.{◌+◌, ◌-◌, drop, sym, ◌∙◌, arith}
use Rattle.box_parse.proofs.Runs.{run_more, run_stop, run_past, run_full}
use Rattle.box_parse.proofs.reader.run.Goals as goal

pub loop-len-preserved : goal.loop-len-preserved
loop-len-preserved c =
    let len = c.loop-len.len in
    record {
      within = omega arith;
      most = omega arith;
      counted = omega (arith, c.loop-len.invariant.counted, run_more (32 - len) (32 - (len + 1)) len c.args.text.now (omega arith) (omega arith) (sym c.is_name_byte.ensures ∙ c.if-is_name_byte.true));
    }

pub returns-else-is_name_byte-clause-len : goal.returns-else-is_name_byte-clause-len
returns-else-is_name_byte-clause-len c = omega (arith, c.loop-len.invariant.counted, run_stop (32 - c.loop-len.len) c.loop-len.len c.args.text.now (omega arith) (sym c.is_name_byte.ensures ∙ c.if-is_name_byte.false))

pub returns-else-len-text-clause-len : goal.returns-else-len-text-clause-len
returns-else-len-text-clause-len c = omega (arith, c.loop-len.invariant.counted, run_past (32 - c.loop-len.len) c.loop-len.len c.args.text.now (omega arith))

pub returns-after-loop-len-clause-len : goal.returns-after-loop-len-clause-len
returns-after-loop-len-clause-len c = omega (arith, c.loop-len.invariant.counted, run_full (32 - c.loop-len.len) (drop c.loop-len.len c.args.text.now) (omega arith))
