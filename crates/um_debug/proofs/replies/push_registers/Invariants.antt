use Rattle.std.proofs.Common.{◌≡◌, ◌≤◌, ◌++◌, map, take}
use Rattle.um_debug.specs.Replies.{spaced, hex_digits}
use Rattle.um_debug.proofs.replies.push_registers.Given as goal

abbrev pub invariant-loop-k : goal.invariant-loop-k
invariant-loop-k l = record {
  text : l.reply.items ≡ l.fn.reply.items ++ spaced (map hex_digits (take l.k l.machine.registers));
  some : 1 ≤ l.k;
}
