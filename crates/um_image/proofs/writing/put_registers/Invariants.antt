use Rattle.std.proofs.Common.{◌≡◌, ◌++◌, take}
use Rattle.um_word.specs.Scroll.{scroll}
use Rattle.um_image.proofs.writing.put_registers.Given as goal

abbrev pub invariant-loop-k : goal.invariant-loop-k
invariant-loop-k l = l.bytes.items ≡ l.initial.bytes.items ++ scroll (take l.k l.machine.registers)
