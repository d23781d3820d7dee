use Rattle.std.proofs.Common.{◌≡◌, ◌++◌, take}
use Rattle.um_word.specs.State.{array_at}
use Rattle.um_word.specs.Scroll.{scroll}
use Rattle.um_image.proofs.writing.put_array.Given as goal

abbrev pub invariant-loop-at : goal.invariant-loop-at
invariant-loop-at l = l.bytes.items ≡ l.initial.bytes.items ++ scroll (take l.at (array_at l.machine.arrays l.id))
