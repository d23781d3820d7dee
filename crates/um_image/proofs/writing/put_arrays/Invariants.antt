use Rattle.std.proofs.Common.{◌≡◌, ◌++◌}
use Rattle.um_word.specs.Scroll.{scroll}
use Rattle.um_image.specs.Image.{array_words, arrays_up_to}
use Rattle.um_image.proofs.writing.put_arrays.Given as goal

abbrev pub invariant-loop-before : goal.invariant-loop-before
invariant-loop-before l = l.bytes.items ≡ l.initial.bytes.items ++ scroll (array_words (arrays_up_to l.machine.arrays l.before))
