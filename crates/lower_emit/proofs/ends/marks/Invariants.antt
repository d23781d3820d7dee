-- What is added and what is left are all marks.
use Rattle.std.specs.Prelude.{◌≡◌, ◌-◌, ◌++◌, map, Some}
use Rattle.um_word.specs.Operators.{decode_word}
use Rattle.lower_emit.specs.inner.Codes.{layout_in}
use Rattle.lower_emit.specs.Blocks.{marks_code}
use Rattle.lower_emit.proofs.ends.marks.Given as goal

abbrev pub invariant-loop-done : goal.invariant-loop-done
invariant-loop-done l =
    map decode_word l.code.words.items ++ map Some (marks_code (layout_in l.places) (l.places.boxes - l.done))
    ≡ map decode_word l.fn.code.words.items ++ map Some (marks_code (layout_in l.places) l.places.boxes)
