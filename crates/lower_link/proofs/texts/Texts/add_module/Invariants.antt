-- The boxes so far have their texts.
use Rattle.std.specs.Prelude.{take}
use Rattle.two_d.specs.Programs.{module_at}
use Rattle.lower_link.specs.inner.Drafts.{AddsTexts}
use Rattle.lower_link.specs.inner.Lines.{box_lines}
use Rattle.lower_link.proofs.texts.Texts.add_module.Given as goal

abbrev pub invariant-loop-bx : goal.invariant-loop-bx
invariant-loop-bx l = AddsTexts l.fn.self l.self (box_lines l.program l.number 0 (take l.bx (module_at l.program l.number).boxes))
