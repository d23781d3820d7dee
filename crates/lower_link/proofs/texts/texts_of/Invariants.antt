-- The modules so far have their texts.
use Rattle.lower_link.specs.inner.Drafts.{AddsTexts}
use Rattle.lower_link.specs.inner.Lines.{lines_below}
use Rattle.lower_link.proofs.texts.texts_of.Given as goal

abbrev pub invariant-loop-number : goal.invariant-loop-number
invariant-loop-number l = AddsTexts l.initial.texts l.texts (lines_below l.program l.number)
