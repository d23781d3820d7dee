-- The first of what is wrong with a box.
use Rattle.std.proofs.lemmas.Bool.{iff_false}
use Rattle.two_d.specs.Reading.{goes_on, stops, refused, passed}
use Rattle.two_d.proofs.table.check_box.Goals as goal

pub returns-then-uses_none : goal.returns-then-uses_none
returns-then-uses_none c = stops _ (refused (c.uses_none.ensures.0 c.if-uses_none.true))

pub uses_badly-requires-clause-there : goal.uses_badly-requires-clause-there
uses_badly-requires-clause-there c = iff_false c.uses_none.ensures c.if-uses_none.false

pub returns-then-uses_badly : goal.returns-then-uses_badly
returns-then-uses_badly c = goes_on tt (passed (iff_false c.uses_none.ensures c.if-uses_none.false)) (stops _ (refused (c.uses_badly.ensures.0 c.if-uses_badly.true)))

pub returns-then-is_unwired : goal.returns-then-is_unwired
returns-then-is_unwired c =
    goes_on tt (passed (iff_false c.uses_none.ensures c.if-uses_none.false))
    (goes_on tt (passed (iff_false c.uses_badly.ensures c.if-uses_badly.false)) (refused (c.is_unwired.ensures.0 c.if-is_unwired.true)))

pub returns : goal.returns
returns c =
    goes_on tt (passed (iff_false c.uses_none.ensures c.if-uses_none.false))
    (goes_on tt (passed (iff_false c.uses_badly.ensures c.if-uses_badly.false)) (passed (iff_false c.is_unwired.ensures c.if-is_unwired.false)))
