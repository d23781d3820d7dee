use Rattle.std.proofs.Common.{sym, ◌∙◌}
use Rattle.std.proofs.lemmas.Bool.{false≢true}
use Rattle.wire_trace.specs.inner.Positions.{direction_of, position_of}
use Rattle.wire_trace.specs.inner.Sheets.{drawing_in}
use Rattle.wire_trace.proofs.WayLemmas.{turns_first, turns_second, stands_both, stands_none}
use Rattle.wire_trace.proofs.takers.one_of.Goals as goal

pub returns-then-may_second : goal.returns-then-may_second
returns-then-may_second c = stands_both (drawing_in c.args.sheet.now) (position_of c.args.here) (position_of c.next.result) (position_of c.next-2.result) (direction_of c.args.first) (direction_of c.args.second) c.requires.others c.next.ensures.next c.next-2.ensures.next (c.is_taker-may_first.ensures.0 c.if-may_first.true) (c.is_taker-may_second.ensures.0 c.if-may_second.true)

pub returns-else-may_second : goal.returns-else-may_second
returns-else-may_second c = turns_first (drawing_in c.args.sheet.now) (position_of c.args.here) (position_of c.next.result) (position_of c.next-2.result) (direction_of c.args.first) (direction_of c.args.second) c.requires.others c.next.ensures.next c.next-2.ensures.next (c.is_taker-may_first.ensures.0 c.if-may_first.true) (λ taker. false≢true (sym c.if-may_second.false ∙ c.is_taker-may_second.ensures.1 taker))

pub returns-then-may_second-2 : goal.returns-then-may_second-2
returns-then-may_second-2 c = turns_second (drawing_in c.args.sheet.now) (position_of c.args.here) (position_of c.next.result) (position_of c.next-2.result) (direction_of c.args.first) (direction_of c.args.second) c.requires.others c.next.ensures.next c.next-2.ensures.next (c.is_taker-may_second.ensures.0 c.if-may_second-2.true) (λ taker. false≢true (sym c.if-may_first.false ∙ c.is_taker-may_first.ensures.1 taker))

pub returns-else-may_second-2 : goal.returns-else-may_second-2
returns-else-may_second-2 c = stands_none (drawing_in c.args.sheet.now) (position_of c.args.here) (position_of c.next.result) (position_of c.next-2.result) (direction_of c.args.first) (direction_of c.args.second) c.requires.others c.next.ensures.next c.next-2.ensures.next (λ taker. false≢true (sym c.if-may_first.false ∙ c.is_taker-may_first.ensures.1 taker)) (λ taker. false≢true (sym c.if-may_second-2.false ∙ c.is_taker-may_second.ensures.1 taker))
