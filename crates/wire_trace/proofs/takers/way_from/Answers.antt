use Rattle.wire_trace.specs.inner.Positions.{position_of}
use Rattle.wire_trace.specs.inner.Sheets.{drawing_in}
use Rattle.std.proofs.lemmas.Bool.{false≢true}
use Rattle.std.proofs.Common.{sym, ◌∙◌}
use Rattle.wire_trace.proofs.WayLemmas.{leaves_straight, leaves_turn}
use Rattle.wire_trace.proofs.takers.way_from.Goals as goal

pub returns-then-not-is_turn : goal.returns-then-not-is_turn
returns-then-not-is_turn c = leaves_straight (drawing_in c.args.sheet.now) (position_of c.args.here) c.requires.no_end (λ turn. false≢true (sym c.if-not-is_turn.true ∙ c.is_turn.ensures.1 turn))

pub returns-in-Horizontal : goal.returns-in-Horizontal
returns-in-Horizontal c = leaves_turn (drawing_in c.args.sheet.now) (position_of c.args.here) c.one_of.result (c.is_turn.ensures.0 c.if-not-is_turn.false) c.one_of.ensures

pub returns-in-Vertical : goal.returns-in-Vertical
returns-in-Vertical c = leaves_turn (drawing_in c.args.sheet.now) (position_of c.args.here) c.one_of-in-Vertical.result (c.is_turn.ensures.0 c.if-not-is_turn.false) c.one_of-in-Vertical.ensures
