use Rattle.wire_trace.specs.inner.Sheets.{drawing_in}
use Rattle.two_d.specs.Clean.{ports_at}
use Rattle.wire_trace.proofs.EachLemmas.{EachFrom}
use Rattle.wire_trace.proofs.sides.one_port_a_side.Given as goal

abbrev pub invariant-boxes : goal.invariant-boxes
invariant-boxes l = EachFrom (ports_at (drawing_in l.sheet)) (drawing_in l.sheet).boxes l.number
