use Rattle.wire_trace.specs.inner.Sheets.{drawing_in}
use Rattle.wire_trace.proofs.PortLemmas.{east_in_area}
use Rattle.wire_trace.proofs.ports.east_port.Goals as goal

pub owner-requires-clause-place : goal.owner-requires-clause-place
owner-requires-clause-place c = east_in_area (drawing_in c.args.sheet.now) c.args.owners.now.area c.args.place c.requires.sheet.laid c.requires.owners.area (c.may_begin_east.ensures.0 c.if-not-may_begin_east.false)
