use Rattle.std.proofs.Common.{sym, ap, ◌∙◌}
use Rattle.std.proofs.lemmas.Bool.{false≢true}
use Rattle.wire_trace.specs.inner.Positions.{direction_of}
use Rattle.wire_trace.specs.inner.Sheets.{drawing_in}
use Rattle.wire_trace.proofs.StartLemmas.{start_north, start_west, start_south, start_east, no_start}
use Rattle.wire_trace.proofs.starts.start_at.Goals as goal

pub returns-then-is_north_entry : goal.returns-then-is_north_entry
returns-then-is_north_entry c = start_north (drawing_in c.args.sheet.now) c.args.place c.leaving.result c.leaving.ensures.place (ap direction_of c.leaving.ensures.to) c.leaving.ensures.from (c.is_north_entry.ensures.0 c.if-is_north_entry.true)

pub returns-then-is_west_entry : goal.returns-then-is_west_entry
returns-then-is_west_entry c = start_west (drawing_in c.args.sheet.now) c.args.place c.leaving-then-is_west_entry.result c.leaving-then-is_west_entry.ensures.place (ap direction_of c.leaving-then-is_west_entry.ensures.to) c.leaving-then-is_west_entry.ensures.from (c.is_west_entry.ensures.0 c.if-is_west_entry.true)

pub returns-in-Some : goal.returns-in-Some
returns-in-Some c = start_south (drawing_in c.args.sheet.now) c.args.place c.leaving-in-Some.result c.in-Some.number c.leaving-in-Some.ensures.place (ap direction_of c.leaving-in-Some.ensures.to) c.leaving-in-Some.ensures.from c.in-Some.ensures

pub returns-in-Some-east_port : goal.returns-in-Some-east_port
returns-in-Some-east_port c = start_east (drawing_in c.args.sheet.now) c.args.place c.leaving-in-Some-east_port.result c.in-Some-east_port.number c.leaving-in-Some-east_port.ensures.place (ap direction_of c.leaving-in-Some-east_port.ensures.to) c.leaving-in-Some-east_port.ensures.from c.in-Some-east_port.ensures

pub returns : goal.returns
returns c = no_start (drawing_in c.args.sheet.now) c.args.place
    (λ entry. false≢true (sym c.if-is_north_entry.false ∙ c.is_north_entry.ensures.1 entry))
    (λ entry. false≢true (sym c.if-is_west_entry.false ∙ c.is_west_entry.ensures.1 entry))
    c.in_default.ensures c.in_default-east_port.ensures
