use Rattle.std.specs.Prelude.{length}
use Rattle.std.proofs.Common.{arith, sym, ◌∙◌, ap}
use Rattle.std.proofs.lemmas.List.{length-map, map-append}
use Rattle.fire_core.specs.Events.{event_of, events_shown}
use Rattle.fire_core.specs.inner.Rows.{row_of}
use Rattle.fire_core.proofs.ReadyLemmas.{ready-firing, ready-waiting, ready-ending}
use Rattle.fire_core.proofs.RowReady.{live-row, size-row, added-row}
use Rattle.fire_core.proofs.ready.add_ready.Goals as goal

pub returns-then-len-before : goal.returns-then-len-before
returns-then-len-before c = record {
  added = λ P T values trails here boxes inner.
      ready-firing P T c.args.number (events_shown c.args.events.now.items) (events_shown c.add_fires.new.events.items) (length c.args.boxes.now)
      (size-row P T c.args.number values trails (row_of c.args.row.now) here c.args.boxes.now boxes)
      (live-row P T c.args.number values trails (row_of c.args.row.now) here c.is_some.result c.is_some.ensures c.if-is_some.false)
      (added-row P T c.args.number values trails (row_of c.args.row.now) here (events_shown c.args.events.now.items) (events_shown c.add_fires.new.events.items) (length c.args.boxes.now) (c.in_ok-add_fires.ensures.added P values trails boxes))
      (λ same. c.if-len-before.true (omega (arith, same, length-map c.args.events.now.items event_of, length-map c.add_fires.new.events.items event_of)));
}

pub returns-then-row-ne0 : goal.returns-then-row-ne0
returns-then-row-ne0 c = record {
  added = λ P T values trails here boxes inner.
      ready-waiting P T c.args.number (events_shown c.args.events.now.items) (events_shown c.add_fires.new.events.items) (length c.args.boxes.now)
      (size-row P T c.args.number values trails (row_of c.args.row.now) here c.args.boxes.now boxes)
      (live-row P T c.args.number values trails (row_of c.args.row.now) here c.is_some.result c.is_some.ensures c.if-is_some.false)
      (added-row P T c.args.number values trails (row_of c.args.row.now) here (events_shown c.args.events.now.items) (events_shown c.add_fires.new.events.items) (length c.args.boxes.now) (c.in_ok-add_fires.ensures.added P values trails boxes))
      (omega (arith, length-map c.args.events.now.items event_of, length-map c.add_fires.new.events.items event_of))
      (λ none. c.if-row-ne0.true (inner ∙ none));
}

pub returns : goal.returns
returns c = record {
  added = λ P T values trails here boxes inner.
      ap events_shown c.in_ok-push.ensures.items
      ∙ (map-append event_of c.add_fires.new.events.items _
      ∙ ready-ending P T c.args.number (events_shown c.args.events.now.items) (events_shown c.add_fires.new.events.items) (length c.args.boxes.now)
      (size-row P T c.args.number values trails (row_of c.args.row.now) here c.args.boxes.now boxes)
      (live-row P T c.args.number values trails (row_of c.args.row.now) here c.is_some.result c.is_some.ensures c.if-is_some.false)
      (added-row P T c.args.number values trails (row_of c.args.row.now) here (events_shown c.args.events.now.items) (events_shown c.add_fires.new.events.items) (length c.args.boxes.now) (c.in_ok-add_fires.ensures.added P values trails boxes))
      (omega (arith, length-map c.args.events.now.items event_of, length-map c.add_fires.new.events.items event_of))
      (sym inner ∙ c.if-row-ne0.false));
}
