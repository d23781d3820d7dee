use Rattle.wire_trace.proofs.starts.is_north_entry.Goals as goal

pub returns-then-place-sheet : goal.returns-then-place-sheet
returns-then-place-sheet c = (
  (λ is. (c.requires.north c.args.place).1 (c.if-place-sheet.true, c.is_number.ensures.0 is)),
  (λ entry. c.is_number.ensures.1 ((c.requires.north c.args.place).0 entry).1),
)
