use Rattle.std.proofs.Common.{inl, inr, subst}
use Rattle.two_d.specs.Wires.{EndsAt}
use Rattle.wire_trace.specs.declared.position.Direction.{Direction}
use Rattle.wire_trace.specs.inner.Positions.{direction_of}
use Rattle.wire_trace.specs.inner.Sheets.{drawing_in}
use Rattle.wire_trace.proofs.EndLemmas.{no_end_west, no_end_north}
use Rattle.wire_trace.proofs.ends.end_at.Goals as goal

pub returns-in-West : goal.returns-in-West
returns-in-West c end ends = elim c.in-West.is [
  | inl is ↦ no_end_west (drawing_in c.args.sheet.now) c.args.position.place end (subst (λ (d : Direction). EndsAt (drawing_in c.args.sheet.now) (record { place = c.args.position.place; to = direction_of d }) end) is ends)
  | inr is ↦ no_end_north (drawing_in c.args.sheet.now) c.args.position.place end (subst (λ (d : Direction). EndsAt (drawing_in c.args.sheet.now) (record { place = c.args.position.place; to = direction_of d }) end) is ends)
]
