use Rattle.wire_trace.specs.inner.Sheets.{drawing_in}
use Rattle.wire_trace.proofs.Exits.{exit_leaves, leaves_exit}
use Rattle.wire_trace.proofs.sheet.Sheet.is_exit.Goals as goal

pub returns : goal.returns
returns c = (
  (λ passes. exit_leaves (drawing_in c.args.self.now) c.args.place (c.leaves.ensures.0 passes)),
  (λ exit. c.leaves.ensures.1 (leaves_exit (drawing_in c.args.self.now) c.args.place exit)),
)
