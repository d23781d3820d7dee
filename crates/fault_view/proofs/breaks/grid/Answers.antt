use Rattle.fault_view.proofs.Cells.{refused_cells}
use Rattle.fault_view.proofs.breaks.grid.Goals as goal

pub returns-in_default : goal.returns-in_default
returns-in_default c = refused_cells c.args.text.now c.in-Err.fault c.in_default.not-Memory c.in-Err.ensures
