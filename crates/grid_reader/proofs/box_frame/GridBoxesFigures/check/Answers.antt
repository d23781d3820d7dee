use Rattle.two_d.specs.Reading.{gave}
use Rattle.grid_reader.proofs.box_frame.GridBoxesFigures.check.Goals as goal

pub returns : goal.returns
returns c = gave
