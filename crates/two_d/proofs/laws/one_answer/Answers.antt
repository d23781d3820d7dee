use Rattle.two_d.proofs.OneReading as readings
use Rattle.two_d.proofs.SomeGrid.{some_grid, some_list_of_frames, some_name, some_list_of_boxes}
use Rattle.two_d.proofs.laws.one_answer.Goals as goal

pub returns : goal.returns
returns c = record { grid = readings.one_grid; frames = readings.one_list_of_frames; name = readings.one_name; boxes = readings.one_list_of_boxes; some_grid = some_grid; some_frames = some_list_of_frames; some_name = some_name; some_boxes = some_list_of_boxes }
