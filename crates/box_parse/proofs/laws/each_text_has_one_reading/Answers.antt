use Rattle.two_d.proofs.SomeProgram.{one_reading}
use Rattle.box_parse.proofs.Commands.{some_command, one_command_of_box}
use Rattle.box_parse.proofs.laws.each_text_has_one_reading.Goals as goal

pub returns : goal.returns
returns c = one_reading some_command one_command_of_box
