use Rattle.box_parse.proofs.Commands.{some_command, one_command_of_box}
use Rattle.box_parse.proofs.laws.each_box_has_one_command.Goals as goal

pub returns : goal.returns
returns c = record { some = some_command; one = one_command_of_box }
