use Rattle.std.proofs.Common.{◌∙◌}
use Rattle.um_asm.proofs.Cuts.{operands-cut}
use Rattle.um_asm.proofs.reading.first_operand.Goals as goal

pub returns : goal.returns
returns c = operands-cut c.args.text.now ∙ cc
