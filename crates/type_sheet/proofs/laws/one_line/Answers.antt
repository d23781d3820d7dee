use Rattle.type_sheet.proofs.OneLine.{line_one}
use Rattle.type_sheet.proofs.laws.one_line.Goals as goal

pub returns : goal.returns
returns c = line_one
