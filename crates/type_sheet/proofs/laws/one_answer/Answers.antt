use Rattle.type_sheet.proofs.Answered.{fits_one, fits_some}
use Rattle.type_sheet.proofs.OneLine.{sheet_one}
use Rattle.type_sheet.proofs.SomeSheet.{sheet_some}
use Rattle.type_sheet.proofs.laws.one_answer.Goals as goal

pub returns : goal.returns
returns c = record { sheet = sheet_one; some_sheet = sheet_some; fit = fits_one; some_fit = fits_some }
