use Rattle.type_sheet.proofs.laws.what_fits_is_safe.Goals as goal
use Rattle.type_sheet.proofs.Safe.{safe}

pub returns : goal.returns
returns c = safe
