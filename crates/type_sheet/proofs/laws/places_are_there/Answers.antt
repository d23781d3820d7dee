use Rattle.type_sheet.proofs.Placed.{place_there, no_place}
use Rattle.type_sheet.proofs.laws.places_are_there.Goals as goal

pub returns : goal.returns
returns c = record { fit = place_there; sheet = no_place }
