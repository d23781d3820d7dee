use Rattle.type_sheet.proofs.Wiring.{wired_leads}
use Rattle.type_sheet.proofs.laws.wires_lead_somewhere.Goals as goal

pub returns : goal.returns
returns c = wired_leads
