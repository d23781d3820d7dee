use Rattle.two_d.proofs.OneMeaning as one
use Rattle.two_d.proofs.laws.one_meaning.Goals as goal

pub returns : goal.returns
returns c = record { meaning = one.one_meaning; text = one.one_text }
