use Rattle.two_d.proofs.Callers.{callers_few}
use Rattle.two_d.proofs.laws.callers_are_few.Goals as goal

pub returns : goal.returns
returns c = λ P n m a r trail e is. callers_few P n m a r trail e is
