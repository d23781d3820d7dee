use Rattle.two_d.proofs.Pulling.{pulled-whole}
use Rattle.two_d.proofs.laws.each_box_gives_by_its_origins.Goals as goal

pub returns : goal.returns
returns c = λ P answer m a order is. pulled-whole P answer m a order is
