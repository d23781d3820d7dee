use Rattle.two_d.proofs.Depth.{mean-add}
use Rattle.two_d.proofs.laws.depth_is_enough.Goals as goal

pub returns : goal.returns
returns c = λ P n d m a r e. (mean-add P n d).at m a r e
