use Rattle.text_picture.proofs.Short.{law}
use Rattle.text_picture.proofs.laws.lines_are_short.Goals as goal

pub returns : goal.returns
returns c = law
