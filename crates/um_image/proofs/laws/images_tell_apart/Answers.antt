use Rattle.um_image.proofs.Both as lemmas
use Rattle.um_image.proofs.laws.images_tell_apart.Goals as goal

pub returns : goal.returns
returns c = lemmas.images_tell_apart
