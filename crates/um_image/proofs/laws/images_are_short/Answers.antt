use Rattle.um_image.proofs.Short as lemmas
use Rattle.um_image.proofs.laws.images_are_short.Goals as goal

pub returns : goal.returns
returns c = lemmas.images_are_short
