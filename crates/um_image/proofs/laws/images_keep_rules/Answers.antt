use Rattle.um_image.proofs.Both as lemmas
use Rattle.um_image.proofs.laws.images_keep_rules.Goals as goal

pub returns : goal.returns
returns c = lemmas.images_keep_rules
