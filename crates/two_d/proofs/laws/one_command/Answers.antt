use Rattle.two_d.proofs.Fits as fits
use Rattle.two_d.proofs.laws.one_command.Goals as goal

pub returns : goal.returns
returns c = fits.one_command
