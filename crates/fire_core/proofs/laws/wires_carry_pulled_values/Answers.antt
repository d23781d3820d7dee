use Rattle.two_d.specs.Meaning.{mean}
use Rattle.two_d.proofs.State.{wires-pulled}
use Rattle.fire_core.proofs.StateLemmas.{state_sound}
use Rattle.fire_core.proofs.laws.wires_carry_pulled_values.Goals as goal

pub returns : goal.returns
returns c = λ P T state. let (n, sound) = state_sound P T state in (n, λ i o v e. (wires-pulled P (mean P n) T sound i).at o v e)
