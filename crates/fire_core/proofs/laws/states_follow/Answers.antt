use Rattle.two_d.specs.Meaning.{mean}
use Rattle.two_d.specs.Steps.{start}
use Rattle.two_d.proofs.Picks.{events_by-picked}
use Rattle.two_d.proofs.Runs.{sound-start}
use Rattle.fire_core.proofs.StateLemmas.{state-start, state-step}
use Rattle.fire_core.proofs.laws.states_follow.Goals as goal

pub returns : goal.returns
returns c = record {
  first = state-start;
  next = state-step;
  picked = λ P picks k. (events_by-picked P picks k 0 0 (start P) (sound-start P (mean P 0))).ready;
}
