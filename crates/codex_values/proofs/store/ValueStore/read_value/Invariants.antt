-- The reader stands where the machine does after the bytes that were read.
use Rattle.std.specs.Prelude.{◌≡◌, Some, take}
use Rattle.codex_values.specs.Store.{Keeps}
use Rattle.codex_values.specs.inner.ReaderStates.{mode_of, frames_of, IsStateIn, AreLevelsIn}
use Rattle.codex_values.proofs.Bytes.{after}
use Rattle.codex_values.proofs.store.ValueStore.read_value.Given as goal

abbrev pub invariant-loop-at : goal.invariant-loop-at
invariant-loop-at l = record {
  stands : after (take l.at l.text) ≡ Some (mode_of l.self l.state, frames_of l.self l.levels.items);
  state : IsStateIn l.self l.state;
  levels : AreLevelsIn l.self l.levels.items;
  keeps : Keeps l.initial.self l.self;
}
