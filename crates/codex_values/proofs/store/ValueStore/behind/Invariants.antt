-- What is open with the words that are done is what was open, and the measure is how much is open.
use Rattle.std.specs.Prelude.{◌≡◌, ◌<◌, length, vec_len}
use Rattle.codex_values.specs.Store.{value_at, Keeps}
use Rattle.codex_values.specs.inner.ReaderStates.{got, frames_of, AreLevelsIn}
use Rattle.codex_values.proofs.store.ValueStore.behind.Given as goal

abbrev pub invariant-loop-level : goal.invariant-loop-level
invariant-loop-level l = record {
  same : got (value_at l.initial.self l.initial.at) (frames_of l.initial.self l.initial.levels.items) l.sign
      ≡ got (value_at l.self l.at) (frames_of l.self l.levels.items) l.sign;
  place : l.at < length l.self;
  levels : AreLevelsIn l.self l.levels.items;
  keeps : Keeps l.initial.self l.self;
}

abbrev pub decreases-loop-level : goal.decreases-loop-level
decreases-loop-level l = vec_len l.levels
