-- The modules so far have their numbers.
use Rattle.std.specs.Prelude.{◌≡◌, ℕ, ◌<◌, length, slice_get, Some}
use Rattle.lower_emit.specs.KnownOutcomes.{first_text}
use Rattle.lower_link.proofs.table.first_texts.Given as goal

abbrev pub invariant-loop-owner : goal.invariant-loop-owner
invariant-loop-owner l = record {
  one_each : length l.numbers.items ≡ l.owner-index;
  are : (m : ℕ) → m < l.owner-index → slice_get l.numbers.items m ≡ Some (first_text l.program m);
  next : l.next ≡ first_text l.program l.owner-index;
}
