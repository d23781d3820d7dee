-- The modules so far have their blocks.
use Rattle.std.specs.Prelude.{◌≡◌, ℕ, ◌<◌, length}
use Rattle.lower_link.specs.inner.Linking.{words_of_block}
use Rattle.lower_link.specs.inner.Scrolls.{IsBlockOf}
use Rattle.lower_link.proofs.compiler.compile.Given as goal

abbrev pub invariant-loop-plan : goal.invariant-loop-plan
invariant-loop-plan l = record {
  one_each : length l.blocks.items ≡ l.plan-index;
  are : (m : ℕ) → m < l.plan-index → IsBlockOf l.program l.plan-items m (words_of_block l.blocks.items m);
}
