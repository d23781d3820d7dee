-- The first instance alone is a state.
use Rattle.std.specs.Prelude.{◌≡◌, length}
use Rattle.std.proofs.Common.{sym, ap, subst, ◌∙◌}
use Rattle.two_d.specs.Steps.{Table, IsStateOf, start}
use Rattle.fire_core.proofs.StateLemmas.{state-start}
use Rattle.fire_core.proofs.evaluation.Core.start.Goals as goal

pub returns-clause-core : goal.returns-clause-core
returns-clause-core c = record {
  state = subst (IsStateOf c.args.program.now) (sym c.in_ok-instances.ensures.table) (state-start c.args.program.now);
  kept = c.in_ok-kept.ensures;
}
