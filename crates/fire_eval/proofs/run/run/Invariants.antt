-- So many events were made, and those that follow are all that are left.
use Rattle.fire_core.specs.Cores.{IsCoreOf}
use Rattle.fire_core.specs.Events.{events_shown}
use Rattle.fire_eval.specs.Evaluation.{choice_of}
use Rattle.fire_eval.proofs.RunLemmas.{IsRunning}
use Rattle.fire_eval.proofs.run.run.Given as goal

abbrev pub invariant-loop-made : goal.invariant-loop-made
invariant-loop-made l = record {
  running : IsRunning l.program (choice_of l.picks) l.budget l.made l.core.table (events_shown l.log.items);
  core : IsCoreOf l.program l.core;
}
