use Rattle.std.proofs.Common.{arith}
use Rattle.fire_eval.specs.Evaluation.{choice_of}
use Rattle.fire_eval.proofs.PickLemmas.{none_picked}
use Rattle.fire_eval.proofs.picks.place.Goals as goal

pub returns-then-count-eq0-clause-picked : goal.returns-then-count-eq0-clause-picked
returns-then-count-eq0-clause-picked c = λ events size. none_picked (choice_of c.args.picks.now) c.args.made events (omega (arith, size))
