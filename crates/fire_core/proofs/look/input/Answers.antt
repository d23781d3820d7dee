use Rattle.fire_core.proofs.LookLemmas.{input_at-wired}
use Rattle.fire_core.proofs.look.input.Goals as goal

pub returns-in-None-look-clause-value : goal.returns-in-None-look-clause-value
returns-in-None-look-clause-value c = λ values trails. input_at-wired _ c.args.wired c.in-Some.origin _ c.in-Some.is (c.in-None-look.ensures.value values trails)

pub returns-in-Some-look-clause-value : goal.returns-in-Some-look-clause-value
returns-in-Some-look-clause-value c = λ values trails. input_at-wired _ c.args.wired c.in-Some.origin _ c.in-Some.is (c.in-Some-look.ensures.value values trails)
