use Rattle.fire_core.proofs.OutcomeLemmas.{joined-one, joined-more}
use Rattle.fire_core.proofs.outcomes.joined.Goals as goal

pub returns-in-One-clause-carried : goal.returns-in-One-clause-carried
returns-in-One-clause-carried c = λ values carried h. joined-one values carried c.args.found c.in-One.field-0 c.in-Some.place c.args.at c.in-One.is c.in-Some.is h

pub returns-in-More-clause-carried : goal.returns-in-More-clause-carried
returns-in-More-clause-carried c = λ values carried h. joined-more values carried _ c.args.found c.in-More.is h
