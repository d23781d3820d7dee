use Rattle.two_d.specs.Programs.{module_of}
use Rattle.two_d.specs.Trails.{trails_of}
use Rattle.two_d.specs.Texts.{outcome_in}
use Rattle.fire_core.specs.inner.Rows.{row_of, instance_in}
use Rattle.fire_core.proofs.ActLemmas.{IfOk-same}
use Rattle.fire_core.proofs.OutcomeLemmas.{end_of-stuck, end_of-carried}
use Rattle.fire_core.proofs.outcomes.outcome_of.Goals as goal

pub returns-in-Some-clause-outcome : goal.returns-in-Some-clause-outcome
returns-in-Some-clause-outcome c = λ P values is size.
    end_of-stuck P (instance_in values (trails_of c.args.trails.now) (row_of c.args.row.now)) _ size _ (c.in-Some.ensures.trail values (trails_of c.args.trails.now))

pub returns-in-Some-clause-fits : goal.returns-in-Some-clause-fits
returns-in-Some-clause-fits c = λ n fits. c.in-Some.ensures.place n _ fits

pub returns-in-One-clause-outcome : goal.returns-in-One-clause-outcome
returns-in-One-clause-outcome c = λ P values is size.
    end_of-carried P (instance_in values (trails_of c.args.trails.now) (row_of c.args.row.now)) _ size (module_of c.args.«module».now) _ _ is c.deref.ensures.value
    (c.in-None.ensures.trail values (trails_of c.args.trails.now)) (c.in-One.ensures.carried values (trails_of c.args.trails.now))

pub returns-in-One-clause-fits : goal.returns-in-One-clause-fits
returns-in-One-clause-fits c = λ n fits. c.in-One.ensures.fits n _ fits

pub returns-in-Nothing-clause-outcome : goal.returns-in-Nothing-clause-outcome
returns-in-Nothing-clause-outcome c = λ P values is size.
    IfOk-same (outcome_in values (trails_of c.ended_at.new.trails)) _ _ _ (c.ended_at.ensures.outcome values)
    (end_of-carried P (instance_in values (trails_of c.args.trails.now) (row_of c.args.row.now)) _ size (module_of c.args.«module».now) _ _ is c.deref.ensures.value
    (c.in-None.ensures.trail values (trails_of c.args.trails.now)) (c.in-Nothing.ensures.carried values (trails_of c.args.trails.now)))

pub returns-in-More-clause-outcome : goal.returns-in-More-clause-outcome
returns-in-More-clause-outcome c = λ P values is size.
    let many = c.in-More.ensures.carried values (trails_of c.args.trails.now) in
    IfOk-same (outcome_in values (trails_of c.ended_at-in-More.new.trails)) _ _ _ (c.ended_at-in-More.ensures.outcome values)
    (end_of-carried P (instance_in values (trails_of c.args.trails.now) (row_of c.args.row.now)) _ size (module_of c.args.«module».now) _ _ is c.deref.ensures.value
    (c.in-None.ensures.trail values (trails_of c.args.trails.now)) many.3)
