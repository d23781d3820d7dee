use Rattle.std.specs.Prelude.{Ok}
use Rattle.um_machine.specs.declared.stop.Stop.TheVariants.{Budget, Halted}
use Rattle.um_debug.specs.declared.course.Came.TheVariants as came
use Rattle.um_debug.proofs.Going.{as_course, budget_course, halt_course, other_course}
use Rattle.um_debug.proofs.course.step.Goals as goal

pub returns-in-Budget-clause-course : goal.returns-in-Budget-clause-course
returns-in-Budget-clause-course g c =
    as_course c.args.cycles c.requires.some (Unit {0}) (Unit {0}) _ _ Budget (Ok came.Stopped)
    (λ k s t e. budget_course k (Unit {0}) (Unit {0}) c.args.machine.now c.run.new.self s t e) c.in-Budget.ensures.run

pub returns-in-Halted-clause-course : goal.returns-in-Halted-clause-course
returns-in-Halted-clause-course g c =
    as_course c.args.cycles c.requires.some (Unit {0}) (Unit {0}) _ _ Halted (Ok came.Halted)
    (λ k s t e. halt_course k (Unit {0}) (Unit {0}) c.args.machine.now c.run.new.self s t e) c.in-Halted.ensures.run

pub returns-in_default-clause-course : goal.returns-in_default-clause-course
returns-in_default-clause-course g c =
    rw c.came_of.ensures (as_course c.args.cycles c.requires.some _ _ _ _ c.run.result _
    (λ k s t e. other_course k _ _ c.args.machine.now c.run.new.self s t c.run.result c.in_default.not-Budget c.in_default.not-Halted
    c.run.ensures.input.rose c.run.ensures.out.rose e) c.run.ensures.run)
