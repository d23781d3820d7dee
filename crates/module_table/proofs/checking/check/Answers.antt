-- The modules, and the program that they make.
use Rattle.std.proofs.lemmas.Result.{err_from_is_err_and}
use Rattle.two_d.specs.Faults.{number_and_place}
use Rattle.two_d.specs.Program.{program_of}
use Rattle.module_table.specs.Answers.{answer_of}
use Rattle.module_table.specs.Drawn.{drawn_of}
use Rattle.module_table.proofs.FirstRead.{drawn_gives, drawn_refused}
use Rattle.module_table.proofs.WholeReading.{light_program, leading_program}
use Rattle.module_table.proofs.Telling.{refuses_whole}
use Rattle.module_table.proofs.checking.check.Goals as goal

pub returns-in_err-modules-clause-read : goal.returns-in_err-modules-clause-read
returns-in_err-modules-clause-read c =
    let p = err_from_is_err_and c.from_residual.result c.from_residual.ensures.1 in
    rw (p.1, p.2) (refuses_whole number_and_place (answer_of c.in_err-modules.field-0.0) (drawn_of c.args.bytes.now) (program_of c.args.bytes.now)
    (λ f h. drawn_refused c.args.bytes.now f h) c.in_err-modules.ensures.read)

pub returns-clause-read : goal.returns-clause-read
returns-clause-read c =
    let (ds, read, are) = c.in_ok-modules.ensures.read in
    drawn_gives c.args.bytes.now ds read c.program_from.result (c.program_from.ensures ds are)

pub returns-clause-weight : goal.returns-clause-weight
returns-clause-weight c =
    let (ds, read, are) = c.in_ok-modules.ensures.read in
    light_program c.args.bytes.now c.program_from.result (drawn_gives c.args.bytes.now ds read c.program_from.result (c.program_from.ensures ds are))

pub returns-clause-entries : goal.returns-clause-entries
returns-clause-entries c =
    let (ds, read, are) = c.in_ok-modules.ensures.read in
    leading_program c.args.bytes.now c.program_from.result (drawn_gives c.args.bytes.now ds read c.program_from.result (c.program_from.ensures ds are))
