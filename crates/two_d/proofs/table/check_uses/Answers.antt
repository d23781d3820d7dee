-- Names, then `main`, then the boxes.
use Rattle.std.proofs.lemmas.Result.{err_from_is_err_and}
use Rattle.two_d.specs.Programs.{modules_of}
use Rattle.two_d.specs.Reading.{goes_on, stops}
use Rattle.two_d.specs.inner.TableParts.{names_of, start_of, all_boxes_of, uses_of}
use Rattle.two_d.specs.inner.TableFaults.{wrong_of}
use Rattle.two_d.proofs.TableLemmas.{refuses_through}
use Rattle.two_d.proofs.table.check_uses.Goals as goal

pub returns-in_err-names-clause-read : goal.returns-in_err-names-clause-read
returns-in_err-names-clause-read c =
    let p = err_from_is_err_and c.from_residual.result c.from_residual.ensures.1 in
    rw (p.1, p.2) (refuses_through (wrong_of c.in_err-names.field-0.0) (names_of (modules_of c.args.modules.now)) (uses_of (modules_of c.args.modules.now)) (λ f h. stops f h) c.in_err-names.ensures.read)

pub returns-in_err-main-clause-read : goal.returns-in_err-main-clause-read
returns-in_err-main-clause-read c =
    let p = err_from_is_err_and c.from_residual-in_err-main.result c.from_residual-in_err-main.ensures.1 in
    rw (p.1, p.2) (refuses_through (wrong_of c.in_err-main.field-0.0) (start_of (modules_of c.args.modules.now)) (uses_of (modules_of c.args.modules.now)) (λ f h. goes_on tt c.in_ok-names.ensures.read (stops f h)) c.in_err-main.ensures.read)

pub returns-in_err-check_modules-clause-read : goal.returns-in_err-check_modules-clause-read
returns-in_err-check_modules-clause-read c =
    let p = err_from_is_err_and c.from_residual-in_err-check_modules.result c.from_residual-in_err-check_modules.ensures.1 in
    rw (p.1, p.2) (refuses_through (wrong_of c.in_err-check_modules.field-0.0) (all_boxes_of (modules_of c.args.modules.now)) (uses_of (modules_of c.args.modules.now)) (λ f h. goes_on tt c.in_ok-names.ensures.read (goes_on tt c.in_ok-main.ensures.read h)) c.in_err-check_modules.ensures)

pub returns-clause-read : goal.returns-clause-read
returns-clause-read c = goes_on tt c.in_ok-names.ensures.read (goes_on tt c.in_ok-main.ensures.read c.in_ok-check_modules.ensures)
