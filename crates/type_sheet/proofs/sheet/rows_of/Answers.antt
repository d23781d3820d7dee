use Rattle.std.specs.Str.Lines.{lines}
use Rattle.std.proofs.Common.{arith}
use Rattle.std.proofs.lemmas.Result.{err_from_is_err_and}
use Rattle.two_d.proofs.TableLemmas.{refuses_through}
use Rattle.type_sheet.specs.Sheets.{fault_of, row_of, rows_from}
use Rattle.type_sheet.proofs.RowsRead.{reads_first, reads_next, reads_fault, reads_end}
use Rattle.type_sheet.proofs.sheet.rows_of.Goals as goal

pub loop-line-init : goal.loop-line-init
loop-line-init c = record { read = rw c.new-rows.ensures.items (reads_first (lines c.args.text.now)); number = omega arith }

pub loop-line-preserved : goal.loop-line-preserved
loop-line-preserved c =
    let (read, here, same) = c.in_ok-push_row.ensures in
    record {
      read = rw same (reads_next (lines c.args.text.now) c.loop-line.rows.items read c.loop-line.number (lines c.loop-line.rest.now) c.in-Some.line.now
          (lines c.in-Some.behind.now) c.in-Some.ensures.first here c.loop-line.invariant.read);
      number = omega (arith, c.in-Some.ensures.shorter, c.loop-line.invariant.number);
    }

pub returns-in_err-push_row : goal.returns-in_err-push_row
returns-in_err-push_row c =
    let p = err_from_is_err_and c.from_residual.result c.from_residual.ensures.1 in
    rw (p.1, p.2) (refuses_through (fault_of c.in_err-push_row.field-0.0) (row_of c.loop-line.number c.in-Some.line.now) (rows_from 1 (lines c.args.text.now))
    (λ fault bad. reads_fault (lines c.args.text.now) c.loop-line.rows.items c.loop-line.number (lines c.loop-line.rest.now) c.in-Some.line.now
    (lines c.in-Some.behind.now) c.in-Some.ensures.first c.loop-line.invariant.read fault bad)
    c.in_err-push_row.ensures)

pub returns : goal.returns
returns c = reads_end (lines c.args.text.now) c.loop-line.rows.items c.loop-line.number (lines c.loop-line.rest.now) c.in_default.ensures.first c.loop-line.invariant.read
