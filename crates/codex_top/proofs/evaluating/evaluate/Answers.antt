use Rattle.codex_top.proofs.Reports.{report_if}
use Rattle.codex_top.proofs.evaluating.evaluate.Goals as goal

pub returns-in-Ok-clause-report : goal.returns-in-Ok-clause-report
returns-in-Ok-clause-report c =
    report_if c.args.events c.args.program.now c.in-Ok.report c.in-Ok.report.outcome c.in-Ok.ensures.means c.in-Ok.ensures.only c.in-Ok.ensures.places c.in-Ok.ensures.of_program
