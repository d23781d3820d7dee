use Rattle.stuck_view.specs.Pages.{most_events}
use Rattle.stuck_view.proofs.Shown.{outcome_if}
use Rattle.stuck_view.proofs.page.evaluate.Goals as goal

pub returns-in-Ok : goal.returns-in-Ok
returns-in-Ok c =
    outcome_if most_events c.args.program.now c.in-Ok.report c.in-Ok.report.outcome c.in-Ok.ensures.means c.in-Ok.ensures.only c.in-Ok.ensures.places
    c.in-Ok.ensures.of_program
