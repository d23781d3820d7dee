use Rattle.std.specs.Prelude.{codes}
use Rattle.two_d.specs.Texts.{name_at}
use Rattle.text_picture.proofs.Added.{three_added}
use Rattle.stuck_view.proofs.parts.push_site_line.Goals as goal

pub returns-in_ok-extend_from_slice-in-TwoResults-2 : goal.returns-in_ok-extend_from_slice-in-TwoResults-2
returns-in_ok-extend_from_slice-in-TwoResults-2 c =
    rw c.in-TwoResults.is (three_added c.args.page.now.items (codes "stuck: ") (name_at c.args.program.now c.in-TwoResults.«module») (codes ": two results\n") _ _ _
    c.in_ok-extend_from_slice.ensures.items
    (rw c.name_of-in-TwoResults.ensures at c.in_ok-extend_from_slice-in-TwoResults.ensures.items) c.in_ok-extend_from_slice-in-TwoResults-2.ensures.items)
