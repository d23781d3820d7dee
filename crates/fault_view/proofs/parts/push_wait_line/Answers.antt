use Rattle.std.specs.Prelude.{codes}
use Rattle.two_d.specs.Texts.{box_text}
use Rattle.text_picture.proofs.Added.{three_added}
use Rattle.fault_view.specs.Subjects.{shapes}
use Rattle.fault_view.proofs.parts.push_wait_line.Goals as goal

pub returns : goal.returns
returns c ds are =
    three_added c.args.page.now.items (codes "  waits for ") (box_text (shapes ds) c.args.bx.0 c.args.bx.1) (codes "\n") _ _ _
    c.in_ok-extend_from_slice.ensures.items (c.in_ok-push_box.ensures ds are) c.in_ok-extend_from_slice-2.ensures.items
