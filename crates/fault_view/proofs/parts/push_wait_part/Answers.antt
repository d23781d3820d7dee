use Rattle.std.proofs.Common.{◌++◌, List, ap, sym, subst, ◌∙◌}
use Rattle.umix_base.specs.declared.place.Place.{Place}
use Rattle.text_picture.specs.Pictures.{lined, picture_lines}
use Rattle.text_picture.proofs.Added.{two_added}
use Rattle.two_d.specs.Program.{box_place}
use Rattle.module_table.specs.Drawn.{AreCorners}
use Rattle.module_table.specs.declared.corners.Corners.{Corners}
use Rattle.fault_view.specs.Subjects.{wait_line}
use Rattle.fault_view.proofs.parts.push_wait_part.Goals as goal

pub returns : goal.returns
returns c ds are =
    let lines = c.push_wait_line.new.page.items in
    two_added c.args.page.now.items (wait_line ds c.args.bx.0 c.args.bx.1) (lined (picture_lines c.args.text.now (box_place ds c.args.bx.0 c.args.bx.1)))
    lines c.push_picture.new.page.items (c.in_ok-push_wait_line.ensures ds are)
    (c.in_ok-push_picture.ensures ∙ ap (λ (p : Place). lines ++ lined (picture_lines c.args.text.now p))
    (c.box_corner.ensures ds (subst (λ (l : List Corners). AreCorners l ds) (sym c.deref.ensures.value) are.corners)))
