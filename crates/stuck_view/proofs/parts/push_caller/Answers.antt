use Rattle.std.proofs.Common.{◌++◌, ap, ◌∙◌}
use Rattle.umix_base.specs.declared.place.Place.{Place}
use Rattle.text_picture.specs.Pictures.{lined, picture_lines}
use Rattle.two_d.specs.Program.{box_place}
use Rattle.two_d.specs.Texts.{caller_line}
use Rattle.text_picture.proofs.Added.{two_added}
use Rattle.stuck_view.proofs.parts.push_caller.Goals as goal

pub returns : goal.returns
returns c ds are =
    let lines = c.push_caller_line.new.page.items in
    two_added c.args.page.now.items (caller_line c.args.program.now c.args.caller) (lined (picture_lines c.args.text.now (box_place ds c.args.caller.0 c.args.caller.1)))
    lines c.push_picture.new.page.items c.in_ok-push_caller_line.ensures
    (c.in_ok-push_picture.ensures ∙ ap (λ (p : Place). lines ++ lined (picture_lines c.args.text.now p)) (c.box_corner.ensures ds are))
