use Rattle.std.proofs.Common.{◌++◌, ap, ◌∙◌}
use Rattle.umix_base.specs.declared.place.Place.{Place}
use Rattle.text_picture.specs.Pictures.{lined, picture_lines}
use Rattle.two_d.specs.Texts.{site_line}
use Rattle.stuck_view.specs.Pages.{site_place}
use Rattle.text_picture.proofs.Added.{two_added}
use Rattle.stuck_view.proofs.parts.push_site.Goals as goal

pub returns : goal.returns
returns c ds are =
    let lines = c.push_site_line.new.page.items in
    two_added c.args.page.now.items (site_line c.args.program.now c.args.site) (lined (picture_lines c.args.text.now (site_place ds c.args.site)))
    lines c.push_picture.new.page.items c.in_ok-push_site_line.ensures
    (c.in_ok-push_picture.ensures ∙ ap (λ (p : Place). lines ++ lined (picture_lines c.args.text.now p)) (c.site_corner.ensures ds are))
