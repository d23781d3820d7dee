use Rattle.std.proofs.Common.{◌≡◌, ◌++◌, ℕ, List, ap, sym, subst, ◌∙◌}
use Rattle.std.specs.Prelude.{codes}
use Rattle.umix_base.specs.declared.place.Place.{Place}
use Rattle.text_picture.specs.Pictures.{lined, picture_lines}
use Rattle.text_picture.proofs.Added.{two_added}
use Rattle.two_d.specs.Program.{module_place}
use Rattle.two_d.specs.Programs.{find}
use Rattle.two_d.specs.Texts.{name_at}
use Rattle.module_table.specs.Drawn.{AreCorners}
use Rattle.module_table.specs.declared.corners.Corners.{Corners}
use Rattle.fault_view.specs.Subjects.{shapes}
use Rattle.fault_view.proofs.Named.{first_found}
use Rattle.fault_view.proofs.parts.push_first.Goals as goal

pub returns : goal.returns
returns c ds are =
    let text = c.args.text.now in
    let line = c.extend_from_slice.new.self.items in
    let first : c.first_named-first.result ≡ find (shapes ds) (name_at (shapes ds) c.args.number) =
    first_found c.args.drawn.now.modules.items (shapes ds) c.args.number c.index.result.now c.bytes.result.now c.deref.result.now c.first_named-first.result c.requires
    are.shapes c.index.ensures c.bytes.ensures.bytes c.deref.ensures.value c.first_named-first.ensures in
    two_added c.args.page.now.items (codes "The first one stands here:\n") (lined (picture_lines text (module_place ds (find (shapes ds) (name_at (shapes ds) c.args.number)))))
    line c.push_picture.new.page.items c.in_ok-extend_from_slice.ensures.items
    (c.in_ok-push_picture.ensures ∙ ap (λ (p : Place). line ++ lined (picture_lines text p))
    (c.frame_corner.ensures ds (subst (λ (l : List Corners). AreCorners l ds) (sym c.deref-2.ensures.value) are.corners)
    ∙ ap (module_place ds) first))
