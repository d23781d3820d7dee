-- The corner that was kept is that of the module.
use Rattle.std.proofs.Common.{sym, ap, ◌∙◌}
use Rattle.std.proofs.lemmas.List.{get_or-map}
use Rattle.two_d.specs.Places.{at}
use Rattle.module_table.specs.declared.corners.Corners.{Corners}
use Rattle.module_table.proofs.WholeReading.{frame_kept}
use Rattle.module_table.proofs.corners.frame_corner.Goals as goal

pub returns-in-Some : goal.returns-in-Some
returns-in-Some c = λ drawn are.
    let found = c.in-Some.ensures.lookup in
    ap (λ (m : Corners). m.frame) found.1 ∙ (sym (get_or-map (λ (m : Corners). m.frame) c.args.corners.now c.args.number c.in-Some.module.now (at 0 0) found.3.0)
    ∙ frame_kept c.args.corners.now drawn are c.args.number)
