-- The corner that was kept is that of the box.
use Rattle.std.specs.Prelude.{[]}
use Rattle.std.specs.Option.{unwrap_or}
use Rattle.std.proofs.Common.{arith, sym, ap, get_or, ◌∙◌}
use Rattle.std.proofs.lemmas.List.{get_or-map}
use Rattle.two_d.specs.Places.{at}
use Rattle.module_table.specs.declared.corners.Corners.{Corners}
use Rattle.module_table.proofs.WholeReading.{box_kept}
use Rattle.module_table.proofs.corners.box_corner.Goals as goal

pub returns-in-Some : goal.returns-in-Some
returns-in-Some c = λ drawn are.
    let found = c.in-Some.ensures.lookup in
    c.unwrap_or.ensures ∙ (ap (λ o. unwrap_or o (at 0 0)) c.copied.ensures ∙ (c.get-in-Some.ensures.lookup.4 (omega arith) (at 0 0)
    ∙ (ap (λ l. get_or l c.args.bx (at 0 0)) (c.deref.ensures.value ∙ (ap (λ (m : Corners). m.boxes.items) found.1 ∙ sym (get_or-map (λ (m : Corners). m.boxes.items) c.args.corners.now c.args.number c.in-Some.module.now [] found.3.0)))
    ∙ box_kept c.args.corners.now drawn are c.args.number c.args.bx)))
