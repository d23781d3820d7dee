-- A box uses a module badly where its wires aren't just those that the module has entries for.
use Rattle.std.proofs.Common.{arith, ◌≡◌, sym, ap, ◌∙◌, subst}
use Rattle.std.proofs.lemmas.List.{length-map}
use Rattle.two_d.specs.Good.{HasInputsOf}
use Rattle.two_d.specs.Programs.{modules_of, module_of, box_of, find}
use Rattle.two_d.specs.Trees.{form_of}
use Rattle.two_d.proofs.TableLemmas.{none_used, badly_used, well_used, module_at_there, by_bool, is_not}
use Rattle.two_d.proofs.table.uses_badly.Goals as goal

pub returns-in-Some : goal.returns-in-Some
returns-in-Some c =
    let P = modules_of c.args.modules.now in
    let row = box_of c.args.row.now in
    let at : find P c.in-Call.name ≡ c.in-Some.number = ap (find P) (sym c.bytes.ensures.bytes) ∙ c.in-Some.ensures.1 in
    let there = module_at_there c.args.modules.now c.in-Some.number c.index-modules-number.result (omega (arith, length-map c.args.modules.now module_of, c.in-Some.ensures.0)) c.index-modules-number.is in (
      λ is. badly_used P row c.in-Call.name c.in-Some.number (ap form_of c.in-Call.is) at (λ good. by_bool c.has_inputs_of.result is (c.has_inputs_of.ensures.1 (subst (HasInputsOf row) there good))),
      λ uses. is_not c.has_inputs_of.result (λ good. well_used P row c.in-Call.name c.in-Some.number (ap form_of c.in-Call.is) at (subst (HasInputsOf row) (sym there) (c.has_inputs_of.ensures.0 good)) uses),
    )

pub returns-in-None : goal.returns-in-None
returns-in-None c = absurd (c.requires.there (none_used (modules_of c.args.modules.now) (box_of c.args.row.now) c.in-Call.name (ap form_of c.in-Call.is) (ap (find (modules_of c.args.modules.now)) (sym c.bytes.ensures.bytes) ∙ c.in-None.ensures)))
