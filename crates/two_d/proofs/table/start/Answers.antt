-- `main` is there and has no entry, or isn't, or has one.
use Rattle.std.proofs.Common.{arith, sym, ap, ◌∙◌, subst}
use Rattle.std.proofs.lemmas.Bool.{iff_false}
use Rattle.std.proofs.lemmas.List.{length-map}
use Rattle.two_d.specs.Programs.{modules_of, module_of, module_at}
use Rattle.two_d.specs.Reading.{goes_on, stops, refused, passed}
use Rattle.two_d.specs.Table.{HasEntry}
use Rattle.two_d.proofs.TableLemmas.{module_at_there}
use Rattle.two_d.proofs.table.start.Goals as goal

pub returns-in-None-clause-read : goal.returns-in-None-clause-read
returns-in-None-clause-read c = stops _ (refused (omega (arith, c.in-None.ensures)))

pub returns-then-has_entry-clause-read : goal.returns-then-has_entry-clause-read
returns-then-has_entry-clause-read c =
    let P = modules_of c.args.modules.now in
    let there = module_at_there c.args.modules.now c.in-Some.main c.index-modules-main.result (omega (arith, length-map c.args.modules.now module_of, c.in-Some.ensures.0)) c.index-modules-main.is in
    goes_on tt (passed (omega (arith, c.in-Some.ensures.0, c.in-Some.ensures.1)))
    (rw (sym c.in-Some.ensures.1) (refused (subst (λ m. HasEntry m) (sym (ap (module_at P) c.in-Some.ensures.1 ∙ there)) (c.has_entry.ensures.0 c.if-has_entry.true))))

pub returns-else-has_entry-clause-read : goal.returns-else-has_entry-clause-read
returns-else-has_entry-clause-read c =
    let P = modules_of c.args.modules.now in
    let there = module_at_there c.args.modules.now c.in-Some.main c.index-modules-main.result (omega (arith, length-map c.args.modules.now module_of, c.in-Some.ensures.0)) c.index-modules-main.is in
    goes_on tt (passed (omega (arith, c.in-Some.ensures.0, c.in-Some.ensures.1)))
    (passed (λ entry. iff_false c.has_entry.ensures c.if-has_entry.false (subst (λ m. HasEntry m) (ap (module_at P) c.in-Some.ensures.1 ∙ there) entry)))
