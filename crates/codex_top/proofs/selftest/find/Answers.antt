use Rattle.std.proofs.Common.{◌≡◌, ◌≤◌, length, ap, subst, arith}
use Rattle.std.specs.Prelude.{Ok}
use Rattle.std.proofs.lemmas.List.{length-map}
use Rattle.two_d.specs.Program.{program_of}
use Rattle.two_d.specs.Programs.{module_of}
use Rattle.two_d.specs.Weights.{weight}
use Rattle.codex_top.proofs.Selftesting.{are_found, comes_alone}
use Rattle.codex_top.proofs.selftest.find.Goals as goal

pub compile-requires : goal.compile-requires
compile-requires c =
    let weighs = subst (λ text. weight c.in_ok-program.program ≤ length text) c.deref.ensures.value c.in_ok-program.ensures.weighs in
    record { light = omega (arith, weighs, c.in_ok-grid.ensures.program.short) }

pub count_boxes-requires : goal.count_boxes-requires
count_boxes-requires c =
    let weighs = subst (λ text. weight c.in_ok-program.program ≤ length text) c.deref.ensures.value c.in_ok-program.ensures.weighs in
    omega (arith, weighs, c.in_ok-grid.ensures.program.short)

pub run_text-requires-clause-comes : goal.run_text-requires-clause-comes
run_text-requires-clause-comes c =
    comes_alone c.args.number c.in_ok-grid.grid.items c.in_ok-grid.ensures.grid c.in_ok-grid.ensures.program c.in_ok-program.program
    (subst (λ text. program_of text (Ok c.in_ok-program.program)) c.deref.ensures.value c.in_ok-program.ensures.program)
    (subst (λ text. weight c.in_ok-program.program ≤ length text) c.deref.ensures.value c.in_ok-program.ensures.weighs)
    c.in_ok-words.field-0.words.items c.in_ok-words.field-0.blocks.items c.in_ok-words.ensures.realises c.in_ok-words.ensures.follows

pub returns : goal.returns
returns c =
    let bytes : c.len.result ≡ length c.in_ok-grid.grid.items = omega (arith, c.len.ensures, c.in_ok-grid.grid.ok) in
    let modules : c.len-2.result ≡ length c.in_ok-program.program =
    omega (arith, c.len-2.ensures, c.modules.result.now.ok, length-map c.modules.result.now.items module_of, ap length c.modules.ensures.modules) in
    let words : c.len-3.result ≡ length c.in_ok-words.field-0.words.items = omega (arith, c.len-3.ensures, c.in_ok-words.field-0.words.ok) in
    are_found c.args.number c.in_ok-grid.grid.items c.in_ok-grid.ensures.grid c.in_ok-grid.ensures.program c.in_ok-program.program
    (subst (λ text. program_of text (Ok c.in_ok-program.program)) c.deref.ensures.value c.in_ok-program.ensures.program)
    (subst (λ text. weight c.in_ok-program.program ≤ length text) c.deref.ensures.value c.in_ok-program.ensures.weighs)
    c.in_ok-words.field-0.words.items c.in_ok-words.field-0.blocks.items c.in_ok-words.ensures.realises c.in_ok-words.ensures.follows
    _ bytes modules c.count_boxes.ensures c.in_ok-orders.ensures words c.in_ok-run_text.ensures.cycles c.in_ok-run_text.ensures.bytes
