use Rattle.std.proofs.Common.{refl, sym, ap, ◌∙◌, arith}
use Rattle.std.specs.Prelude.{◌≡◌, ◌<◌, ◌≤◌, length, Bool}
use Rattle.std.proofs.lemmas.List.{length-map}
use Rattle.two_d.specs.declared.module.Module.{Module}
use Rattle.two_d.specs.Programs.{is_name, module_at, module_of, modules_of}
use Rattle.two_d.proofs.NamesFound.{found, not_found, one_more, tested}
use Rattle.fault_view.proofs.found.first_named.Goals as goal

pub returns-then-eq : goal.returns-then-eq
returns-then-eq c =
    let modules = c.args.modules.now in
    let lt : c.loop-number.number < length modules = omega (arith, c.loop-number-test.true, c.loop-number.auto.number-end) in
    let m = c.index-modules-number.result in
    sym (found (modules_of modules) c.args.name.now c.loop-number.number c.loop-number.invariant
    (tested modules c.args.name.now c.bytes.result.now c.args.name.now c.loop-number.number m c.eq.result lt c.index-modules-number.is (c.bytes.ensures.bytes ∙ ap (λ (n : Module). n.name) (sym c.index-modules-number.is)) refl c.eq.ensures
    ∙ c.if-eq.true))

pub loop-number-preserved : goal.loop-number-preserved
loop-number-preserved c =
    let modules = c.args.modules.now in
    let lt : c.loop-number.number < length modules = omega (arith, c.loop-number-test.true, c.loop-number.auto.number-end) in
    let m = c.index-modules-number.result in
    one_more (modules_of modules) c.args.name.now c.loop-number.number c.loop-number.invariant (omega (arith, lt, length-map modules module_of))
    (tested modules c.args.name.now c.bytes.result.now c.args.name.now c.loop-number.number m c.eq.result lt c.index-modules-number.is (c.bytes.ensures.bytes ∙ ap (λ (n : Module). n.name) (sym c.index-modules-number.is)) refl c.eq.ensures
    ∙ c.if-eq.false)

pub returns : goal.returns
returns c =
    let modules = c.args.modules.now in
    let past : length (modules_of modules) ≤ c.loop-number.number =
    omega (arith, c.loop-number-test.false, c.loop-number.auto.number-end, length-map modules module_of) in
    sym (length-map modules module_of) ∙ sym (not_found (modules_of modules) c.args.name.now c.loop-number.number c.loop-number.invariant past)
