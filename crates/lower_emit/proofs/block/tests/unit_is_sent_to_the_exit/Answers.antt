-- The program is that of the module.
use Rattle.std.specs.Prelude.{◌≡◌, ◌<◌, Some, Ok, slice_get, length}
use Rattle.std.proofs.Common.{ap, arith, refl}
use Rattle.std.proofs.lemmas.Option.{slice_get_read}
use Rattle.two_d.specs.Weights.{weight}
use Rattle.two_d.specs.Programs.{Program, modules_of}
use Rattle.two_d.specs.Reading.{Then, Gave}
use Rattle.two_d.specs.Table.{table_of}
use Rattle.two_d.specs.inner.TableParts.{uses_of, cycles_of}
use Rattle.two_d.proofs.GoodTable.{table_parts}
use Rattle.two_d.proofs.InOrder.{gave_is, then_ok}
use Rattle.lower_emit.proofs.block.tests.unit_is_sent_to_the_exit.Goals as goal

-- what the table gives are its modules
given : (P Q : Program) → table_of P (Ok Q) → Q ≡ P
given P Q table =
    let (u, uses, rest) = then_ok (uses_of P) (λ _. Then (cycles_of P) (λ _. Gave P)) Q (table_parts P (Ok Q) table) in
    let (v, rings, last) = then_ok (cycles_of P) (λ _. Gave P) Q rest in
    let same = gave_is P (Ok Q) last in
    cc

pub plans-requires : goal.plans-requires
plans-requires g c =
    let same = given (modules_of c.in_ok-modules.modules.items) c.in_ok-program.program c.in_ok-program.ensures in
    let one = ap (λ ms. weight (modules_of ms)) c.in_ok-modules.ensures.items in
    omega (arith, ap weight same, one, c.in_ok-main.ensures)

pub emit-requires-clause-light : goal.emit-requires-clause-light
emit-requires-clause-light g c =
    let same = given (modules_of c.in_ok-modules.modules.items) c.in_ok-program.program c.in_ok-program.ensures in
    let one = ap (λ ms. weight (modules_of ms)) c.in_ok-modules.ensures.items in
    omega (arith, ap weight same, one, c.in_ok-main.ensures)

pub emit-requires-clause-plan : goal.emit-requires-clause-plan
emit-requires-clause-plan g c =
    let plans = c.in_ok-plans.plans.items in
    let same = given (modules_of c.in_ok-modules.modules.items) c.in_ok-program.program c.in_ok-program.ensures in
    let one = ap (λ ms. length (modules_of ms)) c.in_ok-modules.ensures.items in
    let there : 0 < length plans = omega (arith, ap length same, one, c.in_ok-plans.ensures.one_each) in
    let at : slice_get plans 0 ≡ Some c.index.result.now = slice_get_read plans (length plans) 0 c.index.result.now refl there c.index.ensures in
    (c.in_ok-plans.ensures.each 0 c.index.result.now at).1
