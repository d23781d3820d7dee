-- Wires get their slots in the order of their ends.
use Rattle.std.specs.Prelude.{◌≡◌, suc, ◌+◌, ◌*◌, length, take}
use Rattle.std.proofs.Common.{ap, subst, arith}
use Rattle.two_d.specs.Programs.{module_of}
use Rattle.lower_plan.specs.Plans.{these, origins_named}
use Rattle.lower_plan.specs.inner.Numbers.{Numbers}
use Rattle.lower_plan.proofs.Numbering.{so_far_next, so_far_place, so_far_few, so_far_all}
use Rattle.lower_plan.proofs.Rows.{read_n, read_w, read_exit}
use Rattle.lower_plan.proofs.slots.slots_of.Goals as goal

pub give-requires-clause-place : goal.give-requires-clause-place
give-requires-clause-place c =
    so_far_place (module_of c.args.owner.now) c.requires.sound (2 * c.loop-row.row-index) c.row-item.result.n c.loop-row.slots c.loop-row.invariant
    (read_n c.args.owner.now _ c.deref-row-items.ensures.value c.loop-row.row-index c.row-item.result c.loop-row-test.true c.row-item.is)

pub give-requires-clause-few : goal.give-requires-clause-few
give-requires-clause-few c = so_far_few (module_of c.args.owner.now) c.requires.sound (2 * c.loop-row.row-index) c.loop-row.slots c.loop-row.invariant c.requires.few

pub give-requires-in-loop-row-clause-place : goal.give-requires-in-loop-row-clause-place
give-requires-in-loop-row-clause-place c =
    let m = module_of c.args.owner.now in
    let is = read_n c.args.owner.now _ c.deref-row-items.ensures.value c.loop-row.row-index c.row-item.result c.loop-row-test.true c.row-item.is in
    let next = so_far_next m c.requires.sound (2 * c.loop-row.row-index) c.row-item.result.n c.loop-row.slots c.give.new.self c.loop-row.invariant is c.give.ensures in
    so_far_place m c.requires.sound (suc (2 * c.loop-row.row-index)) c.row-item.result.w c.give.new.self next
    (read_w c.args.owner.now _ c.deref-row-items.ensures.value c.loop-row.row-index c.row-item.result c.loop-row-test.true c.row-item.is)

pub give-requires-in-loop-row-clause-few : goal.give-requires-in-loop-row-clause-few
give-requires-in-loop-row-clause-few c =
    let m = module_of c.args.owner.now in
    let is = read_n c.args.owner.now _ c.deref-row-items.ensures.value c.loop-row.row-index c.row-item.result c.loop-row-test.true c.row-item.is in
    let next = so_far_next m c.requires.sound (2 * c.loop-row.row-index) c.row-item.result.n c.loop-row.slots c.give.new.self c.loop-row.invariant is c.give.ensures in
    so_far_few m c.requires.sound (suc (2 * c.loop-row.row-index)) c.give.new.self next c.requires.few

pub loop-row-preserved : goal.loop-row-preserved
loop-row-preserved c =
    let m = module_of c.args.owner.now in
    let is = read_n c.args.owner.now _ c.deref-row-items.ensures.value c.loop-row.row-index c.row-item.result c.loop-row-test.true c.row-item.is in
    let js = read_w c.args.owner.now _ c.deref-row-items.ensures.value c.loop-row.row-index c.row-item.result c.loop-row-test.true c.row-item.is in
    let next = so_far_next m c.requires.sound (2 * c.loop-row.row-index) c.row-item.result.n c.loop-row.slots c.give.new.self c.loop-row.invariant is c.give.ensures in
    let more = so_far_next m c.requires.sound (suc (2 * c.loop-row.row-index)) c.row-item.result.w c.give.new.self c.give-in-loop-row.new.self next js c.give-in-loop-row.ensures in
    let twice : suc (suc (2 * c.loop-row.row-index)) ≡ 2 * (c.loop-row.row-index + 1) = omega arith in
    subst (λ j. Numbers (length m.boxes) c.give-in-loop-row.new.self (these (take j (origins_named m)))) twice more

pub give-requires-in-loop-exit-clause-place : goal.give-requires-in-loop-exit-clause-place
give-requires-in-loop-exit-clause-place c =
    let m = module_of c.args.owner.now in
    so_far_place m c.requires.sound (2 * length m.boxes + c.loop-exit.exit-index) _ c.loop-exit.slots c.loop-exit.invariant
    (read_exit c.args.owner.now _ c.deref-exit-items.ensures.value c.loop-exit.exit-index c.loop-exit-test.true)

pub give-requires-in-loop-exit-clause-few : goal.give-requires-in-loop-exit-clause-few
give-requires-in-loop-exit-clause-few c =
    let m = module_of c.args.owner.now in
    so_far_few m c.requires.sound (2 * length m.boxes + c.loop-exit.exit-index) c.loop-exit.slots c.loop-exit.invariant c.requires.few

pub loop-exit-preserved : goal.loop-exit-preserved
loop-exit-preserved c =
    let m = module_of c.args.owner.now in
    let is = read_exit c.args.owner.now _ c.deref-exit-items.ensures.value c.loop-exit.exit-index c.loop-exit-test.true in
    let next = so_far_next m c.requires.sound (2 * length m.boxes + c.loop-exit.exit-index) _ c.loop-exit.slots c.give-in-loop-exit.new.self c.loop-exit.invariant is c.give-in-loop-exit.ensures in
    let one : suc (2 * length m.boxes + c.loop-exit.exit-index) ≡ 2 * length m.boxes + (c.loop-exit.exit-index + 1) = omega arith in
    subst (λ j. Numbers (length m.boxes) c.give-in-loop-exit.new.self (these (take j (origins_named m)))) one next

pub returns : goal.returns
returns c =
    let m = module_of c.args.owner.now in
    so_far_all m c.requires.sound (2 * length m.boxes + c.loop-exit.exit-index) c.loop-exit.slots c.loop-exit.invariant
    (let n = ap length c.deref-exit-items.ensures.value in omega (arith, n, c.loop-exit-test.false, c.loop-exit.auto.exit-index-end))
