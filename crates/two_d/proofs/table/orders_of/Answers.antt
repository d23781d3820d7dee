-- A module has its kept order, or a first box that reaches itself.
use Rattle.std.proofs.Common.{arith}
use Rattle.std.proofs.lemmas.List.{length-map}
use Rattle.two_d.specs.Programs.{modules_of, module_of}
use Rattle.two_d.specs.Reading.{refused_at}
use Rattle.two_d.specs.Table.{cycle}
use Rattle.two_d.specs.inner.TableParts.{ring_of}
use Rattle.two_d.proofs.TableLemmas.{module_there, sound_at, goes_on_first, goes_on_next, stops_at, goes_on_end, kept_more, no_orders, ringless_module}
use Rattle.two_d.proofs.table.orders_of.Goals as goal

pub kept_order-requires : goal.kept_order-requires
kept_order-requires c = sound_at c.args.modules.now c.loop-number.number c.index-modules-number.result (omega arith) c.index-modules-number.is c.requires

pub loop-number-init : goal.loop-number-init
loop-number-init c = record { whole = goes_on_first ring_of (modules_of c.args.modules.now); kept = rw (c.new-orders.ensures.items) (no_orders (modules_of c.args.modules.now)) }

pub first_in_ring-requires-clause-sound : goal.first_in_ring-requires-clause-sound
first_in_ring-requires-clause-sound c = sound_at c.args.modules.now c.loop-number.number c.index-modules-number.result (omega arith) c.index-modules-number.is c.requires

pub returns-in-None-clause-read : goal.returns-in-None-clause-read
returns-in-None-clause-read c =
    stops_at ring_of (modules_of c.args.modules.now) c.loop-number.number (module_of c.index-modules-number.result)
    (module_there c.args.modules.now c.loop-number.number c.index-modules-number.result (omega arith) c.index-modules-number.is) c.loop-number.invariant.whole
    (cycle c.loop-number.number c.in_ok-first_in_ring-in-None.field-0) (refused_at c.in_ok-first_in_ring-in-None.field-0 c.in_ok-first_in_ring-in-None.ensures)

pub loop-number-preserved : goal.loop-number-preserved
loop-number-preserved c =
    let P = modules_of c.args.modules.now in
    let m = module_of c.index-modules-number.result in
    let at = module_there c.args.modules.now c.loop-number.number c.index-modules-number.result (omega arith) c.index-modules-number.is in
    let sound = sound_at c.args.modules.now c.loop-number.number c.index-modules-number.result (omega arith) c.index-modules-number.is c.requires in
    let kept = rw c.in-Some.is at c.in_ok-order.ensures.order in
    record {
      whole = goes_on_next ring_of P c.loop-number.number m at (ringless_module c.loop-number.number m c.in-Some.order.items sound kept) c.loop-number.invariant.whole;
      kept = rw (c.in_ok-push-in-Some.ensures.items) (kept_more P c.loop-number.number m at c.loop-number.orders.items c.loop-number.invariant.kept c.in-Some.order kept);
    }

pub returns-clause-read : goal.returns-clause-read
returns-clause-read c = goes_on_end ring_of (modules_of c.args.modules.now) c.loop-number.number (omega (arith, length-map c.args.modules.now module_of)) c.loop-number.invariant.whole
