use Rattle.std.proofs.Common.{◌≡◌, ◌<◌, ℕ, length, Some, refl, sym, ap, ◌∙◌, subst, arith, inl, inr}
use Rattle.std.proofs.lemmas.Bool.{false≢true}
use Rattle.std.proofs.lemmas.List.{length-map}
use Rattle.std.proofs.lemmas.Option.{get_or_from_slice_get, slice_get_read}
use Rattle.std.specs.List.{Contains}
use Rattle.std.specs.Prelude.{IsTrue, slice_get}
use Rattle.two_d.specs.Programs.{module_of, box_of}
use Rattle.two_d.proofs.Rings.{feeder_there}
use Rattle.two_d.specs.Sound.{Feeds}
use Rattle.box_ring.specs.inner.Steps.{boxes_of, box_of_step}
use Rattle.box_ring.proofs.Finding.{IsClosed, both_tried, box_at, box_read, closed_back, adds_long, found_few, if_some, in_at}
use Rattle.box_ring.proofs.Paths.{ring_first}
use Rattle.box_ring.proofs.ring.ring_of.Goals as goal

pub feeders-north-requires : goal.feeders-north-requires
feeders-north-requires c =
    let f0 = c.wait.found.items in
    let lt : c.wait.next < length f0 = omega (arith, c.wait-test.true, c.len-in-wait.ensures) in
    let here = slice_get_read f0 (length f0) c.wait.next c.index.result.now refl lt c.index.ensures in
    c.wait.invariant.are.below c.wait.next c.index.result.now.bx (box_at f0 c.wait.next c.index.result.now here)

pub returns-then-is_one : goal.returns-then-is_one
returns-then-is_one c =
    let m = module_of c.args.module.now in
    let f0 = c.wait.found.items in
    let lt : c.wait.next < length f0 = omega (arith, c.wait-test.true, c.len-in-wait.ensures) in
    let here = slice_get_read f0 (length f0) c.wait.next c.index.result.now refl lt c.index.ensures in
    let first : box_of_step f0 0 ≡ c.args.bx = get_or_from_slice_get (boxes_of f0) 0 c.args.bx 0 c.wait.invariant.first in
    let feeds = (c.feeders-north.ensures c.args.bx).1 (c.is_one.ensures.0 c.if-is_one.true) in
    let fed : Feeds m (box_of_step f0 0) (box_of_step f0 c.wait.next) = subst (Feeds m (box_of_step f0 0)) (sym (box_read f0 c.wait.next c.index.result.now here)) (subst (λ (x : ℕ). Feeds m x c.index.result.now.bx) (sym first) feeds) in
    ring_first m f0 c.deref.result.now c.wait.next c.args.bx c.in_ok-path_to.field-0.items c.deref.ensures.value first c.wait.invariant.are.fed fed (λ fed' feeds'. c.in_ok-path_to.ensures m fed' feeds')

pub add-requires-in-wait : goal.add-requires-in-wait
add-requires-in-wait c =
    let m = module_of c.args.module.now in
    let long = c.wait.invariant.are.long in
    if_some (λ b. b < length c.wait.seen.items) c.feeders-north.result.0 (λ a e.
    let lt = feeder_there m a c.index.result.now.bx c.requires.sound ((c.feeders-north.ensures a).1 (inl e)) in omega (arith, lt, long))

pub add-requires-in-wait-2 : goal.add-requires-in-wait-2
add-requires-in-wait-2 c =
    let m = module_of c.args.module.now in
    let long = c.wait.invariant.are.long in
    let same = adds_long c.wait.seen.items c.wait.found.items c.feeders-north.result.0 c.wait.next c.add-in-wait.new.seen.items c.add-in-wait.new.found.items c.in_ok-add-2.ensures in
    if_some (λ b. b < length c.add-in-wait.new.seen.items) c.feeders-north.result.1 (λ a e.
    let lt = feeder_there m a c.index.result.now.bx c.requires.sound ((c.feeders-north.ensures a).1 (inr e)) in omega (arith, lt, long, same))

pub wait-smaller : goal.wait-smaller
wait-smaller c =
    let few = found_few (module_of c.args.module.now) c.wait.seen.items c.wait.found.items c.wait.invariant.are in
    omega (arith, few, c.wait-test.true, c.len-in-wait.ensures)

pub wait-preserved : goal.wait-preserved
wait-preserved c =
    let m = module_of c.args.module.now in
    let f0 = c.wait.found.items in
    let lt : c.wait.next < length f0 = omega (arith, c.wait-test.true, c.len-in-wait.ensures) in
    let here = slice_get_read f0 (length f0) c.wait.next c.index.result.now refl lt c.index.ensures in
    let none : IsTrue c.is_one.result → ⊥ = λ is. false≢true (sym c.if-is_one.false ∙ is) in
    let all =
    both_tried m c.args.bx c.wait.next c.index.result.now.bx c.requires.sound c.wait.seen.items f0 c.wait.invariant.are lt (box_at f0 c.wait.next c.index.result.now here)
    c.wait.invariant.closed c.feeders-north.result.0 c.feeders-north.result.1 c.feeders-north.ensures
    (λ e. none (c.is_one.ensures.1 (inl e))) (λ e. none (c.is_one.ensures.1 (inr e)))
    c.add-in-wait.new.seen.items c.add-in-wait.new.found.items c.in_ok-add-2.ensures
    c.add-in-wait-2.new.seen.items c.add-in-wait-2.new.found.items c.in_ok-add-3.ensures in
    let longer = all.2 in
    record { are = all.0; first = all.3 ∙ c.wait.invariant.first; closed = all.1; within = omega (arith, lt, longer) }

pub returns : goal.returns
returns c =
    let m = module_of c.args.module.now in
    let found = c.wait.found.items in
    let all : c.wait.next ≡ length (boxes_of found) = omega (arith, c.wait-test.false, c.len-in-wait.ensures, c.wait.invariant.within, length-map found (λ s. s.bx)) in
    λ reaches. (closed_back m c.args.bx found (subst (IsClosed m c.args.bx found) all c.wait.invariant.closed) reaches
    (in_at (boxes_of found) 0 c.args.bx c.wait.invariant.first)).0 refl
