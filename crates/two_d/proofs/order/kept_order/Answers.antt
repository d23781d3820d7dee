-- Boxes are placed until all are, or none is ready.
use Rattle.std.specs.Prelude.{◌↔◌}
use Rattle.std.proofs.Common.{◌≡◌, ℕ, ◌<◌, ◌⊎◌, ◌∷◌, [], arith, ap, ◌∙◌, subst, length, None, Some, replicate, false, true, slice_set, slice_index_or}
use Rattle.std.proofs.lemmas.List.{length-map, length-append}
use Rattle.two_d.specs.inner.Orders.{Has, AreFed}
use Rattle.two_d.specs.Programs.{module_of, box_of}
use Rattle.two_d.specs.declared.command.Side.TheVariants.{S, E}
use Rattle.two_d.proofs.LeastOrder.{kept_of}
use Rattle.two_d.proofs.Placing.{start, step, if_some_below, target_below}
use Rattle.two_d.proofs.Rings.{ring_where_stuck}
use Rattle.two_d.proofs.order.kept_order.Goals as goal

pub place-init : goal.place-init
place-init c =
    let m = module_of c.args.module.now in
    let count : c.len.result ≡ length m.boxes = omega (arith, length-map c.args.module.now.boxes.items box_of) in
    let e : c.in_ok-placed.placed.items ≡ replicate (length m.boxes) false = c.in_ok-placed.ensures ∙ ap (λ n. replicate n false) count in
    record {
      way = rw (c.new-order.ensures.items, e) (start m (Has c.in_ok-ready.ready) (λ q.
          subst (λ marks. Has c.in_ok-ready.ready q ↔ ((q < length m.boxes) × AreFed m marks q)) (c.deref.ensures.value ∙ e) (c.in_ok-ready.ensures q)));
      few = rw (c.new-order.ensures.items) (omega arith);
    }

pub returns-in_default-clause-ring : goal.returns-in_default-clause-ring
returns-in_default-clause-ring c =
    let m = module_of c.args.module.now in
    ring_where_stuck m c.place.order.items c.requires c.place.invariant.way.greedy (omega (arith, length-map c.args.module.now.boxes.items box_of))
    (λ q is. c.in_default.ensures q ((c.place.invariant.way.ready q).1 is))

pub offer-requires-clause-within : goal.offer-requires-clause-within
offer-requires-clause-within c =
    if_some_below _ _ (target_below (module_of c.args.module.now) S c.in_ok-souths.souths.items c.in_ok-souths.ensures c.in-Some.next c.target_of.result
    (c.target_of.ensures ∙ ap (λ ts. slice_index_or ts c.in-Some.next None) c.deref-in-place-2.ensures.value))

pub offer-requires-in-place-clause-within : goal.offer-requires-in-place-clause-within
offer-requires-in-place-clause-within c =
    if_some_below _ _ (target_below (module_of c.args.module.now) E c.in_ok-easts.easts.items c.in_ok-easts.ensures c.in-Some.next c.target_of-in-place.result
    (c.target_of-in-place.ensures ∙ ap (λ ts. slice_index_or ts c.in-Some.next None) c.deref-in-place-4.ensures.value))

pub place-preserved : goal.place-preserved
place-preserved c =
    let m = module_of c.args.module.now in
    let next = c.in-Some.next in
    let marks = slice_set c.place.placed.items next true in
    let south : c.target_of.result ≡ slice_index_or c.in_ok-souths.souths.items next None = c.target_of.ensures ∙ ap (λ ts. slice_index_or ts next None) c.deref-in-place-2.ensures.value in
    let east : c.target_of-in-place.result ≡ slice_index_or c.in_ok-easts.easts.items next None = c.target_of-in-place.ensures ∙ ap (λ ts. slice_index_or ts next None) c.deref-in-place-4.ensures.value in
    let two : (q : ℕ) → Has c.offer.new.ready q ↔ (Has c.take_least.new.set q ⊎ ((slice_index_or c.in_ok-souths.souths.items next None ≡ Some q) × AreFed m marks q)) = (λ q.
    subst (λ o. Has c.offer.new.ready q ↔ (Has c.take_least.new.set q ⊎ ((o ≡ Some q) × AreFed m marks q))) south
    (subst (λ l. Has c.offer.new.ready q ↔ (Has c.take_least.new.set q ⊎ ((c.target_of.result ≡ Some q) × AreFed m l q))) c.deref-in-place.ensures.value (c.in_ok-offer.ensures q))) in
    let three : (q : ℕ) → Has c.offer-in-place.new.ready q ↔ (Has c.offer.new.ready q ⊎ ((slice_index_or c.in_ok-easts.easts.items next None ≡ Some q) × AreFed m marks q)) = (λ q.
    subst (λ o. Has c.offer-in-place.new.ready q ↔ (Has c.offer.new.ready q ⊎ ((o ≡ Some q) × AreFed m marks q))) east
    (subst (λ l. Has c.offer-in-place.new.ready q ↔ (Has c.offer.new.ready q ⊎ ((c.target_of-in-place.result ≡ Some q) × AreFed m l q))) c.deref-in-place-3.ensures.value (c.in_ok-offer-2.ensures q))) in
    record {
      way = rw (c.in_ok-push.ensures.items) (step m c.in_ok-souths.souths.items c.in_ok-easts.easts.items c.in_ok-souths.ensures c.in_ok-easts.ensures
          c.place.placed.items (Has c.place.ready) (Has c.take_least.new.set) (Has c.offer.new.ready) (Has c.offer-in-place.new.ready) c.place.order.items c.place.invariant.way
          next c.in-Some.ensures.0 c.in-Some.ensures.1 c.in-Some.ensures.2 two three);
      few = rw (c.in_ok-push.ensures.items) (omega (arith, length-append c.place.order.items (next ∷ []), length-map c.args.module.now.boxes.items box_of));
    }

pub returns-clause-order : goal.returns-clause-order
returns-clause-order c =
    kept_of (module_of c.args.module.now) c.place.order.items c.place.invariant.way.greedy
    (let few = c.place.invariant.few in omega (arith, length-map c.args.module.now.boxes.items box_of))
