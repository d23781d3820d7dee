-- The instance is that among whose marks the k-th stands.
use Rattle.std.specs.Prelude.{◌≡◌, ◌+◌, ◌<◌, ◌≤◌, ◌-◌, ℕ, Some, length}
use Rattle.std.proofs.Common.{◌∙◌, sym, ap, subst, arith}
use Rattle.mark_list.specs.Marks.{at, is_marked, count_before}
use Rattle.two_d.specs.Steps.{Fire, ready}
use Rattle.ready_marks.specs.Slots.{SlotsView, slots_view, AreReady, boxes_of}
use Rattle.std.proofs.lemmas.List.{get_or_read}
use Rattle.ready_marks.proofs.MarkedReady.{kept-count, kept-get, box-before, event-box, event-end}
use Rattle.ready_marks.proofs.slots.Slots.event.Goals as goal

pub place-place-requires : goal.place-place-requires
place-place-requires c =
    let (P, T, is, size, lt) = c.requires in
    let here : AreReady P T (slots_view c.self.inside.starts.items c.self.inside.marks) = subst (AreReady P T) (sym c.self.view_is) is in
    omega (arith, lt, kept-count P T (slots_view c.self.inside.starts.items c.self.inside.marks) here)

pub returns-then-place-index : goal.returns-then-place-index
returns-then-place-index c = λ P T is size lt.
    let view = slots_view c.self.inside.starts.items c.self.inside.marks in
    let here : AreReady P T view = subst (AreReady P T) (sym c.self.view_is) is in
    let i = c.instance_of-number.result in
    let within : i < length T = omega (arith, size) in
    let sized : length T < length c.self.inside.starts.items = here.starts.sized in
    let begins : at c.self.inside.starts.items (i + 1) ≡ at c.self.inside.starts.items i + boxes_of P T i + 1 = here.starts.next i within in
    let next : c.index.result.now ≡ at c.self.inside.starts.items (i + 1) = get_or_read c.self.inside.starts.items (i + 1) c.index.result.now (omega arith) c.index.ensures 0 in
    kept-get P T view here i (boxes_of P T i) c.place-place.result c.args.k within (omega arith) (omega (arith, c.if-place-index.true, next, begins)) c.place-place.ensures.set c.place-place.ensures.is
    ∙ ap Some (event-end (boxes_of P T i) i)

pub returns-else-place-index : goal.returns-else-place-index
returns-else-place-index c = λ P T is size lt.
    let view = slots_view c.self.inside.starts.items c.self.inside.marks in
    let here : AreReady P T view = subst (AreReady P T) (sym c.self.view_is) is in
    let i = c.instance_of-number.result in
    let within : i < length T = omega (arith, size) in
    let sized : length T < length c.self.inside.starts.items = here.starts.sized in
    let begins : at c.self.inside.starts.items (i + 1) ≡ at c.self.inside.starts.items i + boxes_of P T i + 1 = here.starts.next i within in
    let next : c.index.result.now ≡ at c.self.inside.starts.items (i + 1) = get_or_read c.self.inside.starts.items (i + 1) c.index.result.now (omega arith) c.index.ensures 0 in
    let first : c.index-else-place-index.result.now ≡ at c.self.inside.starts.items i = get_or_read c.self.inside.starts.items i c.index-else-place-index.result.now (omega arith) c.index-else-place-index.ensures 0 in
    let b = c.place-place.result - c.index-else-place-index.result.now in
    let low : at c.self.inside.starts.items i ≤ c.place-place.result = subst (λ (v : SlotsView). at v.starts i ≤ c.place-place.result) (sym c.self.view_is) c.instance_of-number.ensures.low in
    let high : c.place-place.result < at c.self.inside.starts.items (i + 1) = subst (λ (v : SlotsView). c.place-place.result < at v.starts (i + 1)) (sym c.self.view_is) c.instance_of-number.ensures.high in
    let behind : c.place-place.result ≡ at c.self.inside.starts.items i + b = omega (arith, first) in
    let other : (c.place-place.result ≡ at c.self.inside.starts.items i + boxes_of P T i) → ⊥ = λ e. c.if-place-index.false (omega (arith, e, next, begins)) in
    let box : b < boxes_of P T i = box-before c.place-place.result (at c.self.inside.starts.items i) b (boxes_of P T i) (at c.self.inside.starts.items (i + 1)) behind begins high other in
    kept-get P T view here i b c.place-place.result c.args.k within (omega arith) behind c.place-place.ensures.set c.place-place.ensures.is
    ∙ ap Some (event-box (boxes_of P T i) i b box)
