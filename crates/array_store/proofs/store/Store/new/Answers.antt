use Rattle.std.proofs.Common.{◌≡◌, ◌-◌, ◌≤◌, [], ◌∷◌, ◌++◌, None, length, sym, ap, subst, ◌∙◌, arith}
use Rattle.std.specs.Ordering.{nat_cmp}
use Rattle.std.specs.FinMap as map
use Rattle.um_word.specs.State.{Arrays, live_words}
use Rattle.um_word.proofs.Live.{live_words-empty, live_words-insert_new}
use Rattle.array_store.specs.StoreView.{IsStore}
use Rattle.array_store.specs.inner.Slots.{arrays_of}
use Rattle.array_store.proofs.HeldLemmas.{held-new, Fit}
use Rattle.array_store.proofs.SlotLemmas.{slot_arrays-one, unnamed}
use Rattle.array_store.proofs.store.Store.new.Goals as goal

pub returns-clause-ok : goal.returns-clause-ok
returns-clause-ok c =
    let one : c.push_reserved.new.self.items ≡ None ∷ [] =
    c.push_reserved.ensures.items ∙ ap (λ slots. slots ++ None ∷ []) c.in-Ok.ensures.items in
    let arrays = ap (λ slots. arrays_of c.args.zero.items 0 slots) one ∙ unnamed c.args.zero.items (None ∷ []) ∙ ap (λ slots. map.insert slots 0 c.args.zero.items) slot_arrays-one in
    let made = ap (λ slots. length slots - 1) one in
    λ i. record {
      arrays = arrays i;
      identifiers = record { made = made i; abandoned = c.new.ensures.items i };
      limits = c.args.limits;
    }

pub returns-clause-held : goal.returns-clause-held
returns-clause-held c =
    let size : length c.args.zero.items ≤ c.args.limits.words = omega (arith, c.if-words-limits.false, c.len-words.ensures) in
    let fit : Fit c.args.zero.items = subst Fit c.deref.ensures.value c.words_fit.ensures in
    subst IsStore (sym (returns-clause-ok c)) (held-new c.args.zero.items c.args.limits c.requires.arrays c.requires.words size fit)

pub invariant_of-result : goal.invariant_of-result
invariant_of-result c =
    let one : c.push_reserved.new.self.items ≡ None ∷ [] =
    c.push_reserved.ensures.items ∙ ap (λ slots. slots ++ None ∷ []) c.in-Ok.ensures.items in
    let none : Arrays = map.empty in
    let live = live_words-insert_new none 0 c.args.zero.items (map.get-empty nat_cmp 0) in
    let all : live_words (arrays_of c.args.zero.items 0 c.push_reserved.new.self.items) ≡ live_words (map.insert none 0 c.args.zero.items) =
    ap live_words (ap (λ slots. arrays_of c.args.zero.items 0 slots) one ∙ unnamed c.args.zero.items (None ∷ []) ∙ ap (λ slots. map.insert slots 0 c.args.zero.items) slot_arrays-one) in
    let zero = live_words-empty in
    let made : length c.push_reserved.new.self.items ≡ 1 = ap length one in
    record {
      held = returns-clause-held c;
      named = omega (arith, made);
      lent = λ positive. absurd (omega (arith, positive));
      words = omega (arith, live, all, zero, c.len-words.ensures);
      room = omega (arith, made);
    }
