use Rattle.std.proofs.Common.{◌≡◌, ◌≢◌, ◌<◌, ◌≤◌, ℕ, List, Some, None, length, set, sym, ap, subst, ◌∙◌, arith}
use Rattle.std.specs.Prelude.{Option}
use Rattle.std.specs.Global.{Vec}
use Rattle.std.specs.FinMap as map
use Rattle.std.specs.Vec.{with_item}
use Rattle.um_word.specs.State.{array_at}
use Rattle.um_word.proofs.Arrays.{get-insert_other}
use Rattle.array_store.specs.inner.Slots.{slot_arrays, arrays_of}
use Rattle.array_store.proofs.HeldLemmas.{there_with_word}
use Rattle.array_store.proofs.SlotLemmas.{get-slot_read, array-slot_read, arrays-set_some, slot_of_array, words_of, zero_put, words_at_zero, words_at_other, other_put}
use Rattle.array_store.proofs.store.write_word.Goals as goal

-- a word within another array is one of its slot
within_slot : (z : List ℕ) (n : ℕ) (slots : List (Option (Vec ℕ))) (id at : ℕ) → 1 ≤ id → id ≢ n → at < length (array_at (arrays_of z n slots) id) → at < length (array_at (slot_arrays slots) id)
within_slot z n slots id at positive ne = subst (λ words. at < length words) (words_at_other z n slots id positive ne)

there : (z : List ℕ) (n : ℕ) (slots : List (Option (Vec ℕ))) (id at : ℕ) → 1 ≤ id → id ≢ n → at < length (array_at (arrays_of z n slots) id) → map.get (slot_arrays slots) id ≡ Some (array_at (slot_arrays slots) id)
there z n slots id at positive ne within = there_with_word (map.get (slot_arrays slots) id) at (within_slot z n slots id at positive ne within)

slot_there : (z : List ℕ) (n : ℕ) (slots : List (Option (Vec ℕ))) (id at : ℕ) → 1 ≤ id → id ≢ n → at < length (array_at (arrays_of z n slots) id) → id < length slots
slot_there z n slots id at positive ne within = slot_of_array slots id _ (there z n slots id at positive ne within)

pub index_mut-requires : goal.index_mut-requires
index_mut-requires c =
    let z = c.args.zero.now.items in
    let slots = c.args.slots.now.items in
    let words : array_at (arrays_of z c.args.named slots) c.args.id ≡ z = ap (array_at (arrays_of z c.args.named slots)) c.if-id-eq0.true ∙ words_at_zero z c.args.named slots in
    let long : length (array_at (arrays_of z c.args.named slots) c.args.id) ≡ length z = ap length words in
    let size = c.args.zero.now.ok.0 in
    omega (arith, long, size, c.requires.within)

pub returns-then-id-eq0-clause-arrays : goal.returns-then-id-eq0-clause-arrays
returns-then-id-eq0-clause-arrays c =
    let z = c.args.zero.now.items in
    let slots = c.args.slots.now.items in
    let words : array_at (arrays_of z c.args.named slots) c.args.id ≡ z = ap (array_at (arrays_of z c.args.named slots)) c.if-id-eq0.true ∙ words_at_zero z c.args.named slots in
    let own : c.args.named ≡ 0 = c.requires.apart.0 c.if-id-eq0.true in
    ap (λ n. arrays_of (set z c.args.at c.args.word) n slots) own ∙ zero_put z (set z c.args.at c.args.word) slots
    ∙ ap (λ n. map.insert (arrays_of z n slots) 0 (set z c.args.at c.args.word)) (sym own) ∙ (λ i. map.insert (arrays_of z c.args.named slots) (sym c.if-id-eq0.true i) (set (sym words i) c.args.at c.args.word))

pub index_mut-requires-2 : goal.index_mut-requires-2
index_mut-requires-2 c =
    let slots = c.args.slots.now.items in
    let within = (let positive : 1 ≤ c.args.id = omega (arith, c.if-id-eq0.false) in slot_there c.args.zero.now.items c.args.named slots c.args.id c.args.at positive (c.requires.apart.1 positive) c.requires.within) in
    let size : c.args.slots.now.len ≡ length slots = c.args.slots.now.ok.0 in
    omega (arith, within, size)

pub index_mut-requires-in-Some : goal.index_mut-requires-in-Some
index_mut-requires-in-Some c =
    let slots = c.args.slots.now.items in
    let positive : 1 ≤ c.args.id = omega (arith, c.if-id-eq0.false) in
    let within = slot_there c.args.zero.now.items c.args.named slots c.args.id c.args.at positive (c.requires.apart.1 positive) c.requires.within in
    let is = array-slot_read slots c.args.id c.index_mut-2.result.now c.in-Some.words within c.index_mut-2.ensures.value c.in-Some.is in
    let size : length (array_at (slot_arrays slots) c.args.id) ≡ length c.in-Some.words.items = ap length is in
    let word = within_slot c.args.zero.now.items c.args.named slots c.args.id c.args.at positive (c.requires.apart.1 positive) c.requires.within in
    omega (arith, size, word)

pub unreachable-requires : goal.unreachable-requires
unreachable-requires c =
    let slots = c.args.slots.now.items in
    let positive : 1 ≤ c.args.id = omega (arith, c.if-id-eq0.false) in
    let found = there c.args.zero.now.items c.args.named slots c.args.id c.args.at positive (c.requires.apart.1 positive) c.requires.within in
    let within = slot_of_array slots c.args.id _ found in
    let gone = get-slot_read slots c.args.id c.index_mut-2.result.now within c.index_mut-2.ensures.value in
    let clash : None ≡ Some (array_at (slot_arrays slots) c.args.id) = sym (gone ∙ ap words_of c.in-None.is) ∙ found in
    cc

pub returns-clause-arrays : goal.returns-clause-arrays
returns-clause-arrays c =
    let z = c.args.zero.now.items in
    let slots = c.args.slots.now.items in
    let positive : 1 ≤ c.args.id = omega (arith, c.if-id-eq0.false) in
    let within = slot_there z c.args.named slots c.args.id c.args.at positive (c.requires.apart.1 positive) c.requires.within in
    let is = array-slot_read slots c.args.id c.index_mut-2.result.now c.in-Some.words within c.index_mut-2.ensures.value c.in-Some.is in
    other_put z (set c.in-Some.words.items c.args.at c.args.word) c.args.named slots _ c.args.id positive (c.requires.apart.1 positive)
    (arrays-set_some slots c.args.id (with_item c.in-Some.words c.args.at c.args.word) within)
    ∙ ap (λ words. map.insert (arrays_of z c.args.named slots) c.args.id (set words c.args.at c.args.word)) (sym (words_at_other z c.args.named slots c.args.id positive (c.requires.apart.1 positive) ∙ is))

pub returns-clause-lent : goal.returns-clause-lent
returns-clause-lent c lent positive =
    let slots = c.args.slots.now.items in
    let here : 1 ≤ c.args.id = omega (arith, c.if-id-eq0.false) in
    let within = slot_there c.args.zero.now.items c.args.named slots c.args.id c.args.at here (c.requires.apart.1 here) c.requires.within in
    let words = with_item c.in-Some.words c.args.at c.args.word in
    ap (λ arrays. map.get arrays c.args.named) (arrays-set_some slots c.args.id words within)
    ∙ get-insert_other (slot_arrays slots) c.args.id words.items c.args.named (λ e. c.requires.apart.1 here (sym e)) ∙ lent positive
