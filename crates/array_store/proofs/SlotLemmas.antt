-- What the slots stand for at each identifier, and after a change of one slot.
use Rattle.std.proofs.Common.{◌≡◌, ◌≢◌, ℕ, zero, suc, ◌+◌, ◌<◌, ◌≤◌, List, [], ◌∷◌, ◌++◌, length, get_or, set, Option, Some, None, refl, sym, ap, ◌∙◌, inl, inr, arith}
use Rattle.std.specs.Prelude.{slice_get, unwrap_or, vec_len}
use Rattle.std.specs.Global.{Vec}
use Rattle.std.specs.FinMap as map
use Rattle.std.proofs.lemmas.Bool.{cases_eq, cases_lt}
use Rattle.std.proofs.lemmas.Option.{slice_get-get_or, slice_get_past}
use Rattle.um_word.specs.State.{array_at}
use Rattle.um_word.proofs.Arrays.{get-insert_same, get-insert_other}
use Rattle.um_word.proofs.Live.{same_arrays, get-remove_same, get-remove_other, insert_same, insert_again, insert_removed, remove_inserted, insert_swap, remove_insert_swap}
use Rattle.array_store.specs.inner.Slots.{arrays_from, slot_arrays, arrays_of}

abbrev pub words_of : Option (Vec ℕ) → Option (List ℕ)
words_of None = None
words_of (Some words) = Some words.items

abbrev pub words_at : Option (Option (Vec ℕ)) → Option (List ℕ)
words_at None = None
words_at (Some slot) = words_of slot

below : (id q : ℕ) (slots : List (Option (Vec ℕ))) → q < id → map.get (arrays_from id slots) q ≡ None
below id q [] lt = map.get-empty _ q
below id q (None ∷ slots) lt = below (id + 1) q slots (omega arith)
below id q (Some words ∷ slots) lt =
    let ne : q ≢ id = λ e. omega (arith, e, lt) in
    get-insert_other (arrays_from (id + 1) slots) id words.items q ne ∙ below (id + 1) q slots (omega arith)

get_from : (id k : ℕ) (slots : List (Option (Vec ℕ))) → map.get (arrays_from id slots) (id + k) ≡ words_at (slice_get slots k)
get_from id k [] = map.get-empty _ (id + k)
get_from id zero (None ∷ slots) = below (id + 1) (id + 0) slots (omega arith)
get_from id zero (Some words ∷ slots) =
    let here : id + 0 ≡ id = omega arith in
    ap (map.get (arrays_from id (Some words ∷ slots))) here ∙ get-insert_same (arrays_from (id + 1) slots) id words.items
get_from id (suc k) (None ∷ slots) =
    let next : id + suc k ≡ id + 1 + k = omega arith in
    ap (map.get (arrays_from (id + 1) slots)) next ∙ get_from (id + 1) k slots
get_from id (suc k) (Some words ∷ slots) =
    let next : id + suc k ≡ id + 1 + k = omega arith in
    let ne : id + suc k ≢ id = λ e. omega (arith, e) in
    get-insert_other (arrays_from (id + 1) slots) id words.items (id + suc k) ne
    ∙ ap (map.get (arrays_from (id + 1) slots)) next ∙ get_from (id + 1) k slots

pub get-slot_arrays : (slots : List (Option (Vec ℕ))) (k : ℕ) → map.get (slot_arrays slots) k ≡ words_at (slice_get slots k)
unfolding slot_arrays
get-slot_arrays slots k =
    let place : k ≡ 0 + k = omega arith in ap (map.get (arrays_from 0 slots)) place ∙ get_from 0 k slots

pub get_set_same : {X : Type 0} (xs : List X) (k : ℕ) (x : X) → k < length xs → slice_get (set xs k x) k ≡ Some x
get_set_same [] k x lt = absurd (omega (arith, lt))
get_set_same (y ∷ ys) zero x lt = refl
get_set_same (y ∷ ys) (suc k) x lt = get_set_same ys k x (omega (arith, lt))

pub get_set_other : {X : Type 0} (xs : List X) (k q : ℕ) (x : X) → q ≢ k → slice_get (set xs k x) q ≡ slice_get xs q
get_set_other [] k q x ne = refl
get_set_other (y ∷ ys) zero zero x ne = absurd (ne refl)
get_set_other (y ∷ ys) zero (suc q) x ne = refl
get_set_other (y ∷ ys) (suc k) zero x ne = refl
get_set_other (y ∷ ys) (suc k) (suc q) x ne = get_set_other ys k q x (λ e. ne (ap suc e))

get_push_end : {X : Type 0} (xs : List X) (x : X) → slice_get (xs ++ x ∷ []) (length xs) ≡ Some x
get_push_end [] x = refl
get_push_end (y ∷ ys) x = get_push_end ys x

get_push_other : {X : Type 0} (xs : List X) (x : X) (q : ℕ) → q ≢ length xs → slice_get (xs ++ x ∷ []) q ≡ slice_get xs q
get_push_other [] x zero ne = absurd (ne refl)
get_push_other [] x (suc q) ne = refl
get_push_other (y ∷ ys) x zero ne = refl
get_push_other (y ∷ ys) x (suc q) ne = get_push_other ys x q (λ e. ne (ap suc e))

-- an array is put in a slot
pub arrays-set_some : (slots : List (Option (Vec ℕ))) (k : ℕ) (words : Vec ℕ) → k < length slots →
    slot_arrays (set slots k (Some words)) ≡ map.insert (slot_arrays slots) k words.items
arrays-set_some slots k words lt = same_arrays _ _ (λ q.
    get-slot_arrays (set slots k (Some words)) q ∙ elim (cases_eq q k) as (λ _.
    words_at (slice_get (set slots k (Some words)) q) ≡ map.get (map.insert (slot_arrays slots) k words.items) q) [
      | inl e ↦ ap (λ j. words_at (slice_get (set slots k (Some words)) j)) e ∙ ap words_at (get_set_same slots k (Some words) lt)
          ∙ sym (ap (map.get (map.insert (slot_arrays slots) k words.items)) e ∙ get-insert_same (slot_arrays slots) k words.items)
      | inr ne ↦ ap words_at (get_set_other slots k q (Some words) ne)
          ∙ sym (get-insert_other (slot_arrays slots) k words.items q ne ∙ get-slot_arrays slots q)
    ])

-- a slot is emptied
pub arrays-set_none : (slots : List (Option (Vec ℕ))) (k : ℕ) → k < length slots →
    slot_arrays (set slots k None) ≡ map.remove (slot_arrays slots) k
arrays-set_none slots k lt = same_arrays _ _ (λ q.
    get-slot_arrays (set slots k None) q ∙ elim (cases_eq q k) as (λ _.
    words_at (slice_get (set slots k None) q) ≡ map.get (map.remove (slot_arrays slots) k) q) [
      | inl e ↦ ap (λ j. words_at (slice_get (set slots k None) j)) e ∙ ap words_at (get_set_same slots k None lt)
          ∙ sym (ap (map.get (map.remove (slot_arrays slots) k)) e ∙ get-remove_same (slot_arrays slots) k)
      | inr ne ↦ ap words_at (get_set_other slots k q None ne)
          ∙ sym (get-remove_other (slot_arrays slots) k q ne ∙ get-slot_arrays slots q)
    ])

-- one more slot
pub arrays-push_some : (slots : List (Option (Vec ℕ))) (words : Vec ℕ) →
    slot_arrays (slots ++ Some words ∷ []) ≡ map.insert (slot_arrays slots) (length slots) words.items
arrays-push_some slots words = same_arrays _ _ (λ q.
    get-slot_arrays (slots ++ Some words ∷ []) q ∙ elim (cases_eq q (length slots)) as (λ _.
    words_at (slice_get (slots ++ Some words ∷ []) q) ≡ map.get (map.insert (slot_arrays slots) (length slots) words.items) q) [
      | inl e ↦ ap (λ j. words_at (slice_get (slots ++ Some words ∷ []) j)) e ∙ ap words_at (get_push_end slots (Some words))
          ∙ sym (ap (map.get (map.insert (slot_arrays slots) (length slots) words.items)) e
          ∙ get-insert_same (slot_arrays slots) (length slots) words.items)
      | inr ne ↦ ap words_at (get_push_other slots (Some words) q ne)
          ∙ sym (get-insert_other (slot_arrays slots) (length slots) words.items q ne ∙ get-slot_arrays slots q)
    ])

-- the array of a slot that was read
pub get-slot_read : (slots : List (Option (Vec ℕ))) (k : ℕ) (slot : Option (Vec ℕ)) → k < length slots → slot ≡ get_or slots k slot →
    map.get (slot_arrays slots) k ≡ words_of slot
get-slot_read slots k slot within is =
    get-slot_arrays slots k ∙ ap words_at (slice_get-get_or slots k slot within) ∙ ap words_of (sym is)

pub get-slot_past : (slots : List (Option (Vec ℕ))) (k : ℕ) → length slots ≤ k → map.get (slot_arrays slots) k ≡ None
get-slot_past slots k past = get-slot_arrays slots k ∙ ap words_at (slice_get_past slots k past)

-- an array that is there has a slot
pub slot_of_array : (slots : List (Option (Vec ℕ))) (k : ℕ) (ws : List ℕ) → map.get (slot_arrays slots) k ≡ Some ws → k < length slots
slot_of_array slots k ws e = elim (cases_lt k (length slots)) as (λ _. k < length slots) [
  | inl within ↦ within
  | inr past ↦ absurd (let n : Some ws ≡ None = sym e ∙ get-slot_past slots k past in cc)
]

pub array-slot_read : (slots : List (Option (Vec ℕ))) (k : ℕ) (slot : Option (Vec ℕ)) (words : Vec ℕ) → k < length slots →
    slot ≡ get_or slots k slot → slot ≡ Some words → array_at (slot_arrays slots) k ≡ words.items
array-slot_read slots k slot words within is e =
    ap (λ o. unwrap_or o []) (get-slot_read slots k slot within is ∙ ap words_of e)

pub slot_arrays-one : slot_arrays (None ∷ []) ≡ map.empty
unfolding slot_arrays
slot_arrays-one = refl

-- the words of array 0
pub at_zero : (z : List ℕ) (n : ℕ) (slots : List (Option (Vec ℕ))) → map.get (arrays_of z n slots) 0 ≡ Some z
at_zero z n slots = get-insert_same (map.insert (slot_arrays slots) n z) 0 z

pub words_at_zero : (z : List ℕ) (n : ℕ) (slots : List (Option (Vec ℕ))) → array_at (arrays_of z n slots) 0 ≡ z
words_at_zero z n slots = ap (λ o. unwrap_or o []) (at_zero z n slots)

-- the words of the array that it names
pub at_named : (z : List ℕ) (n : ℕ) (slots : List (Option (Vec ℕ))) → map.get (arrays_of z n slots) n ≡ Some z
at_named z n slots = elim (cases_eq n 0) as (λ _. map.get (arrays_of z n slots) n ≡ Some z) [
  | inl e ↦ ap (map.get (arrays_of z n slots)) e ∙ at_zero z n slots
  | inr ne ↦ get-insert_other (map.insert (slot_arrays slots) n z) 0 z n ne ∙ get-insert_same (slot_arrays slots) n z
]

-- another array
pub at_other : (z : List ℕ) (n : ℕ) (slots : List (Option (Vec ℕ))) (id : ℕ) → 1 ≤ id → id ≢ n → map.get (arrays_of z n slots) id ≡ map.get (slot_arrays slots) id
at_other z n slots id positive ne =
    get-insert_other (map.insert (slot_arrays slots) n z) 0 z id (λ e. omega (arith, e, positive)) ∙ get-insert_other (slot_arrays slots) n z id ne

pub words_at_other : (z : List ℕ) (n : ℕ) (slots : List (Option (Vec ℕ))) (id : ℕ) → 1 ≤ id → id ≢ n → array_at (arrays_of z n slots) id ≡ array_at (slot_arrays slots) id
words_at_other z n slots id positive ne = ap (λ o. unwrap_or o []) (at_other z n slots id positive ne)

-- with no array named
pub unnamed : (z : List ℕ) (slots : List (Option (Vec ℕ))) → arrays_of z 0 slots ≡ map.insert (slot_arrays slots) 0 z
unnamed z slots = insert_again (slot_arrays slots) 0 z z

-- array 0 gets other words of its own
pub zero_put : (z words : List ℕ) (slots : List (Option (Vec ℕ))) → arrays_of words 0 slots ≡ map.insert (arrays_of z 0 slots) 0 words
zero_put z words slots =
    unnamed words slots ∙ sym (insert_again (slot_arrays slots) 0 z words) ∙ ap (λ arrays. map.insert arrays 0 words) (sym (unnamed z slots))

-- another array gets other words
pub other_put : (z words : List ℕ) (n : ℕ) (old new : List (Option (Vec ℕ))) (id : ℕ) → 1 ≤ id → id ≢ n →
    slot_arrays new ≡ map.insert (slot_arrays old) id words → arrays_of z n new ≡ map.insert (arrays_of z n old) id words
other_put z words n old new id positive ne e =
    ap (λ arrays. map.insert (map.insert arrays n z) 0 z) e
    ∙ ap (λ arrays. map.insert arrays 0 z) (insert_swap (slot_arrays old) id n words z ne)
    ∙ insert_swap (map.insert (slot_arrays old) n z) id 0 words z (λ same. omega (arith, same, positive))

-- another array is removed
pub other_removed : (z : List ℕ) (n : ℕ) (old new : List (Option (Vec ℕ))) (id : ℕ) → 1 ≤ id → id ≢ n →
    slot_arrays new ≡ map.remove (slot_arrays old) id → arrays_of z n new ≡ map.remove (arrays_of z n old) id
other_removed z n old new id positive ne e =
    ap (λ arrays. map.insert (map.insert arrays n z) 0 z) e
    ∙ ap (λ arrays. map.insert arrays 0 z) (sym (remove_insert_swap (slot_arrays old) n id z (λ same. ne (sym same))))
    ∙ sym (remove_insert_swap (map.insert (slot_arrays old) n z) 0 id z (λ same. omega (arith, same, positive)))

-- the array that array 0 names is removed, and array 0 keeps the words
pub named_removed : (z : List ℕ) (n : ℕ) (slots : List (Option (Vec ℕ))) → 1 ≤ n → map.get (slot_arrays slots) n ≡ None →
    arrays_of z 0 slots ≡ map.remove (arrays_of z n slots) n
named_removed z n slots positive empty =
    unnamed z slots
    ∙ ap (λ arrays. map.insert arrays 0 z) (sym (remove_inserted (slot_arrays slots) n z empty))
    ∙ sym (remove_insert_swap (map.insert (slot_arrays slots) n z) 0 n z (λ same. omega (arith, same, positive)))

-- array 0 has words of its own, and the array that it named has them in its slot
pub parted : (z words : List ℕ) (n : ℕ) (old new : List (Option (Vec ℕ))) → words ≡ z →
    slot_arrays new ≡ map.insert (slot_arrays old) n z → arrays_of words 0 new ≡ arrays_of z n old
parted z words n old new same e =
    ap (λ ws. arrays_of ws 0 new) same ∙ unnamed z new ∙ ap (λ arrays. map.insert arrays 0 z) e

-- array 0 names another array, where it named none
pub lent_first : (z words : List ℕ) (id : ℕ) (old new : List (Option (Vec ℕ))) → map.get (slot_arrays old) id ≡ Some words →
    slot_arrays new ≡ map.remove (slot_arrays old) id → arrays_of words id new ≡ map.insert (arrays_of z 0 old) 0 words
lent_first z words id old new there e =
    ap (λ arrays. map.insert (map.insert arrays id words) 0 words) e
    ∙ ap (λ arrays. map.insert arrays 0 words) (insert_removed (slot_arrays old) id words ∙ insert_same (slot_arrays old) id words there)
    ∙ sym (insert_again (slot_arrays old) 0 z words) ∙ ap (λ arrays. map.insert arrays 0 words) (sym (unnamed z old))

-- array 0 names another array, where it named one
pub lent_next : (z words : List ℕ) (n id : ℕ) (old new : List (Option (Vec ℕ))) → id ≢ n → map.get (slot_arrays old) id ≡ Some words →
    slot_arrays new ≡ map.insert (map.remove (slot_arrays old) id) n z → arrays_of words id new ≡ map.insert (arrays_of z n old) 0 words
lent_next z words n id old new ne there e =
    ap (λ arrays. map.insert (map.insert arrays id words) 0 words) e
    ∙ ap (λ arrays. map.insert arrays 0 words)
    (insert_swap (map.remove (slot_arrays old) id) n id z words (λ same. ne (sym same))
    ∙ ap (λ arrays. map.insert arrays n z) (insert_removed (slot_arrays old) id words ∙ insert_same (slot_arrays old) id words there))
    ∙ sym (insert_again (map.insert (slot_arrays old) n z) 0 z words)

pub same_length : {X : Type 0} (v w : Vec X) → vec_len v ≡ vec_len w → length v.items ≡ length w.items
same_length v w e = sym v.ok.0 ∙ e ∙ w.ok.0

-- one more slot without an array
pub arrays-push_none : (slots : List (Option (Vec ℕ))) → slot_arrays (slots ++ None ∷ []) ≡ slot_arrays slots
arrays-push_none slots = same_arrays _ _ (λ q.
    get-slot_arrays (slots ++ None ∷ []) q ∙ elim (cases_eq q (length slots)) as (λ _.
    words_at (slice_get (slots ++ None ∷ []) q) ≡ map.get (slot_arrays slots) q) [
      | inl e ↦ ap (λ j. words_at (slice_get (slots ++ None ∷ []) j)) e ∙ ap words_at (get_push_end slots None)
          ∙ sym (get-slot_past slots q (omega (arith, e)))
      | inr ne ↦ ap words_at (get_push_other slots None q ne) ∙ sym (get-slot_arrays slots q)
    ])

pub slot_arrays-none : slot_arrays [] ≡ map.empty
unfolding slot_arrays
slot_arrays-none = refl
