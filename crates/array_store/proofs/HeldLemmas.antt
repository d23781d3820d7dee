-- What is true of every store stays true through each call.
use Rattle.std.proofs.Common.{◌≡◌, ◌≢◌, ℕ, ◌+◌, ◌-◌, ◌^◌, ◌<◌, ◌≤◌, List, [], length, set, replicate, Option, Some, None, refl, sym, ap, subst, ◌∙◌, inl, inr, arith, get_or-set_same, get_or-set_other}
use Rattle.std.specs.Prelude.{slice_index, unwrap_or}
use Rattle.std.specs.FinMap as map
use Rattle.std.proofs.lemmas.Bool.{cases_eq, cases_lt}
use Rattle.std.proofs.lemmas.Option.{get_or_from_slice_get}
use Rattle.std.proofs.lemmas.List.{get_or-replicate, get_or_past, set_past, length-set, length-replicate}
use Rattle.umix_base.specs.declared.limits.Limits.{Limits}
use Rattle.um_word.specs.State.{Arrays, array_at, live_words}
use Rattle.um_word.specs.Rule.{IsOrderly, next_identifier, taken, handed_back}
use Rattle.um_word.proofs.Arrays.{get-insert_same, get-insert_other}
use Rattle.um_word.proofs.Live.{get-remove_same, get-remove_other, length_within_live}
use Rattle.um_word.proofs.Orderly.{replaced, given_back, takes, none_made_is_orderly}
use Rattle.array_store.specs.StoreView.{most_live_arrays, most_live_words, StoreView, IsStore, HasArray, HasWord, new_held}
use Rattle.array_store.specs.Refusals.{FitsAllocation, words_loaded}

-- each word has 32 bits
abbrev pub Fit : List ℕ → Type 0
Fit words = (at : ℕ) → slice_index words at < 2 ^ 32

abbrev pub AllFit : Arrays → Type 0
AllFit arrays = (id : ℕ) → Fit (array_at arrays id)

pub fit_none : Fit []
fit_none at = omega arith

pub fit-replicate : (n : ℕ) → Fit (replicate n 0)
fit-replicate n at = elim (cases_lt at n) as (λ _. slice_index (replicate n 0) at < 2 ^ 32) [
  | inl within ↦ let e = get_or-replicate {A = ℕ} n at 0 0 within in omega (arith, e)
  | inr past ↦ let e = get_or_past {X = ℕ} (replicate n 0) at 0 (let l = length-replicate {A = ℕ} n 0 in omega (arith, l, past)) in omega (arith, e)
]

pub fit-set : (words : List ℕ) (k word : ℕ) → Fit words → word < 2 ^ 32 → Fit (set words k word)
fit-set words k word fit small at = elim (cases_eq at k) as (λ _. slice_index (set words k word) at < 2 ^ 32) [
  | inl same ↦ elim (cases_lt k (length words)) as (λ _. slice_index (set words k word) at < 2 ^ 32) [
    | inl within ↦ let e : slice_index (set words k word) at ≡ word = ap (slice_index (set words k word)) same ∙ get_or-set_same words k word 0 within in omega (arith, e, small)
    | inr past ↦ subst (λ ws. slice_index ws at < 2 ^ 32) (sym (set_past words k word past)) (fit at)
  ]
  | inr ne ↦ let e = get_or-set_other words k at word 0 ne in let f = fit at in omega (arith, e, f)
]

pub fit-insert : (arrays : Arrays) (k : ℕ) (words : List ℕ) → AllFit arrays → Fit words → AllFit (map.insert arrays k words)
fit-insert arrays k words all fit id = elim (cases_eq id k) as (λ _. Fit (array_at (map.insert arrays k words) id)) [
  | inl same ↦ subst Fit (sym (ap (λ o. unwrap_or o []) (ap (map.get (map.insert arrays k words)) same ∙ get-insert_same arrays k words))) fit
  | inr ne ↦ subst Fit (sym (ap (λ o. unwrap_or o []) (get-insert_other arrays k words id ne))) (all id)
]

fit-remove : (arrays : Arrays) (k : ℕ) → AllFit arrays → AllFit (map.remove arrays k)
fit-remove arrays k all id = elim (cases_eq id k) as (λ _. Fit (array_at (map.remove arrays k) id)) [
  | inl same ↦ subst Fit (sym (ap (λ o. unwrap_or o []) (ap (map.get (map.remove arrays k)) same ∙ get-remove_same arrays k))) fit_none
  | inr ne ↦ subst Fit (sym (ap (λ o. unwrap_or o []) (get-remove_other arrays k id ne))) (all id)
]

-- no array is longer than all words
short_by : (o : Option (List ℕ)) (n : ℕ) → ((ws : List ℕ) → o ≡ Some ws → length ws ≤ n) → length (unwrap_or o []) ≤ n
short_by None n h = omega arith
short_by (Some ws) n h = h ws refl

pub at_most_live : (arrays : Arrays) (id : ℕ) → length (array_at arrays id) ≤ live_words arrays
at_most_live arrays id = short_by (map.get arrays id) (live_words arrays) (length_within_live arrays id)

-- an array that is there, by its words
pub there_as : (o : Option (List ℕ)) (ws : List ℕ) → o ≡ Some ws → o ≡ Some (unwrap_or o [])
there_as o ws e = e ∙ ap Some (sym (ap (λ p. unwrap_or p []) e))

-- an array with a word is there
pub there_with_word : (o : Option (List ℕ)) (at : ℕ) → at < length (unwrap_or o []) → o ≡ Some (unwrap_or o [])
there_with_word None at h = absurd (omega (arith, h))
there_with_word (Some ws) at h = refl

still_there : (arrays : Arrays) (k : ℕ) (words : List ℕ) → map.get arrays 0 ≡ Some (array_at arrays 0) →
    map.get (map.insert arrays k words) 0 ≡ Some (array_at (map.insert arrays k words) 0)
still_there arrays k words zero = elim (cases_eq 0 k) as (λ _. map.get (map.insert arrays k words) 0 ≡ Some (array_at (map.insert arrays k words) 0)) [
  | inl same ↦ there_as _ words (ap (map.get (map.insert arrays k words)) same ∙ get-insert_same arrays k words)
  | inr ne ↦ there_as _ (array_at arrays 0) (get-insert_other arrays k words 0 ne ∙ zero)
]

pub held_from : (h : StoreView) → HasArray h 0 → IsOrderly h.limits h.identifiers h.arrays → h.limits.arrays ≤ most_live_arrays →
    h.limits.words ≤ most_live_words → AllFit h.arrays → IsStore h
held_from h zero orderly arrays words fit = record {
  zero_there = zero;
  orderly = orderly;
  arrays_limit = arrays;
  words_limit = words;
  short = λ id. (let a = at_most_live h.arrays id in let b = orderly.words in omega (arith, a, b, words));
  platters = fit;
}

pub held-new : (zero : List ℕ) (limits : Limits) → limits.arrays ≤ most_live_arrays → limits.words ≤ most_live_words →
    length zero ≤ limits.words → Fit zero → IsStore (new_held zero limits)
held-new zero limits arrays words fits fit =
    held_from (new_held zero limits) (there_as _ zero (get-insert_same map.empty 0 zero)) (none_made_is_orderly limits zero fits) arrays words
    (fit-insert map.empty 0 zero (λ id. subst Fit (sym (ap (λ o. unwrap_or o []) (map.get-empty _ id))) fit_none) fit)

-- an array gets other words
held-put : (h : StoreView) (id : ℕ) (words : List ℕ) → IsStore h → HasArray h id →
    live_words h.arrays - length (array_at h.arrays id) + length words ≤ h.limits.words → Fit words →
    IsStore (record h { arrays = map.insert h.arrays id words })
held-put h id words held there fits fit =
    held_from (record h { arrays = map.insert h.arrays id words }) (still_there h.arrays id words held.zero_there)
    (replaced h.limits h.identifiers h.arrays id (array_at h.arrays id) words held.orderly there fits)
    held.arrays_limit held.words_limit (fit-insert h.arrays id words held.platters fit)

pub held-amend : (h : StoreView) (id at word : ℕ) → IsStore h → HasArray h id → word < 2 ^ 32 →
    IsStore (record h { arrays = map.insert h.arrays id (set (array_at h.arrays id) at word) })
held-amend h id at word held there small =
    held-put h id (set (array_at h.arrays id) at word) held there
    (let a = at_most_live h.arrays id in let b = held.orderly.words in let c = length-set (array_at h.arrays id) at word in
    omega (arith, a, b, c))
    (fit-set (array_at h.arrays id) at word (held.platters id) small)

pub held-load : (h : StoreView) (id : ℕ) → IsStore h → words_loaded h id ≤ h.limits.words →
    IsStore (record h { arrays = map.insert h.arrays 0 (array_at h.arrays id) })
held-load h id held fits = held-put h 0 (array_at h.arrays id) held held.zero_there fits (held.platters id)

pub held-allocate : (h : StoreView) (size : ℕ) → IsStore h → FitsAllocation h size →
    IsStore (record h { arrays = map.insert h.arrays (next_identifier h.identifiers) (replicate size 0); identifiers = taken h.identifiers })
held-allocate h size held fits =
    let id = next_identifier h.identifiers in
    let next = takes h.limits h.identifiers h.arrays held.orderly in
    held_from (record h { arrays = map.insert h.arrays id (replicate size 0); identifiers = taken h.identifiers })
    (still_there h.arrays id (replicate size 0) held.zero_there)
    (next.kept (replicate size 0) fits.0 (let l = length-replicate {A = ℕ} size 0 in let f = fits.1 in omega (arith, l, f)))
    held.arrays_limit held.words_limit (fit-insert h.arrays id (replicate size 0) held.platters (fit-replicate size))

pub held-abandon : (h : StoreView) (id : ℕ) → IsStore h → 1 ≤ id → HasArray h id →
    IsStore (record h { arrays = map.remove h.arrays id; identifiers = handed_back h.identifiers id })
held-abandon h id held positive there =
    let ne : 0 ≢ id = λ e. omega (arith, e, positive) in
    held_from (record h { arrays = map.remove h.arrays id; identifiers = handed_back h.identifiers id })
    (there_as _ (array_at h.arrays 0) (get-remove_other h.arrays id 0 ne ∙ held.zero_there))
    (given_back h.limits h.identifiers h.arrays id (array_at h.arrays id) held.orderly positive there)
    held.arrays_limit held.words_limit (fit-remove h.arrays id held.platters)

-- a word that is there is the one at its offset
pub word_there : (h : StoreView) (id at word : ℕ) → HasWord h id at word → HasWord h id at (slice_index (array_at h.arrays id) at)
word_there h id at word found =
    (found.0, found.1 ∙ ap Some (sym (get_or_from_slice_get (array_at h.arrays id) at word 0 found.1)))

-- array 0 in its own place
pub loaded_zero : (h : StoreView) (id : ℕ) → IsStore h → id ≡ 0 → words_loaded h id ≤ h.limits.words
loaded_zero h id held e =
    let same : length (array_at h.arrays id) ≡ length (array_at h.arrays 0) = ap (λ k. length (array_at h.arrays k)) e in
    let most = at_most_live h.arrays 0 in
    let words = held.orderly.words in
    omega (arith, same, most, words)
