-- How many words and arrays there are after a change.
use Rattle.std.proofs.Common.{◌≡◌, ◌≢◌, ℕ, ◌+◌, ◌≤◌, List, [], ◌∷◌, length, true, false, cond, Some, None, refl, sym, ap, ◌∙◌, inl, inr, arith}
use Rattle.std.specs.Ordering.{nat_cmp, is_eq, eq_by_cmp}
use Rattle.std.specs.Cmp.{nat_cmp_total, tied_itself}
use Rattle.std.specs.declared.cmp.Ordering.{Ordering}
use Rattle.std.specs.declared.cmp.Ordering.TheVariants.{Less, Equal, Greater}
use Rattle.std.specs.FinMap as map
use Rattle.std.specs.FinMap.Entries.{by_order}
use Rattle.std.proofs.lemmas.Bool.{cases_eq, cond-true, cond-false}
use Rattle.um_word.specs.State.{Arrays, words_in, live_words}
use Rattle.um_word.proofs.Arrays.{get-insert_same, get-insert_other, len-insert_new}

pub same_arrays : (m n : Arrays) → ((q : ℕ) → map.get m q ≡ map.get n q) → m ≡ n
same_arrays m n h = map.same_map nat_cmp_total map.nat_cmp-IsAntisymmetric m n h

-- two arrays that differ at most at one identifier
by_key : (m n : Arrays) (k : ℕ) → map.get m k ≡ map.get n k → ((q : ℕ) → q ≢ k → map.get m q ≡ map.get n q) → m ≡ n
by_key m n k here there = same_arrays m n (λ q. elim (cases_eq q k) as (λ _. map.get m q ≡ map.get n q) [
  | inl e ↦ ap (map.get m) e ∙ here ∙ ap (map.get n) (sym e)
  | inr ne ↦ there q ne
])

ties : (k : ℕ) → eq_by_cmp nat_cmp k k ≡ true
ties k = ap is_eq (tied_itself nat_cmp_total k)

is_false : (r : Ordering) → (r ≡ Equal → ⊥) → is_eq r ≡ false
is_false Less h = refl
is_false Equal h = absurd (h refl)
is_false Greater h = refl

pub apart : (q k : ℕ) → q ≢ k → eq_by_cmp nat_cmp q k ≡ false
apart q k ne = is_false (nat_cmp q k) (λ e. ne (map.nat_cmp-IsAntisymmetric q k e))

pub get-remove_same : (m : Arrays) (k : ℕ) → map.get (map.remove m k) k ≡ None
get-remove_same m k = map.get-remove nat_cmp_total m k k ∙ cond-true _ None (map.get m k) (ties k)

pub get-remove_other : (m : Arrays) (k q : ℕ) → q ≢ k → map.get (map.remove m k) q ≡ map.get m q
get-remove_other m k q ne = map.get-remove nat_cmp_total m k q ∙ cond-false _ None (map.get m q) (apart q k ne)

-- what was there already
pub insert_same : (m : Arrays) (k : ℕ) (vs : List ℕ) → map.get m k ≡ Some vs → map.insert m k vs ≡ m
insert_same m k vs e = by_key _ _ k (get-insert_same m k vs ∙ sym e) (get-insert_other m k vs)

-- what was not there
pub remove_none : (m : Arrays) (k : ℕ) → map.get m k ≡ None → map.remove m k ≡ m
remove_none m k e = by_key _ _ k (get-remove_same m k ∙ sym e) (get-remove_other m k)

pub insert_again : (m : Arrays) (k : ℕ) (vs ws : List ℕ) → map.insert (map.insert m k vs) k ws ≡ map.insert m k ws
insert_again m k vs ws =
    by_key _ _ k (get-insert_same (map.insert m k vs) k ws ∙ sym (get-insert_same m k ws))
    (λ q ne. get-insert_other (map.insert m k vs) k ws q ne ∙ get-insert_other m k vs q ne ∙ sym (get-insert_other m k ws q ne))

pub insert_removed : (m : Arrays) (k : ℕ) (ws : List ℕ) → map.insert (map.remove m k) k ws ≡ map.insert m k ws
insert_removed m k ws =
    by_key _ _ k (get-insert_same (map.remove m k) k ws ∙ sym (get-insert_same m k ws))
    (λ q ne. get-insert_other (map.remove m k) k ws q ne ∙ get-remove_other m k q ne ∙ sym (get-insert_other m k ws q ne))

pub remove_inserted : (m : Arrays) (k : ℕ) (ws : List ℕ) → map.get m k ≡ None → map.remove (map.insert m k ws) k ≡ m
remove_inserted m k ws none =
    by_key _ _ k (get-remove_same (map.insert m k ws) k ∙ sym none)
    (λ q ne. get-remove_other (map.insert m k ws) k q ne ∙ get-insert_other m k ws q ne)

pub insert_swap : (m : Arrays) (k l : ℕ) (ws vs : List ℕ) → k ≢ l → map.insert (map.insert m k ws) l vs ≡ map.insert (map.insert m l vs) k ws
insert_swap m k l ws vs ne =
    by_key _ _ k
    (get-insert_other (map.insert m k ws) l vs k ne ∙ get-insert_same m k ws ∙ sym (get-insert_same (map.insert m l vs) k ws))
    (λ q other. elim (cases_eq q l) as (λ _. map.get (map.insert (map.insert m k ws) l vs) q ≡ map.get (map.insert (map.insert m l vs) k ws) q) [
      | inl e ↦ ap (map.get (map.insert (map.insert m k ws) l vs)) e ∙ get-insert_same (map.insert m k ws) l vs
          ∙ sym (get-insert_other (map.insert m l vs) k ws q other ∙ ap (map.get (map.insert m l vs)) e ∙ get-insert_same m l vs)
      | inr far ↦ get-insert_other (map.insert m k ws) l vs q far ∙ get-insert_other m k ws q other
          ∙ sym (get-insert_other (map.insert m l vs) k ws q other ∙ get-insert_other m l vs q far)
    ])

pub remove_insert_swap : (m : Arrays) (k l : ℕ) (ws : List ℕ) → k ≢ l → map.remove (map.insert m k ws) l ≡ map.insert (map.remove m l) k ws
remove_insert_swap m k l ws ne =
    by_key _ _ k
    (get-remove_other (map.insert m k ws) l k ne ∙ get-insert_same m k ws ∙ sym (get-insert_same (map.remove m l) k ws))
    (λ q other. elim (cases_eq q l) as (λ _. map.get (map.remove (map.insert m k ws) l) q ≡ map.get (map.insert (map.remove m l) k ws) q) [
      | inl e ↦ ap (map.get (map.remove (map.insert m k ws) l)) e ∙ get-remove_same (map.insert m k ws) l
          ∙ sym (get-insert_other (map.remove m l) k ws q other ∙ ap (map.get (map.remove m l)) e ∙ get-remove_same m l)
      | inr far ↦ get-remove_other (map.insert m k ws) l q far ∙ get-insert_other m k ws q other
          ∙ sym (get-insert_other (map.remove m l) k ws q other ∙ get-remove_other m l q far)
    ])

-- one more list of words among the entries
put_case : (k : ℕ) (v : List ℕ) (e : ℕ × List ℕ) (es : List (ℕ × List ℕ)) (r : Ordering) →
    cond (is_eq r) (Some e.1) (map.find nat_cmp k es) ≡ None →
    (map.find nat_cmp k es ≡ None → words_in (map.put nat_cmp k v es) ≡ length v + words_in es) →
    words_in (by_order r ((k, v) ∷ e ∷ es) ((e.0, v) ∷ es) (e ∷ map.put nat_cmp k v es)) ≡ length v + (length e.1 + words_in es)
put_case k v e es Less none more = refl
put_case k v e es Equal none more = cc
put_case k v e es Greater none more = ap (λ n. length e.1 + n) (more none) ∙ omega arith

words_in-put : (k : ℕ) (v : List ℕ) (es : List (ℕ × List ℕ)) → map.find nat_cmp k es ≡ None → words_in (map.put nat_cmp k v es) ≡ length v + words_in es
words_in-put k v [] none = refl
words_in-put k v (e ∷ es) none = put_case k v e es (nat_cmp k e.0) none (words_in-put k v es)

no_entries : (es : List (ℕ × List ℕ)) → length es ≡ 0 → words_in es ≡ 0
no_entries [] e = refl
no_entries (x ∷ es) e = absurd (omega (arith, e))

pub live_words-empty : live_words map.empty ≡ 0
live_words-empty = no_entries (map.entries map.empty) (sym (map.len-entries map.empty) ∙ map.len-empty nat_cmp (List ℕ))

pub live_words-insert_new : (m : Arrays) (k : ℕ) (ws : List ℕ) → map.get m k ≡ None → live_words (map.insert m k ws) ≡ live_words m + length ws
live_words-insert_new m k ws none =
    ap words_in (map.entries-insert nat_cmp_total m k ws)
    ∙ words_in-put k ws (map.entries m) (sym (map.get-entries m k) ∙ none)
    ∙ omega arith

pub live_words-remove : (m : Arrays) (k : ℕ) (vs : List ℕ) → map.get m k ≡ Some vs → live_words (map.remove m k) + length vs ≡ live_words m
live_words-remove m k vs e =
    sym (live_words-insert_new (map.remove m k) k vs (get-remove_same m k))
    ∙ ap live_words (insert_removed m k vs ∙ insert_same m k vs e)

pub live_words-insert_old : (m : Arrays) (k : ℕ) (vs ws : List ℕ) → map.get m k ≡ Some vs → live_words (map.insert m k ws) + length vs ≡ live_words m + length ws
live_words-insert_old m k vs ws e =
    let new : live_words (map.insert m k ws) ≡ live_words (map.remove m k) + length ws =
    ap live_words (sym (insert_removed m k ws)) ∙ live_words-insert_new (map.remove m k) k ws (get-remove_same m k) in
    let old = live_words-remove m k vs e in
    omega (arith, new, old)

pub length_within_live : (m : Arrays) (k : ℕ) (vs : List ℕ) → map.get m k ≡ Some vs → length vs ≤ live_words m
length_within_live m k vs e = let old = live_words-remove m k vs e in omega (arith, old)

pub len-remove_there : (m : Arrays) (k : ℕ) (vs : List ℕ) → map.get m k ≡ Some vs → map.len (map.remove m k) + 1 ≡ map.len m
len-remove_there m k vs e =
    sym (len-insert_new (map.remove m k) k vs (get-remove_same m k)) ∙ ap map.len (insert_removed m k vs ∙ insert_same m k vs e)

pub len_positive : (m : Arrays) (k : ℕ) (vs : List ℕ) → map.get m k ≡ Some vs → 1 ≤ map.len m
len_positive m k vs e = let old = len-remove_there m k vs e in omega (arith, old)
