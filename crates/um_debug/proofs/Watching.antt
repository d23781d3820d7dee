-- The words of the watches, and what changes.
use Rattle.std.proofs.Common.{◌≡◌, ◌≢◌, ◌⊎◌, ℕ, suc, ◌+◌, ◌<◌, ◌≤◌, eqb, Bool, true, false, not, cond, List, [], ◌∷◌, length, drop, get_or, set, add-one, drop-cons, Option, Some, None, inl, inr, refl, sym, ap, ◌∙◌, arith}
use Rattle.std.specs.Prelude.{slice_get}
use Rattle.std.specs.List.{list_any}
use Rattle.std.specs.Option.{option_eq}
use Rattle.std.proofs.lemmas.Bool.{cases_lt, eqb-true, eq-eqb}
use Rattle.std.proofs.lemmas.Bool.Decides.{nat_tests}
use Rattle.std.proofs.lemmas.List.{drop_all, length-set}
use Rattle.std.proofs.lemmas.Option.{slice_get_read, get_or_from_slice_get, slice_get_within}
use Rattle.array_store.proofs.SlotLemmas.{get_set_same, get_set_other}
use Rattle.um_word.specs.State.{Arrays}
use Rattle.um_debug.specs.declared.command.WordPlace.{WordPlace}
use Rattle.um_debug.specs.declared.course.Came.{Came}
use Rattle.um_debug.specs.declared.course.Came.TheVariants as came
use Rattle.um_debug.specs.Course.{Points, is_same_word, first_change, by_change, broke, seen_at}
use Rattle.um_debug.specs.Replies.{word_at}
use Rattle.um_debug.specs.inner.Calls.{AreWords}

eqb_turned : (a b : ℕ) → eqb a b ≡ eqb b a
eqb_turned a b = grind (arith, nat_tests)

same_word : (old new : Option ℕ) → is_same_word old new ≡ option_eq eqb new old
same_word None None = refl
same_word None (Some new) = refl
same_word (Some old) None = refl
same_word (Some old) (Some new) = eqb_turned old new

not_not : (b differs : Bool) → differs ≡ not b → b ≡ not differs
not_not true differs is = sym (ap not is)
not_not false differs is = sym (ap not is)

-- the words of these places are these, as far as the first k of them go
abbrev pub AreFirstWords : Arrays → List WordPlace → List (Option ℕ) → ℕ → Type 0
AreFirstWords arrays places words k =
    (j : ℕ) (place : WordPlace) → j < k → slice_get places j ≡ Some place → slice_get words j ≡ Some (word_at arrays place)

module _ (arrays : Arrays) (places : List WordPlace) (words : List (Option ℕ)) (k : ℕ) (place : WordPlace) (word : Option ℕ) where
  pub one_word_more : k < length places → place ≡ get_or places k place → word ≡ word_at arrays place → k < length words →
      AreFirstWords arrays places words k → AreFirstWords arrays places (set words k word) (k + 1)
  one_word_more lt at reads room are j other below here =
      elim (cases_lt j k) [
        | inl less ↦
            let apart : j ≢ k = omega (arith, less) in
            get_set_other words k j word apart ∙ are j other less here
        | inr more ↦
            let same : j ≡ k = omega (arith, more, below) in
            let there : slice_get places k ≡ Some place = slice_get_read places (length places) k place refl lt at in
            let both : Some place ≡ Some other = sym there ∙ ap (slice_get places) (sym same) ∙ here in
            let alike : place ≡ other = cc in
            ap (slice_get (set words k word)) same ∙ get_set_same words k word room ∙ ap (λ (w : Option ℕ). Some w) (reads ∙ ap (word_at arrays) alike)
      ]

pub all_words : (arrays : Arrays) (places : List WordPlace) (words : List (Option ℕ)) (k : ℕ) → length places ≤ k → AreFirstWords arrays places words k →
    AreWords arrays places words
all_words arrays places words k all are j place here = are j place (let lt = slice_get_within places j place here in omega (arith, lt, all)) here

-- what a change looks like from its place on
first_at : (before after : Arrays) (place : WordPlace) (places : List WordPlace) (same : Bool) → is_same_word (word_at before place) (word_at after place) ≡ same →
    first_change before after (place ∷ places) ≡ cond same (first_change before after places) (Some place)
first_at before after place places same is = ap (λ (b : Bool). cond b (first_change before after places) (Some place)) is

module _ (before after : Arrays) (places : List WordPlace) (words : List (Option ℕ)) (k : ℕ) (place : WordPlace) (word : Option ℕ) (differs : Bool)
    (lt : k < length places) (at : place ≡ get_or places k place) (are : AreWords before places words) (reads : word ≡ word_at after place)
    (tells : differs ≡ not (option_eq eqb word (get_or words k None))) (so_far : first_change before after places ≡ first_change before after (drop k places)) where
  word_was : get_or words k None ≡ word_at before place
  word_was = get_or_from_slice_get words k (word_at before place) None (are k place (slice_get_read places (length places) k place refl lt at))

  same_is : is_same_word (word_at before place) (word_at after place) ≡ not differs
  same_is =
      same_word (word_at before place) (word_at after place)
      ∙ ap (λ (new : Option ℕ). option_eq eqb new (word_at before place)) (sym reads)
      ∙ ap (λ (old : Option ℕ). option_eq eqb word old) (sym word_was)
      ∙ not_not (option_eq eqb word (get_or words k None)) differs tells

  rest_is : drop k places ≡ place ∷ drop (k + 1) places
  rest_is = drop-cons places k place lt ∙ ap (λ (p : WordPlace). p ∷ drop (suc k) places) (sym at) ∙ ap (λ (n : ℕ). place ∷ drop n places) (sym (add-one k))

  here_is : first_change before after places ≡ cond (not differs) (first_change before after (drop (k + 1) places)) (Some place)
  here_is = so_far ∙ ap (first_change before after) rest_is ∙ first_at before after place (drop (k + 1) places) (not differs) same_is

  pub goes_on : differs ≡ false → first_change before after places ≡ first_change before after (drop (k + 1) places)
  goes_on alike = here_is ∙ ap (λ (b : Bool). cond (not b) (first_change before after (drop (k + 1) places)) (Some place)) alike

  pub change_seen : (broken : Option Came) → differs ≡ true →
      Some (came.Watched place (get_or words k None) word) ≡ by_change before after (first_change before after places) broken
  change_seen broken other =
      ap (λ (old : Option ℕ). Some (came.Watched place old word)) word_was
      ∙ ap (λ (new : Option ℕ). Some (came.Watched place (word_at before place) new)) reads
      ∙ sym (ap (λ (found : Option WordPlace). by_change before after found broken)
      (here_is ∙ ap (λ (b : Bool). cond (not b) (first_change before after (drop (k + 1) places)) (Some place)) other))

-- where no word changed, the breakpoints are looked at
pub none_changed : (points : Points) (before after : Arrays) (finger k at : ℕ) (seen : List ℕ) (found : Bool) → length points.watches ≤ k →
    first_change before after points.watches ≡ first_change before after (drop k points.watches) → at ≡ finger → seen ≡ points.breakpoints →
    found ≡ list_any (λ offset. eqb offset at) seen → cond found (Some (came.Broke at)) None ≡ seen_at points before after finger
none_changed points before after finger k at seen found all so_far here same any =
    let none : first_change before after points.watches ≡ None = so_far ∙ ap (first_change before after) (drop_all k points.watches all) in
    let is : found ≡ list_any (λ offset. eqb offset finger) points.breakpoints =
    any ∙ ap (λ (n : ℕ). list_any (λ offset. eqb offset n) seen) here ∙ ap (list_any (λ offset. eqb offset finger)) same in
    ap (λ (n : ℕ). cond found (Some (came.Broke n)) None) here
    ∙ ap (λ (b : Bool). cond b (Some (came.Broke finger)) None) is
    ∙ sym (ap (λ (change : Option WordPlace). by_change before after change (broke points finger)) none)
