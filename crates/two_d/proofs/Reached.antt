-- What a box reaches, box by box.
use Rattle.std.specs.Prelude.{◌≡◌, ℕ, ◌+◌, ◌<◌, ◌≤◌, ◌⊎◌, ◌↔◌, Bool, true, false, List, [], ◌∷◌, ◌++◌, length, slice_get, slice_index_or, slice_set, replicate, Option, Some, None}
use Rattle.std.specs.List.{Contains}
use Rattle.std.proofs.Common.{arith, refl, sym, ap, ◌∙◌, inl, inr, subst}
use Rattle.std.proofs.lemmas.Bool.{cases_eq, cases_lt}
use Rattle.std.proofs.lemmas.List.{get_or-set_same, get_or-set_other, length-set, length-replicate, length-append}
use Rattle.std.proofs.lemmas.List.Elements.{Contains-append_left}
use Rattle.std.proofs.lemmas.Option.{slice_get_within, get_or_from_slice_get}
use Rattle.two_d.specs.Programs.{ModuleForm}
use Rattle.two_d.specs.Sound.{Feeds, Reaches, by_one, by_more}
use Rattle.two_d.specs.inner.Orders.{IsMarkedBox, AreTargets, AddsBox}
use Rattle.two_d.specs.declared.command.Side.TheVariants.{S, E}
use Rattle.two_d.proofs.NumberLists.{in_more, last_in, place_of, at_end, before_end, AreApart, AreBelow, few}
use Rattle.two_d.proofs.Placing.{unmarked, target_of, target_within}

-- boxes that were found from the start, each once, and marked
pub record AreFound (m : ModuleForm) (start : ℕ) (seen : List Bool) (found : List ℕ) : Type 0 where
  pub long : length seen ≡ length m.boxes
  pub marks : (b : ℕ) → IsMarkedBox seen b ↔ Contains found b
  pub apart : AreApart found
  pub below : AreBelow found (length m.boxes)
  pub reached : (x : ℕ) → Contains found x → Reaches m start x

pub none_found : (m : ModuleForm) (start : ℕ) → AreFound m start (replicate (length m.boxes) false) []
none_found m start = record {
  long = length-replicate (length m.boxes) false;
  marks = λ b. (λ is. absurd (unmarked (length m.boxes) b is), λ c. absurd (let (k, lt, is) = c in omega arith));
  apart = λ i j x at_i at_j less. absurd (cc);
  below = λ i x is. absurd (cc);
  reached = λ x c. absurd (let (k, lt, is) = c in omega arith);
}

-- one box more was found
pub found_more : (m : ModuleForm) (start : ℕ) (seen : List Bool) (found : List ℕ) → AreFound m start seen found → (t : ℕ) → t < length m.boxes → (IsMarkedBox seen t → ⊥) → Reaches m start t → AreFound m start (slice_set seen t true) (found ++ t ∷ [])
found_more m start seen found are t lt new reaches = record {
  long = length-set seen t true ∙ are.long;
  marks = λ b. (
    λ is. elim (cases_eq b t) [
      | inl same ↦ subst (Contains (found ++ t ∷ [])) (sym same) (last_in found t)
      | inr apart ↦ Contains-append_left found (t ∷ []) b ((are.marks b).0 (sym (get_or-set_other seen t b true false apart) ∙ is))
    ],
    λ c. elim (cases_eq b t) [
      | inl same ↦ subst (IsMarkedBox (slice_set seen t true)) (sym same) (let long = are.long in get_or-set_same seen t true false (omega arith))
      | inr apart ↦ get_or-set_other seen t b true false apart ∙ (elim (in_more found t b c) [ inl there ↦ (are.marks b).1 there | inr same ↦ absurd (apart same) ])
    ],
  );
  apart = apart;
  below = below;
  reached = λ x c. elim (in_more found t x c) [ inl there ↦ are.reached x there | inr same ↦ subst (Reaches m start) (sym same) reaches ];
}
  where
    at_last : (i x : ℕ) → slice_get (found ++ t ∷ []) i ≡ Some x → length found ≤ i → x ≡ t
    at_last i x is high =
        let lt' = slice_get_within (found ++ t ∷ []) i x is in
        let here : i ≡ length found = omega (arith, length-append found (t ∷ [])) in
        let e : Some x ≡ Some t = sym is ∙ (ap (slice_get (found ++ t ∷ [])) here ∙ at_end found t) in cc

    below : AreBelow (found ++ t ∷ []) (length m.boxes)
    below i x is = elim (cases_lt i (length found)) [
      | inl low ↦ are.below i x (sym (before_end found t i low) ∙ is)
      | inr high ↦ let e = at_last i x is high in omega arith
    ]

    apart : AreApart (found ++ t ∷ [])
    apart i j x at_i at_j less = elim (cases_lt j (length found)) [
      | inl low ↦
          let h : i < length found = omega arith in
          are.apart i j x (sym (before_end found t i h) ∙ at_i) (sym (before_end found t j low) ∙ at_j) less
      | inr high ↦
          let e = at_last j x at_j high in
          let lt' = slice_get_within (found ++ t ∷ []) j x at_j in
          let h : i < length found = omega (arith, length-append found (t ∷ [])) in
          let there : slice_get found i ≡ Some x = sym (before_end found t i h) ∙ at_i in
          new ((are.marks t).1 (subst (Contains found) e (i, h, get_or_from_slice_get found i x x there)))
    ]

-- what the first boxes that were found feed, was found too
abbrev pub IsClosedTo : ModuleForm → List ℕ → ℕ → Type 0
IsClosedTo m found n = (i x t : ℕ) → i < n → slice_get found i ≡ Some x → Feeds m x t → Contains found t

-- in the end each box that the start reaches was found
pub all_found : (m : ModuleForm) (start : ℕ) (found : List ℕ) → ((t : ℕ) → Feeds m start t → Contains found t) → IsClosedTo m found (length found) → {a t : ℕ} → Reaches m a t → (a ≡ start) ⊎ Contains found a → Contains found t
all_found m start found first closed (by_one {a} {b} feeds) (inl same) = first b (subst (λ x. Feeds m x b) same feeds)
all_found m start found first closed (by_one {a} {b} feeds) (inr there) = let (i, lt, at) = place_of found a there in closed i a b lt at feeds
all_found m start found first closed (by_more {a} {b} feeds more) (inl same) = all_found m start found first closed more (inr (first b (subst (λ x. Feeds m x b) same feeds)))
all_found m start found first closed (by_more {a} {b} feeds more) (inr there) =
    all_found m start found first closed more (inr (let (i, lt, at) = place_of found a there in closed i a b lt at feeds))

pub found_few : (m : ModuleForm) (start : ℕ) (seen : List Bool) (found : List ℕ) → AreFound m start seen found → length found ≤ length m.boxes
found_few m start seen found are = few found (length m.boxes) are.apart are.below

-- a box was tried: it is among those that were found, and they stand as before
pub record IsMore (m : ModuleForm) (start : ℕ) (found : List ℕ) (o : Option ℕ) (seen' : List Bool) (found' : List ℕ) : Type 0 where
  pub are : AreFound m start seen' found'
  pub same : (k : ℕ) → k < length found → slice_get found' k ≡ slice_get found k
  pub longer : length found ≤ length found'
  pub there : (q : ℕ) → o ≡ Some q → Contains found' q

pub kept_in : (found found' : List ℕ) → ((k : ℕ) → k < length found → slice_get found' k ≡ slice_get found k) → (q : ℕ) → Contains found q → Contains found' q
kept_in found found' same q c =
    let (k, lt, at) = place_of found q c in
    let now : slice_get found' k ≡ Some q = same k lt ∙ at in
    (k, slice_get_within found' k q now, get_or_from_slice_get found' k q q now)

tried : (m : ModuleForm) (start : ℕ) (seen : List Bool) (found : List ℕ) → AreFound m start seen found → (o : Option ℕ) → ((q : ℕ) → o ≡ Some q → (q < length m.boxes) × Reaches m start q) → (seen' : List Bool) (found' : List ℕ) → AddsBox seen found o seen' found' → IsMore m start found o seen' found'
tried m start seen found are None good seen' found' (s, f) = record {
  are = rw (s, f) are;
  same = λ k lt. ap (λ l. slice_get l k) f;
  longer = rw f (omega arith);
  there = λ q e. absurd (cc);
}
tried m start seen found are (Some b) good seen' found' (inl (marked, s, f)) = record {
  are = rw (s, f) are;
  same = λ k lt. ap (λ l. slice_get l k) f;
  longer = rw f (omega arith);
  there = λ q e. let same : b ≡ q = cc in subst (λ x. Contains found' x) same (rw f ((are.marks b).0 marked));
}
tried m start seen found are (Some b) good seen' found' (inr (new, s, f)) = record {
  are = rw (s, f) (found_more m start seen found are b (good b refl).0 new (good b refl).1);
  same = λ k lt. ap (λ l. slice_get l k) f ∙ before_end found b k lt;
  longer = rw f (omega (arith, length-append found (b ∷ [])));
  there = λ q e. let same : b ≡ q = cc in subst (λ x. Contains found' x) same (rw f (last_in found b));
}

-- what a box feeds was tried
pub record IsFollowed (m : ModuleForm) (start number : ℕ) (found : List ℕ) (seen' : List Bool) (found' : List ℕ) : Type 0 where
  pub are : AreFound m start seen' found'
  pub same : (k : ℕ) → k < length found → slice_get found' k ≡ slice_get found k
  pub longer : length found ≤ length found'
  pub fed : (t : ℕ) → Feeds m number t → Contains found' t

pub followed : (m : ModuleForm) (start number : ℕ) → ((q : ℕ) → Feeds m number q → Reaches m start q)
    → (souths easts : List (Option ℕ)) → AreTargets m S (length m.boxes) (length m.boxes) souths → AreTargets m E (length m.boxes) (length m.boxes) easts
    → (s0 : List Bool) (f0 : List ℕ) → AreFound m start s0 f0
    → (o : Option ℕ) → o ≡ slice_index_or souths number None → (s1 : List Bool) (f1 : List ℕ) → AddsBox s0 f0 o s1 f1
    → (p : Option ℕ) → p ≡ slice_index_or easts number None → (s2 : List Bool) (f2 : List ℕ) → AddsBox s1 f1 p s2 f2
    → IsFollowed m start number f0 s2 f2
followed m start number from souths easts are_s are_e s0 f0 are o o_is s1 f1 adds1 p p_is s2 f2 adds2 = record {
  are = two.are;
  same = λ k lt. two.same k (let le = one.longer in omega arith) ∙ one.same k lt;
  longer = (let le = one.longer in let le2 = two.longer in omega arith);
  fed = λ t feeds. elim (target_of m souths easts (length m.boxes) refl are_s are_e number t (fed_within t feeds) feeds) [
    | inl e ↦ kept_in f1 f2 two.same t (one.there t (o_is ∙ e))
    | inr e ↦ two.there t (p_is ∙ e)
  ];
}
  where
    one : IsMore m start f0 o s1 f1
    one = tried m start s0 f0 are o (λ q e. let (lt, feeds) = target_within m souths easts (length m.boxes) refl are_s are_e number q (inl (sym o_is ∙ e)) in (lt, from q feeds)) s1 f1 adds1

    two : IsMore m start f1 p s2 f2
    two = tried m start s1 f1 one.are p (λ q e. let (lt, feeds) = target_within m souths easts (length m.boxes) refl are_s are_e number q (inr (sym p_is ∙ e)) in (lt, from q feeds)) s2 f2 adds2

    fed_within : (t : ℕ) → Feeds m number t → t < length m.boxes
    fed_within t (inl (inl c)) = slice_get_within m.boxes t c.0 c.1
    fed_within t (inl (inr c)) = slice_get_within m.boxes t c.0 c.1
    fed_within t (inr (inl c)) = slice_get_within m.boxes t c.0 c.1
    fed_within t (inr (inr c)) = slice_get_within m.boxes t c.0 c.1

pub reaches_on : (m : ModuleForm) {a b : ℕ} → Reaches m a b → (c : ℕ) → Feeds m b c → Reaches m a c
reaches_on m (by_one feeds) c more = by_more feeds (by_one more)
reaches_on m (by_more feeds rest) c more = by_more feeds (reaches_on m rest c more)

-- one box more was followed
pub closed_more : (m : ModuleForm) (start number next : ℕ) (found : List ℕ) (seen' : List Bool) (found' : List ℕ) → next < length found → slice_get found next ≡ Some number → IsFollowed m start number found seen' found' → IsClosedTo m found next → IsClosedTo m found' (next + 1)
closed_more m start number next found seen' found' lt at is closed i x t less at_i feeds = elim (cases_eq i next) [
  | inl same ↦
      let e : Some x ≡ Some number = sym at_i ∙ (ap (slice_get found') same ∙ (is.same next lt ∙ at)) in
      let f : x ≡ number = cc in
      is.fed t (subst (λ y. Feeds m y t) f feeds)
  | inr apart ↦ kept_in found found' is.same t (closed i x t (omega arith) (sym (is.same i (omega arith)) ∙ at_i) feeds)
]
