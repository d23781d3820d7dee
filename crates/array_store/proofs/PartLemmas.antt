-- What parts that keep their rules stand for.
use Rattle.std.proofs.Common.{◌≡◌, ◌≢◌, ℕ, zero, suc, ◌+◌, ◌-◌, ◌<◌, ◌≤◌, List, [], ◌∷◌, ◌++◌, length, Bool, true, false, cond, Option, Some, None, refl, sym, ap, subst, ◌∙◌, inl, inr, arith}
use Rattle.std.specs.Prelude.{◌⊎◌, slice_index_or, map, All, IsSome, is_some, nat_eq, nat_le, Contains, if◌then◌else◌, ◌||◌, unwrap_or}
use Rattle.std.specs.List.{IsDistinct, AllByRecursion, list_any}
use Rattle.std.specs.Ordering.{nat_cmp}
use Rattle.std.specs.Cmp.{nat_cmp_total}
use Rattle.std.specs.FinMap as finite
use Rattle.std.proofs.lemmas.Bool.{cases_eq, cases_lt, eq-eqb, ne_eqb, true≢false}
use Rattle.std.proofs.lemmas.List.{append-nil}
use Rattle.std.proofs.lemmas.List.Elements.{All-nil, All-cons, All-append, All-weaker, All-from_recursion, recursion_from_All}
use Rattle.umix_base.specs.declared.limits.Limits.{Limits}
use Rattle.um_word.specs.State.{Arrays, array_at, live_arrays, live_words, words_in}
use Rattle.um_word.specs.Rule.{IsOrderly}
use Rattle.um_word.proofs.Arrays.{get-insert_same, get-insert_other, len-insert_new}
use Rattle.um_word.proofs.Live.{live_words-empty, live_words-insert_new}
use Rattle.um_word.proofs.Orderly.{none_of}
use Rattle.std.specs.Global.{Vec}
use Rattle.array_store.specs.inner.Slots.{arrays_put}
use Rattle.array_store.specs.StoreView.{most_live_arrays, most_live_words}
use Rattle.array_store.specs.Parts.{Listed, listed, Parts, AreParts, is_among, active_up_to, arrays_of_parts, store_of_parts}

some : (o : Option (List ℕ)) (ws : List ℕ) → o ≡ Some ws → IsSome o
some o ws e = ap is_some e

pub among_contains : (ids : List ℕ) (id : ℕ) → is_among ids id ≡ true → Contains ids id
among_contains [] id h = absurd (true≢false (sym h))
among_contains (x ∷ xs) id h = elim (cases_eq x id) as (λ _. Contains (x ∷ xs) id) [
  | inl e ↦ (0, omega arith, e)
  | inr ne ↦
      let c = among_contains xs id (sym (ap (λ b. b || is_among xs id) (ne_eqb x id ne)) ∙ h) in
      let within = c.1 in
      (suc c.0, omega (arith, within), c.2)
]

or_true : (b : Bool) → (b || true) ≡ true
or_true true = refl
or_true false = refl

pub contains_among : (ids : List ℕ) (id k : ℕ) → k < length ids → slice_index_or ids k id ≡ id → is_among ids id ≡ true
contains_among [] id k h e = absurd (omega (arith, h))
contains_among (x ∷ xs) id zero h e = ap (λ b. b || is_among xs id) (eq-eqb x id e)
contains_among (x ∷ xs) id (suc k) h e =
    ap (λ b. nat_eq x id || b) (contains_among xs id k (omega (arith, h)) e) ∙ or_true (nat_eq x id)

pub not_among : (ids : List ℕ) (id : ℕ) → is_among ids id ≡ false → Contains ids id → ⊥
not_among ids id h c = true≢false (sym (contains_among ids id c.0 c.1 c.2) ∙ h)

pub among_not : (ids : List ℕ) (id : ℕ) → (Contains ids id → ⊥) → is_among ids id ≡ false
among_not ids id h = elim (is_among ids id) as (λ b. is_among ids id ≡ b → b ≡ false) [
  | true ↦ λ e. absurd (h (among_contains ids id e))
  | false ↦ λ _. refl
] refl

-- the arrays whose identifiers end with this one
pub record Last {A : Type 0} (f : A → ℕ) (xs : List A) (zs : List ℕ) (z : ℕ) : Type 0 where
  pub before : List A
  pub last : A
  pub is : xs ≡ before ++ last ∷ []
  pub firsts : map f before ≡ zs
  pub at : f last ≡ z

no_more : {A : Type 0} (f : A → ℕ) (xs : List A) → map f xs ≡ [] → xs ≡ []
no_more f [] e = refl
no_more f (x ∷ xs) e = absurd (let h : f x ∷ map f xs ≡ [] = e in cc)

pub split_last : {A : Type 0} (f : A → ℕ) (xs : List A) (zs : List ℕ) (z : ℕ) → map f xs ≡ zs ++ z ∷ [] → Last f xs zs z
split_last f [] [] z e = absurd (let h : [] ≡ z ∷ [] = e in cc)
split_last f [] (w ∷ zs) z e = absurd (let h : [] ≡ w ∷ (zs ++ z ∷ []) = e in cc)
split_last f (x ∷ xs) [] z e =
    let h : f x ∷ map f xs ≡ z ∷ [] = e in
    let none : map f xs ≡ [] = cc in
    let here : f x ≡ z = cc in
    record { before = []; last = x; is = ap (λ ys. x ∷ ys) (no_more f xs none); firsts = refl; at = here }
split_last f (x ∷ xs) (w ∷ zs) z e =
    let h : f x ∷ map f xs ≡ w ∷ (zs ++ z ∷ []) = e in
    let first : f x ≡ w = cc in
    let rest : map f xs ≡ zs ++ z ∷ [] = cc in
    let l = split_last f xs zs z rest in
    record {
      before = x ∷ l.before;
      last = l.last;
      is = ap (λ ys. x ∷ ys) l.is;
      firsts = (λ i. first i ∷ l.firsts i);
      at = l.at;
    }

pub words_in-append : (xs ys : Listed) → words_in (xs ++ ys) ≡ words_in xs + words_in ys
words_in-append [] ys = omega arith
words_in-append (x ∷ xs) ys = let e = words_in-append xs ys in omega (arith, e)

length-push : {A : Type 0} (xs : List A) (x : A) → length (xs ++ x ∷ []) ≡ length xs + 1
length-push [] x = refl
length-push (y ∷ ys) x = let e = length-push ys x in omega (arith, e)

pub length-map : {A : Type 0} (f : A → ℕ) (xs : List A) → length (map f xs) ≡ length xs
length-map f [] = refl
length-map f (x ∷ xs) = ap suc (length-map f xs)

-- the map of a list of arrays whose identifiers are the active ones up to n
pub record IsHeld (ids : List ℕ) (n : ℕ) (xs : Listed) (arrays : Arrays) : Type 0 where
  pub low : (q : ℕ) → IsSome (finite.get arrays q) → (1 ≤ q) × (q ≤ n)
  pub free : (q : ℕ) → IsSome (finite.get arrays q) → is_among ids q ≡ false
  pub there : (q : ℕ) → 1 ≤ q → q ≤ n → is_among ids q ≡ false → IsSome (finite.get arrays q)
  pub words : live_words arrays ≡ words_in xs
  pub many : finite.len arrays ≡ length xs

abbrev none : Arrays
none = finite.empty

no_some : (o : Option (List ℕ)) → o ≡ None → IsSome o → ⊥
no_some o e h = true≢false (sym h ∙ ap is_some e)

held_none : (ids : List ℕ) → IsHeld ids 0 [] none
held_none ids = record {
  low = λ q h. absurd (no_some _ (finite.get-empty nat_cmp q) h);
  free = λ q h. absurd (no_some _ (finite.get-empty nat_cmp q) h);
  there = λ q a b h. absurd (omega (arith, a, b));
  words = live_words-empty;
  many = finite.len-empty nat_cmp (List ℕ);
}

module _ (ids : List ℕ) (n : ℕ) where
  -- the next identifier is not active
  held_skip : (xs : Listed) (arrays : Arrays) → IsHeld ids n xs arrays → is_among ids (suc n) ≡ true → IsHeld ids (suc n) xs arrays
  held_skip xs arrays h is = record {
    low = λ q s. let b = h.low q s in (b.0, (let c = b.1 in omega (arith, c)));
    free = h.free;
    there = λ q a b e. elim (cases_eq q (suc n)) as (λ _. IsSome (finite.get arrays q)) [
      | inl same ↦ absurd (true≢false (sym is ∙ ap (is_among ids) (sym same) ∙ e))
      | inr ne ↦ h.there q a (omega (arith, b, ne)) e
    ];
    words = h.words;
    many = h.many;
  }

  held_fresh : (xs : Listed) (arrays : Arrays) → IsHeld ids n xs arrays → finite.get arrays (suc n) ≡ None
  held_fresh xs arrays h = none_of _ (λ s. let b = (h.low (suc n) s).1 in omega (arith, b))

  -- the next identifier has an array
  held_more : (xs : Listed) (arrays : Arrays) (ws : List ℕ) → IsHeld ids n xs arrays → is_among ids (suc n) ≡ false →
      IsHeld ids (suc n) (xs ++ (suc n, ws) ∷ []) (finite.insert arrays (suc n) ws)
  held_more xs arrays ws h is =
      let fresh = held_fresh xs arrays h in
      record {
        low = λ q s. elim (cases_eq q (suc n)) as (λ _. (1 ≤ q) × (q ≤ suc n)) [
          | inl same ↦ (omega (arith, same), omega (arith, same))
          | inr ne ↦
              let b = h.low q (ap is_some (sym (get-insert_other arrays (suc n) ws q ne)) ∙ s) in
              (b.0, (let c = b.1 in omega (arith, c)))
        ];
        free = λ q s. elim (cases_eq q (suc n)) as (λ _. is_among ids q ≡ false) [
          | inl same ↦ ap (is_among ids) same ∙ is
          | inr ne ↦ h.free q (ap is_some (sym (get-insert_other arrays (suc n) ws q ne)) ∙ s)
        ];
        there = λ q a b e. elim (cases_eq q (suc n)) as (λ _. IsSome (finite.get (finite.insert arrays (suc n) ws) q)) [
          | inl same ↦ some _ ws (ap (finite.get (finite.insert arrays (suc n) ws)) same ∙ get-insert_same arrays (suc n) ws)
          | inr ne ↦ ap is_some (get-insert_other arrays (suc n) ws q ne) ∙ h.there q a (omega (arith, b, ne)) e
        ];
        words =
            let l = live_words-insert_new arrays (suc n) ws fresh in
            let w = h.words in let p = words_in-append xs ((suc n, ws) ∷ []) in omega (arith, l, w, p);
        many =
            let l = len-insert_new arrays (suc n) ws fresh in let m = h.many in
            let p = length-push xs (suc n, ws) in omega (arith, l, m, p);
      }

pub held : (ids : List ℕ) (n : ℕ) (xs : Listed) → map (λ a. a.0) xs ≡ active_up_to ids n → IsHeld ids n xs (finite.from_entries xs)
held ids zero xs e = subst (λ ys. IsHeld ids 0 ys (finite.from_entries ys)) (sym (no_more (λ a. a.0) xs e)) (held_none ids)
held ids (suc n) xs e = elim (is_among ids (suc n)) as (λ b. is_among ids (suc n) ≡ b →
    map (λ a. a.0) xs ≡ active_up_to ids n ++ (if b then [] else suc n ∷ []) → IsHeld ids (suc n) xs (finite.from_entries xs)) [
      | true ↦ λ is f. held_skip ids n xs (finite.from_entries xs) (held ids n xs (f ∙ append-nil (active_up_to ids n))) is
      | false ↦ λ is f.
          let l = split_last (λ (a : ℕ × List ℕ). a.0) xs (active_up_to ids n) (suc n) f in
          let h = held ids n l.before l.firsts in
          let last : l.last ≡ (suc n, l.last.1) = λ i. (l.at i, l.last.1) in
          let whole : xs ≡ l.before ++ (suc n, l.last.1) ∷ [] = l.is ∙ ap (λ a. l.before ++ a ∷ []) last in
          let fresh = sym (finite.get-from_entries nat_cmp_total l.before (suc n)) ∙ held_fresh ids n l.before (finite.from_entries l.before) h in
          let more = held_more ids n l.before (finite.from_entries l.before) l.last.1 h is in
          let pushed : finite.from_entries (l.before ++ (suc n, l.last.1) ∷ []) ≡ finite.insert (finite.from_entries l.before) (suc n) l.last.1 =
          finite.from_entries_push nat_cmp_total finite.nat_cmp-IsAntisymmetric l.before (suc n) l.last.1 fresh in
          subst (λ ys. IsHeld ids (suc n) ys (finite.from_entries ys)) (sym whole)
          (subst (λ arrays. IsHeld ids (suc n) (l.before ++ (suc n, l.last.1) ∷ []) arrays) (sym pushed) more)
    ] refl e

-- how many numbers pass a test
abbrev count_by : (ℕ → Bool) → List ℕ → ℕ
count_by p [] = 0
count_by p (x ∷ xs) = cond (p x) 1 0 + count_by p xs

-- how many identifiers up to n are active
one_or_none : (p : ℕ → Bool) (xs : List ℕ) → AllByRecursion (λ y. p y ≡ false) xs → count_by p xs ≡ 0
one_or_none p [] h = refl
one_or_none p (x ∷ xs) h = ap (λ b. cond b 1 0 + count_by p xs) h.0 ∙ (let e = one_or_none p xs h.1 in omega (arith, e))

flip_all : (y : ℕ) (xs : List ℕ) → AllByRecursion (λ x. nat_eq y x ≡ false) xs → AllByRecursion (λ x. nat_eq x y ≡ false) xs
flip_all y [] h = tt
flip_all y (x ∷ xs) h = (ne_eqb x y (λ e. true≢false (sym (eq-eqb y x (sym e)) ∙ h.0)), flip_all y xs h.1)

none_among : (y : ℕ) (xs : List ℕ) → AllByRecursion (λ x. nat_eq x y ≡ false) xs → is_among xs y ≡ false
none_among y [] h = refl
none_among y (x ∷ xs) h = ap (λ b. b || is_among xs y) h.0 ∙ none_among y xs h.1

one_of : (y : ℕ) (xs : List ℕ) → IsDistinct nat_eq xs → count_by (λ x. nat_eq x y) xs ≡ cond (is_among xs y) 1 0
unfolding IsDistinct
one_of y [] h = refl
one_of y (x ∷ xs) h = elim (cases_eq x y) as (λ _. count_by (λ z. nat_eq z y) (x ∷ xs) ≡ cond (is_among (x ∷ xs) y) 1 0) [
  | inl e ↦
      let rest = flip_all y xs (subst (λ z. AllByRecursion (λ w. nat_eq z w ≡ false) xs) e h.0) in
      let zero : count_by (λ z. nat_eq z y) xs ≡ 0 = one_or_none (λ z. nat_eq z y) xs rest in
      ap (λ b. cond b 1 0 + count_by (λ z. nat_eq z y) xs) (eq-eqb x y e)
      ∙ (let n : 1 + count_by (λ z. nat_eq z y) xs ≡ 1 = omega (arith, zero) in n)
      ∙ ap (λ b. cond (b || is_among xs y) 1 0) (sym (eq-eqb x y e))
  | inr ne ↦
      ap (λ b. cond b 1 0 + count_by (λ z. nat_eq z y) xs) (ne_eqb x y ne)
      ∙ (let n : 0 + count_by (λ z. nat_eq z y) xs ≡ count_by (λ z. nat_eq z y) xs = omega arith in n)
      ∙ one_of y xs h.1
      ∙ ap (λ b. cond (b || is_among xs y) 1 0) (sym (ne_eqb x y ne))
]

step_count : (x n : ℕ) → cond (nat_le x (suc n)) 1 0 ≡ cond (nat_le x n) 1 0 + cond (nat_eq x (suc n)) 1 0
step_count x n = grind arith

next_count : (n : ℕ) (xs : List ℕ) → count_by (λ x. nat_le x (suc n)) xs ≡ count_by (λ x. nat_le x n) xs + count_by (λ x. nat_eq x (suc n)) xs
next_count n [] = refl
next_count n (x ∷ xs) = let a = step_count x n in let b = next_count n xs in omega (arith, a, b)

none_at_zero : (x : ℕ) → 1 ≤ x → ◌≡◌ {A = ℕ} (cond (nat_le x 0) 1 0) 0
none_at_zero x h = grind arith

no_count : (xs : List ℕ) → AllByRecursion (λ x. 1 ≤ x) xs → count_by (λ x. nat_le x 0) xs ≡ 0
no_count [] h = refl
no_count (x ∷ xs) h = let a = none_at_zero x h.0 in let b = no_count xs h.1 in omega (arith, a, b)

one_at : (x n : ℕ) → x ≤ n → ◌≡◌ {A = ℕ} (cond (nat_le x n) 1 0) 1
one_at x n h = grind arith

all_count : (n : ℕ) (xs : List ℕ) → AllByRecursion (λ x. x ≤ n) xs → count_by (λ x. nat_le x n) xs ≡ length xs
all_count n [] h = refl
all_count n (x ∷ xs) h = let a = one_at x n h.0 in let b = all_count n xs h.1 in omega (arith, a, b)

active_more : (b : Bool) (n : ℕ) (xs : List ℕ) → length (xs ++ (if b then [] else suc n ∷ [])) + cond b 1 0 ≡ length xs + 1
active_more true n xs = ap (λ ys. length ys + 1) (append-nil xs)
active_more false n xs = let e = length-push xs (suc n) in omega (arith, e)

pub count_active : (ids : List ℕ) (n : ℕ) → IsDistinct nat_eq ids → AllByRecursion (λ x. 1 ≤ x) ids →
    length (active_up_to ids n) + count_by (λ x. nat_le x n) ids ≡ n
count_active ids zero once low = let e = no_count ids low in omega (arith, e)
count_active ids (suc n) once low =
    let before = count_active ids n once low in
    let next = next_count n ids in
    let one = one_of (suc n) ids once in
    let more = active_more (is_among ids (suc n)) n (active_up_to ids n) in
    omega (arith, before, next, one, more)

-- identifiers that are known and apart, and those that are active
pub none_counted : (ids : List ℕ) (made : ℕ) → All (λ id. (1 ≤ id) × (id ≤ made)) ids → IsDistinct nat_eq ids →
    length (active_up_to ids made) + length ids ≡ made
none_counted ids made known once =
    let by = recursion_from_All (λ id. (1 ≤ id) × (id ≤ made)) ids known in
    let c = count_active ids made once (lows ids made by) in
    let g = all_count made ids (highs ids made by) in
    omega (arith, c, g)
  where
    lows : (xs : List ℕ) (n : ℕ) → AllByRecursion (λ id. (1 ≤ id) × (id ≤ n)) xs → AllByRecursion (λ id. 1 ≤ id) xs
    lows [] n h = tt
    lows (x ∷ xs) n h = (h.0.0, lows xs n h.1)

    highs : (xs : List ℕ) (n : ℕ) → AllByRecursion (λ id. (1 ≤ id) × (id ≤ n)) xs → AllByRecursion (λ id. id ≤ n) xs
    highs [] n h = tt
    highs (x ∷ xs) n h = (h.0.1, highs xs n h.1)

-- one more identifier that is not among them
neither : (a b : Bool) → (a || b) ≡ false → (a ≡ false) × (b ≡ false)
neither true b e = absurd (true≢false e)
neither false b e = (refl, e)

all_push : (x id : ℕ) (xs : List ℕ) → AllByRecursion (λ y. nat_eq x y ≡ false) xs → nat_eq x id ≡ false →
    AllByRecursion (λ y. nat_eq x y ≡ false) (xs ++ id ∷ [])
all_push x id [] a b = (b, tt)
all_push x id (y ∷ ys) a b = (a.0, all_push x id ys a.1 b)

pub distinct-push : (ids : List ℕ) (id : ℕ) → IsDistinct nat_eq ids → is_among ids id ≡ false → IsDistinct nat_eq (ids ++ id ∷ [])
unfolding IsDistinct
distinct-push [] id once new = (tt, tt)
distinct-push (x ∷ xs) id once new =
    let n = neither (nat_eq x id) (is_among xs id) new in
    (all_push x id xs once.0 n.0, distinct-push xs id once.1 n.1)

-- the arrays of parts that keep their rules are orderly
pub parts_are_orderly : (p : Parts) (L : Limits) → AreParts p → L.arrays ≡ most_live_arrays → L.words ≡ most_live_words →
    IsOrderly L (record { made = p.made; abandoned = p.abandoned }) (arrays_of_parts p)
parts_are_orderly p L parts arrays words =
    let h = held p.abandoned p.made p.arrays parts.active in
    let m = finite.from_entries p.arrays in
    let fresh : finite.get m 0 ≡ None = none_of _ (λ s. let a = (h.low 0 s).0 in omega (arith, a)) in
    record {
      active = λ q. (
        λ s. elim (cases_eq q 0) as (λ _. (q ≡ 0) ⊎ ((1 ≤ q) × (q ≤ p.made) × (Contains p.abandoned q → ⊥))) [
          | inl e ↦ inl e
          | inr ne ↦
              let t = ap is_some (sym (get-insert_other m 0 p.zero q ne)) ∙ s in
              inr ((h.low q t).0, (h.low q t).1, not_among p.abandoned q (h.free q t))
        ],
        λ a. elim a [
          | inl e ↦ some _ p.zero (ap (finite.get (arrays_of_parts p)) e ∙ get-insert_same m 0 p.zero)
          | inr t ↦
              let ne : q ≢ 0 = λ e. (let low = t.0 in omega (arith, low, e)) in
              ap is_some (get-insert_other m 0 p.zero q ne) ∙ h.there q t.0 t.1 (among_not p.abandoned q t.2)
        ],
      );
      abandoned = parts.known;
      once = parts.once;
      counted =
          let l = len-insert_new m 0 p.zero fresh in
          let n = h.many in
          let e = ap length parts.active in
          let f = length-map (λ (a : ℕ × List ℕ). a.0) p.arrays in
          let c = none_counted p.abandoned p.made parts.known parts.once in
          omega (arith, l, n, e, f, c);
      made = (let a = parts.made in omega (arith, a, arrays));
      words =
          let l = live_words-insert_new m 0 p.zero fresh in let n = h.words in let a = parts.words in
          omega (arith, l, n, a, words);
    }

pub words_of_parts : (p : Parts) → AreParts p → live_words (arrays_of_parts p) ≡ length p.zero + words_in p.arrays
words_of_parts p parts =
    let h = held p.abandoned p.made p.arrays parts.active in
    let m = finite.from_entries p.arrays in
    let fresh : finite.get m 0 ≡ None = none_of _ (λ s. let a = (h.low 0 s).0 in omega (arith, a)) in
    let l = live_words-insert_new m 0 p.zero fresh in
    let n = h.words in
    omega (arith, l, n)

-- arrays that are put in one after another
pub arrays_put-push : (xs : Listed) (a : ℕ × List ℕ) (m : Arrays) → arrays_put (xs ++ a ∷ []) m ≡ arrays_put xs (finite.insert m a.0 a.1)
arrays_put-push [] a m = refl
arrays_put-push (x ∷ xs) a m = ap (λ n. finite.insert n x.0 x.1) (arrays_put-push xs a m)

pub arrays_put-entries : (xs : Listed) → arrays_put xs finite.empty ≡ finite.from_entries xs
arrays_put-entries [] = refl
arrays_put-entries (x ∷ xs) = ap (λ n. finite.insert n x.0 x.1) (arrays_put-entries xs)

pub listed-push : (xs : List (ℕ × Vec ℕ)) (a : ℕ × Vec ℕ) → listed (xs ++ a ∷ []) ≡ listed xs ++ (a.0, a.1.items) ∷ []
listed-push [] a = refl
listed-push (x ∷ xs) a = ap (λ ys. (x.0, x.1.items) ∷ ys) (listed-push xs a)

-- active identifiers are none past the last
active_low : (ids : List ℕ) (n : ℕ) → All (λ id. id ≤ n) (active_up_to ids n)
active_low ids zero = All-nil (λ id. id ≤ 0)
active_low ids (suc n) = All-append (λ id. id ≤ suc n) (active_up_to ids n) (if is_among ids (suc n) then [] else suc n ∷ [])
    (All-weaker (λ id. id ≤ n) (λ id. id ≤ suc n) (λ x h. omega (arith, h)) (active_up_to ids n) (active_low ids n))
    (elim (is_among ids (suc n)) as (λ b. All (λ id. id ≤ suc n) (if b then [] else suc n ∷ [])) [
      | true ↦ All-nil (λ id. id ≤ suc n)
      | false ↦ All-cons (λ id. id ≤ suc n) (suc n) [] (omega arith) (All-nil (λ id. id ≤ suc n))
    ])

firsts_all : (P : ℕ → Type 0) (xs : List (ℕ × Vec ℕ)) → AllByRecursion P (map (λ a. a.0) (listed xs)) → AllByRecursion (λ a. P a.0) xs
firsts_all P [] h = tt
firsts_all P (x ∷ xs) h = (h.0, firsts_all P xs h.1)

pub identifiers_within : (ids : List ℕ) (n : ℕ) (xs : List (ℕ × Vec ℕ)) → map (λ a. a.0) (listed xs) ≡ active_up_to ids n → All (λ a. a.0 ≤ n) xs
identifiers_within ids n xs e =
    All-from_recursion (λ a. a.0 ≤ n) xs (firsts_all (λ id. id ≤ n) xs
    (recursion_from_All (λ id. id ≤ n) (map (λ a. a.0) (listed xs)) (subst (All (λ id. id ≤ n)) (sym e) (active_low ids n))))
