-- Boxes that are found from a box, one after the other.
use Rattle.std.specs.Prelude.{◌≡◌, ◌≢◌, ℕ, zero, suc, ◌+◌, ◌<◌, ◌≤◌, ◌⊎◌, ◌↔◌, Bool, true, false, List, [], ◌∷◌, ◌++◌, length, map}
use Rattle.std.specs.Prelude.{slice_get, slice_index_or, slice_set, replicate, option_map, IfSome, Option, Some, None}
use Rattle.std.specs.List.{Contains}
use Rattle.std.proofs.Common.{arith, refl, sym, ap, ◌∙◌, inl, inr, subst}
use Rattle.std.proofs.lemmas.Bool.{cases_eq, cases_lt}
use Rattle.std.proofs.lemmas.List.{map-append, get_or_append_left, get_or-set_same, get_or-set_other, length-set, length-replicate, length-append, length-map}
use Rattle.std.proofs.lemmas.List.Elements.{Contains-append_left}
use Rattle.std.proofs.lemmas.Option.{slice_get_within, slice_get-get_or, get_or_from_slice_get, slice_get-map}
use Rattle.two_d.specs.Programs.{BoxForm, ModuleForm}
use Rattle.two_d.specs.declared.module.Origin.{Origin}
use Rattle.two_d.specs.declared.module.Origin.TheVariants.{North, West, South, East}
use Rattle.two_d.specs.Sound.{IsSound, Feeds, Reaches, by_one, by_more}
use Rattle.two_d.proofs.NumberLists.{in_more, last_in, place_of, at_end, before_end, AreApart, AreBelow, few}
use Rattle.two_d.proofs.Placing.{unmarked}
use Rattle.two_d.proofs.Rings.{of_feeds, feeds_of, feeder_there, start_of}
use Rattle.box_ring.specs.declared.search.Step.{Step}
use Rattle.box_ring.specs.inner.Steps.{feeder_in, boxes_of, box_of_step, AddsStep, AreBack, AreFed}

-- boxes that were found, each once, and marked; each behind the first from one before it, which waits for it
pub record AreFound (m : ModuleForm) (seen : List Bool) (found : List Step) : Type 0 where
  pub long : length seen ≡ length m.boxes
  pub marks : (x : ℕ) → (slice_index_or seen x false ≡ true) ↔ Contains (boxes_of found) x
  pub apart : AreApart (boxes_of found)
  pub below : AreBelow (boxes_of found) (length m.boxes)
  pub back : AreBack found
  pub fed : AreFed m found

-- the first ones stay, and the one that was to be added is there
pub record IsMore (m : ModuleForm) (found : List Step) (o : Option ℕ) (seen' : List Bool) (found' : List Step) : Type 0 where
  pub are : AreFound m seen' found'
  pub same : (k : ℕ) → k < length found → slice_get found' k ≡ slice_get found k
  pub longer : length found ≤ length found'
  pub there : (q : ℕ) → o ≡ Some q → Contains (boxes_of found') q

pub box_at : (found : List Step) (k : ℕ) (s : Step) → slice_get found k ≡ Some s → slice_get (boxes_of found) k ≡ Some s.bx
box_at found k s is = slice_get-map (λ (t : Step). t.bx) found k ∙ ap (option_map (λ (t : Step). t.bx)) is

pub box_read : (found : List Step) (k : ℕ) (s : Step) → slice_get found k ≡ Some s → box_of_step found k ≡ s.bx
box_read found k s is = (get_or_from_slice_get (boxes_of found) k s.bx 0 (box_at found k s is))

-- what stood at a place still does
pub box_kept : (found found' : List Step) (k : ℕ) → k < length found → ((j : ℕ) → j < length found → slice_get found' j ≡ slice_get found j) →
    slice_get (boxes_of found') k ≡ slice_get (boxes_of found) k
box_kept found found' k lt same =
    slice_get-map (λ (t : Step). t.bx) found' k ∙ (ap (option_map (λ (t : Step). t.bx)) (same k lt) ∙ sym (slice_get-map (λ (t : Step). t.bx) found k))

pub in_at : (xs : List ℕ) (k x : ℕ) → slice_get xs k ≡ Some x → Contains xs x
in_at xs k x is = (k, slice_get_within xs k x is, get_or_from_slice_get xs k x x is)

pub in_kept : (found found' : List Step) → ((k : ℕ) → k < length found → slice_get found' k ≡ slice_get found k) → (q : ℕ) →
    Contains (boxes_of found) q → Contains (boxes_of found') q
in_kept found found' same q c =
    let (k, lt, at) = place_of (boxes_of found) q c in
    let within : k < length found = omega (arith, lt, length-map found (λ (t : Step). t.bx)) in
    let now : slice_get (boxes_of found') k ≡ Some q = box_kept found found' k within same ∙ at in
    (k, slice_get_within (boxes_of found') k q now, get_or_from_slice_get (boxes_of found') k q q now)

-- a list and one step more
kept_before : (found : List Step) (s : Step) (k : ℕ) → k < length found → slice_get (found ++ s ∷ []) k ≡ slice_get found k
kept_before [] s k lt = absurd (omega arith)
kept_before (y ∷ ys) s zero lt = refl
kept_before (y ∷ ys) s (suc k) lt = kept_before ys s k (omega arith)

last_step : (found : List Step) (t : Step) (k : ℕ) (s : Step) → slice_get (found ++ t ∷ []) k ≡ Some s → length found ≤ k → (k ≡ length found) × (s ≡ t)
last_step [] t zero s is high = (refl, cc)
last_step [] t (suc k) s is high = absurd (cc)
last_step (y ∷ ys) t zero s is high = absurd (omega arith)
last_step (y ∷ ys) t (suc k) s is high = let (here, e) = last_step ys t k s is (omega arith) in (ap suc here, e)

pub none_found : (m : ModuleForm) → AreFound m (replicate (length m.boxes) false) []
none_found m = record {
  long = length-replicate (length m.boxes) false;
  marks = λ b. (λ is. absurd (unmarked (length m.boxes) b is), λ c. absurd (let (k, lt, is) = c in omega arith));
  apart = λ i j x at_i at_j less. absurd (cc);
  below = λ i x is. absurd (cc);
  back = λ k s is more. absurd (cc);
  fed = λ k s is more. absurd (cc);
}

-- one box more was found
module _ (m : ModuleForm) (seen : List Bool) (found : List Step) (are : AreFound m seen found) (t via : ℕ)
    (lt : t < length m.boxes) (new : slice_index_or seen t false ≡ false)
    (earlier : 0 < length found → (via < length found) × Feeds m t (box_of_step found via)) where
  abbrev pub added : List Step
  added = found ++ record { bx = t; via = via } ∷ []

  boxes_added : boxes_of added ≡ boxes_of found ++ t ∷ []
  boxes_added = map-append (λ (s : Step). s.bx) found (record { bx = t; via = via } ∷ [])

  abbrev xs : List ℕ
  xs = boxes_of found

  long_xs : length xs ≡ length found
  long_xs = length-map found (λ (s : Step). s.bx)

  not_there : Contains xs t → ⊥
  not_there c = let e = (are.marks t).1 c in absurd (cc)

  at_last : (i x : ℕ) → slice_get (xs ++ t ∷ []) i ≡ Some x → length xs ≤ i → x ≡ t
  at_last i x is high =
      let lt' = slice_get_within (xs ++ t ∷ []) i x is in
      let here : i ≡ length xs = omega (arith, length-append xs (t ∷ [])) in
      let e : Some x ≡ Some t = sym is ∙ (ap (slice_get (xs ++ t ∷ [])) here ∙ at_end xs t) in cc

  below_more : AreBelow (xs ++ t ∷ []) (length m.boxes)
  below_more i x is = elim (cases_lt i (length xs)) [
    | inl low ↦ are.below i x (sym (before_end xs t i low) ∙ is)
    | inr high ↦ let e = at_last i x is high in omega arith
  ]

  apart_more : AreApart (xs ++ t ∷ [])
  apart_more i j x at_i at_j less = elim (cases_lt j (length xs)) [
    | inl low ↦
        let h : i < length xs = omega arith in
        are.apart i j x (sym (before_end xs t i h) ∙ at_i) (sym (before_end xs t j low) ∙ at_j) less
    | inr high ↦
        let e = at_last j x at_j high in
        let lt' = slice_get_within (xs ++ t ∷ []) j x at_j in
        let h : i < length xs = omega (arith, length-append xs (t ∷ [])) in
        let there : slice_get xs i ≡ Some x = sym (before_end xs t i h) ∙ at_i in
        not_there (subst (Contains xs) e (i, h, get_or_from_slice_get xs i x x there))
  ]

  kept : (k : ℕ) → k < length found → slice_get added k ≡ slice_get found k
  kept k less = kept_before found (record { bx = t; via = via }) k less

  back_more : AreBack added
  back_more k s is more = elim (cases_lt k (length found)) [
    | inl low ↦ are.back k s (sym (kept k low) ∙ is) more
    | inr high ↦ let (here, e) = last_step found (record { bx = t; via = via }) k s is high in
        let via_is : s.via ≡ via = ap (λ (r : Step). r.via) e in
        let (less, feeds) = earlier (omega (arith, here, more)) in omega (arith, via_is, less, here)
  ]

  box_same : (k : ℕ) → k < length found → box_of_step added k ≡ box_of_step found k
  box_same k less = ap (λ (l : List ℕ). slice_index_or l k 0) boxes_added ∙ get_or_append_left xs (t ∷ []) 0 k (omega (arith, less, long_xs))

  fed_more : AreFed m added
  fed_more k s is more = elim (cases_lt k (length found)) [
    | inl low ↦
        let old : slice_get found k ≡ Some s = sym (kept k low) ∙ is in
        let less = are.back k s old more in
        subst (Feeds m s.bx) (sym (box_same s.via (omega (arith, less, low)))) (are.fed k s old more)
    | inr high ↦
        let (here, e) = last_step found (record { bx = t; via = via }) k s is high in
        let (less, feeds) = earlier (omega (arith, here, more)) in
        subst (λ (r : Step). Feeds m r.bx (box_of_step added r.via)) (sym e) (subst (Feeds m t) (sym (box_same via less)) feeds)
  ]

  pub found_more : AreFound m (slice_set seen t true) added
  found_more = record {
    long = length-set seen t true ∙ are.long;
    marks = λ b. (
      λ is. elim (cases_eq b t) [
        | inl same ↦ subst (λ (l : List ℕ). Contains l b) (sym boxes_added) (subst (Contains (xs ++ t ∷ [])) (sym same) (last_in xs t))
        | inr other ↦ subst (λ (l : List ℕ). Contains l b) (sym boxes_added)
            (Contains-append_left xs (t ∷ []) b ((are.marks b).0 (sym (get_or-set_other seen t b true false other) ∙ is)))
      ],
      λ c. elim (cases_eq b t) [
        | inl same ↦ subst (λ (q : ℕ). slice_index_or (slice_set seen t true) q false ≡ true) (sym same)
            (let long = are.long in get_or-set_same seen t true false (omega (arith, long, lt)))
        | inr other ↦ get_or-set_other seen t b true false other
            ∙ (elim (in_more xs t b (subst (λ (l : List ℕ). Contains l b) boxes_added c)) [ inl there ↦ (are.marks b).1 there | inr same ↦ absurd (other same) ])
      ],
    );
    apart = subst AreApart (sym boxes_added) apart_more;
    below = subst (λ (l : List ℕ). AreBelow l (length m.boxes)) (sym boxes_added) below_more;
    back = back_more;
    fed = fed_more;
  }

  pub more_found : IsMore m found (Some t) (slice_set seen t true) added
  more_found = record {
    are = found_more;
    same = kept;
    longer = omega (arith, length-append found (record { bx = t; via = via } ∷ []));
    there = λ q e. subst (λ (l : List ℕ). Contains l q) (sym boxes_added) (let same : t ≡ q = cc in subst (Contains (xs ++ t ∷ [])) same (last_in xs t));
  }

-- a box was tried
pub tried : (m : ModuleForm) (seen : List Bool) (found : List Step) → AreFound m seen found → (o : Option ℕ) (via : ℕ) →
    ((q : ℕ) → o ≡ Some q → (q < length m.boxes) × (0 < length found → (via < length found) × Feeds m q (box_of_step found via))) →
    (seen' : List Bool) (found' : List Step) → AddsStep seen found o via seen' found' → IsMore m found o seen' found'
tried m seen found are None via good seen' found' (s, f) = record {
  are = rw (s, f) are;
  same = λ k lt. ap (λ l. slice_get l k) f;
  longer = rw f (omega arith);
  there = λ q e. absurd (cc);
}
tried m seen found are (Some b) via good seen' found' (inl (marked, s, f)) = record {
  are = rw (s, f) are;
  same = λ k lt. ap (λ l. slice_get l k) f;
  longer = rw f (omega arith);
  there = λ q e. let same : b ≡ q = cc in subst (λ x. Contains (boxes_of found') x) same (rw f ((are.marks b).0 marked));
}
tried m seen found are (Some b) via good seen' found' (inr (new, s, f)) =
    rw (s, f) (more_found m seen found are b via (good b refl).0 new (good b refl).1)

-- what the first so many boxes wait for was found, and none of them waits for box b
abbrev pub IsClosed : ModuleForm → ℕ → List Step → ℕ → Type 0
IsClosed m b found n =
    (i x a : ℕ) → i < n → slice_get (boxes_of found) i ≡ Some x → Feeds m a x → (a ≢ b) × Contains (boxes_of found) a

-- what a found box reaches against the wires is none of these
pub closed_back : (m : ModuleForm) (b : ℕ) (found : List Step) → IsClosed m b found (length (boxes_of found)) → {a c : ℕ} → Reaches m a c →
    Contains (boxes_of found) c → (a ≢ b) × Contains (boxes_of found) a
closed_back m b found closed (by_one {a} {b = c} feeds) there =
    let (i, lt, at) = place_of (boxes_of found) c there in closed i c a lt at feeds
closed_back m b found closed (by_more {a} {b = d} {c} feeds more) there =
    let mid = closed_back m b found closed more there in
    let (i, lt, at) = place_of (boxes_of found) d mid.1 in closed i d a lt at feeds

-- where a wire comes from, in the words of the two sides
feeder_same : (o : Option Origin) → feeder_in o ≡ start_of o
feeder_same None = refl
feeder_same (Some North) = refl
feeder_same (Some West) = refl
feeder_same (Some (South a)) = refl
feeder_same (Some (East a)) = refl

pub feeds_both : (m : ModuleForm) (a b : ℕ) (row : BoxForm) → slice_get m.boxes b ≡ Some row →
    Feeds m a b ↔ ((feeder_in row.n ≡ Some a) ⊎ (feeder_in row.w ≡ Some a))
feeds_both m a b row is = (
  λ feeds. elim (of_feeds m a b row is feeds) [ inl n ↦ inl (feeder_same row.n ∙ n) | inr w ↦ inr (feeder_same row.w ∙ w) ],
  λ comes. feeds_of m a b row is (elim comes [ inl n ↦ inl (sym (feeder_same row.n) ∙ n) | inr w ↦ inr (sym (feeder_same row.w) ∙ w) ]),
)

pub if_some : (P : ℕ → Type 0) (o : Option ℕ) → ((a : ℕ) → o ≡ Some a → P a) → IfSome o P
if_some P None each = tt
if_some P (Some a) each = each a refl

-- the feeders of the box at a place were tried
pub both_tried : (m : ModuleForm) (b next x : ℕ) → IsSound m → (s0 : List Bool) (f0 : List Step) → AreFound m s0 f0 → next < length f0 →
    slice_get (boxes_of f0) next ≡ Some x → IsClosed m b f0 next → (north west : Option ℕ) →
    ((a : ℕ) → Feeds m a x ↔ ((north ≡ Some a) ⊎ (west ≡ Some a))) → (north ≡ Some b → ⊥) → (west ≡ Some b → ⊥) →
    (s1 : List Bool) (f1 : List Step) → AddsStep s0 f0 north next s1 f1 → (s2 : List Bool) (f2 : List Step) → AddsStep s1 f1 west next s2 f2 →
    AreFound m s2 f2 × IsClosed m b f2 (next + 1) × (length f0 ≤ length f2) × (slice_get (boxes_of f2) 0 ≡ slice_get (boxes_of f0) 0)
both_tried m b next x sound s0 f0 are lt at closed north west feeds not_n not_w s1 f1 adds1 s2 f2 adds2 =
    (two.are, closed_more, omega (arith, one.longer, two.longer), box_kept f0 f2 0 (omega (arith, lt)) same)
  where
    read0 : box_of_step f0 next ≡ x
    read0 = get_or_from_slice_get (boxes_of f0) next x 0 at

    one : IsMore m f0 north s1 f1
    one = tried m s0 f0 are north next (λ q e. let fed = (feeds q).1 (inl e) in
        (feeder_there m q x sound fed, λ some. (lt, subst (Feeds m q) (sym read0) fed))) s1 f1 adds1

    at1 : slice_get (boxes_of f1) next ≡ Some x
    at1 = box_kept f0 f1 next lt one.same ∙ at

    two : IsMore m f1 west s2 f2
    two = tried m s1 f1 one.are west next (λ q e. let fed = (feeds q).1 (inr e) in (
      feeder_there m q x sound fed,
      λ some. (
        omega (arith, lt, one.longer),
        subst (Feeds m q) (sym (get_or_from_slice_get (boxes_of f1) next x 0 at1)) fed,
      ),
    )) s2 f2 adds2

    same : (k : ℕ) → k < length f0 → slice_get f2 k ≡ slice_get f0 k
    same k less = two.same k (omega (arith, less, one.longer)) ∙ one.same k less

    closed_more : IsClosed m b f2 (next + 1)
    closed_more i y a less at_i fed = elim (cases_eq i next) [
      | inl here ↦
          let e : Some y ≡ Some x = sym at_i ∙ (ap (slice_get (boxes_of f2)) here ∙ (box_kept f0 f2 next lt same ∙ at)) in
          let same_box : y ≡ x = cc in
          elim ((feeds a).0 (subst (Feeds m a) same_box fed)) [
            | inl n ↦ (λ q. not_n (n ∙ ap (λ z. Some z) q), in_kept f1 f2 two.same a (one.there a n))
            | inr w ↦ (λ q. not_w (w ∙ ap (λ z. Some z) q), two.there a w)
          ]
      | inr other ↦
          let low : i < next = omega (arith, less, other) in
          let old = closed i y a low (sym (box_kept f0 f2 i (omega (arith, low, lt)) same) ∙ at_i) fed in
          (old.0, in_kept f0 f2 same a old.1)
    ]

pub found_few : (m : ModuleForm) (seen : List Bool) (found : List Step) → AreFound m seen found → length found ≤ length m.boxes
found_few m seen found are =
    let le = few (boxes_of found) (length m.boxes) are.apart are.below in
    omega (arith, le, length-map found (λ (t : Step). t.bx))

pub adds_long : (seen : List Bool) (found : List Step) (o : Option ℕ) (via : ℕ) (seen' : List Bool) (found' : List Step) → AddsStep seen found o via seen' found' →
    length seen' ≡ length seen
adds_long seen found None via seen' found' (s, f) = ap length s
adds_long seen found (Some b) via seen' found' (inl (marked, s, f)) = ap length s
adds_long seen found (Some b) via seen' found' (inr (new, s, f)) = ap length s ∙ length-set seen b true

pub feeds_either : (m : ModuleForm) (a b : ℕ) (row : BoxForm) (north west : Option ℕ) → slice_get m.boxes b ≡ Some row →
    north ≡ feeder_in row.n → west ≡ feeder_in row.w → Feeds m a b ↔ ((north ≡ Some a) ⊎ (west ≡ Some a))
feeds_either m a b row north west here n w = rw (n, w) (feeds_both m a b row here)
