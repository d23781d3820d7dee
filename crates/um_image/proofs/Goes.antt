-- What follows a head in an image: abandoned identifiers, array 0 and the other arrays.
use Rattle.std.proofs.Common.{◌≡◌, ℕ, zero, suc, ◌+◌, ◌-◌, ◌<◌, ◌≤◌, List, [], ◌∷◌, ◌++◌, length, replicate, false, refl, sym, ap, subst, ◌∙◌, arith}
use Rattle.std.specs.Prelude.{slice_index, nat_eq, if◌then◌else◌}
use Rattle.std.specs.List.{IsDistinct, AllByRecursion}
use Rattle.std.proofs.lemmas.List.{append_assoc, append-nil, length-append, length-replicate, append_cancel_left, map-append}
use Rattle.std.proofs.lemmas.List.Elements.{recursion_from_All}
use Rattle.um_word.specs.State.{words_in}
use Rattle.array_store.specs.StoreView.{most_live_words}
use Rattle.array_store.specs.Parts.{Listed, is_among, active_up_to}
use Rattle.array_store.proofs.PartLemmas.{words_in-append}
use Rattle.um_image.specs.Image.{image_mark, array_words, image_words}
use Rattle.um_image.specs.Rules.{ImageParts}
use Rattle.um_image.specs.inner.Head.{HeadFits, AreWords}
use Rattle.um_image.specs.inner.Reading.{so_far}
use Rattle.um_image.proofs.Points.{GoesOn, Ends}
use Rattle.um_image.proofs.Filled.{fronts, firsts, AreKnown, finish, apart, active_after, active-split, active_first, append_fit, array_words-append}
use Rattle.um_image.proofs.Stops.{so_far-append, IsSoFar, begun, Seen, seen, seen_head, longer}

-- an identifier that may stand next
abbrev pub IsNew : ℕ → List ℕ → ℕ → Type 0
IsNew made ids id = (1 ≤ id) × (id ≤ made) × (is_among ids id ≡ false)

-- a head that keeps its rules
pub record IsHead (head : List ℕ) : Type 0 where
  pub size : length head ≡ 16
  pub words : AreWords head
  pub fits : HeadFits head

-- all abandoned identifiers
pub record AreIds (head ids : List ℕ) : Type 0 where
  pub many : length ids ≡ slice_index head 15
  pub known : AreKnown (slice_index head 14) ids
  pub once : IsDistinct nat_eq ids

pub before_zero : (head ids : List ℕ) → IsHead head → AreIds head ids → (zeros : List ℕ) → AreWords zeros → length zeros ≤ most_live_words →
    IsSoFar head ids zeros [] 0
before_zero head ids h a zeros words live = record {
  size = h.size;
  words = h.words;
  fits = h.fits;
  many = a.many;
  known = a.known;
  once = a.once;
  zero_words = words;
  within = omega arith;
  active = refl;
  listed = tt;
  live = omega (arith, live);
}

middle : (P : ℕ → Type 0) (xs : List ℕ) (y : ℕ) (ys : List ℕ) → AllByRecursion P (xs ++ y ∷ ys) → P y
middle P [] y ys h = h.0
middle P (x ∷ xs) y ys h = middle P xs y ys h.1

pub ids_go_on : (head ids : List ℕ) → IsHead head → AreKnown (slice_index head 14) ids → IsDistinct nat_eq ids →
    length ids < slice_index head 15 → GoesOn (image_mark ∷ (head ++ ids)) (IsNew (slice_index head 14) ids)
ids_go_on head ids h known once lt =
    let made = slice_index head 14 in
    let count = slice_index head 15 in
    let few = h.fits.count in
    let f = finish made (count - length ids) ids known once (omega (arith, few, lt)) in
    let many = f.many in
    let b = begun head f.all [] [] 0 (before_zero head f.all h (record { many = omega (arith, many, lt); known = f.known; once = f.once }) [] tt (omega arith)) in
    record {
      image = b.image;
      more = f.more ++ (0 ∷ b.more);
      begins = b.begins ∙ ap (λ xs. image_mark ∷ (head ++ (xs ++ (0 ∷ b.more)))) f.is ∙ simp append_assoc;
      next = λ t rest e. next t rest e;
    }
  where
    next : (t : ImageParts) (rest : List ℕ) → image_words t.parts t.taken ≡ (image_mark ∷ (head ++ ids)) ++ rest →
        (w : ℕ) × (left : List ℕ) × (rest ≡ w ∷ left) × IsNew (slice_index head 14) ids w
    next t rest e =
        let s = seen_head t head (ids ++ rest) h.size (e ∙ ap (λ xs. image_mark ∷ xs) (append_assoc head ids rest)) in
        let ab = t.parts.store.abandoned in
        let many = s.many in
        let l = longer ab ids rest (length t.parts.store.zero ∷ (t.parts.store.zero ++ array_words t.parts.store.arrays)) (omega (arith, many, lt)) s.left in
        let all = recursion_from_All (λ id. (1 ≤ id) × (id ≤ t.parts.store.made)) ab t.rules.machine.store.known in
        let here = middle (λ id. (1 ≤ id) × (id ≤ t.parts.store.made)) ids l.next l.more
        (subst (AllByRecursion (λ id. (1 ≤ id) × (id ≤ t.parts.store.made))) l.is all) in
        let made = s.made in (
          l.next,
          l.more ++ (length t.parts.store.zero ∷ (t.parts.store.zero ++ array_words t.parts.store.arrays)),
          l.left,
          (
            here.0,
            (let a = here.1 in omega (arith, a, made)),
            apart ids l.next l.more (subst (IsDistinct nat_eq) l.is t.rules.machine.store.once),
          ),
        )

-- the number of words of array 0
abbrev pub IsSize : ℕ → ℕ → Type 0
IsSize before size = before + size ≤ most_live_words

pub record SeenIds (t : ImageParts) (ids more : List ℕ) : Type 0 where
  pub left : length t.parts.store.zero ∷ (t.parts.store.zero ++ array_words t.parts.store.arrays) ≡ more

seen_ids : (t : ImageParts) (head ids more : List ℕ) → IsHead head → AreIds head ids →
    image_words t.parts t.taken ≡ image_mark ∷ (head ++ (ids ++ more)) → SeenIds t ids more
seen_ids t head ids more h a e =
    let s = seen_head t head (ids ++ more) h.size e in
    let f = fronts t.parts.store.abandoned ids (length t.parts.store.zero ∷ (t.parts.store.zero ++ array_words t.parts.store.arrays)) more
    (s.many ∙ sym a.many) s.left in
    record { left = f.rest }

pub size_goes_on : (head ids : List ℕ) → IsHead head → AreIds head ids → GoesOn (image_mark ∷ (head ++ ids)) (IsSize 0)
size_goes_on head ids h a =
    let b = begun head ids [] [] 0 (before_zero head ids h a [] tt (omega arith)) in
    record {
      image = b.image;
      more = 0 ∷ b.more;
      begins = b.begins ∙ ap (λ xs. image_mark ∷ xs) (sym (append_assoc head ids (0 ∷ b.more)));
      next = λ t rest e.
          let s = seen_ids t head ids rest h a (e ∙ ap (λ xs. image_mark ∷ xs) (append_assoc head ids rest)) in
          let live = t.rules.machine.store.words in
          (length t.parts.store.zero, t.parts.store.zero ++ array_words t.parts.store.arrays, sym s.left, omega (arith, live));
    }

pub IsAny : ℕ → Type 0
IsAny w = Unit {0}

pub any : (w : ℕ) → IsAny w
unfolding IsAny
any w = tt

zeros_fit : (n : ℕ) → AreWords (replicate n 0)
zeros_fit zero = tt
zeros_fit (suc n) = (omega arith, zeros_fit n)

-- words that are followed by zeros up to a number of them
abbrev padded : List ℕ → ℕ → List ℕ
padded xs size = xs ++ replicate (size - length xs) 0

length-padded : (xs : List ℕ) (size : ℕ) → length xs ≤ size → length (padded xs size) ≡ size
length-padded xs size h =
    let a = length-append xs (replicate (size - length xs) 0) in let b = length-replicate {A = ℕ} (size - length xs) 0 in omega (arith, a, b, h)

pub zero_goes_on : (head ids xs : List ℕ) (size : ℕ) → IsHead head → AreIds head ids → AreWords xs → length xs < size → IsSize 0 size →
    GoesOn (image_mark ∷ (head ++ (ids ++ (size ∷ xs)))) IsAny
zero_goes_on head ids xs size h a words lt live =
    let all = padded xs size in
    let long : length all ≡ size = length-padded xs size (omega (arith, lt)) in
    let b = begun head ids all [] 0 (before_zero head ids h a all (append_fit xs (replicate (size - length xs) 0) words (zeros_fit (size - length xs))) (omega (arith, long, live))) in
    record {
      image = b.image;
      more = replicate (size - length xs) 0 ++ b.more;
      begins = b.begins ∙ ap (λ n. image_mark ∷ (head ++ (ids ++ (n ∷ (all ++ b.more))))) long ∙ simp append_assoc;
      next = λ t rest e. next t rest e;
    }
  where
    next : (t : ImageParts) (rest : List ℕ) → image_words t.parts t.taken ≡ (image_mark ∷ (head ++ (ids ++ (size ∷ xs)))) ++ rest →
        (w : ℕ) × (left : List ℕ) × (rest ≡ w ∷ left) × IsAny w
    next t rest e =
        let regroup : (image_mark ∷ (head ++ (ids ++ (size ∷ xs)))) ++ rest ≡ image_mark ∷ (head ++ (ids ++ (size ∷ (xs ++ rest)))) = simp append_assoc in
        let s = seen_ids t head ids (size ∷ (xs ++ rest)) h a (e ∙ regroup) in
        let own = t.parts.store.zero in
        let q : length own ∷ (own ++ array_words t.parts.store.arrays) ≡ size ∷ (xs ++ rest) = s.left in
        let long : length own ≡ size = cc in
        let tail : own ++ array_words t.parts.store.arrays ≡ xs ++ rest = cc in
        let l = longer own xs rest (array_words t.parts.store.arrays) (omega (arith, long, lt)) tail in
        (l.next, l.more ++ array_words t.parts.store.arrays, l.left, any l.next)

-- the array that comes next
pub record NextArray (t : ImageParts) (id before : ℕ) (more : List ℕ) : Type 0 where
  pub words : List ℕ
  pub others : Listed
  pub left : id ∷ (length words ∷ (words ++ array_words others)) ≡ more
  pub live : IsSize before (length words)

module _ (head ids zeros : List ℕ) (arrays : Listed) (n : ℕ) (s : IsSoFar head ids zeros arrays n) where
  abbrev before : ℕ
  before = length zeros + words_in arrays

  firsts_left : (t : ImageParts) (more : List ℕ) (x : Seen t head ids zeros arrays more) (k : ℕ) → n + k ≡ slice_index head 14 → firsts x.rest ≡ active_after ids n k
  firsts_left t more x k end =
      append_cancel_left (active_up_to ids n) (firsts x.rest) (active_after ids n k)
      (ap (λ ys. ys ++ firsts x.rest) (sym s.active) ∙ sym (map-append (λ (a : ℕ × List ℕ). a.0) arrays x.rest)
      ∙ ap firsts (sym x.arrays_are) ∙ t.rules.machine.store.active ∙ (λ i. active_up_to (x.ids_are i) (x.made i))
      ∙ ap (active_up_to ids) (sym end) ∙ active-split ids n k)

  live_of : (t : ImageParts) (more : List ℕ) (x : Seen t head ids zeros arrays more) → before + words_in x.rest ≤ most_live_words
  live_of t more x =
      let a = t.rules.machine.store.words in
      let b = ap length x.zero_is in
      let d = ap words_in x.arrays_are in
      let e = words_in-append arrays x.rest in
      omega (arith, a, b, d, e)

  next_array : n < slice_index head 14 → is_among ids (suc n) ≡ false → (t : ImageParts) (more : List ℕ) →
      image_words t.parts t.taken ≡ so_far head ids zeros arrays more → NextArray t (suc n) before more
  next_array lt new t more e =
      let x = seen t head ids zeros arrays more s.size s.many e in
      let k = slice_index head 14 - suc n in
      let f = firsts_left t more x (suc k) (omega (arith, lt)) in
      let first : active_after ids n (suc k) ≡ suc n ∷ active_after ids (suc n) k =
      active_first ids n k ∙ ap (λ b. (if b then [] else suc n ∷ []) ++ active_after ids (suc n) k) new in
      take_first t more x.rest (f ∙ first) x.left (live_of t more x)
    where
      take_first : (t : ImageParts) (more : List ℕ) (rest : Listed) {ys : List ℕ} → firsts rest ≡ suc n ∷ ys → array_words rest ≡ more →
          before + words_in rest ≤ most_live_words → NextArray t (suc n) before more
      take_first t more [] {ys} f left live = absurd (let h : [] ≡ suc n ∷ ys = f in cc)
      take_first t more (y ∷ rest) {ys} f left live =
          let h : y.0 ∷ firsts rest ≡ suc n ∷ ys = f in
          let id : y.0 ≡ suc n = cc in
          record {
            words = y.1;
            others = rest;
            left = ap (λ i. i ∷ (length y.1 ∷ (y.1 ++ array_words rest))) (sym id) ∙ left;
            live = omega (arith, live);
          }

  pub id_goes_on : n < slice_index head 14 → is_among ids (suc n) ≡ false → GoesOn (so_far head ids zeros arrays []) (λ w. w ≡ suc n)
  id_goes_on lt new =
      let b = begun head ids zeros arrays n s in
      record {
        image = b.image;
        more = b.more;
        begins = b.begins ∙ sym (so_far-append head ids zeros arrays [] b.more);
        next = λ t rest e.
            let a = next_array lt new t rest (e ∙ so_far-append head ids zeros arrays [] rest) in
            (suc n, length a.words ∷ (a.words ++ array_words a.others), sym a.left, refl);
      }

  -- with one array more
  more_so_far : (ws : List ℕ) → n < slice_index head 14 → is_among ids (suc n) ≡ false → AreWords ws → IsSize before (length ws) →
      IsSoFar head ids zeros (arrays ++ (suc n, ws) ∷ []) (suc n)
  more_so_far ws lt new fit live =
      let made = s.fits.made in
      record {
        size = s.size;
        words = s.words;
        fits = s.fits;
        many = s.many;
        known = s.known;
        once = s.once;
        zero_words = s.zero_words;
        within = omega (arith, lt);
        active =
            map-append (λ (a : ℕ × List ℕ). a.0) arrays ((suc n, ws) ∷ []) ∙ ap (λ xs. xs ++ suc n ∷ []) s.active
            ∙ ap (λ b. active_up_to ids n ++ (if b then [] else suc n ∷ [])) (sym new);
        listed = subst AreWords (sym (array_words-append arrays ((suc n, ws) ∷ [])))
            (append_fit (array_words arrays) (array_words ((suc n, ws) ∷ [])) s.listed
            ((omega (arith, lt, made)), ((omega (arith, live)), append_fit ws [] fit tt)));
        live = (let e = words_in-append arrays ((suc n, ws) ∷ []) in omega (arith, e, live));
      }

  begun_more : (ws : List ℕ) → n < slice_index head 14 → is_among ids (suc n) ≡ false → AreWords ws → IsSize before (length ws) →
      (t : ImageParts) × (more : List ℕ) × (image_words t.parts t.taken ≡ so_far head ids zeros arrays (suc n ∷ (length ws ∷ (ws ++ more))))
  begun_more ws lt new fit live =
      let b = begun head ids zeros (arrays ++ (suc n, ws) ∷ []) (suc n) (more_so_far ws lt new fit live) in (
        b.image,
        b.more,
        b.begins
            ∙ ap (λ xs. image_mark ∷ (head ++ (ids ++ (length zeros ∷ (zeros ++ (xs ++ b.more)))))) (array_words-append arrays ((suc n, ws) ∷ []))
            ∙ simp (append_assoc, append-nil),
      )

  pub array_size_goes_on : n < slice_index head 14 → is_among ids (suc n) ≡ false →
      GoesOn (so_far head ids zeros arrays (suc n ∷ [])) (IsSize (length zeros + words_in arrays))
  array_size_goes_on lt new =
      let live = s.live in
      let b = begun_more [] lt new tt (omega (arith, live)) in
      record {
        image = b.0;
        more = 0 ∷ b.1;
        begins = b.2 ∙ sym (so_far-append head ids zeros arrays (suc n ∷ []) (0 ∷ b.1));
        next = λ t rest e.
            let a = next_array lt new t (suc n ∷ rest) (e ∙ so_far-append head ids zeros arrays (suc n ∷ []) rest) in
            let h : suc n ∷ (length a.words ∷ (a.words ++ array_words a.others)) ≡ suc n ∷ rest = a.left in
            let tail : length a.words ∷ (a.words ++ array_words a.others) ≡ rest = cc in
            (length a.words, a.words ++ array_words a.others, sym tail, a.live);
      }

  pub array_goes_on : (xs : List ℕ) (size : ℕ) → n < slice_index head 14 → is_among ids (suc n) ≡ false → AreWords xs → length xs < size →
      IsSize (length zeros + words_in arrays) size → GoesOn (so_far head ids zeros arrays (suc n ∷ (size ∷ xs))) IsAny
  array_goes_on xs size lt new fit short live =
      let all = padded xs size in
      let long : length all ≡ size = length-padded xs size (omega (arith, short)) in
      let b = begun_more all lt new (append_fit xs (replicate (size - length xs) 0) fit (zeros_fit (size - length xs))) (omega (arith, long, live)) in
      let split : suc n ∷ (length all ∷ (all ++ b.1)) ≡ (suc n ∷ (size ∷ xs)) ++ (replicate (size - length xs) 0 ++ b.1) =
      ap (λ k. suc n ∷ (k ∷ (all ++ b.1))) long ∙ ap (λ ys. suc n ∷ (size ∷ ys)) (append_assoc xs (replicate (size - length xs) 0) b.1) in
      record {
        image = b.0;
        more = replicate (size - length xs) 0 ++ b.1;
        begins = b.2 ∙ ap (so_far head ids zeros arrays) split
            ∙ sym (so_far-append head ids zeros arrays (suc n ∷ (size ∷ xs)) (replicate (size - length xs) 0 ++ b.1));
        next = λ t rest e.
            let a = next_array lt new t ((suc n ∷ (size ∷ xs)) ++ rest) (e ∙ so_far-append head ids zeros arrays (suc n ∷ (size ∷ xs)) rest) in
            let h : suc n ∷ (length a.words ∷ (a.words ++ array_words a.others)) ≡ suc n ∷ (size ∷ (xs ++ rest)) = a.left in
            let same : length a.words ≡ size = cc in
            let tail : a.words ++ array_words a.others ≡ xs ++ rest = cc in
            let l = longer a.words xs rest (array_words a.others) (omega (arith, same, short)) tail in
            (l.next, l.more ++ array_words a.others, l.left, any l.next);
      }

  pub image_ends : n ≡ slice_index head 14 → Ends (so_far head ids zeros arrays [])
  image_ends end =
      let b = begun head ids zeros arrays n s in
      let none = only b.image b.more (b.begins ∙ sym (so_far-append head ids zeros arrays [] b.more)) in
      record {
        image = b.image;
        begins = b.begins ∙ ap (so_far head ids zeros arrays) none;
        only = only;
      }
    where
      nothing : (rest : Listed) → firsts rest ≡ [] → array_words rest ≡ []
      nothing [] f = refl
      nothing (y ∷ rest) f = absurd (let h : y.0 ∷ firsts rest ≡ [] = f in cc)

      only : (t : ImageParts) (rest : List ℕ) → image_words t.parts t.taken ≡ so_far head ids zeros arrays [] ++ rest → rest ≡ []
      only t rest e =
          let x = seen t head ids zeros arrays rest s.size s.many (e ∙ so_far-append head ids zeros arrays [] rest) in
          let f = firsts_left t rest x 0 (omega (arith, end)) in
          sym x.left ∙ nothing x.rest f
