-- What may follow the words of an image that is begun.
use Rattle.std.proofs.Common.{◌≡◌, ℕ, zero, suc, ◌+◌, ◌-◌, ◌^◌, ◌<◌, ◌≤◌, List, [], ◌∷◌, ◌++◌, length, take, drop, set, replicate, refl, sym, ap, subst, ◌∙◌, inl, inr, arith}
use Rattle.std.specs.Prelude.{slice_index, nat_eq}
use Rattle.std.specs.List.{IsDistinct, AllByRecursion}
use Rattle.std.proofs.lemmas.Bool.{cases_lt, cases_eq}
use Rattle.std.proofs.lemmas.List.{append_assoc, length-take-le, take-append-drop, get_or-set_same, get_or-set_other, get_or-take, get_or_append_left, get_or_at}
use Rattle.std.proofs.lemmas.List.Elements.{All-from_recursion, recursion_from_All, All-nil}
use Rattle.um_word.specs.State.{words_in}
use Rattle.array_store.specs.StoreView.{most_live_arrays, most_live_words}
use Rattle.array_store.specs.Parts.{Listed, active_up_to}
use Rattle.um_machine.specs.MachineParts.{most_saved_cycles}
use Rattle.um_image.specs.Image.{image_mark, array_words, image_words}
use Rattle.um_image.specs.Rules.{ImageParts}
use Rattle.um_image.specs.inner.Head.{long, HeadFits, AreWords}
use Rattle.um_image.specs.inner.Reading.{so_far}
use Rattle.um_image.proofs.Points.{GoesOn}
use Rattle.um_image.proofs.Filled.{fronts, firsts, filled, firsts-filled, words_in-filled, extends, after, AreKnown, append_fit}
use Rattle.um_image.proofs.Heads.{head_of, rest_of, parts_by, taken_by, head_back, length-head, at_head, head_fits}

pub so_far-append : (head ids zeros : List ℕ) (arrays : Listed) (tail more : List ℕ) →
    so_far head ids zeros arrays tail ++ more ≡ so_far head ids zeros arrays (tail ++ more)
so_far-append head ids zeros arrays tail more = simp append_assoc

-- A head that keeps its rules, all abandoned identifiers, the words of array 0, and the arrays of the identifiers up
-- to n.
pub record IsSoFar (head ids zeros : List ℕ) (arrays : Listed) (n : ℕ) : Type 0 where
  pub size : length head ≡ 16
  pub words : AreWords head
  pub fits : HeadFits head
  pub many : length ids ≡ slice_index head 15
  pub known : AreKnown (slice_index head 14) ids
  pub once : IsDistinct nat_eq ids
  pub zero_words : AreWords zeros
  pub within : n ≤ slice_index head 14
  pub active : firsts arrays ≡ active_up_to ids n
  pub listed : AreWords (array_words arrays)
  pub live : length zeros + words_in arrays ≤ most_live_words

-- some image goes on from there
pub record Begun (head ids zeros : List ℕ) (arrays : Listed) : Type 0 where
  pub image : ImageParts
  pub more : List ℕ
  pub begins : image_words image.parts image.taken ≡ so_far head ids zeros arrays more

known_fit : (made : ℕ) (ids : List ℕ) → made < 2 ^ 32 → AllByRecursion (λ id. (1 ≤ id) × (id ≤ made)) ids → AreWords ids
known_fit made [] h a = tt
known_fit made (x ∷ xs) h a = ((let b = a.0.1 in omega (arith, b, h)), known_fit made xs h a.1)

pub begun : (head ids zeros : List ℕ) (arrays : Listed) (n : ℕ) → IsSoFar head ids zeros arrays n → Begun head ids zeros arrays
begun head ids zeros arrays n s =
    let made = slice_index head 14 in
    let k = made - n in
    let low = s.fits.made in
    let within = s.within in
    let all = filled ids arrays n k in
    let e = extends ids arrays n k (let t : n + k < 2 ^ 32 = omega (arith, low, within) in t) in
    let end : n + k ≡ made = omega (arith, within) in
    let back = head_back head ids zeros all s.size s.words s.fits s.many in
    let is : image_words (parts_by head ids zeros all) (taken_by head) ≡ so_far head ids zeros arrays e.more =
    (λ i. image_mark ∷ (back i ++ (ids ++ (length zeros ∷ (zeros ++ e.is i))))) in
    let live = s.live in
    let many = s.many in
    let count = s.fits.count in
    let words = words_in-filled ids arrays n k in
    let size = s.size in
    let fit : AreWords (so_far head ids zeros arrays e.more) = (
      (let t : image_mark < 2 ^ 32 = omega arith in t),
      append_fit head _ s.words (append_fit ids _
          (known_fit made ids (omega (arith, low)) (recursion_from_All (λ id. (1 ≤ id) × (id ≤ made)) ids s.known))
          ((omega (arith, live)), append_fit zeros _ s.zero_words (append_fit (array_words arrays) e.more s.listed e.fit))),
    ) in
    record {
      image = record {
        parts = parts_by head ids zeros all;
        taken = taken_by head;
        rules = record {
          machine = record {
            cycles = s.fits.cycles;
            store = record {
              made = s.fits.made;
              fewer = omega (arith, many, count);
              known = s.known;
              once = s.once;
              active = firsts-filled ids arrays n k s.active ∙ ap (active_up_to ids) end;
              words = omega (arith, words, live);
            };
          };
          registers = length-take-le 8 head (omega (arith, size));
          counted = s.fits.taken;
          words = All-from_recursion (λ w. w < 2 ^ 32) (image_words (parts_by head ids zeros all) (taken_by head)) (subst AreWords (sym is) fit);
        };
      };
      more = e.more;
      begins = is;
    }

-- the image of parts begins with these words: the parts are those that the words tell
pub record Seen (t : ImageParts) (head ids zeros : List ℕ) (arrays : Listed) (more : List ℕ) : Type 0 where
  pub head_is : head_of t.parts t.taken ≡ head
  pub made : t.parts.store.made ≡ slice_index head 14
  pub ids_are : t.parts.store.abandoned ≡ ids
  pub zero_is : t.parts.store.zero ≡ zeros
  pub rest : Listed
  pub arrays_are : t.parts.store.arrays ≡ arrays ++ rest
  pub left : array_words rest ≡ more

-- the head of parts whose words begin so
pub record SeenHead (t : ImageParts) (head more : List ℕ) : Type 0 where
  pub head_is : head_of t.parts t.taken ≡ head
  pub made : t.parts.store.made ≡ slice_index head 14
  pub many : length t.parts.store.abandoned ≡ slice_index head 15
  pub left : rest_of t.parts.store.abandoned t.parts.store.zero t.parts.store.arrays ≡ more

pub seen_head : (t : ImageParts) (head more : List ℕ) → length head ≡ 16 → image_words t.parts t.taken ≡ image_mark ∷ (head ++ more) → SeenHead t head more
seen_head t head more size e =
    let own = head_of t.parts t.taken in
    let rest = rest_of t.parts.store.abandoned t.parts.store.zero t.parts.store.arrays in
    let h : image_mark ∷ (own ++ rest) ≡ image_mark ∷ (head ++ more) = e in
    let tail : own ++ rest ≡ head ++ more = cc in
    let f = fronts own head rest more (length-head t.parts t.taken t.rules.registers ∙ sym size) tail in
    record {
      head_is = f.first;
      made = sym (at_head t.parts t.taken t.rules 14 (omega arith)) ∙ ap (λ xs. slice_index xs 14) f.first;
      many = sym (at_head t.parts t.taken t.rules 15 (omega arith)) ∙ ap (λ xs. slice_index xs 15) f.first;
      left = f.rest;
    }

pub seen : (t : ImageParts) (head ids zeros : List ℕ) (arrays : Listed) (more : List ℕ) → length head ≡ 16 → length ids ≡ slice_index head 15 →
    image_words t.parts t.taken ≡ so_far head ids zeros arrays more → Seen t head ids zeros arrays more
seen t head ids zeros arrays more size many e =
    let a = seen_head t head (ids ++ (length zeros ∷ (zeros ++ (array_words arrays ++ more)))) size e in
    let own = t.parts.store.zero in
    let all = t.parts.store.arrays in
    let b = fronts t.parts.store.abandoned ids (length own ∷ (own ++ array_words all)) (length zeros ∷ (zeros ++ (array_words arrays ++ more)))
    (a.many ∙ sym many) a.left in
    let c : length own ∷ (own ++ array_words all) ≡ length zeros ∷ (zeros ++ (array_words arrays ++ more)) = b.rest in
    let long : length own ≡ length zeros = cc in
    let tail : own ++ array_words all ≡ zeros ++ (array_words arrays ++ more) = cc in
    let d = fronts own zeros (array_words all) (array_words arrays ++ more) long tail in
    let f = after arrays all more d.rest in
    record {
      head_is = a.head_is;
      made = a.made;
      ids_are = b.first;
      zero_is = d.first;
      rest = f.rest;
      arrays_are = f.is;
      left = f.words;
    }

-- of two lists that are alike one part of the first is longer
pub record Longer (long short rest behind : List ℕ) : Type 0 where
  pub next : ℕ
  pub more : List ℕ
  pub is : long ≡ short ++ next ∷ more
  pub left : rest ≡ next ∷ (more ++ behind)

longer_cons : (x y : ℕ) (long short rest behind : List ℕ) → x ≡ y → Longer long short rest behind → Longer (x ∷ long) (y ∷ short) rest behind
longer_cons x y long short rest behind e l = record { next = l.next; more = l.more; is = (λ i. e i ∷ l.is i); left = l.left }

pub longer : (long short rest behind : List ℕ) → length short < length long → long ++ behind ≡ short ++ rest → Longer long short rest behind
longer [] short rest behind h e = absurd (omega (arith, h))
longer (x ∷ long) [] rest behind h e = record { next = x; more = long; is = refl; left = sym e }
longer (x ∷ long) (y ∷ short) rest behind h e =
    let f : x ∷ (long ++ behind) ≡ y ∷ (short ++ rest) = e in
    let first : x ≡ y = cc in
    let tail : long ++ behind ≡ short ++ rest = cc in
    longer_cons x y long short rest behind first (longer long short rest behind (omega (arith, h)) tail)

-- the first word
abbrev pub IsMark : ℕ → Type 0
IsMark w = w ≡ image_mark

pub zero_fits : HeadFits (replicate 16 0)
zero_fits = record { cycles = omega arith; taken = omega arith; halted = omega arith; made = omega arith; count = omega arith }

pub zero_words : AreWords (replicate 16 0)
zero_words = let h : 0 < 2 ^ 32 = omega arith in (h, (h, (h, (h, (h, (h, (h, (h, (h, (h, (h, (h, (h, (h, (h, (h, tt))))))))))))))))

pub zeros_at : (n i : ℕ) → slice_index (replicate n 0) i ≡ 0
zeros_at zero i = refl
zeros_at (suc n) zero = refl
zeros_at (suc n) (suc i) = zeros_at n i

pub once_none : IsDistinct nat_eq []
unfolding IsDistinct
once_none = tt

-- with a head that keeps its rules and tells of no abandoned identifiers
plain : (head : List ℕ) → length head ≡ 16 → AreWords head → HeadFits head → slice_index head 15 ≡ 0 → IsSoFar head [] [] [] 0
plain head size words fits none = record {
  size = size;
  words = words;
  fits = fits;
  many = sym none;
  known = All-nil (λ id. (1 ≤ id) × (id ≤ slice_index head 14));
  once = once_none;
  zero_words = tt;
  within = omega arith;
  active = refl;
  listed = tt;
  live = omega arith;
}

pub first_goes_on : GoesOn [] IsMark
first_goes_on =
    let b = begun (replicate 16 0) [] [] [] 0 (plain (replicate 16 0) refl zero_words zero_fits refl) in
    record {
      image = b.image;
      more = so_far (replicate 16 0) [] [] [] b.more;
      begins = b.begins;
      next = λ t rest e. (image_mark, head_of t.parts t.taken ++ rest_of t.parts.store.abandoned t.parts.store.zero t.parts.store.arrays, sym e, refl);
    }

-- the next word of a head, where those that follow are 0
abbrev pub GoesInHead : List ℕ → ℕ → ℕ → Type 0
GoesInHead head k w = HeadFits (set head k w)

-- the rules hold of a head of which only the first words are kept
cut_fits : (whole head : List ℕ) (k : ℕ) → HeadFits whole → ((i : ℕ) → i ≤ k → slice_index head i ≡ slice_index whole i) →
    ((i : ℕ) → k < i → slice_index head i ≡ 0) → HeadFits head
cut_fits whole head k f low high = record { cycles = cycles; taken = taken; halted = halted; made = made; count = count }
  where
    cycles : long (slice_index head 9) (slice_index head 10) ≤ most_saved_cycles
    cycles = let c = f.cycles in elim (cases_lt k 9) as (λ _. long (slice_index head 9) (slice_index head 10) ≤ most_saved_cycles) [
      | inl lt ↦ let a = high 9 lt in let b = high 10 (omega (arith, lt)) in omega (arith, a, b)
      | inr ge ↦ let a = low 9 ge in elim (cases_lt k 10) as (λ _. long (slice_index head 9) (slice_index head 10) ≤ most_saved_cycles) [
        | inl lt ↦ let b = high 10 lt in omega (arith, a, b, c)
        | inr le ↦ let b = low 10 le in omega (arith, a, b, c)
      ]
    ]

    taken : long (slice_index head 11) (slice_index head 12) ≤ long (slice_index head 9) (slice_index head 10)
    taken = let c = f.taken in elim (cases_lt k 11) as (λ _. long (slice_index head 11) (slice_index head 12) ≤ long (slice_index head 9) (slice_index head 10)) [
      | inl lt ↦ let a = high 11 lt in let b = high 12 (omega (arith, lt)) in omega (arith, a, b)
      | inr ge ↦
          let x = low 9 (omega (arith, ge)) in let y = low 10 (omega (arith, ge)) in let a = low 11 ge in
          elim (cases_lt k 12) as (λ _. long (slice_index head 11) (slice_index head 12) ≤ long (slice_index head 9) (slice_index head 10)) [
            | inl lt ↦ let b = high 12 lt in omega (arith, a, b, c, x, y)
            | inr le ↦ let b = low 12 le in omega (arith, a, b, c, x, y)
          ]
    ]

    halted : slice_index head 13 ≤ 1
    halted = let c = f.halted in elim (cases_lt k 13) as (λ _. slice_index head 13 ≤ 1) [
      | inl lt ↦ let a = high 13 lt in omega (arith, a)
      | inr ge ↦ let a = low 13 ge in omega (arith, a, c)
    ]

    made : slice_index head 14 ≤ most_live_arrays
    made = let c = f.made in elim (cases_lt k 14) as (λ _. slice_index head 14 ≤ most_live_arrays) [
      | inl lt ↦ let a = high 14 lt in omega (arith, a)
      | inr ge ↦ let a = low 14 ge in omega (arith, a, c)
    ]

    count : slice_index head 15 ≤ slice_index head 14
    count = let c = f.count in elim (cases_lt k 15) as (λ _. slice_index head 15 ≤ slice_index head 14) [
      | inl lt ↦ let a = high 15 lt in omega (arith, a)
      | inr ge ↦ let a = low 15 ge in let b = low 14 (omega (arith, ge)) in omega (arith, a, b, c)
    ]

pub head_goes_on : (head : List ℕ) (k : ℕ) → k < 16 → length head ≡ 16 → AreWords head → HeadFits head →
    ((i : ℕ) → k ≤ i → slice_index head i ≡ 0) → GoesOn (image_mark ∷ take k head) (GoesInHead head k)
head_goes_on head k lt size words fits zeros =
    let b = begun head [] [] [] 0 (plain head size words fits (zeros 15 (omega (arith, lt)))) in
    let split : so_far head [] [] [] b.more ≡ (image_mark ∷ take k head) ++ (drop k head ++ ([] ++ (0 ∷ ([] ++ ([] ++ b.more))))) =
    ap (λ xs. image_mark ∷ (xs ++ ([] ++ (0 ∷ ([] ++ ([] ++ b.more)))))) (sym (take-append-drop k head))
    ∙ ap (λ xs. image_mark ∷ xs) (append_assoc (take k head) (drop k head) (0 ∷ b.more)) in
    record {
      image = b.image;
      more = drop k head ++ ([] ++ (0 ∷ ([] ++ ([] ++ b.more))));
      begins = b.begins ∙ split;
      next = λ t rest e. next t rest e;
    }
  where
    next : (t : ImageParts) (rest : List ℕ) → image_words t.parts t.taken ≡ (image_mark ∷ take k head) ++ rest →
        (w : ℕ) × (left : List ℕ) × (rest ≡ w ∷ left) × GoesInHead head k w
    next t rest e =
        let own = head_of t.parts t.taken in
        let behind = rest_of t.parts.store.abandoned t.parts.store.zero t.parts.store.arrays in
        let h : image_mark ∷ (own ++ behind) ≡ image_mark ∷ (take k head ++ rest) = e in
        let tail : own ++ behind ≡ take k head ++ rest = cc in
        let long : length own ≡ 16 = length-head t.parts t.taken t.rules.registers in
        let short : length (take k head) ≡ k = length-take-le k head (omega (arith, size, lt)) in
        let l = longer own (take k head) rest behind (omega (arith, long, short, lt)) tail in
        let is = l.is in
        let before : (i : ℕ) → i < k → slice_index head i ≡ slice_index own i =
        λ i lt. sym (get_or-take k head i 0 lt)
        ∙ sym (get_or_append_left (take k head) (l.next ∷ l.more) 0 i (omega (arith, short, lt)))
        ∙ ap (λ xs. slice_index xs i) (sym is) in
        let here : slice_index own k ≡ l.next =
        ap (λ xs. slice_index xs k) is ∙ get_or_at (take k head) l.next l.more 0 k short in (
          l.next,
          l.more ++ behind,
          l.left,
          cut_fits own (set head k l.next) k (head_fits t.parts t.taken t.rules)
              (λ i le. elim (cases_eq i k) as (λ _. slice_index (set head k l.next) i ≡ slice_index own i) [
                | inl same ↦ ap (slice_index (set head k l.next)) same ∙ get_or-set_same head k l.next 0 (omega (arith, size, lt)) ∙ sym here ∙ ap (slice_index own) (sym same)
                | inr ne ↦ get_or-set_other head k i l.next 0 ne ∙ before i (omega (arith, le, ne))
              ])
              (λ i lt. get_or-set_other head k i l.next 0 (λ e. omega (arith, e, lt)) ∙ zeros i (omega (arith, lt))),
        )
