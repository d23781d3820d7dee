-- Lists of identifiers and of arrays that are begun can be finished.
use Rattle.std.proofs.Common.{◌≡◌, ℕ, zero, suc, ◌+◌, ◌^◌, ◌<◌, ◌≤◌, List, [], ◌∷◌, ◌++◌, length, Bool, true, false, refl, sym, ap, ◌∙◌, arith}
use Rattle.std.specs.Prelude.{map, All, nat_eq, if◌then◌else◌, ◌||◌}
use Rattle.std.specs.List.{IsDistinct, AllByRecursion}
use Rattle.std.proofs.lemmas.List.{append_assoc, append-nil, length-append, map-append}
use Rattle.std.proofs.lemmas.List.Elements.{All-push}
use Rattle.um_word.specs.State.{words_in}
use Rattle.array_store.specs.Parts.{Listed, is_among, active_up_to}
use Rattle.array_store.proofs.PartLemmas.{words_in-append, none_counted, distinct-push}
use Rattle.um_image.specs.Image.{array_words}

abbrev pub firsts : Listed → List ℕ
firsts xs = map (λ a. a.0) xs

abbrev pub one_active : List ℕ → ℕ → List ℕ
one_active ids id = if is_among ids id then [] else id ∷ []

-- the k identifiers after n that are active
abbrev pub active_after : List ℕ → ℕ → ℕ → List ℕ
active_after ids n zero = []
active_after ids n (suc k) = active_after ids n k ++ one_active ids (suc (n + k))

pub active-split : (ids : List ℕ) (n k : ℕ) → active_up_to ids (n + k) ≡ active_up_to ids n ++ active_after ids n k
active-split ids n zero = (let e : n + 0 ≡ n = omega arith in ap (active_up_to ids) e) ∙ sym (append-nil (active_up_to ids n))
active-split ids n (suc k) =
    (let e : n + suc k ≡ suc (n + k) = omega arith in ap (active_up_to ids) e)
    ∙ ap (λ xs. xs ++ one_active ids (suc (n + k))) (active-split ids n k)
    ∙ append_assoc (active_up_to ids n) (active_after ids n k) (one_active ids (suc (n + k)))

pub active_first : (ids : List ℕ) (n k : ℕ) → active_after ids n (suc k) ≡ one_active ids (suc n) ++ active_after ids (suc n) k
active_first ids n zero =
    (let e : suc (n + 0) ≡ suc n = omega arith in ap (one_active ids) e) ∙ sym (append-nil (one_active ids (suc n)))
active_first ids n (suc k) =
    ap (λ xs. xs ++ one_active ids (suc (n + suc k))) (active_first ids n k)
    ∙ append_assoc (one_active ids (suc n)) (active_after ids (suc n) k) (one_active ids (suc (n + suc k)))
    ∙ (let e : suc (n + suc k) ≡ suc (suc n + k) = omega arith in
    ap (λ j. one_active ids (suc n) ++ (active_after ids (suc n) k ++ one_active ids j)) e)

-- arrays of no words for the next k identifiers that are active
abbrev one_filled : List ℕ → ℕ → Listed
one_filled ids id = if is_among ids id then [] else (id, []) ∷ []

abbrev pub filled : List ℕ → Listed → ℕ → ℕ → Listed
filled ids xs n zero = xs
filled ids xs n (suc k) = filled ids xs n k ++ one_filled ids (suc (n + k))

firsts_one : (b : Bool) (id : ℕ) → firsts (if b then [] else (id, []) ∷ []) ≡ (if b then [] else id ∷ [])
firsts_one true id = refl
firsts_one false id = refl

pub firsts-filled : (ids : List ℕ) (xs : Listed) (n k : ℕ) → firsts xs ≡ active_up_to ids n → firsts (filled ids xs n k) ≡ active_up_to ids (n + k)
firsts-filled ids xs n zero e = e ∙ (let s : n ≡ n + 0 = omega arith in ap (active_up_to ids) s)
firsts-filled ids xs n (suc k) e =
    map-append (λ (a : ℕ × List ℕ). a.0) (filled ids xs n k) (one_filled ids (suc (n + k)))
    ∙ (λ i. firsts-filled ids xs n k e i ++ firsts_one (is_among ids (suc (n + k))) (suc (n + k)) i)
    ∙ (let s : suc (n + k) ≡ n + suc k = omega arith in ap (active_up_to ids) s)

no_words : (b : Bool) (id : ℕ) → words_in (if b then [] else (id, []) ∷ []) ≡ 0
no_words true id = refl
no_words false id = refl

pub words_in-filled : (ids : List ℕ) (xs : Listed) (n k : ℕ) → words_in (filled ids xs n k) ≡ words_in xs
words_in-filled ids xs n zero = refl
words_in-filled ids xs n (suc k) =
    let a = words_in-append (filled ids xs n k) (one_filled ids (suc (n + k))) in
    let b = no_words (is_among ids (suc (n + k))) (suc (n + k)) in
    let c = words_in-filled ids xs n k in
    omega (arith, a, b, c)

pub array_words-append : (xs ys : Listed) → array_words (xs ++ ys) ≡ array_words xs ++ array_words ys
array_words-append [] ys = refl
array_words-append (x ∷ xs) ys =
    ap (λ ws. x.0 ∷ length x.1 ∷ (x.1 ++ ws)) (array_words-append xs ys)
    ∙ ap (λ ws. x.0 ∷ length x.1 ∷ ws) (sym (append_assoc x.1 (array_words xs) (array_words ys)))

abbrev pub AreWords : List ℕ → Type 0
AreWords ws = AllByRecursion (λ w. w < 2 ^ 32) ws

-- words that go on after those of the arrays
pub record Extends (xs ys : Listed) : Type 0 where
  pub more : List ℕ
  pub is : array_words ys ≡ array_words xs ++ more
  pub fit : AllByRecursion (λ w. w < 2 ^ 32) more

pub append_fit : (xs ys : List ℕ) → AreWords xs → AreWords ys → AreWords (xs ++ ys)
append_fit [] ys a b = b
append_fit (x ∷ xs) ys a b = (a.0, append_fit xs ys a.1 b)

one_fits : (b : Bool) (id : ℕ) → id < 2 ^ 32 → AreWords (array_words (if b then [] else (id, []) ∷ []))
one_fits true id h = tt
one_fits false id h = (h, (omega arith, tt))

pub extends : (ids : List ℕ) (xs : Listed) (n k : ℕ) → n + k < 2 ^ 32 → Extends xs (filled ids xs n k)
extends ids xs n zero h = record { more = []; is = sym (append-nil (array_words xs)); fit = tt }
extends ids xs n (suc k) h =
    let e = extends ids xs n k (omega (arith, h)) in
    let one = array_words (one_filled ids (suc (n + k))) in
    record {
      more = e.more ++ one;
      is = array_words-append (filled ids xs n k) (one_filled ids (suc (n + k))) ∙ ap (λ ws. ws ++ one) e.is
          ∙ append_assoc (array_words xs) e.more one;
      fit = append_fit e.more one e.fit (one_fits (is_among ids (suc (n + k))) (suc (n + k)) (omega (arith, h)));
    }

-- arrays whose words begin with those of others begin with these
pub record After (xs ys : Listed) (more : List ℕ) : Type 0 where
  pub rest : Listed
  pub is : ys ≡ xs ++ rest
  pub words : array_words rest ≡ more

pub record Fronts (a b xs ys : List ℕ) : Type 0 where
  pub first : a ≡ b
  pub rest : xs ≡ ys

cons_fronts : (x y : ℕ) (a b xs ys : List ℕ) → x ≡ y → Fronts a b xs ys → Fronts (x ∷ a) (y ∷ b) xs ys
cons_fronts x y a b xs ys e f = record { first = λ i. e i ∷ f.first i; rest = f.rest }

pub fronts : (a b xs ys : List ℕ) → length a ≡ length b → a ++ xs ≡ b ++ ys → Fronts a b xs ys
fronts [] [] xs ys l e = record { first = refl; rest = e }
fronts [] (y ∷ b) xs ys l e = absurd (omega (arith, l))
fronts (x ∷ a) [] xs ys l e = absurd (omega (arith, l))
fronts (x ∷ a) (y ∷ b) xs ys l e =
    let h : x ∷ (a ++ xs) ≡ y ∷ (b ++ ys) = e in
    let first : x ≡ y = cc in
    let rest : a ++ xs ≡ b ++ ys = cc in
    cons_fronts x y a b xs ys first (fronts a b xs ys (omega (arith, l)) rest)

pub after : (xs ys : Listed) (more : List ℕ) → array_words ys ≡ array_words xs ++ more → After xs ys more
after [] ys more e = record { rest = ys; is = refl; words = e }
after (x ∷ xs) [] more e =
    absurd (let h : [] ≡ x.0 ∷ (length x.1 ∷ (x.1 ++ array_words xs ++ more)) = e in cc)
after (x ∷ xs) (y ∷ ys) more e =
    let h : y.0 ∷ (length y.1 ∷ (y.1 ++ array_words ys)) ≡ x.0 ∷ (length x.1 ∷ ((x.1 ++ array_words xs) ++ more)) = e in
    let id : y.0 ≡ x.0 = cc in
    let size : length y.1 ≡ length x.1 = cc in
    let tail : y.1 ++ array_words ys ≡ (x.1 ++ array_words xs) ++ more = cc in
    let f = fronts y.1 x.1 (array_words ys) (array_words xs ++ more) size (tail ∙ append_assoc x.1 (array_words xs) more) in
    let a = after xs ys more f.rest in
    record { rest = a.rest; is = (λ i. (id i, f.first i) ∷ a.is i); words = a.words }

-- an identifier that is active
pub record Active (ids : List ℕ) (n : ℕ) : Type 0 where
  pub id : ℕ
  pub low : 1 ≤ id
  pub high : id ≤ n
  pub new : is_among ids id ≡ false

pub some_active : (ids : List ℕ) (n : ℕ) → 1 ≤ length (active_up_to ids n) → Active ids n
some_active ids zero h = absurd (omega (arith, h))
some_active ids (suc n) h = elim (is_among ids (suc n)) as (λ b. is_among ids (suc n) ≡ b →
    1 ≤ length (active_up_to ids n ++ (if b then [] else suc n ∷ [])) → Active ids (suc n)) [
      | true ↦ λ is l.
          let a = some_active ids n (let e = length-append (active_up_to ids n) [] in omega (arith, e, l)) in
          let high = a.high in
          record { id = a.id; low = a.low; high = omega (arith, high); new = a.new }
      | false ↦ λ is l. record { id = suc n; low = omega arith; high = omega arith; new = is }
    ] refl h

abbrev pub AreKnown : ℕ → List ℕ → Type 0
AreKnown made ids = All (λ id. (1 ≤ id) × (id ≤ made)) ids

-- identifiers that are all known and apart, as many as wanted, that begin with these
pub record Finished (made count : ℕ) (ids : List ℕ) : Type 0 where
  pub all : List ℕ
  pub known : AreKnown made all
  pub once : IsDistinct nat_eq all
  pub many : length all ≡ count
  pub more : List ℕ
  pub is : all ≡ ids ++ more

pub finish : (made k : ℕ) (ids : List ℕ) → AreKnown made ids → IsDistinct nat_eq ids → length ids + k ≤ made → Finished made (length ids + k) ids
finish made zero ids known once h =
    record { all = ids; known = known; once = once; many = omega arith; more = []; is = sym (append-nil ids) }
finish made (suc k) ids known once h =
    let a = some_active ids made (let c = none_counted ids made known once in omega (arith, c, h)) in
    let n = length-append ids (a.id ∷ []) in
    let f = finish made k (ids ++ a.id ∷ []) (All-push (λ id. (1 ≤ id) × (id ≤ made)) ids a.id known (a.low, a.high))
    (distinct-push ids a.id once a.new) (omega (arith, n, h)) in
    let many = f.many in
    record {
      all = f.all;
      known = f.known;
      once = f.once;
      many = omega (arith, many, n);
      more = a.id ∷ [] ++ f.more;
      is = f.is ∙ append_assoc ids (a.id ∷ []) f.more;
    }

-- no number stands twice in a list
pub apart : (ids : List ℕ) (w : ℕ) (more : List ℕ) → IsDistinct nat_eq (ids ++ w ∷ more) → is_among ids w ≡ false
unfolding IsDistinct
apart [] w more once = refl
apart (x ∷ ids) w more once = ap (λ b. b || is_among ids w) (middle ids once.0) ∙ apart ids w more once.1
  where
    middle : (ys : List ℕ) → AllByRecursion (λ y. nat_eq x y ≡ false) (ys ++ w ∷ more) → nat_eq x w ≡ false
    middle [] h = h.0
    middle (y ∷ ys) h = middle ys h.1
