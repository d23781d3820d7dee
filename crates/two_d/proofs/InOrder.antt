-- How a reading in order goes on.
use Rattle.std.proofs.Common.{◌≡◌, ◌⊎◌, inl, inr, List, [], ◌∷◌, ◌++◌, Result, Ok, Err, refl, subst, sym, ap, ◌∙◌, append_assoc, append-nil}
use Rattle.std.specs.Prelude.{ℕ, zero, suc, length, take, slice_get, Option, Some, None, MatchOption, ⊤}
use Rattle.two_d.specs.Reading.{Reading, Then, goes_on, stops, Gave, gave, The, it, each, each_after}

-- which way a reading went
pub then_cases : {F A B : Type 0} (m : Reading F A) (k : A → Reading F B) (r : Result B F) → Then m k r → ((x : A) × m (Ok x) × k x r) ⊎ ((f : F) × m (Err f) × (r ≡ Err f))
then_cases m k r (goes_on x here there) = inl (x, here, there)
then_cases m k _ (stops f here) = inr (f, here, refl)

pub gave_is : {F A : Type 0} (x : A) (r : Result A F) → Gave x r → r ≡ Ok x
gave_is x _ gave = refl

-- what went on to a value
pub then_ok : {F A B : Type 0} (m : Reading F A) (k : A → Reading F B) (y : B) → Then m k (Ok y) → (x : A) × m (Ok x) × k x (Ok y)
then_ok m k y t = elim (then_cases m k (Ok y) t) [ inl went ↦ went | inr stopped ↦ absurd (let e = stopped.2 in cc) ]

-- one more is read
pub each_after_more : {F A B : Type 0} (k : List B → A → Reading F B) (before : List B) (xs : List A) (ys : List B) (x : A) (y : B) → each_after k before xs (Ok ys) → k ys x (Ok y) → each_after k before (xs ++ x ∷ []) (Ok (ys ++ y ∷ []))
each_after_more {F = F} k before [] ys x y done next =
    let same : ys ≡ before = (let e = gave_is before (Ok ys) done in cc) in
    goes_on y (subst (λ l. k l x (Ok y)) same next) (subst (λ l. Gave {F = F} (before ++ y ∷ []) (Ok (l ++ y ∷ []))) (sym same) gave)
each_after_more k before (z ∷ xs) ys x y done next =
    let first = then_ok (k before z) (λ w. each_after k (before ++ w ∷ []) xs) ys done in
    goes_on first.0 first.1 (each_after_more k (before ++ first.0 ∷ []) xs ys x y first.2 next)

-- one is refused, whatever comes after it
pub each_after_stops : {F A B : Type 0} (k : List B → A → Reading F B) (before : List B) (xs more : List A) (ys : List B) (x : A) (f : F) → each_after k before xs (Ok ys) → k ys x (Err f) → each_after k before (xs ++ x ∷ more) (Err f)
each_after_stops k before [] more ys x f done next =
    let same : ys ≡ before = (let e = gave_is before (Ok ys) done in cc) in
    stops f (subst (λ l. k l x (Err f)) same next)
each_after_stops k before (z ∷ xs) more ys x f done next =
    let first = then_ok (k before z) (λ w. each_after k (before ++ w ∷ []) xs) ys done in
    goes_on first.0 first.1 (each_after_stops k (before ++ first.0 ∷ []) xs more ys x f first.2 next)

-- the fault of the first part is that of the whole
pub fault_of_first : {F A B : Type 0} (o : Option F) (m : Reading F A) (k : A → Reading F B) → MatchOption o ⊤ (λ f. m (Err f)) → MatchOption o ⊤ (λ f. Then m k (Err f))
fault_of_first None m k h = h
fault_of_first (Some f) m k h = stops f h

-- what two readings and a third give one after the other doesn't depend on which two are taken together
pub then_apart : {F A B C : Type 0} (a : Reading F A) (k : A → Reading F B) (l : B → Reading F C) (r : Result C F) → Then (Then a k) l r → Then a (λ x. Then (k x) l) r
then_apart a k l r t = elim (then_cases (Then a k) l r t) [
  | inl went ↦ (let (x, here, there) = then_ok a k went.0 went.1 in goes_on x here (goes_on went.0 there went.2))
  | inr stopped ↦ subst (λ z. Then a (λ x. Then (k x) l) z) (sym stopped.2) (elim (then_cases a k (Err stopped.0) stopped.1) [
    | inl went ↦ goes_on went.0 went.1 (stops stopped.0 went.2)
    | inr first ↦ (let e : first.0 ≡ stopped.0 = (let x = first.2 in cc) in stops stopped.0 (subst (λ z. a (Err z)) e first.1))
  ])
]

pub then_together : {F A B C : Type 0} (a : Reading F A) (k : A → Reading F B) (l : B → Reading F C) (r : Result C F) → Then a (λ x. Then (k x) l) r → Then (Then a k) l r
then_together a k l r t = elim (then_cases a (λ x. Then (k x) l) r t) [
  | inl went ↦ elim (then_cases (k went.0) l r went.2) [
    | inl on ↦ goes_on on.0 (goes_on went.0 went.1 on.1) on.2
    | inr stopped ↦ subst (λ z. Then (Then a k) l z) (sym stopped.2) (stops stopped.0 (goes_on went.0 went.1 stopped.1))
  ]
  | inr stopped ↦ subst (λ z. Then (Then a k) l z) (sym stopped.2) (stops stopped.0 (stops stopped.0 stopped.1))
]

-- what comes second may be read otherwise
pub then_map : {F A B : Type 0} (m : Reading F A) (k l : A → Reading F B) → ((x : A) (r : Result B F) → k x r → l x r) → (r : Result B F) → Then m k r → Then m l r
then_map m k l f r (goes_on x here there) = goes_on x here (f x r there)
then_map m k l f _ (stops g here) = stops g here

-- what each of a list gave, after what those before it gave
pub each_after_gave : {F A B : Type 0} (k : List B → A → Reading F B) (before : List B) (xs : List A) (ys : List B) → each_after k before xs (Ok ys)
    → (zs : List B) × (ys ≡ before ++ zs) × (length zs ≡ length xs) × ((i : ℕ) (x : A) → slice_get xs i ≡ Some x → (z : B) × (slice_get zs i ≡ Some z) × k (before ++ take i zs) x (Ok z))
each_after_gave k before [] ys done =
    let e = gave_is before (Ok ys) done in
    let same : ys ≡ before = cc in
    ([], same ∙ sym (append-nil before), refl, λ i x is. absurd (cc))
each_after_gave {A = A} {B = B} k before (w ∷ xs) ys done =
    let (y, here, rest) = then_ok (k before w) (λ y. each_after k (before ++ y ∷ []) xs) ys done in
    let (zs, same, long, each) = each_after_gave k (before ++ y ∷ []) xs ys rest in
    (y ∷ zs, same ∙ append_assoc before (y ∷ []) zs, ap suc long, by y here zs each)
  where
    by : (y : B) → k before w (Ok y) → (zs : List B) → ((i : ℕ) (x : A) → slice_get xs i ≡ Some x → (z : B) × (slice_get zs i ≡ Some z) × k ((before ++ y ∷ []) ++ take i zs) x (Ok z))
        → (i : ℕ) (x : A) → slice_get (w ∷ xs) i ≡ Some x → (z : B) × (slice_get (y ∷ zs) i ≡ Some z) × k (before ++ take i (y ∷ zs)) x (Ok z)
    by y here zs each zero x is =
        let e : w ≡ x = cc in
        (y, refl, subst (λ b. k b x (Ok y)) (sym (append-nil before)) (subst (λ v. k before v (Ok y)) e here))
    by y here zs each (suc i) x is =
        let (z, at, passed) = each i x is in
        (z, at, subst (λ b. k b x (Ok z)) (append_assoc before (y ∷ []) (take i zs)) passed)

-- what the one is that was read
pub the_has : {F A : Type 0} (P : A → Type 0) (x : A) → The {F = F} P (Ok x) → P x
the_has {A = A} P x read = by (Ok x) read refl
  where
    by : {F : Type 0} (r : Result A F) → The P r → r ≡ Ok x → P x
    by _ (it y p) e = let same : y ≡ x = cc in subst P same p

-- what each of a list gave
pub each_gave : {F A B : Type 0} (k : A → Reading F B) (xs : List A) (ys : List B) → each k xs (Ok ys)
    → (length ys ≡ length xs) × ((i : ℕ) (y : B) → slice_get ys i ≡ Some y → (x : A) × (slice_get xs i ≡ Some x) × k x (Ok y))
each_gave k [] ys done =
    let e = gave_is [] (Ok ys) done in
    let same : ys ≡ [] = cc in
    (ap length same, λ i y at. absurd (let here = subst (λ l. slice_get l i ≡ Some y) same at in cc))
each_gave {A = A} {B = B} k (x ∷ xs) ys done =
    let (y, here, more) = then_ok (k x) (λ y. Then (each k xs) (λ ys. Gave (y ∷ ys))) ys done in
    let (rest, there, last) = then_ok (each k xs) (λ ys. Gave (y ∷ ys)) ys more in
    let e = gave_is (y ∷ rest) (Ok ys) last in
    let same : ys ≡ y ∷ rest = cc in
    let (long, one) = each_gave k xs rest there in
    (ap length same ∙ ap suc long, λ i z at. by y here rest one i z (subst (λ l. slice_get l i ≡ Some z) same at))
  where
    by : (y : B) → k x (Ok y) → (rest : List B) → ((i : ℕ) (y : B) → slice_get rest i ≡ Some y → (x : A) × (slice_get xs i ≡ Some x) × k x (Ok y)) → (i : ℕ) (z : B) → slice_get (y ∷ rest) i ≡ Some z → (w : A) × (slice_get (x ∷ xs) i ≡ Some w) × k w (Ok z)
    by y here rest one zero z at = let e : y ≡ z = cc in (x, refl, subst (λ v. k x (Ok v)) e here)
    by y here rest one (suc i) z at = one i z at
