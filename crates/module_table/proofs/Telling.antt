-- Refusals that are told by number and place, and readings of lists as far as a number.
use Rattle.std.specs.Prelude.{◌≡◌, ◌+◌, ◌<◌, ◌≤◌, ◌++◌, ℕ, zero, suc, List, [], ◌∷◌, length, map, take, slice_get, slice_index_or, Option, Some, None, Result, Ok, Err}
use Rattle.std.specs.Option.{option_map}
use Rattle.std.proofs.Common.{arith, refl, sym, ap, subst, ◌∙◌}
use Rattle.std.proofs.lemmas.List.{length-map, get_or-map, take_all}
use Rattle.std.proofs.lemmas.Option.{slice_get-get_or}
use Rattle.two_d.specs.Reading.{Reading, Then, goes_on, stops, Gave, gave, Told, went, failed, Refuses, faults_mapped, each}
use Rattle.two_d.proofs.InOrder.{then_ok, gave_is}

-- which fault is told
pub told_err : {F G A : Type 0} (tell : F → G) (m : Reading F A) (g : G) → Told tell m (Err g) → (f : F) × m (Err f) × (tell f ≡ g)
told_err {F} {G} {A} tell m g done = by (Err g) done refl
  where
    by : (r : Result A G) → Told tell m r → r ≡ Err g → (f : F) × m (Err f) × (tell f ≡ g)
    by _ (went y is) e = absurd (cc)
    by _ (failed f is) e = (f, is, cc)

-- a refusal, told in another way
pub refuses_told : {F G A : Type 0} (tell : F → G) (o : Option F) (m : Reading F A) → Refuses m o → Refuses (faults_mapped tell m) (option_map tell o)
refuses_told tell None m h = tt
refuses_told tell (Some f) m h = failed f h

-- a fault of a part is one of the whole
pub refuses_whole : {F G A B : Type 0} (tell : F → G) (o : Option G) (m : Reading F A) (w : Reading F B) → ((f : F) → m (Err f) → w (Err f)) → Refuses (faults_mapped tell m) o → Refuses (faults_mapped tell w) o
refuses_whole tell None m w through h = tt
refuses_whole tell (Some g) m w through h = let (f, is, same) = told_err tell m g h in subst (λ x. Told tell w (Err x)) same (failed f (through f is))

-- what is refused for want of memory is no fault
pub refuses_none : {F A : Type 0} (m : Reading F A) (o : Option F) → o ≡ None → Refuses m o
refuses_none m o none = subst (Refuses m) (sym none) tt

pub refuses_as : {F A : Type 0} (m : Reading F A) (o p : Option F) → p ≡ o → Refuses m o → Refuses m p
refuses_as m o p same h = subst (Refuses m) (sym same) h

-- one more of a list is read
pub each_more : {F A B : Type 0} (k : A → Reading F B) (xs : List A) (n : ℕ) (x : A) (ys : List B) (y : B) → slice_get xs n ≡ Some x → each k (take n xs) (Ok ys) → k x (Ok y) → each k (take (n + 1) xs) (Ok (ys ++ y ∷ []))
each_more k [] n x ys y at_x done next = absurd (cc)
each_more {F} k (z ∷ zs) zero x ys y at_x done next =
    let same : x ≡ z = cc in
    let empty : ys ≡ [] = (let e = gave_is [] (Ok ys) done in cc) in
    subst (λ l. each k (z ∷ []) (Ok (l ++ y ∷ []))) (sym empty) (goes_on y (subst (λ v. k v (Ok y)) same next) (goes_on [] gave gave))
each_more {F} k (z ∷ zs) (suc n) x ys y at_x done next =
    let (v, here, more) = then_ok (k z) (λ y. Then (each k (take n zs)) (λ ys. Gave (y ∷ ys))) ys done in
    let (rest, there, last) = then_ok (each k (take n zs)) (λ ys. Gave (v ∷ ys)) ys more in
    let same : ys ≡ v ∷ rest = (let e = gave_is (v ∷ rest) (Ok ys) last in cc) in
    let others = each_more k zs n x rest y at_x there next in
    let number : suc n + 1 ≡ suc (n + 1) = omega arith in
    subst (λ i. each k (take i (z ∷ zs)) (Ok (ys ++ y ∷ []))) (sym number) (subst (λ l. each k (z ∷ take (n + 1) zs) (Ok (l ++ y ∷ []))) (sym same) (goes_on v here (goes_on (rest ++ y ∷ []) others gave)))

-- one of a list is refused
pub each_stops : {F A B : Type 0} (k : A → Reading F B) (xs : List A) (n : ℕ) (x : A) (ys : List B) (f : F) → slice_get xs n ≡ Some x → each k (take n xs) (Ok ys) → k x (Err f) → each k xs (Err f)
each_stops k [] n x ys f at_x done bad = absurd (cc)
each_stops k (z ∷ zs) zero x ys f at_x done bad = let same : x ≡ z = cc in stops f (subst (λ v. k v (Err f)) same bad)
each_stops k (z ∷ zs) (suc n) x ys f at_x done bad =
    let (v, here, more) = then_ok (k z) (λ y. Then (each k (take n zs)) (λ ys. Gave (y ∷ ys))) ys done in
    let (rest, there, last) = then_ok (each k (take n zs)) (λ ys. Gave (v ∷ ys)) ys more in
    goes_on v here (stops f (each_stops k zs n x rest f at_x there bad))

-- all of a list are read
pub each_all : {F A B : Type 0} (k : A → Reading F B) (xs : List A) (n : ℕ) (ys : List B) → length xs ≤ n → each k (take n xs) (Ok ys) → each k xs (Ok ys)
each_all k xs n ys long done = subst (λ l. each k l (Ok ys)) (take_all n xs long) done

-- what stands at a number of a mapped list
pub mapped_there : {A B : Type 0} (f : A → B) (xs : List A) (n : ℕ) (x : A) → n < length xs → x ≡ slice_index_or xs n x → slice_get (map f xs) n ≡ Some (f x)
mapped_there f xs n x lt is =
    slice_get-get_or (map f xs) n (f x) (let long = length-map xs f in omega arith) ∙ ap (λ y. Some y) (get_or-map f xs n x (f x) lt ∙ ap f (sym is))
