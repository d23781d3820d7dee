-- Each of a list, in order.
use Rattle.std.proofs.Common.{◌≡◌, ℕ, suc, ◌+◌, ◌≤◌, List, [], ◌∷◌, length, drop, Option, Some, None, Ok, Err, ap, sym, subst, add-one, drop-cons, ◌∙◌}
use Rattle.std.proofs.Math.ListN.{drop_of_length-le}
use Rattle.std.proofs.lemmas.Option.{slice_get_within, get_or_from_slice_get}
use Rattle.std.specs.List.{slice_get}
use Rattle.two_d.specs.Reading.{Reading, Refuses, each, goes_on, stops, gave}

-- what the rest from n answers, the whole answers
pub record EachFrom {F A B : Type 0} (k : A → Reading F B) (xs : List A) (n : ℕ) : Type 0 where
  pub ok : (ys : List B) → each k (drop n xs) (Ok ys) → (zs : List B) × each k xs (Ok zs)
  pub err : (f : F) → each k (drop n xs) (Err f) → each k xs (Err f)

pub each_first : {F A B : Type 0} (k : A → Reading F B) (xs : List A) → EachFrom k xs 0
each_first k xs = record { ok = λ ys h. (ys, h); err = λ f h. h }

pub cut : {A : Type 0} (xs : List A) (n : ℕ) (x : A) → slice_get xs n ≡ Some x → drop n xs ≡ x ∷ drop (n + 1) xs
cut xs n x is =
    let lt = slice_get_within xs n x is in
    rw add-one (drop-cons xs n x lt ∙ ap (λ y. y ∷ drop (suc n) xs) (get_or_from_slice_get xs n x x is))

pub each_next : {F A B : Type 0} (k : A → Reading F B) (xs : List A) (n : ℕ) (x : A) (y : B) → slice_get xs n ≡ Some x → k x (Ok y) → EachFrom k xs n → EachFrom k xs (n + 1)
each_next k xs n x y is read whole = record {
  ok = λ ys h. whole.ok (y ∷ ys) (subst (λ zs. each k zs (Ok (y ∷ ys))) (sym (cut xs n x is)) (goes_on y read (goes_on ys h gave)));
  err = λ f h. whole.err f (subst (λ zs. each k zs (Err f)) (sym (cut xs n x is)) (goes_on y read (stops f h)));
}

pub each_stops : {F A B : Type 0} (k : A → Reading F B) (xs : List A) (n : ℕ) (x : A) (f : F) → slice_get xs n ≡ Some x → k x (Err f) → EachFrom k xs n → each k xs (Err f)
each_stops k xs n x f is bad whole = whole.err f (subst (λ zs. each k zs (Err f)) (sym (cut xs n x is)) (stops f bad))

pub each_end : {F A B : Type 0} (k : A → Reading F B) (xs : List A) (n : ℕ) → length xs ≤ n → EachFrom k xs n → (zs : List B) × each k xs (Ok zs)
each_end k xs n past whole = whole.ok [] (subst (λ zs. each k zs (Ok [])) (sym (drop_of_length-le xs past)) gave)

pub each_refused : {F A B : Type 0} (k : A → Reading F B) (xs : List A) (n : ℕ) (x : A) (fault : Option F) → slice_get xs n ≡ Some x → Refuses (k x) fault → EachFrom k xs n → Refuses (each k xs) fault
each_refused k xs n x None is bad whole = tt
each_refused k xs n x (Some f) is bad whole = each_stops k xs n x f is bad whole
