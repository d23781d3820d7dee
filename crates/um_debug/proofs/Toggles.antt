-- What became of a thing in a list.
use Rattle.std.proofs.Common.{◌≡◌, ℕ, ◌+◌, ◌<◌, ◌≤◌, ltb, Bool, true, false, not, cond, List, [], ◌∷◌, ◌++◌, length, Result, Ok, Err, sym, ap, ◌∙◌, refl, subst, arith}
use Rattle.std.specs.Prelude.{filter, IfOk, OnErr}
use Rattle.std.specs.List.{list_any}
use Rattle.um_debug.specs.declared.points.Toggle.TheVariants as toggle
use Rattle.std.proofs.lemmas.Bool.{ltb-true}
use Rattle.std.proofs.lemmas.List.{length_push}
use Rattle.std.proofs.lemmas.List.Sums.{length-filter, count_by-le-length}
use Rattle.std.proofs.lemmas.Result.{IfOk-weaker}
use Rattle.umix_base.specs.declared.memory.Memory.{Memory}
use Rattle.um_debug.specs.declared.command.WordPlace.{WordPlace}
use Rattle.um_debug.specs.declared.points.Toggle.{Toggle}
use Rattle.um_debug.specs.Course.{Points}
use Rattle.um_debug.specs.Session.{toggled, Toggled, Off, On, Full}
use Rattle.um_debug.specs.inner.Calls.{Changes}
use Rattle.um_debug.specs.inner.Toggling.{Became}

off_where : {A : Type 0} (is_it : A → Bool) (most : ℕ) (x : A) (xs : List A) → list_any is_it xs ≡ true →
    toggled is_it most x xs ≡ Off (filter (λ y. not (is_it y)) xs)
off_where is_it most x xs found = rw found refl

pub became_off : {A : Type 0} (is_it : A → Bool) (most : ℕ) (x : A) (xs seen ys : List A) (found : Bool) → seen ≡ xs → found ≡ list_any is_it seen →
    found ≡ true → ys ≡ filter (λ y. not (is_it y)) xs → Became (toggled is_it most x xs) xs ys toggle.Off
became_off {A} is_it most x xs seen ys found same any there kept =
    let here : list_any is_it xs ≡ true = sym (ap (list_any is_it) same) ∙ sym any ∙ there in
    subst (λ (t : Toggled A). Became t xs ys toggle.Off) (sym (off_where is_it most x xs here)) (refl, kept)

-- what became of a list in the points
changed : {A : Type 0} (t : Toggled A) (old : Points) (points : List A → Points) (xs ys : List A) (became : Toggle) → points xs ≡ old →
    Became t xs ys became → Changes t old points (points ys) became
changed (Off zs) old points xs ys became are is = (is.0, ap points is.1)
changed (On zs) old points xs ys became are is = (is.0, ap points is.1)
changed Full old points xs ys became are is = (is.0, ap points is.1 ∙ are)

pub changes : {A : Type 0} (t : Toggled A) (old : Points) (points : List A → Points) (xs ys : List A) (r : Result Toggle Memory) → points xs ≡ old →
    IfOk r (Became t xs ys) → IfOk r (Changes t old points (points ys))
changes t old points xs ys r are = IfOk-weaker r (Became t xs ys) (Changes t old points (points ys)) (λ became. changed t old points xs ys became are)

pub unchanged : {A : Type 0} (old : Points) (points : List A → Points) (xs ys : List A) (r : Result Toggle Memory) → points xs ≡ old →
    OnErr r (ys ≡ xs) → OnErr r (points ys ≡ old)
unchanged old points xs ys (Ok became) are same = tt
unchanged old points xs ys (Err memory) are same = ap points same ∙ are

few_at : {A : Type 0} (is_it : A → Bool) (most : ℕ) (x : A) (xs ys : List A) (became : Toggle) (here room : Bool) → (room ≡ true → length xs < most) →
    Became (cond here (Off (filter (λ y. not (is_it y)) xs)) (cond room (On (xs ++ x ∷ [])) Full)) xs ys became → length xs ≤ most → length ys ≤ most
few_at is_it most x xs ys became true room fits is few =
    let kept = ap length is.1 in
    let all = length-filter (λ y. not (is_it y)) xs in
    let less = count_by-le-length (λ y. not (is_it y)) xs in
    omega (arith, kept, all, less, few)
few_at is_it most x xs ys became false true fits is few =
    let more = ap length is.1 in let one = length_push xs x in let lt = fits refl in omega (arith, more, one, lt)
few_at is_it most x xs ys became false false fits is few = let same = ap length is.1 in omega (arith, same, few)

-- no more things than there may be
pub still_few : {A : Type 0} (is_it : A → Bool) (most : ℕ) (x : A) (xs ys : List A) (r : Result Toggle Memory) →
    IfOk r (Became (toggled is_it most x xs) xs ys) → OnErr r (ys ≡ xs) → length xs ≤ most → length ys ≤ most
still_few is_it most x xs ys (Ok became) is same few =
    few_at is_it most x xs ys became (list_any is_it xs) (ltb (length xs) most) (ltb-true (length xs) most) is few
still_few is_it most x xs ys (Err memory) is same few = let e = ap length same in omega (arith, e, few)
