-- Tests that are wanted, and readings in parts.
use Rattle.std.specs.Prelude.{◌≡◌, ℕ, ◌+◌, List, [], ◌∷◌, map, Option, Some, None, Bool, true, false, is_some, Result, Ok, Err}
use Rattle.std.specs.Option.{option_map}
use Rattle.std.proofs.Common.{refl, sym, ◌∙◌, ap}
use Rattle.two_d.specs.Reading.{Reading, Then, goes_on, stops, refused, passed, each_from, Gives}
use Rattle.two_d.proofs.TableLemmas.{refuses_through}
use Rattle.type_sheet.specs.declared.fault.SheetFault.{SheetFault}
use Rattle.type_sheet.specs.Sheets.{fault_of}
use Rattle.type_sheet.specs.Fits.{want}

pub wanted-ok : (fault : SheetFault) (test : Bool) → test ≡ true → want fault test (Ok tt)
wanted-ok fault true e = passed (λ f. let g : false ≡ true = f in cc)
wanted-ok fault false e = absurd (cc)

pub wanted-err : (fault : SheetFault) (test : Bool) → test ≡ false → want fault test (Err fault)
wanted-err fault true e = absurd (cc)
wanted-err fault false e = refused refl

-- where one reading leads to another
pub gives-through : {X : Type 0} (r : Result X SheetFault) (m w : Reading SheetFault (Unit {0})) → ((s : Result (Unit {0}) SheetFault) → m s → w s) →
    Gives (λ (x : X). tt) fault_of r m → Gives (λ (x : X). tt) fault_of r w
gives-through (Ok x) m w through h = through (Ok tt) h
gives-through (Err e) m w through h = refuses_through (fault_of e) m w (λ f q. through (Err f) q) h

-- what comes behind a part that gave no fault
pub gives-behind : {X : Type 0} (r : Result X SheetFault) (m w : Reading SheetFault (Unit {0})) → m (Ok tt) →
    Gives (λ (x : X). tt) fault_of r w → Gives (λ (x : X). tt) fault_of r (Then m (λ _. w))
gives-behind r m w ok h = gives-through r w (Then m (λ _. w)) (λ s q. goes_on tt ok q) h

then-step : {F A : Type 0} (m : Reading F A) (k k' : A → Reading F (Unit {0})) → ((x : A) (s : Result (Unit {0}) F) → k x s → k' x s) → (r : Result (Unit {0}) F) → Then m k r → Then m k' r
then-step m k k' more _ (goes_on x here rest) = goes_on x here (more x _ rest)
then-step m k k' more _ (stops f here) = stops f here

-- where only numbers count
pub each-map : {F A B : Type 0} (f : A → B) (k : ℕ → Reading F (Unit {0})) (n : ℕ) (xs : List A) (r : Result (Unit {0}) F) →
    each_from (λ b (_ : A). k b) n xs r → each_from (λ b (_ : B). k b) n (map f xs) r
each-map f k n [] r h = h
each-map {A = A} {B = B} f k n (x ∷ xs) r h =
    then-step (k n) (λ _. each_from (λ b (_ : A). k b) (n + 1) xs) (λ _. each_from (λ b (_ : B). k b) (n + 1) (map f xs)) (λ _ s q. each-map f k (n + 1) xs s q) r h

some-map : {A B : Type 0} (f : A → B) (o : Option A) → is_some (option_map f o) ≡ is_some o
some-map f None = refl
some-map f (Some x) = refl

-- whether what was read is there
pub some-read : {A B : Type 0} (f : A → B) (o : Option A) (p : Option B) (t : Bool) → option_map f o ≡ p → is_some o ≡ t → is_some p ≡ t
some-read f o p t e is = ap is_some (sym e) ∙ some-map f o ∙ is
