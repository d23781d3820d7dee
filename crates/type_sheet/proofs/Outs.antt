-- Whether all of a list passes a test.
use Rattle.std.specs.Prelude.{◌≡◌, ℕ, zero, suc, ◌<◌, List, [], ◌∷◌, Some, Bool, true, false, ◌&&◌, ◌||◌, length, slice_get, map}
use Rattle.std.specs.List.{list_all, list_any}
use Rattle.two_d.specs.declared.module.BoxRow.{BoxRow}
use Rattle.two_d.specs.declared.module.Origin.{Origin}
use Rattle.two_d.specs.Programs.{BoxForm, box_of}
use Rattle.type_sheet.specs.Wires.{is_from}
use Rattle.type_sheet.specs.inner.Carried.{leads}
use Rattle.std.proofs.Common.{◌+◌, refl, sym, ◌∙◌, arith, inl, inr}
use Rattle.std.proofs.lemmas.Bool.{cases_lt}
use Rattle.std.proofs.lemmas.Option.{same_Some}

pub all-map : {A B : Type 0} (f : A → B) (p : B → Bool) (xs : List A) → ((i : ℕ) (x : A) → slice_get xs i ≡ Some x → p (f x) ≡ true) → list_all p (map f xs) ≡ true
all-map f p [] h = refl
all-map f p (x ∷ xs) h = rw (h 0 x refl) (all-map f p xs (λ i y at. h (suc i) y at))

pub all-fails : {A B : Type 0} (f : A → B) (p : B → Bool) (xs : List A) (i : ℕ) (x : A) → slice_get xs i ≡ Some x → p (f x) ≡ false → list_all p (map f xs) ≡ false
all-fails f p [] i x at e = absurd (cc)
all-fails f p (y ∷ ys) zero x at e = let same : y ≡ x = cc in rw (same, e) refl
all-fails f p (y ∷ ys) (suc i) x at e = rw (all-fails f p ys i x at e) (by (p (f y)))
  where
    by : (t : Bool) → t && false ≡ false
    by true = refl
    by false = refl

-- one more that passes
pub passed-next : {A : Type 0} (p : A → Bool) (xs : List A) (k : ℕ) (x : A) → slice_get xs k ≡ Some x → p x ≡ true →
    ((i : ℕ) (y : A) → i < k → slice_get xs i ≡ Some y → p y ≡ true) → (i : ℕ) (y : A) → i < k + 1 → slice_get xs i ≡ Some y → p y ≡ true
passed-next p xs k x at e before i y lt there = elim (cases_lt i k) [
  | inl less ↦ before i y less there
  | inr past ↦
      let same : i ≡ k = omega arith in
      let here : slice_get xs k ≡ Some y = rw same at there in
      let one : x ≡ y = same_Some x y (sym at ∙ here) in
      rw (← one) e
]

pub some-at : {A : Type 0} (xs : List A) (i : ℕ) → i < length xs → (x : A) × (slice_get xs i ≡ Some x)
some-at [] i lt = absurd (omega arith)
some-at (x ∷ xs) zero lt = (x, refl)
some-at (x ∷ xs) (suc i) lt = some-at xs i (omega arith)

-- the boxes to which wires lead
pub any-rows : (o : Origin) (rows : List BoxRow) → list_any (λ (row : BoxForm). is_from o row.n || is_from o row.w) (map box_of rows) ≡ list_any (leads o) rows
any-rows o [] = refl
any-rows o (row ∷ rows) = rw (any-rows o rows) refl
