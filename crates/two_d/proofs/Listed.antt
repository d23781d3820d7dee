-- Names by number.
use Rattle.std.specs.Prelude.{◌≡◌, ℕ, zero, suc, ◌<◌, ◌≤◌, ◌⊎◌, ◌==◌, Bool, true, false, cond, List, [], ◌∷◌, length, map, take, Vec, Some, None, nat_eq}
use Rattle.std.specs.Global.{Global}
use Rattle.std.specs.List.{position_or_len, position, list_any}
use Rattle.std.specs.Option.{unwrap_or}
use Rattle.std.proofs.Common.{arith, refl, sym, ◌∙◌, inl, inr}
use Rattle.std.proofs.lemmas.Bool.{cases_eq, cases_lt, eq-eqb, ne_eqb, lt-ltb, le-ltb, false≢true}
use Rattle.std.proofs.lemmas.List.{length-map}
use lib.Pointwise.{pointwise}
use Rattle.two_d.specs.inner.NameLists.{number_in}
use Rattle.two_d.specs.Programs.{Program, is_name, find}
use Rattle.two_d.proofs.NamesFound.{is_name-pointwise}

==-sym : (x y : ℕ) → (x == y) ≡ (y == x)
==-sym x y = elim (cases_eq x y) [
  | inl same ↦ rw same refl
  | inr apart ↦ ne_eqb x y apart ∙ sym (ne_eqb y x (λ e. apart (sym e)))
]

pub is_name-sym : (xs ys : List ℕ) → is_name xs ys ≡ is_name ys xs
is_name-sym [] [] = refl
is_name-sym [] (y ∷ ys) = refl
is_name-sym (x ∷ xs) [] = refl
is_name-sym (x ∷ xs) (y ∷ ys) = rw (==-sym x y, is_name-sym xs ys) refl

pub is_name-refl : (xs : List ℕ) → is_name xs xs ≡ true
is_name-refl [] = refl
is_name-refl (x ∷ xs) = rw (eq-eqb x x refl, is_name-refl xs) refl

pub is_name-true : (xs ys : List ℕ) → is_name xs ys ≡ true → xs ≡ ys
is_name-true [] [] e = refl
is_name-true [] (y ∷ ys) e = absurd (false≢true e)
is_name-true (x ∷ xs) [] e = absurd (false≢true e)
is_name-true (x ∷ xs) (y ∷ ys) e = elim (cases_eq x y) [
  | inl same ↦ let rest = is_name-true xs ys (rw (eq-eqb x y same) at e) in cc
  | inr apart ↦ absurd (false≢true (rw (ne_eqb x y apart) at e))
]

tested : (name : List ℕ) (key : Vec ℕ Global) → pointwise nat_eq name key.items ≡ is_name key.items name
tested name key = is_name-pointwise name key.items ∙ is_name-sym name key.items

pub same_position : (name : List ℕ) (keys : List (Vec ℕ Global)) → position_or_len (λ key. pointwise nat_eq name key.items) keys ≡ number_in (map (λ key. key.items) keys) name
same_position name [] = refl
same_position name (key ∷ keys) = rw (tested name key, same_position name keys) refl

pub not_listed : (name : List ℕ) (keys : List (Vec ℕ Global)) → number_in (map (λ key. key.items) keys) name ≡ length (map (λ key. key.items) keys) → list_any (λ key. pointwise nat_eq name key.items) keys ≡ false
not_listed name [] e = refl
not_listed name (key ∷ keys) e = by_test (is_name key.items name) refl (not_listed name keys)
  where
    by_test : (t : Bool) → is_name key.items name ≡ t → (number_in (map (λ k. k.items) keys) name ≡ length (map (λ k. k.items) keys) → list_any (λ k. pointwise nat_eq name k.items) keys ≡ false) → list_any (λ k. pointwise nat_eq name k.items) (key ∷ keys) ≡ false
    by_test true is more = absurd (let f = rw is at e in omega arith)
    by_test false is more = rw (tested name key, is) (more (let f = rw is at e in omega arith))

pub number_le : (name : List ℕ) (names : List (List ℕ)) → number_in names name ≤ length names
number_le name [] = omega arith
number_le name (other ∷ names) = by_test (is_name other name) refl (number_le name names)
  where
    by_test : (t : Bool) → is_name other name ≡ t → number_in names name ≤ length names → number_in (other ∷ names) name ≤ suc (length names)
    by_test true is le = rw is (omega arith)
    by_test false is le = rw is (omega arith)

pub unwrap_position : (i n : ℕ) → i ≤ n → unwrap_or (cond (lib.Dec.ltb i n) (Some i) None) n ≡ i
unwrap_position i n le = elim (cases_lt i n) [
  | inl less ↦ rw (lt-ltb i n less) refl
  | inr more ↦ rw (le-ltb i n more) (omega arith)
]

-- the number of a key, as of the names
pub number_of_key : (name : List ℕ) (keys : List (Vec ℕ Global)) → unwrap_or (position (λ key. pointwise nat_eq name key.items) keys) (length (map (λ key. key.items) keys)) ≡ number_in (map (λ key. key.items) keys) name
number_of_key name keys =
    rw (same_position name keys, sym (length-map keys (λ key. key.items)))
    (unwrap_position (number_in (map (λ key. key.items) keys) name) (length (map (λ key. key.items) keys)) (number_le name (map (λ key. key.items) keys)))

pub find_listed : (P : Program) (name : List ℕ) → find P name ≡ number_in (map (λ m. m.name) P) name
find_listed [] name = refl
find_listed (m ∷ P) name = rw (find_listed P name) refl

-- a name among the first k modules is found there, and else not before k
pub early : (P : Program) (name : List ℕ) (k : ℕ) → k ≤ length P → ((number_in (map (λ m. m.name) (take k P)) name < k) × (find P name < k)) ⊎ ((number_in (map (λ m. m.name) (take k P)) name ≡ k) × (k ≤ find P name))
early P name zero le = inr (refl, omega arith)
early [] name (suc k) le = absurd (omega arith)
early (m ∷ P) name (suc k) le = by_test (is_name m.name name) refl (early P name k (omega arith))
  where
    by_test : (t : Bool) → is_name m.name name ≡ t → ((number_in (map (λ m. m.name) (take k P)) name < k) × (find P name < k)) ⊎ ((number_in (map (λ m. m.name) (take k P)) name ≡ k) × (k ≤ find P name))
        → ((number_in (map (λ m. m.name) (take (suc k) (m ∷ P))) name < suc k) × (find (m ∷ P) name < suc k)) ⊎ ((number_in (map (λ m. m.name) (take (suc k) (m ∷ P))) name ≡ suc k) × (suc k ≤ find (m ∷ P) name))
    by_test true is more = inl (rw is (omega arith), rw is (omega arith))
    by_test false is (inl h) = inl (rw is (omega (arith, h.0)), rw is (omega (arith, h.1)))
    by_test false is (inr h) = inr (rw is (omega (arith, h.0)), rw is (omega (arith, h.1)))
