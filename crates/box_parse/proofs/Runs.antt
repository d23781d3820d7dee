-- Runs of name bytes, for the loop that counts them and the name that they are.
use Rattle.std.proofs.Common.{◌≡◌, ℕ, zero, suc, ◌+◌, ◌<◌, ◌≤◌, inl, inr, Bool, true, false, cond, List, [], ◌∷◌, length, take, drop, get_or, refl, ap, arith, drop-cons, add-one, length-take}
use Rattle.std.proofs.lemmas.List.{drop_all}
use Rattle.std.proofs.lemmas.Bool.Decides.{nat_tests}
use Rattle.std.proofs.lemmas.Bool.{cases_Bool}
use Rattle.std.proofs.lemmas.List.Elements.{All-from_recursion}
use Rattle.std.specs.Char.{is_ascii_lowercase, IsAsciiLowercase}
use Rattle.std.specs.List.{AllByRecursion}
use Rattle.two_d.specs.Names.{IsNameByte, IsName, BeginsWithLetter}
use Rattle.box_parse.specs.inner.ReaderOnLists.{is_name_byte, run, name_len}

pub run-none : (a : List ℕ) → run 0 a ≡ 0
unfolding run
run-none a = refl

pub run_full : (m : ℕ) (a : List ℕ) → m ≡ 0 → run m a ≡ 0
run_full m a e = rw e (run-none a)

pub run-nil : (m : ℕ) → run m [] ≡ 0
unfolding run
run-nil zero = refl
run-nil (suc m) = refl

pub run-at_true : (m x : ℕ) (a : List ℕ) → is_name_byte x ≡ true → run (suc m) (x ∷ a) ≡ suc (run m a)
unfolding run
run-at_true m x a is = ap (λ b. cond b (suc (run m a)) 0) is

pub run-at_false : (m x : ℕ) (a : List ℕ) → is_name_byte x ≡ false → run m (x ∷ a) ≡ 0
unfolding run
run-at_false zero x a is = refl
run-at_false (suc m) x a is = ap (λ b. cond b (suc (run m a)) 0) is

-- one step of the loop
pub run_more : (n m i : ℕ) (a : List ℕ) → n ≡ suc m → i < length a → is_name_byte (get_or a i 0) ≡ true → run n (drop i a) ≡ suc (run m (drop (i + 1) a))
run_more n m i a e within is = rw (e, drop-cons a i 0, add-one) (run-at_true m (get_or a i 0) (drop (suc i) a) is)

pub run_stop : (n i : ℕ) (a : List ℕ) → i < length a → is_name_byte (get_or a i 0) ≡ false → run n (drop i a) ≡ 0
run_stop n i a within is = rw (drop-cons a i 0) (run-at_false n (get_or a i 0) (drop (suc i) a) is)

pub run_past : (n i : ℕ) (a : List ℕ) → length a ≤ i → run n (drop i a) ≡ 0
run_past n i a past = rw (drop_all i a past) (run-nil n)

-- The bytes of a run.
name_byte : (x : ℕ) → is_name_byte x ≡ true → IsNameByte x
name_byte x is = grind (arith, nat_tests)

pub run-le : (m : ℕ) (a : List ℕ) → (run m a ≤ m) × (run m a ≤ length a)
run-le zero a = (omega (arith, run-none a), omega (arith, run-none a))
run-le (suc m) [] = (omega (arith, run-nil (suc m)), omega (arith, run-nil (suc m)))
run-le (suc m) (x ∷ a) = elim (cases_Bool (is_name_byte x)) [
  | inl is ↦ (let rest = run-le m a in let e = run-at_true m x a is in (omega (arith, rest.0, e), omega (arith, rest.1, e)))
  | inr no_byte ↦ (let e = run-at_false (suc m) x a no_byte in (omega (arith, e), omega (arith, e)))
]

run_bytes : (m : ℕ) (a : List ℕ) → AllByRecursion IsNameByte (take (run m a) a)
run_bytes zero a = rw (run-none a) tt
run_bytes (suc m) [] = rw (run-nil (suc m)) tt
run_bytes (suc m) (x ∷ a) = elim (cases_Bool (is_name_byte x)) [
  | inl is ↦ rw (run-at_true m x a is) (name_byte x is, run_bytes m a)
  | inr no_byte ↦ rw (run-at_false (suc m) x a no_byte) tt
]

lowercase : (x : ℕ) → is_ascii_lowercase x ≡ true → IsAsciiLowercase x
lowercase x is = grind (arith, nat_tests)

first_taken : (r x : ℕ) (a : List ℕ) → 1 ≤ length (take r (x ∷ a)) → IsAsciiLowercase x → BeginsWithLetter (take r (x ∷ a))
first_taken zero x a some is = absurd (omega (arith, some))
first_taken (suc r) x a some is = is

name_of_run : (r x : ℕ) (a : List ℕ) → r ≡ run 32 (x ∷ a) → 1 ≤ length (take r (x ∷ a)) → IsAsciiLowercase x → IsName (take r (x ∷ a))
name_of_run r x a e some is = record {
  letters = All-from_recursion IsNameByte (take r (x ∷ a)) (rw e (run_bytes 32 (x ∷ a)));
  first = first_taken r x a some is;
  short = omega (arith, e, run-le 32 (x ∷ a), length-take r (x ∷ a));
}

pub name_taken : (a : List ℕ) → 1 ≤ length (take (name_len a) a) → IsName (take (name_len a) a)
unfolding name_len
name_taken [] some = absurd (omega (arith, some))
name_taken (x ∷ a) some = by_case (is_ascii_lowercase x) refl
  where
    by_case : (b : Bool) → is_ascii_lowercase x ≡ b → IsName (take (name_len (x ∷ a)) (x ∷ a))
    by_case true is = name_of_run (name_len (x ∷ a)) x a (ap (λ b. cond b (run 32 (x ∷ a)) 0) is) some (lowercase x is)
    by_case false no_letter = (let e : name_len (x ∷ a) ≡ 0 = ap (λ b. cond b (run 32 (x ∷ a)) 0) no_letter in
        absurd (omega (arith, some, e, length-take (name_len (x ∷ a)) (x ∷ a))))
