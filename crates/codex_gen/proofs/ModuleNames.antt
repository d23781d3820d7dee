-- The names of generated modules.
use Rattle.std.specs.Prelude.{◌≡◌, ◌≢◌, ◌<◌, ◌≤◌, ℕ, List, [], ◌∷◌, ◌++◌, length, All, codes, decimal}
use Rattle.std.specs.Char.{IsAsciiDigit}
use Rattle.std.proofs.Common.{arith, subst, inl, inr}
use Rattle.std.proofs.lemmas.Fmt.{decimal_is_IsNumeral, length-decimal-le, decimal_injective}
use Rattle.std.proofs.lemmas.Str.Parse.{digit_from_value}
use Rattle.std.specs.Str.Parse.{AllDigits}
use Rattle.two_d.specs.Names.{IsName, IsNameByte}
use Rattle.grid_picture.proofs.Pairs.{all_cons}
use Rattle.codex_gen.specs.Generated.{module_name}
use Rattle.codex_gen.proofs.BoxRow.{IsPlain}

digit_bytes : (ds : List ℕ) → AllDigits 10 ds → All IsAsciiDigit ds
digit_bytes [] all = λ k d lt. absurd (omega arith)
digit_bytes (c ∷ cs) all = all_cons IsAsciiDigit c cs (digit_from_value c all.0) (digit_bytes cs all.1)

decimal_bytes : (i : ℕ) → i < 100 → All IsAsciiDigit (decimal i)
decimal_bytes i lt = digit_bytes (decimal i) (decimal_is_IsNumeral i (omega arith)).0.1

plain_low : (b : ℕ) → 48 ≤ b → b ≤ 57 → IsPlain b
plain_low b low high = record { low = omega arith; high = omega arith; no_star = λ e. omega arith; no_plus = λ e. omega arith; no_hash = λ e. omega arith; no_minus = λ e. omega arith; no_bar = λ e. omega arith; no_greater = λ e. omega arith }

plain_high : (b : ℕ) → 63 ≤ b → b ≤ 123 → IsPlain b
plain_high b low high = record { low = omega arith; high = omega arith; no_star = λ e. omega arith; no_plus = λ e. omega arith; no_hash = λ e. omega arith; no_minus = λ e. omega arith; no_bar = λ e. omega arith; no_greater = λ e. omega arith }

plain_space : IsPlain 32
plain_space = record { low = omega arith; high = omega arith; no_star = λ e. omega arith; no_plus = λ e. omega arith; no_hash = λ e. omega arith; no_minus = λ e. omega arith; no_bar = λ e. omega arith; no_greater = λ e. omega arith }

pub name_long : (i : ℕ) → i < 100 → length (module_name i) ≤ 3
name_long i lt = let e = length-decimal-le 2 i (omega arith) (omega arith) (omega arith) in omega arith

pub name_is : (i : ℕ) → i < 100 → IsName (module_name i)
name_is i lt = record {
  letters = all_cons IsNameByte 109 (decimal i) (inl (omega arith, omega arith)) (λ k d less. inr (inl (decimal_bytes i lt k d less)));
  first = (omega arith, omega arith);
  short = (let e = name_long i lt in omega arith);
}

-- `use` and the name
pub use_plain : (i : ℕ) → i < 100 → All IsPlain (codes "use " ++ module_name i)
use_plain i lt =
    all_cons IsPlain 117 (115 ∷ 101 ∷ 32 ∷ 109 ∷ decimal i) (plain_high 117 (omega arith) (omega arith))
    (all_cons IsPlain 115 (101 ∷ 32 ∷ 109 ∷ decimal i) (plain_high 115 (omega arith) (omega arith))
    (all_cons IsPlain 101 (32 ∷ 109 ∷ decimal i) (plain_high 101 (omega arith) (omega arith))
    (all_cons IsPlain 32 (109 ∷ decimal i) plain_space
    (all_cons IsPlain 109 (decimal i) (plain_high 109 (omega arith) (omega arith))
    (λ k d less. let b = decimal_bytes i lt k d less in plain_low _ b.0 b.1)))))

tails : (x y : ℕ) (xs ys : List ℕ) → x ∷ xs ≡ y ∷ ys → xs ≡ ys
tails x y xs ys e = cc

pub names_apart : (i j : ℕ) → i < 100 → j < 100 → i < j → module_name i ≢ module_name j
names_apart i j a b lt e = let same = decimal_injective i j (omega arith) (omega arith) (tails 109 109 (decimal i) (decimal j) e) in omega arith

-- no module beside it has the name of `main`
pub not_main : (i : ℕ) → i < 100 → codes "main" ≢ module_name i
not_main i lt e =
    let digits = subst (All IsAsciiDigit) (by e) (decimal_bytes i lt) in
    let first = digits 0 0 (omega arith) in
    omega (arith, first.0, first.1)
  where
    by : codes "main" ≡ module_name i → decimal i ≡ codes "ain"
    by e = cc

pub main_is : IsName (codes "main")
main_is = record {
  letters = all_cons IsNameByte 109 (codes "ain") (inl (omega arith, omega arith)) (all_cons IsNameByte 97 (codes "in") (inl (omega arith, omega arith)) (all_cons IsNameByte 105 (codes "n") (inl (omega arith, omega arith)) (all_cons IsNameByte 110 [] (inl (omega arith, omega arith)) (λ k d lt. absurd (omega arith)))));
  first = (omega arith, omega arith);
  short = omega arith;
}
