-- Numbers from digits.
use Rattle.std.proofs.Common.{◌≡◌, ℕ, suc, ◌+◌, ◌*◌, ◌<◌, ◌≤◌, nat_le, nat_lt, Bool, true, false, ◌&&◌, List, [], ◌∷◌, ◌++◌, length, take, drop, get_or, zero, append_assoc, Some, Ok, refl, arith, add-one, drop-cons}
use Rattle.std.proofs.Math.Nat.{le-mul_of_pos_right}
use Rattle.std.specs.Int.{w32, from_be_bytes}
use Rattle.std.specs.List.{list_all}
use Rattle.std.specs.Char.{digit_value, is_digit}
use Rattle.std.specs.Str.Parse.{digits_value, digits_value_after}
use Rattle.um_asm.specs.Assembly.{hex_words}
use Rattle.hex.specs.Hex.{hex_digit_value, decode_sized, decode_pairs}

-- further digits don't make a number smaller
pub after_grows : (radix n : ℕ) (digits : List ℕ) → 1 ≤ radix → n ≤ digits_value_after radix n digits
after_grows radix n [] big = omega arith
after_grows radix n (c ∷ cs) big =
    omega (arith, after_grows radix (n * radix + digit_value c) cs big, le-mul_of_pos_right {m = radix} n big)

pub next_digit : (radix n i : ℕ) (digits : List ℕ) → i < length digits
    → digits_value_after radix n (drop i digits) ≡ digits_value_after radix (n * radix + digit_value (get_or digits i 0)) (drop (i + 1) digits)
next_digit radix n i digits inside = rw (add-one, drop-cons digits i 0) refl

pub not_at_most : (a b : ℕ) → b < a → nat_le a b ≡ false
not_at_most a b h = grind arith

-- the crate `hex` reads a digit as it is defined here
decimal_digit : (c : ℕ) → 48 ≤ c → c < 58 → hex_digit_value c ≡ Some (digit_value c)
decimal_digit c low high = grind arith

upper_digit : (c : ℕ) → 65 ≤ c → c < 71 → hex_digit_value c ≡ Some (digit_value c)
upper_digit c low high = grind arith

lower_digit : (c : ℕ) → 97 ≤ c → c < 103 → hex_digit_value c ≡ Some (digit_value c)
lower_digit c low high =
    let a : nat_le 65 c ≡ true = grind arith in
    let b : nat_le c 70 ≡ false = grind arith in
    let d : nat_le 97 c ≡ true = grind arith in
    let e : nat_le c 102 ≡ true = grind arith in
    let f : nat_lt c 48 ≡ false = grind arith in
    let g : nat_lt c 58 ≡ false = grind arith in
    let h : nat_lt c 65 ≡ false = grind arith in
    let i : nat_lt c 91 ≡ false = grind arith in
    let j : nat_lt c 97 ≡ false = grind arith in
    let k : nat_lt c 123 ≡ true = grind arith in
    rw (a, b, d, e, f, g, h, i, j, k) refl

pub hex_digit : (c : ℕ) → is_digit c 16 ≡ true → hex_digit_value c ≡ Some (digit_value c)
hex_digit c digit = at_48 (nat_lt c 48) refl
  where
    at_123 : (b : Bool) → nat_lt c 48 ≡ false → nat_lt c 58 ≡ false → nat_lt c 65 ≡ false → nat_lt c 91 ≡ false → nat_lt c 97 ≡ false → nat_lt c 123 ≡ b → hex_digit_value c ≡ Some (digit_value c)
    at_123 true e f g h i j =
        let small : c < 103 = grind (arith, rw (e, f, g, h, i, j) at digit, j) in
        lower_digit c (grind (arith, i)) small
    at_123 false e f g h i j = cc (rw (e, f, g, h, i, j) at digit)

    at_97 : (b : Bool) → nat_lt c 48 ≡ false → nat_lt c 58 ≡ false → nat_lt c 65 ≡ false → nat_lt c 91 ≡ false → nat_lt c 97 ≡ b → hex_digit_value c ≡ Some (digit_value c)
    at_97 true e f g h i = cc (rw (e, f, g, h, i) at digit)
    at_97 false e f g h i = at_123 (nat_lt c 123) e f g h i refl

    at_91 : (b : Bool) → nat_lt c 48 ≡ false → nat_lt c 58 ≡ false → nat_lt c 65 ≡ false → nat_lt c 91 ≡ b → hex_digit_value c ≡ Some (digit_value c)
    at_91 true e f g h =
        let small : c < 71 = grind (arith, rw (e, f, g, h) at digit, h) in
        upper_digit c (grind (arith, g)) small
    at_91 false e f g h = at_97 (nat_lt c 97) e f g h refl

    at_65 : (b : Bool) → nat_lt c 48 ≡ false → nat_lt c 58 ≡ false → nat_lt c 65 ≡ b → hex_digit_value c ≡ Some (digit_value c)
    at_65 true e f g = cc (rw (e, f, g) at digit)
    at_65 false e f g = at_91 (nat_lt c 91) e f g refl

    at_58 : (b : Bool) → nat_lt c 48 ≡ false → nat_lt c 58 ≡ b → hex_digit_value c ≡ Some (digit_value c)
    at_58 true e f = decimal_digit c (grind (arith, e)) (grind (arith, f))
    at_58 false e f = at_65 (nat_lt c 65) e f refl

    at_48 : (b : Bool) → nat_lt c 48 ≡ b → hex_digit_value c ≡ Some (digit_value c)
    at_48 true e = cc (rw e at digit)
    at_48 false e = at_58 (nat_lt c 58) e refl

and_left : (x y : Bool) → (x && y) ≡ true → x ≡ true
and_left true y h = refl
and_left false y h = h

and_right : (x y : Bool) → (x && y) ≡ true → y ≡ true
and_right true y h = h
and_right false y h = cc

-- the first digit, and the others
first_digit : (c : ℕ) (cs : List ℕ) → list_all (λ b. is_digit b 16) (c ∷ cs) ≡ true → hex_digit_value c ≡ Some (digit_value c)
first_digit c cs all = hex_digit c (and_left (is_digit c 16) (list_all (λ b. is_digit b 16) cs) all)

other_digits : (c : ℕ) (cs : List ℕ) → list_all (λ b. is_digit b 16) (c ∷ cs) ≡ true → list_all (λ b. is_digit b 16) cs ≡ true
other_digits c cs all = and_right (is_digit c 16) (list_all (λ b. is_digit b 16) cs) all

-- the word of eight digits
pub hex_eight : (digits : List ℕ) → length digits ≡ 8 → list_all (λ b. is_digit b 16) digits ≡ true
    → (bytes : List ℕ) × (decode_sized digits 4 ≡ Ok bytes) × (from_be_bytes w32 bytes ≡ digits_value 16 digits)
unfolding decode_pairs
hex_eight (a ∷ b ∷ c ∷ d ∷ e ∷ f ∷ g ∷ h ∷ []) len all =
    let from_b = other_digits a (b ∷ c ∷ d ∷ e ∷ f ∷ g ∷ h ∷ []) all in
    let from_c = other_digits b (c ∷ d ∷ e ∷ f ∷ g ∷ h ∷ []) from_b in
    let from_d = other_digits c (d ∷ e ∷ f ∷ g ∷ h ∷ []) from_c in
    let from_e = other_digits d (e ∷ f ∷ g ∷ h ∷ []) from_d in
    let from_f = other_digits e (f ∷ g ∷ h ∷ []) from_e in
    let from_g = other_digits f (g ∷ h ∷ []) from_f in
    let from_h = other_digits g (h ∷ []) from_g in (
      (digit_value a * 16 + digit_value b) ∷ (digit_value c * 16 + digit_value d) ∷ (digit_value e * 16 + digit_value f) ∷ (digit_value g * 16 + digit_value h) ∷ [],
      rw (first_digit a (b ∷ c ∷ d ∷ e ∷ f ∷ g ∷ h ∷ []) all, first_digit b (c ∷ d ∷ e ∷ f ∷ g ∷ h ∷ []) from_b, first_digit c (d ∷ e ∷ f ∷ g ∷ h ∷ []) from_c, first_digit d (e ∷ f ∷ g ∷ h ∷ []) from_d, first_digit e (f ∷ g ∷ h ∷ []) from_e, first_digit f (g ∷ h ∷ []) from_f, first_digit g (h ∷ []) from_g, first_digit h [] from_h) refl,
      omega arith,
    )
hex_eight _ len all = absurd (omega (arith, len))

all_drop : (n : ℕ) (digits : List ℕ) → list_all (λ b. is_digit b 16) digits ≡ true → list_all (λ b. is_digit b 16) (drop n digits) ≡ true
all_drop zero digits all = all
all_drop (suc n) [] all = refl
all_drop (suc n) (c ∷ cs) all = all_drop n cs (other_digits c cs all)

pub hex_step : (digits : List ℕ) → 8 ≤ length digits → hex_words digits ≡ digits_value 16 (take 8 digits) ∷ hex_words (drop 8 digits)
hex_step (a ∷ b ∷ c ∷ d ∷ e ∷ f ∷ g ∷ h ∷ digits) long = refl
hex_step _ long = absurd (omega (arith, long))

-- the word of the next eight digits goes to those before it
pub hex_next : (old new : List ℕ) (word : ℕ) (rest eight behind all : List ℕ) → 8 ≤ length rest → eight ≡ take 8 rest → behind ≡ drop 8 rest
    → word ≡ digits_value 16 eight → new ≡ old ++ word ∷ [] → old ++ hex_words rest ≡ all → new ++ hex_words behind ≡ all
hex_next old new word rest eight behind all long front back number added known =
    let step : hex_words rest ≡ word ∷ hex_words behind = rw (number, front, back) (hex_step rest long) in
    rw (added, append_assoc) (rw (← step) known)

pub hex_behind : (rest behind : List ℕ) → behind ≡ drop 8 rest → list_all (λ b. is_digit b 16) rest ≡ true → list_all (λ b. is_digit b 16) behind ≡ true
hex_behind rest behind back all = rw back (all_drop 8 rest all)
