-- A listing says the words that it shows.
use Rattle.std.proofs.Common.{◌≡◌, ℕ, zero, suc, ◌+◌, ◌-◌, ◌/◌, ◌%◌, ◌^◌, ◌<◌, ◌≤◌, ◌==◌, nat_le, nat_lt, Bool, true, false, not, cond, ◌&&◌, List, [], ◌∷◌, ◌++◌, length, map, codes, decimal, slice_index, get_or, slice_get, take, drop, subst, Option, Some, None, Result, Ok, refl, sym, ◌∙◌, ap, arith, append_assoc}
use Rattle.std.specs.Int.{w32, to_be_bytes, from_be_bytes}
use Rattle.std.specs.List.{list_all, AllByRecursion}
use Rattle.std.specs.Char.{digit_value, is_digit}
use Rattle.std.specs.Str.Lines.{lines, strip_carriage_return}
use Rattle.std.specs.Str.Parse.{digits_value, AllDigits}
use Rattle.std.proofs.lemmas.Fmt.{decimal_is_IsNumeral}
use Rattle.std.proofs.lemmas.Nat.{from_be_bytes-to_be_bytes_4}
use Rattle.std.proofs.lemmas.List.{take_all, drop_all, append-nil}
use Rattle.hex.specs.declared.error.FromHexError.{FromHexError}
use Rattle.hex.specs.Hex.{encode_lower, encode_with, lower_digits, decode_sized, IsBytes}
use Rattle.hex.proofs.HexLemmas.{length-encode_with, decode_sized-encode_lower}
use Rattle.um_word.specs.declared.op.Op.{Op}
use Rattle.um_word.specs.declared.op.Op.TheVariants as op
use Rattle.um_word.specs.Operators.{decode_word, encode_op, IsEncodable, operators}
use Rattle.um_asm.specs.declared.line.Value.TheVariants.{Decimal}
use Rattle.um_asm.specs.declared.line.Statement.{Statement}
use Rattle.um_asm.specs.declared.line.Statement.TheVariants.{Operator, SetTo, Hex}
use Rattle.um_asm.specs.declared.line.Line.{Line}
use Rattle.um_asm.specs.declared.line.Line.TheVariants.{Code}
use Rattle.um_asm.specs.declared.mnemonic.Mnemonic.{Mnemonic}
use Rattle.um_asm.specs.declared.mnemonic.Mnemonic.TheVariants.{Cmov, Index, Amend, Add, Mul, Div, Nand, Halt, Alloc, Abandon, Out, In, Load, Set}
use Rattle.um_asm.specs.Tokens.{before, behind_byte, register_at, value_written, is_numeral, is_printable}
use Rattle.um_asm.specs.Mnemonics.{mnemonic_text}
use Rattle.um_asm.specs.Lines.{parsed_line, content_at, size_of, are_hex_words}
use Rattle.um_asm.specs.Listing.{register_text, operator_text, hex_text, word_text, listing}
use Rattle.um_word.specs.Scroll.{most_scroll_words}
use Rattle.um_asm.specs.Assembly.{NameMeaning, assembled, hex_words, lines_words, said_by, statement_words}
use Rattle.um_asm.specs.Scopes.{standing, all_standing, definitions, lookup}
use Rattle.um_asm.proofs.Cuts.{lines_some}
use Rattle.um_asm.proofs.Walking.{short_enough}
use Rattle.um_asm.proofs.Numbers.{hex_eight, hex_step}
use Rattle.um_asm.proofs.Clean.{is_clean, Clean, read_as, before_mark, after_mark, line_spaced, line_alone}

-- a statement alone on a line
abbrev pub code : Statement (List ℕ) → Option (Line (List ℕ))
code statement = Some (Code None (Some statement))

register_read : (a : ℕ) → a < 8 → register_at (register_text a) ≡ Some a
register_read a small =
    let low : nat_le 48 (48 + a) ≡ true = grind arith in
    let high : nat_le (48 + a) 55 ≡ true = grind arith in
    let same : (48 + a) - 48 ≡ a = omega arith in
    rw (low, high, same) refl

register_clean : (a : ℕ) → a < 8 → Clean (register_text a)
register_clean a small =
    let low : nat_le 32 (48 + a) ≡ true = grind arith in
    let high : nat_le (48 + a) 126 ≡ true = grind arith in
    let colon : ((48 + a) == 58) ≡ false = grind arith in
    let semicolon : ((48 + a) == 59) ≡ false = grind arith in
    let space : ((48 + a) == 32) ≡ false = grind arith in
    let comma : ((48 + a) == 44) ≡ false = grind arith in
    record { some = omega arith; clean = rw (low, high, colon, semicolon, space, comma) refl }

mnemonic_clean : (m : Mnemonic) → Clean (mnemonic_text m)
mnemonic_clean Cmov = record { some = omega arith; clean = refl }
mnemonic_clean Index = record { some = omega arith; clean = refl }
mnemonic_clean Amend = record { some = omega arith; clean = refl }
mnemonic_clean Add = record { some = omega arith; clean = refl }
mnemonic_clean Mul = record { some = omega arith; clean = refl }
mnemonic_clean Div = record { some = omega arith; clean = refl }
mnemonic_clean Nand = record { some = omega arith; clean = refl }
mnemonic_clean Halt = record { some = omega arith; clean = refl }
mnemonic_clean Alloc = record { some = omega arith; clean = refl }
mnemonic_clean Abandon = record { some = omega arith; clean = refl }
mnemonic_clean Out = record { some = omega arith; clean = refl }
mnemonic_clean In = record { some = omega arith; clean = refl }
mnemonic_clean Load = record { some = omega arith; clean = refl }
mnemonic_clean Set = record { some = omega arith; clean = refl }

one_line : (m : Mnemonic) (c : ℕ) → c < 8 → parsed_line (mnemonic_text m ++ 32 ∷ (register_text c ++ [])) ≡ read_as (mnemonic_text m) (register_text c ∷ [])
one_line m c small = line_spaced (mnemonic_text m) (register_text c) [] (mnemonic_clean m) (register_clean c small) tt

two_line : (m : Mnemonic) (b c : ℕ) → b < 8 → c < 8 → parsed_line (mnemonic_text m ++ 32 ∷ (register_text b ++ (44 ∷ 32 ∷ (register_text c ++ [])))) ≡ read_as (mnemonic_text m) (register_text b ∷ register_text c ∷ [])
two_line m b c sb sc = line_spaced (mnemonic_text m) (register_text b) (register_text c ∷ []) (mnemonic_clean m) (register_clean b sb) (register_clean c sc, tt)

three_line : (m : Mnemonic) (a b c : ℕ) → a < 8 → b < 8 → c < 8
    → parsed_line (mnemonic_text m ++ 32 ∷ (register_text a ++ (44 ∷ 32 ∷ (register_text b ++ (44 ∷ 32 ∷ (register_text c ++ [])))))) ≡ read_as (mnemonic_text m) (register_text a ∷ register_text b ∷ register_text c ∷ [])
three_line m a b c sa sb sc =
    line_spaced (mnemonic_text m) (register_text a) (register_text b ∷ register_text c ∷ []) (mnemonic_clean m) (register_clean a sa) (register_clean b sb, (register_clean c sc, tt))

below : (a b : ℕ) → a < b → nat_lt a b ≡ true
below a b h = grind arith

-- a byte of a decimal number
small_digit : (c : ℕ) → digit_value c < 10 → (48 ≤ c) × (c < 58)
small_digit c digit = at_48 (nat_lt c 48) refl
  where
    at_123 : (b : Bool) → nat_lt c 48 ≡ false → nat_lt c 58 ≡ false → nat_lt c 65 ≡ false → nat_lt c 91 ≡ false → nat_lt c 97 ≡ false → nat_lt c 123 ≡ b → (48 ≤ c) × (c < 58)
    at_123 true e f g h i j =
        let low : 97 ≤ c = grind (arith, i) in
        absurd (omega (arith, low, rw (e, f, g, h, i, j) at digit))
    at_123 false e f g h i j = absurd (omega (arith, rw (e, f, g, h, i, j) at digit))

    at_97 : (b : Bool) → nat_lt c 48 ≡ false → nat_lt c 58 ≡ false → nat_lt c 65 ≡ false → nat_lt c 91 ≡ false → nat_lt c 97 ≡ b → (48 ≤ c) × (c < 58)
    at_97 true e f g h i = absurd (omega (arith, rw (e, f, g, h, i) at digit))
    at_97 false e f g h i = at_123 (nat_lt c 123) e f g h i refl

    at_91 : (b : Bool) → nat_lt c 48 ≡ false → nat_lt c 58 ≡ false → nat_lt c 65 ≡ false → nat_lt c 91 ≡ b → (48 ≤ c) × (c < 58)
    at_91 true e f g h =
        let low : 65 ≤ c = grind (arith, g) in
        absurd (omega (arith, low, rw (e, f, g, h) at digit))
    at_91 false e f g h = at_97 (nat_lt c 97) e f g h refl

    at_65 : (b : Bool) → nat_lt c 48 ≡ false → nat_lt c 58 ≡ false → nat_lt c 65 ≡ b → (48 ≤ c) × (c < 58)
    at_65 true e f g = absurd (omega (arith, rw (e, f, g) at digit))
    at_65 false e f g = at_91 (nat_lt c 91) e f g refl

    at_58 : (b : Bool) → nat_lt c 48 ≡ false → nat_lt c 58 ≡ b → (48 ≤ c) × (c < 58)
    at_58 true e f = (grind (arith, e), grind (arith, f))
    at_58 false e f = at_65 (nat_lt c 65) e f refl

    at_48 : (b : Bool) → nat_lt c 48 ≡ b → (48 ≤ c) × (c < 58)
    at_48 true e = absurd (omega (arith, rw e at digit))
    at_48 false e = at_58 (nat_lt c 58) e refl

digit_clean : (c : ℕ) → 48 ≤ c → c < 58 → is_clean c ≡ true
digit_clean c low high =
    let from : nat_le 32 c ≡ true = grind arith in
    let to : nat_le c 126 ≡ true = grind arith in
    let colon : (c == 58) ≡ false = grind arith in
    let semicolon : (c == 59) ≡ false = grind arith in
    let space : (c == 32) ≡ false = grind arith in
    let comma : (c == 44) ≡ false = grind arith in
    rw (from, to, colon, semicolon, space, comma) refl

and_both : (x y : Bool) → x ≡ true → y ≡ true → (x && y) ≡ true
and_both true y h k = k
and_both false y h k = cc

digits_clean : (ds : List ℕ) → AllDigits 10 ds → (list_all is_clean ds ≡ true) × (list_all (λ b. is_digit b 10) ds ≡ true)
digits_clean [] all = (refl, refl)
digits_clean (c ∷ cs) (digit, all) =
    let range = small_digit c digit in
    let rest = digits_clean cs all in (
      and_both (is_clean c) (list_all is_clean cs) (digit_clean c range.0 range.1) rest.0,
      and_both (is_digit c 10) (list_all (λ b. is_digit b 10) cs) (below (digit_value c) 10 digit) rest.1,
    )

-- the statement of an operator
abbrev pub stated : Op → Statement (List ℕ)
stated (op.Set a value) = SetTo a (Decimal (decimal value))
stated operator = Operator operator

set_line : (a value : ℕ) → a < 8 → value < 2 ^ 25 → parsed_line (operator_text (op.Set a value)) ≡ code (SetTo a (Decimal (decimal value)))
set_line a value small fits =
    let numeral = decimal_is_IsNumeral value (omega arith) in
    let clean = digits_clean (decimal value) numeral.0.1 in
    let token : Clean (decimal value) = record { some = numeral.0.0; clean = clean.0 } in
    let some : nat_lt 0 (length (decimal value)) ≡ true = below 0 (length (decimal value)) numeral.0.0 in
    let number : is_numeral 10 (decimal value) ≡ true = and_both (nat_lt 0 (length (decimal value))) (list_all (λ b. is_digit b 10) (decimal value)) some clean.1 in
    let read : value_written (decimal value) ≡ Some (Decimal (decimal value)) = rw number refl in
    line_spaced (mnemonic_text Set) (register_text a) (decimal value ∷ []) (mnemonic_clean Set) (register_clean a small) (token, tt) ∙ rw (register_read a small, read) refl

operator_line : (o : Op) → IsEncodable o → parsed_line (operator_text o) ≡ code (stated o)
operator_line (op.Move a b c) (ha, hb, hc) = three_line Cmov a b c ha hb hc ∙ rw (register_read a ha, register_read b hb, register_read c hc) refl
operator_line (op.Index a b c) (ha, hb, hc) = three_line Index a b c ha hb hc ∙ rw (register_read a ha, register_read b hb, register_read c hc) refl
operator_line (op.Amend a b c) (ha, hb, hc) = three_line Amend a b c ha hb hc ∙ rw (register_read a ha, register_read b hb, register_read c hc) refl
operator_line (op.Add a b c) (ha, hb, hc) = three_line Add a b c ha hb hc ∙ rw (register_read a ha, register_read b hb, register_read c hc) refl
operator_line (op.Mul a b c) (ha, hb, hc) = three_line Mul a b c ha hb hc ∙ rw (register_read a ha, register_read b hb, register_read c hc) refl
operator_line (op.Div a b c) (ha, hb, hc) = three_line Div a b c ha hb hc ∙ rw (register_read a ha, register_read b hb, register_read c hc) refl
operator_line (op.Nand a b c) (ha, hb, hc) = three_line Nand a b c ha hb hc ∙ rw (register_read a ha, register_read b hb, register_read c hc) refl
operator_line op.Halt fits = line_alone (mnemonic_text Halt) (mnemonic_clean Halt)
operator_line (op.Alloc b c) (hb, hc) = two_line Alloc b c hb hc ∙ rw (register_read b hb, register_read c hc) refl
operator_line (op.Abandon c) hc = one_line Abandon c hc ∙ rw (register_read c hc) refl
operator_line (op.Out c) hc = one_line Out c hc ∙ rw (register_read c hc) refl
operator_line (op.Input c) hc = one_line In c hc ∙ rw (register_read c hc) refl
operator_line (op.Load b c) (hb, hc) = two_line Load b c hb hc ∙ rw (register_read b hb, register_read c hc) refl
operator_line (op.Set a value) (small, fits) = set_line a value small fits

at_most : (a b : ℕ) → a ≤ b → nat_le a b ≡ true
at_most a b h = grind arith

operator_words : (meaning : NameMeaning) (n : ℕ) (o : Op) → IsEncodable o → statement_words meaning n None (stated o) ≡ Ok (encode_op o ∷ [])
operator_words meaning n (op.Move a b c) fits = refl
operator_words meaning n (op.Index a b c) fits = refl
operator_words meaning n (op.Amend a b c) fits = refl
operator_words meaning n (op.Add a b c) fits = refl
operator_words meaning n (op.Mul a b c) fits = refl
operator_words meaning n (op.Div a b c) fits = refl
operator_words meaning n (op.Nand a b c) fits = refl
operator_words meaning n op.Halt fits = refl
operator_words meaning n (op.Alloc b c) fits = refl
operator_words meaning n (op.Abandon c) fits = refl
operator_words meaning n (op.Out c) fits = refl
operator_words meaning n (op.Input c) fits = refl
operator_words meaning n (op.Load b c) fits = refl
operator_words meaning n (op.Set a value) (small, fits) =
    let numeral = decimal_is_IsNumeral value (omega arith) in
    rw (numeral.1, at_most value (2 ^ 25 - 1) (omega arith)) refl

-- a digit of `.hex`
abbrev is_good : ℕ → Bool
is_good b = is_clean b && is_digit b 16

nibble_good : (k : ℕ) → k < 16 → is_good (slice_index lower_digits k) ≡ true
nibble_good (zero) small = refl
nibble_good (suc zero) small = refl
nibble_good (suc (suc zero)) small = refl
nibble_good (suc (suc (suc zero))) small = refl
nibble_good (suc (suc (suc (suc zero)))) small = refl
nibble_good (suc (suc (suc (suc (suc zero))))) small = refl
nibble_good (suc (suc (suc (suc (suc (suc zero)))))) small = refl
nibble_good (suc (suc (suc (suc (suc (suc (suc zero))))))) small = refl
nibble_good (suc (suc (suc (suc (suc (suc (suc (suc zero)))))))) small = refl
nibble_good (suc (suc (suc (suc (suc (suc (suc (suc (suc zero))))))))) small = refl
nibble_good (suc (suc (suc (suc (suc (suc (suc (suc (suc (suc zero)))))))))) small = refl
nibble_good (suc (suc (suc (suc (suc (suc (suc (suc (suc (suc (suc zero))))))))))) small = refl
nibble_good (suc (suc (suc (suc (suc (suc (suc (suc (suc (suc (suc (suc zero)))))))))))) small = refl
nibble_good (suc (suc (suc (suc (suc (suc (suc (suc (suc (suc (suc (suc (suc zero))))))))))))) small = refl
nibble_good (suc (suc (suc (suc (suc (suc (suc (suc (suc (suc (suc (suc (suc (suc zero)))))))))))))) small = refl
nibble_good (suc (suc (suc (suc (suc (suc (suc (suc (suc (suc (suc (suc (suc (suc (suc zero))))))))))))))) small = refl
nibble_good (suc (suc (suc (suc (suc (suc (suc (suc (suc (suc (suc (suc (suc (suc (suc (suc k)))))))))))))))) small = absurd (omega (arith, small))

encode_good : (bytes : List ℕ) → AllByRecursion (λ b. b < 256) bytes → list_all is_good (encode_lower bytes) ≡ true
unfolding encode_with
encode_good [] all = refl
encode_good (b ∷ bytes) (small, all) =
    let digits = encode_lower bytes in
    and_both (is_good (slice_index lower_digits (b / 16))) (is_good (slice_index lower_digits (b % 16)) && list_all is_good digits)
    (nibble_good (b / 16) (omega arith))
    (and_both (is_good (slice_index lower_digits (b % 16))) (list_all is_good digits) (nibble_good (b % 16) (omega arith)) (encode_good bytes all))

bytes_small : (word : ℕ) → AllByRecursion (λ b. b < 256) (to_be_bytes w32 word)
bytes_small word = (omega arith, (omega arith, (omega arith, (omega arith, tt))))

bytes_by_index : (bytes : List ℕ) → AllByRecursion (λ b. b < 256) bytes → IsBytes bytes
bytes_by_index [] all i = omega arith
bytes_by_index (b ∷ bytes) (small, all) zero = small
bytes_by_index (b ∷ bytes) (small, all) (suc i) = bytes_by_index bytes all i

and_fst : (x y : Bool) → (x && y) ≡ true → x ≡ true
and_fst true y h = refl
and_fst false y h = h

and_snd : (x y : Bool) → (x && y) ≡ true → y ≡ true
and_snd true y h = h
and_snd false y h = cc

good_parts : (text : List ℕ) → list_all is_good text ≡ true → (list_all is_clean text ≡ true) × (list_all (λ b. is_digit b 16) text ≡ true)
good_parts [] h = (refl, refl)
good_parts (b ∷ bs) h =
    let here = and_fst (is_good b) (list_all is_good bs) h in
    let rest = good_parts bs (and_snd (is_good b) (list_all is_good bs) h) in (
      and_both (is_clean b) (list_all is_clean bs) (and_fst (is_clean b) (is_digit b 16) here) rest.0,
      and_both (is_digit b 16) (list_all (λ b. is_digit b 16) bs) (and_snd (is_clean b) (is_digit b 16) here) rest.1,
    )

ok_same : (r : Result (List ℕ) FromHexError) (a b : List ℕ) → r ≡ Ok a → r ≡ Ok b → a ≡ b
ok_same r a b h k = cc

-- the digits of a word
abbrev digits_of : ℕ → List ℕ
digits_of word = encode_lower (to_be_bytes w32 word)

pub record Digits (word : ℕ) : Type 0 where
  pub eight : length (digits_of word) ≡ 8
  pub clean : list_all is_clean (digits_of word) ≡ true
  pub digits : list_all (λ b. is_digit b 16) (digits_of word) ≡ true
  pub value : digits_value 16 (digits_of word) ≡ word

word_digits : (word : ℕ) → word < 2 ^ 32 → Digits word
word_digits word small =
    let bytes = to_be_bytes w32 word in
    let four : length bytes ≡ 4 = refl in
    let eight : length (digits_of word) ≡ 8 = length-encode_with lower_digits bytes in
    let good = good_parts (digits_of word) (encode_good bytes (bytes_small word)) in
    let read = hex_eight (digits_of word) eight good.1 in
    let back : decode_sized (digits_of word) 4 ≡ Ok bytes = decode_sized-encode_lower bytes 4 four (bytes_by_index bytes (bytes_small word)) in
    let same : read.0 ≡ bytes = ok_same (decode_sized (digits_of word) 4) read.0 bytes read.1 back in
    record {
      eight = eight;
      clean = good.0;
      digits = good.1;
      value = sym read.2 ∙ (ap (from_be_bytes w32) same ∙ from_be_bytes-to_be_bytes_4 word small);
    }

hex_right : (word : ℕ) → Digits word → are_hex_words (digits_of word) ≡ true
hex_right word d = rw (d.eight, d.digits) refl

hex_line : (word : ℕ) → Digits word → parsed_line (hex_text word) ≡ code (Hex (digits_of word))
hex_line word d =
    let token : Clean (digits_of word) = record { some = omega (arith, d.eight); clean = d.clean } in
    let directive : Clean (codes ".hex") = record { some = omega arith; clean = refl } in
    let same : hex_text word ≡ codes ".hex" ++ 32 ∷ (digits_of word ++ []) = rw (append-nil (digits_of word)) refl in
    let read : parsed_line (codes ".hex" ++ 32 ∷ (digits_of word ++ [])) ≡ read_as (codes ".hex") (digits_of word ∷ []) = line_spaced (codes ".hex") (digits_of word) [] directive token tt in
    let shown : read_as (codes ".hex") (digits_of word ∷ []) ≡ code (Hex (digits_of word)) = rw (hex_right word d) refl in
    ap parsed_line same ∙ (read ∙ shown)

hex_read : (word : ℕ) → Digits word → hex_words (digits_of word) ≡ word ∷ []
hex_read word d =
    let all : take 8 (digits_of word) ≡ digits_of word = take_all 8 (digits_of word) (omega (arith, d.eight)) in
    let nothing : drop 8 (digits_of word) ≡ [] = drop_all 8 (digits_of word) (omega (arith, d.eight)) in
    hex_step (digits_of word) (omega (arith, d.eight)) ∙ rw (all, nothing, d.value) refl

-- a decoded operator has registers below 8 and a value below 2 ^ 25
among : (P : Op → Type 0) (os : List Op) (n : ℕ) (o : Op) → AllByRecursion P os → slice_get os n ≡ Some o → P o
among P [] n o all e = absurd (cc)
among P (x ∷ os) zero o (h, all) e = let same : x ≡ o = cc in subst P same h
among P (x ∷ os) (suc n) o (h, all) e = among P os n o all e

decoded : (word : ℕ) (o : Op) → decode_word word ≡ Some o → IsEncodable o
decoded word o e =
    let a = word / 2 ^ 6 % 8 in
    let b = word / 2 ^ 3 % 8 in
    let c = word % 8 in
    let high = word / 2 ^ 25 % 8 in
    let value = word % 2 ^ 25 in
    let ha : a < 8 = omega arith in
    let hb : b < 8 = omega arith in
    let hc : c < 8 = omega arith in
    let hh : high < 8 = omega arith in
    let hv : value < 2 ^ 25 = omega arith in
    among IsEncodable (operators a b c high value) (word / 2 ^ 28) o
    ((ha, hb, hc), ((ha, hb, hc), ((ha, hb, hc), ((ha, hb, hc), ((ha, hb, hc), ((ha, hb, hc), ((ha, hb, hc), (tt, ((hb, hc), (hc, (hc, (hc, ((hb, hc), ((hh, hv), tt)))))))))))))) e

-- what a line of a listing says
pub record Says (word : ℕ) (line : List ℕ) : Type 0 where
  pub statement : Statement (List ℕ)
  pub line_is : parsed_line line ≡ code statement
  pub words : (meaning : NameMeaning) (n : ℕ) → statement_words meaning n None statement ≡ Ok (word ∷ [])

says_hex : (word : ℕ) → word < 2 ^ 32 → Says word (hex_text word)
says_hex word small =
    let d = word_digits word small in
    record { statement = Hex (digits_of word); line_is = hex_line word d; words = λ meaning n. ap Ok (hex_read word d) }

pub says : (word : ℕ) → word < 2 ^ 32 → Says word (word_text word (decode_word word))
says word small = by_operator (decode_word word) refl
  where
    by_platter : (o : Op) → IsEncodable o → (b : Bool) → (encode_op o == word) ≡ b → Says word (cond b (operator_text o) (hex_text word))
    by_platter o fits true e =
        let same : encode_op o ≡ word = grind (arith, e) in
        record { statement = stated o; line_is = operator_line o fits; words = λ meaning n. operator_words meaning n o fits ∙ ap (λ w. Ok (w ∷ [])) same }
    by_platter o fits false e = says_hex word small

    by_operator : (o : Option Op) → decode_word word ≡ o → Says word (word_text word o)
    by_operator None e = says_hex word small
    by_operator (Some o) e = by_platter o (decoded word o e) (encode_op o == word) refl

printable_if_read : (line : List ℕ) (statement : Statement (List ℕ)) → parsed_line line ≡ code statement → list_all is_printable line ≡ true
printable_if_read line statement e = by_test (list_all is_printable line) e
  where
    by_test : (b : Bool) → cond b (content_at (before 59 line) (behind_byte 58 (before 59 line))) None ≡ code statement → b ≡ true
    by_test true h = refl
    by_test false h = cc

printable_at : (line : List ℕ) (i : ℕ) → i < length line → list_all is_printable line ≡ true → is_printable (get_or line i 0) ≡ true
printable_at [] i inside all = absurd (omega (arith, inside))
printable_at (b ∷ bs) zero inside all = and_fst (is_printable b) (list_all is_printable bs) all
printable_at (b ∷ bs) (suc i) inside all = printable_at bs i (omega (arith, inside)) (and_snd (is_printable b) (list_all is_printable bs) all)

no_return : (b : ℕ) → is_printable b ≡ true → (b == 13) ≡ false
no_return b h = grind (arith, h)

no_feed : (b : ℕ) → is_printable b ≡ true → not (b == 10) ≡ true
no_feed b h = grind (arith, h)

no_feeds : (line : List ℕ) → list_all is_printable line ≡ true → list_all (λ b. not (b == 10)) line ≡ true
no_feeds [] all = refl
no_feeds (b ∷ bs) all =
    and_both (not (b == 10)) (list_all (λ b. not (b == 10)) bs) (no_feed b (and_fst (is_printable b) (list_all is_printable bs) all)) (no_feeds bs (and_snd (is_printable b) (list_all is_printable bs) all))

kept : (line : List ℕ) → list_all is_printable line ≡ true → strip_carriage_return line ≡ line
kept [] all = refl
kept (b ∷ bs) all =
    let line = b ∷ bs in
    let last : (get_or line (length line - 1) 0 == 13) ≡ false = no_return (get_or line (length line - 1) 0) (printable_at line (length line - 1) (omega arith) all) in
    rw last refl

line_first : (line rest : List ℕ) → list_all is_printable line ≡ true → lines (line ++ 10 ∷ rest) ≡ line ∷ lines rest
line_first line rest all =
    let feeds = no_feeds line all in
    lines_some (line ++ 10 ∷ rest) rest (after_mark 10 line rest feeds) ∙ rw (before_mark 10 line rest feeds, kept line all) refl

-- a listing's lines say the words
listed : (meaning : NameMeaning) (words : List ℕ) (number place : ℕ) → AllByRecursion (λ word. word < 2 ^ 32) words
    → lines_words meaning (standing number None place (said_by (listing words))) ≡ Ok words
listed meaning [] number place all = refl
listed meaning (word ∷ words) number place (small, all) =
    let line = word_text word (decode_word word) in
    let here = says word small in
    let printable = printable_if_read line here.statement here.line_is in
    let seam : listing (word ∷ words) ≡ line ++ 10 ∷ listing words = simp append_assoc in
    let first : said_by (listing (word ∷ words)) ≡ code here.statement ∷ said_by (listing words) =
    ap said_by seam ∙ (ap (map parsed_line) (line_first line (listing words) printable) ∙ rw here.line_is refl) in
    let rest = listed meaning words (number + 1) (place + size_of (code here.statement)) all in
    rw (first, here.words meaning number, rest) refl

pub listing_assembled : (words : List ℕ) → AllByRecursion (λ word. word < 2 ^ 32) words → length words ≤ most_scroll_words → assembled (listing words) ≡ Ok words
listing_assembled words all short =
    rw (listed (lookup (definitions (all_standing (said_by (listing words))))) words 1 0 all) (short_enough words short)
