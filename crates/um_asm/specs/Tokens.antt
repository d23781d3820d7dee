-- The tokens of a line: how they are cut, and which are labels, registers and values.
use Rattle.std.specs.Prelude.{ℕ, ◌-◌, ◌+◌, ◌==◌, nat_le, nat_lt, Bool, false, ◌&&◌, ◌||◌}
use Rattle.std.specs.Prelude.{if◌then◌else◌, List, [], ◌∷◌, length, drop, reverse, codes, Option}
use Rattle.std.specs.Prelude.{Some, None}
use Rattle.std.specs.List.{list_all, before_first, position}
use Rattle.std.specs.Option.{option_map}
use Rattle.std.specs.Char.{is_digit, is_ascii_alphabetic, is_ascii_alphanumeric}
use Rattle.std.specs.Str.{bytes_eq}
use Rattle.um_asm.specs.declared.line.Value.{Value}
use Rattle.um_asm.specs.declared.line.Value.TheVariants.{Decimal, Hexadecimal, Label, Length}

-- what stands before the first such byte, or all where there is none
abbrev pub before : ℕ → List ℕ → List ℕ
before mark text = before_first (λ b. b == mark) text

-- what stands behind the first such byte
abbrev pub behind_byte : ℕ → List ℕ → Option (List ℕ)
behind_byte mark text = option_map (λ at. drop (at + 1) text) (position (λ b. b == mark) text)

abbrev pub is_space : ℕ → Bool
is_space b = b == 32

-- without the spaces in front
abbrev pub trimmed_start : List ℕ → List ℕ
trimmed_start [] = []
trimmed_start (b ∷ bs) = if is_space b then trimmed_start bs else b ∷ bs

-- without the spaces at the end
abbrev pub trimmed_end : List ℕ → List ℕ
trimmed_end text = reverse (trimmed_start (reverse text))

-- without the spaces on both sides
abbrev pub trimmed : List ℕ → List ℕ
trimmed text = trimmed_end (trimmed_start text)

-- the bytes of which a line is made
abbrev pub is_printable : ℕ → Bool
is_printable b = nat_le 32 b && nat_le b 126

-- a letter, a digit or `_`
abbrev pub is_label_byte : ℕ → Bool
is_label_byte b = is_ascii_alphanumeric b || (b == 95)

-- 1 to 32 letters, digits and `_`, first a letter
abbrev pub is_label : List ℕ → Bool
is_label [] = false
is_label (first ∷ rest) = is_ascii_alphabetic first && (nat_lt (length rest) 32 && list_all is_label_byte rest)

-- one digit of this radix or more, in either case
abbrev pub is_numeral : ℕ → List ℕ → Bool
is_numeral radix token = nat_lt 0 (length token) && list_all (λ b. is_digit b radix) token

-- the register that a token names
abbrev pub register_at : List ℕ → Option ℕ
register_at (letter ∷ digit ∷ []) = if (letter == 114) && (nat_le 48 digit && nat_le digit 55)
    then Some (digit - 48) else None
register_at _ = None

-- what stands behind `0x`, if the token begins so
abbrev pub behind_prefix : List ℕ → List ℕ
behind_prefix (zero_digit ∷ x ∷ digits) = if (zero_digit == 48) && (x == 120) then digits else []
behind_prefix _ = []

-- whether what stands behind a name makes it `NAME.len`
abbrev pub is_len : Option (List ℕ) → Bool
is_len (Some suffix) = bytes_eq suffix (codes "len")
is_len None = false

-- the value that a token writes: a decimal number, `0x` and hexadecimal digits, a label, or `NAME.len`
abbrev pub value_written : List ℕ → Option (Value (List ℕ))
value_written token =
    if is_numeral 10 token then Some (Decimal token)
    else if is_numeral 16 (behind_prefix token) then Some (Hexadecimal (behind_prefix token))
    else if is_label token then Some (Label token)
    else if is_label (before 46 token) && is_len (behind_byte 46 token) then Some (Length (before 46 token))
    else None
