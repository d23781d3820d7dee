-- What a line says.
use Rattle.std.specs.Prelude.{ℕ, ◌/◌, ◌%◌, ◌==◌, nat_le, Bool, ◌&&◌, if◌then◌else◌, List, [], ◌∷◌}
use Rattle.std.specs.Prelude.{length, map, codes, Option, Some, None}
use Rattle.std.specs.List.{list_all, slice_split}
use Rattle.std.specs.Option.{option_map}
use Rattle.std.specs.Str.{bytes_eq}
use Rattle.um_word.specs.declared.op.Op.{Op}
use Rattle.um_word.specs.declared.op.Op.TheVariants as op
use Rattle.um_asm.specs.declared.line.Statement.{Statement}
use Rattle.um_asm.specs.declared.line.Statement.TheVariants.{Operator, SetTo, Word, Hex}
use Rattle.um_asm.specs.declared.line.Line.{Line}
use Rattle.um_asm.specs.declared.line.Line.TheVariants.{Code, Array, End}
use Rattle.um_asm.specs.declared.mnemonic.Mnemonic.{Mnemonic}
use Rattle.um_asm.specs.declared.mnemonic.Mnemonic.TheVariants.{Cmov, Index, Amend, Add, Mul, Div}
use Rattle.um_asm.specs.declared.mnemonic.Mnemonic.TheVariants.{Nand, Halt, Alloc, Abandon, Out, In}
use Rattle.um_asm.specs.declared.mnemonic.Mnemonic.TheVariants.{Load, Set}
use Rattle.um_asm.specs.Tokens.{before, behind_byte, trimmed_start, trimmed, is_printable, is_label}
use Rattle.um_asm.specs.Tokens.{is_numeral, register_at, value_written}
use Rattle.um_asm.specs.Mnemonics.{mnemonic_at}

-- the ? of the logic: the second step, if the first gave something
infixl 10 ◌>>=◌
abbrev pub ◌>>=◌ : {A B : Type 0} → Option A → (A → Option B) → Option B
None >>= f = None
Some x >>= f = f x

-- the operands behind a mnemonic or a directive: the parts between commas, without the spaces around them
abbrev pub operands_in : Option (List ℕ) → List (List ℕ)
operands_in None = []
operands_in (Some text) = map trimmed (slice_split (λ b. b == 44) text)

-- no operand, one, two, three, and no more
abbrev pub no_operand : List (List ℕ) → Option (Unit {0})
no_operand [] = Some tt
no_operand _ = None

abbrev pub one_operand : List (List ℕ) → Option (List ℕ)
one_operand (a ∷ []) = Some a
one_operand _ = None

abbrev pub two_operands : List (List ℕ) → Option (List ℕ × List ℕ)
two_operands (a ∷ b ∷ []) = Some (a, b)
two_operands _ = None

abbrev pub three_operands : List (List ℕ) → Option (List ℕ × List ℕ × List ℕ)
three_operands (a ∷ b ∷ c ∷ []) = Some (a, b, c)
three_operands _ = None

-- one register, two and three
abbrev pub one_register : List (List ℕ) → Option ℕ
one_register operands = one_operand operands >>= register_at

abbrev pub two_registers : List (List ℕ) → Option (ℕ × ℕ)
two_registers operands = do
  tokens ← two_operands operands
  b ← register_at tokens.0
  c ← register_at tokens.1
  Some (b, c)

abbrev pub three_registers : List (List ℕ) → Option (ℕ × ℕ × ℕ)
three_registers operands = do
  tokens ← three_operands operands
  a ← register_at tokens.0
  b ← register_at tokens.1
  c ← register_at tokens.2
  Some (a, b, c)

-- operators without a register, and with one, two and three
abbrev pub no_register : Op → List (List ℕ) → Option (Statement (List ℕ))
no_register operator operands = no_operand operands >>= λ _. Some (Operator operator)

abbrev pub unary : (ℕ → Op) → List (List ℕ) → Option (Statement (List ℕ))
unary operator operands = one_register operands >>= λ c. Some (Operator (operator c))

abbrev pub binary : (ℕ → ℕ → Op) → List (List ℕ) → Option (Statement (List ℕ))
binary operator operands = two_registers operands >>= λ r. Some (Operator (operator r.0 r.1))

abbrev pub ternary : (ℕ → ℕ → ℕ → Op) → List (List ℕ) → Option (Statement (List ℕ))
ternary operator operands = three_registers operands >>= λ r. Some (Operator (operator r.0 r.1 r.2))

-- a register and a value
abbrev pub setting : List (List ℕ) → Option (Statement (List ℕ))
setting operands = do
  tokens ← two_operands operands
  a ← register_at tokens.0
  value ← value_written tokens.1
  Some (SetTo a value)

-- the statement of an operator
abbrev pub operator_at : List (List ℕ) → Mnemonic → Option (Statement (List ℕ))
operator_at operands Cmov = ternary op.Move operands
operator_at operands Index = ternary op.Index operands
operator_at operands Amend = ternary op.Amend operands
operator_at operands Add = ternary op.Add operands
operator_at operands Mul = ternary op.Mul operands
operator_at operands Div = ternary op.Div operands
operator_at operands Nand = ternary op.Nand operands
operator_at operands Halt = no_register op.Halt operands
operator_at operands Alloc = binary op.Alloc operands
operator_at operands Abandon = unary op.Abandon operands
operator_at operands Out = unary op.Out operands
operator_at operands In = unary op.Input operands
operator_at operands Load = binary op.Load operands
operator_at operands Set = setting operands

-- `.word VALUE`
abbrev pub word_at : List (List ℕ) → Option (Statement (List ℕ))
word_at operands = do
  token ← one_operand operands
  value ← value_written token
  Some (Word value)

-- 1 to 8 words of eight hexadecimal digits each, as one run of digits
abbrev pub are_hex_words : List ℕ → Bool
are_hex_words digits = is_numeral 16 digits && (length digits % 8 == 0) && nat_le (length digits) 64

-- `.hex DIGITS`
abbrev pub hex_at : List (List ℕ) → Option (Statement (List ℕ))
hex_at operands = do
  digits ← one_operand operands
  if are_hex_words digits then Some (Hex digits) else None

-- the statement with this mnemonic or directive and these operands
abbrev pub statement_of : List ℕ → List (List ℕ) → Option (Statement (List ℕ))
statement_of word operands =
    if bytes_eq word (codes ".word") then word_at operands
    else if bytes_eq word (codes ".hex") then hex_at operands
    else (mnemonic_at word >>= operator_at operands)

-- the statement that a text without spaces around it writes
abbrev pub statement_at : List ℕ → Option (Statement (List ℕ))
statement_at text = statement_of (before 32 text) (operands_in (behind_byte 32 text))

-- what stands behind a label: nothing, or a statement
abbrev pub labelled_at : Option (List ℕ) → List ℕ → Option (Line (List ℕ))
labelled_at label text =
    if length text == 0 then Some (Code label None)
    else option_map (λ s. Code label (Some s)) (statement_at text)

-- `.array NAME`
abbrev pub array_line : List (List ℕ) → Option (Line (List ℕ))
array_line operands = do
  name ← one_operand operands
  if is_label name then Some (Array name) else None

-- `.end`
abbrev pub end_at : List (List ℕ) → Option (Line (List ℕ))
end_at operands = do
  _ ← no_operand operands
  Some End

-- a line without a label: nothing, the beginning or the end of a block, or a statement
abbrev pub unlabelled_at : List ℕ → Option (Line (List ℕ))
unlabelled_at text =
    if bytes_eq (before 32 text) (codes ".array") then array_line (operands_in (behind_byte 32 text))
    else if bytes_eq (before 32 text) (codes ".end") then end_at (operands_in (behind_byte 32 text))
    else labelled_at None text

-- a line whose comment is gone; only a label has a colon
abbrev pub content_at : List ℕ → Option (List ℕ) → Option (Line (List ℕ))
content_at text None = unlabelled_at (trimmed text)
content_at text (Some rest) = if is_label (trimmed_start (before 58 text))
    then labelled_at (Some (trimmed_start (before 58 text))) (trimmed rest) else None

-- what a line says, if it is of the forms of a line; a comment goes from `;` to the line's end
abbrev pub parsed_line : List ℕ → Option (Line (List ℕ))
parsed_line line = if list_all is_printable line
    then content_at (before 59 line) (behind_byte 58 (before 59 line)) else None

-- the words of `.hex`
abbrev pub hex_length : List ℕ → ℕ
hex_length digits = length digits / 8

-- how many words a line gives
abbrev pub size_of : Option (Line (List ℕ)) → ℕ
size_of (Some (Code label (Some (Hex digits)))) = hex_length digits
size_of (Some (Code label (Some statement))) = 1
size_of _ = 0
