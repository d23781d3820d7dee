-- The words of an assembly text, or its first fault.
use Rattle.std.specs.Prelude.{ℕ, ◌-◌, ◌^◌, nat_le, nat_lt, Bool, false, if◌then◌else◌, List, []}
use Rattle.std.specs.Prelude.{◌∷◌, ◌++◌, length, map, Option, Some, None, Result, Ok, Err}
use Rattle.std.specs.Option.{option_map, option_or}
use Rattle.std.specs.Str.Lines.{lines}
use Rattle.std.specs.Str.Parse.{digits_value}
use Rattle.um_word.specs.declared.op.Op.TheVariants as op
use Rattle.um_word.specs.Operators.{encode_op}
use Rattle.um_word.specs.Scroll.{most_scroll_words}
use Rattle.um_asm.specs.declared.fault.AsmFault.{AsmFault}
use Rattle.um_asm.specs.declared.fault.AsmFault.TheVariants.{BadLine, SameLabel, NoLabel}
use Rattle.um_asm.specs.declared.fault.AsmFault.TheVariants.{ValueTooLarge, TooLong}
use Rattle.um_asm.specs.declared.line.Value.{Value}
use Rattle.um_asm.specs.declared.line.Value.TheVariants.{Decimal, Hexadecimal, Label, Length}
use Rattle.um_asm.specs.declared.line.Statement.{Statement}
use Rattle.um_asm.specs.declared.line.Statement.TheVariants.{Operator, SetTo, Word, Hex}
use Rattle.um_asm.specs.declared.line.Line.{Line}
use Rattle.um_asm.specs.declared.line.Line.TheVariants.{Code, Array}
use Rattle.um_asm.specs.declared.position.Block.{Block}
use Rattle.um_asm.specs.declared.labels.Definition.{Definition}
use Rattle.um_asm.specs.Lines.{parsed_line, ◌>>=◌ as ◌>>=?◌}
use Rattle.um_asm.specs.Scopes.{Said, PlacedLine, all_standing, definitions, lookup, scope_of}

-- the ? of the logic: the second step, if the first had no fault
infixl 10 ◌>>=◌
abbrev pub ◌>>=◌ : {A B : Type 0} → Result A AsmFault → (A → Result B AsmFault) → Result B AsmFault
Ok x >>= f = f x
Err fault >>= f = Err fault

-- what a name stands for in a scope
abbrev pub NameMeaning : Type 0
NameMeaning = (scope : Option ℕ) → (name : List ℕ) → Option Definition

-- a label is looked up in the block first, and then outside
abbrev pub label_in : NameMeaning → Option (Block (List ℕ)) → List ℕ → Option Definition
label_in meaning block name = option_or (meaning (scope_of block) name) (meaning None name)

-- the number that a value stands for, if its label or block is defined; a block is looked up outside
abbrev pub value_number : NameMeaning → Option (Block (List ℕ)) → Value (List ℕ) → Option ℕ
value_number meaning block (Decimal digits) = Some (digits_value 10 digits)
value_number meaning block (Hexadecimal digits) = Some (digits_value 16 digits)
value_number meaning block (Label name) = option_map (λ d. d.place) (label_in meaning block name)
value_number meaning block (Length name) = meaning None name >>=? (λ d. d.length)

-- a number that is defined and not over the greatest, or the fault of this line
abbrev pub up_to : (greatest line : ℕ) → Option ℕ → Result ℕ AsmFault
up_to greatest line None = Err (NoLabel line)
up_to greatest line (Some number) = if nat_le number greatest then Ok number else Err (ValueTooLarge line)

-- the words that a run of digits writes, eight digits each
abbrev pub hex_words : List ℕ → List ℕ
hex_words (a ∷ b ∷ c ∷ d ∷ e ∷ f ∷ g ∷ h ∷ digits) = digits_value 16 (a ∷ b ∷ c ∷ d ∷ e ∷ f ∷ g ∷ h
    ∷ []) ∷ hex_words digits
hex_words _ = []

-- the words of a statement on a line, or its fault
abbrev pub statement_words : NameMeaning → (line : ℕ) → Option (Block (List ℕ)) →
    Statement (List ℕ) → Result (List ℕ) AsmFault
statement_words meaning line block (Operator operator) = Ok (encode_op operator ∷ [])
statement_words meaning line block (SetTo a value) =
    up_to (2 ^ 25 - 1) line (value_number meaning block value) >>= λ number. Ok (encode_op (op.Set a number) ∷ [])
statement_words meaning line block (Word value) =
    up_to (2 ^ 32 - 1) line (value_number meaning block value) >>= λ number. Ok (number ∷ [])
statement_words meaning line block (Hex digits) = Ok (hex_words digits)

-- whether the first definition stands on an earlier line
abbrev pub is_earlier : ℕ → Option Definition → Bool
is_earlier line (Some d) = nat_lt d.line line
is_earlier line None = false

-- whether the line's label or block name was defined on an earlier line of its scope
abbrev pub is_defined_before : NameMeaning → (number : ℕ) → Option (Block (List ℕ)) → Line (List ℕ) → Bool
is_defined_before meaning number block (Code (Some label) statement) = is_earlier number
    (meaning (scope_of block) label)
is_defined_before meaning number block (Array name) = is_earlier number (meaning None name)
is_defined_before meaning number block _ = false

-- the words that a line says
abbrev pub said_words : NameMeaning → (number : ℕ) → Option (Block (List ℕ)) → Line (List ℕ) → Result (List ℕ) AsmFault
said_words meaning number block (Code label (Some statement)) = statement_words meaning number block statement
said_words meaning number block _ = Ok []

-- the words of a line, or its first fault
abbrev pub line_words : NameMeaning → (number : ℕ) → Option (Block (List ℕ)) → Said → Result (List ℕ) AsmFault
line_words meaning number block None = Err (BadLine number)
line_words meaning number block (Some line) =
    if is_defined_before meaning number block line then Err (SameLabel number)
    else said_words meaning number block line

-- the words of the lines, or the fault of the first line that has one
abbrev pub lines_words : NameMeaning → List PlacedLine → Result (List ℕ) AsmFault
lines_words meaning [] = Ok []
lines_words meaning (s ∷ lines) =
    line_words meaning s.number s.block s.line >>= λ words. lines_words meaning lines >>= λ more. Ok (words ++ more)

-- the words, if they aren't too many
abbrev pub not_too_long : List ℕ → Result (List ℕ) AsmFault
not_too_long words = if nat_le (length words) most_scroll_words then Ok words else Err TooLong

-- what the lines of a text say
abbrev pub said_by : List ℕ → List Said
said_by text = map parsed_line (lines text)

-- the words of a text, or its fault
abbrev pub assembled : List ℕ → Result (List ℕ) AsmFault
assembled text =
    let standing_lines = all_standing (said_by text) in
    lines_words (lookup (definitions standing_lines)) standing_lines >>= not_too_long
