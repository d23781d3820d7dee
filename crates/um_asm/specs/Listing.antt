-- The text that shows words.
use Rattle.std.specs.Prelude.{ℕ, ◌+◌, ◌==◌, if◌then◌else◌, List, [], ◌∷◌, ◌++◌, codes, decimal}
use Rattle.std.specs.Prelude.{Option, Some, None}
use Rattle.std.specs.Int.{w32, to_be_bytes}
use Rattle.std.specs.List.{flat_map}
use Rattle.hex.specs.Hex.{encode_lower}
use Rattle.um_word.specs.declared.op.Op.{Op}
use Rattle.um_word.specs.declared.op.Op.TheVariants as op
use Rattle.um_word.specs.Operators.{decode_word, encode_op}
use Rattle.um_asm.specs.declared.mnemonic.Mnemonic.{Mnemonic}
use Rattle.um_asm.specs.declared.mnemonic.Mnemonic.TheVariants.{Cmov, Index, Amend, Add, Mul, Div}
use Rattle.um_asm.specs.declared.mnemonic.Mnemonic.TheVariants.{Nand, Halt, Alloc, Abandon, Out, In}
use Rattle.um_asm.specs.declared.mnemonic.Mnemonic.TheVariants.{Load, Set}
use Rattle.um_asm.specs.Mnemonics.{mnemonic_text}

-- `r0` to `r7`
abbrev pub register_text : ℕ → List ℕ
register_text a = 114 ∷ (48 + a) ∷ []

-- operands behind the first: a comma and a space before each
abbrev pub more_operands : List (List ℕ) → List ℕ
more_operands [] = []
more_operands (operand ∷ operands) = codes ", " ++ operand ++ more_operands operands

-- a mnemonic and its operands
abbrev pub statement_text : Mnemonic → List (List ℕ) → List ℕ
statement_text mnemonic [] = mnemonic_text mnemonic
statement_text mnemonic (operand ∷ operands) = mnemonic_text mnemonic ++ codes " " ++ operand ++ more_operands operands

-- registers as operands
abbrev pub one : ℕ → List (List ℕ)
one c = register_text c ∷ []

abbrev pub two : ℕ → ℕ → List (List ℕ)
two b c = register_text b ∷ register_text c ∷ []

abbrev pub three : ℕ → ℕ → ℕ → List (List ℕ)
three a b c = register_text a ∷ register_text b ∷ register_text c ∷ []

-- an operator as a statement
abbrev pub operator_text : Op → List ℕ
operator_text (op.Move a b c) = statement_text Cmov (three a b c)
operator_text (op.Index a b c) = statement_text Index (three a b c)
operator_text (op.Amend a b c) = statement_text Amend (three a b c)
operator_text (op.Add a b c) = statement_text Add (three a b c)
operator_text (op.Mul a b c) = statement_text Mul (three a b c)
operator_text (op.Div a b c) = statement_text Div (three a b c)
operator_text (op.Nand a b c) = statement_text Nand (three a b c)
operator_text op.Halt = statement_text Halt []
operator_text (op.Alloc b c) = statement_text Alloc (two b c)
operator_text (op.Abandon c) = statement_text Abandon (one c)
operator_text (op.Out c) = statement_text Out (one c)
operator_text (op.Input c) = statement_text In (one c)
operator_text (op.Load b c) = statement_text Load (two b c)
operator_text (op.Set a value) = statement_text Set (register_text a ∷ decimal value ∷ [])

-- any word: eight digits, in lower case
abbrev pub hex_text : ℕ → List ℕ
hex_text word = codes ".hex " ++ encode_lower (to_be_bytes w32 word)

-- a word that is the platter of its operator is shown as the operator, and every other in hex
abbrev pub word_text : ℕ → Option Op → List ℕ
word_text word None = hex_text word
word_text word (Some operator) = if encode_op operator == word then operator_text operator else hex_text word

-- one line a word
abbrev pub listing : List ℕ → List ℕ
listing words = flat_map (λ word. word_text word (decode_word word) ++ codes "\n") words
