-- A line gives at most as many words as it has bytes.
use Rattle.std.proofs.Common.{◌≡◌, ℕ, suc, ◌+◌, ◌/◌, ◌<◌, ◌≤◌, ◌==◌, Bool, true, false, cond, List, [], ◌∷◌, length, drop, reverse, codes, Option, Some, None, refl, ap, arith, length-drop}
use Rattle.std.specs.List.{position, position_or_len, list_all}
use Rattle.std.specs.Option.{option_map}
use Rattle.std.specs.Str.{bytes_eq}
use Rattle.std.proofs.lemmas.List.{length-take, length-reverse}
use Rattle.um_asm.specs.declared.line.Statement.{Statement}
use Rattle.um_asm.specs.declared.line.Statement.TheVariants.{Operator, SetTo, Word, Hex}
use Rattle.um_asm.specs.declared.line.Line.TheVariants.{Code, Array, End}
use Rattle.um_asm.specs.declared.mnemonic.Mnemonic.{Mnemonic}
use Rattle.um_asm.specs.declared.mnemonic.Mnemonic.TheVariants.{Cmov, Index, Amend, Add, Mul, Div, Nand, Halt, Alloc, Abandon, Out, In, Load, Set}
use Rattle.um_asm.specs.Tokens.{before, behind_byte, is_space, trimmed_start, trimmed, is_printable, is_label, register_at, value_written}
use Rattle.um_asm.specs.Mnemonics.{mnemonic_at}
use Rattle.um_asm.specs.Lines.{operands_in, no_operand, one_operand, two_operands, one_register, two_registers, three_registers, are_hex_words, operator_at, word_at, hex_at, statement_at, labelled_at, array_line, end_at, unlabelled_at, content_at, parsed_line, size_of, ◌>>=◌}
use Rattle.um_asm.proofs.Cuts.{operands-cut}

trimmed_start-le : (text : List ℕ) → length (trimmed_start text) ≤ length text
trimmed_start-le [] = omega arith
trimmed_start-le (b ∷ bs) = by_space (trimmed_start-le bs) (is_space b)
  where
    by_space : length (trimmed_start bs) ≤ length bs → (s : Bool) → length (cond s (trimmed_start bs) (b ∷ bs)) ≤ suc (length bs)
    by_space less true = omega arith
    by_space less false = omega arith

trimmed-le : (text : List ℕ) → length (trimmed text) ≤ length text
trimmed-le text =
    let start = trimmed_start text in
    let back = trimmed_start (reverse start) in
    omega (arith, trimmed_start-le text, trimmed_start-le (reverse start), length-reverse start, length-reverse back)

before-le : (mark : ℕ) (text : List ℕ) → length (before mark text) ≤ length text
before-le mark text = omega (arith, length-take (position_or_len (λ b. b == mark) text) text)

after-le : (mark : ℕ) (text rest : List ℕ) → behind_byte mark text ≡ Some rest → length rest ≤ length text
after-le mark text rest e = by_place (position (λ b. b == mark) text) e
  where
    by_place : (place : Option ℕ) → option_map (λ at. drop (at + 1) text) place ≡ Some rest → length rest ≤ length text
    by_place None h = cc
    by_place (Some at) h =
        let same : drop (at + 1) text ≡ rest = cc in
        omega (arith, length-drop (at + 1) text, ap length same)

-- how many words a statement gives
abbrev words_of : Option (Statement (List ℕ)) → ℕ
words_of statement = size_of (option_map (λ s. Code None (Some s)) statement)

-- a step that gives at most one word
step : {A : Type 0} (o : Option A) (f : A → Option (Statement (List ℕ))) → ((a : A) → words_of (f a) ≤ 1) → words_of (o >>= f) ≤ 1
step None f h = omega arith
step (Some a) f h = h a

operator_small : (operands : List (List ℕ)) (m : Mnemonic) → words_of (operator_at operands m) ≤ 1
operator_small operands Cmov = step (three_registers operands) _ (λ r. omega arith)
operator_small operands Index = step (three_registers operands) _ (λ r. omega arith)
operator_small operands Amend = step (three_registers operands) _ (λ r. omega arith)
operator_small operands Add = step (three_registers operands) _ (λ r. omega arith)
operator_small operands Mul = step (three_registers operands) _ (λ r. omega arith)
operator_small operands Div = step (three_registers operands) _ (λ r. omega arith)
operator_small operands Nand = step (three_registers operands) _ (λ r. omega arith)
operator_small operands Halt = step (no_operand operands) _ (λ r. omega arith)
operator_small operands Alloc = step (two_registers operands) _ (λ r. omega arith)
operator_small operands Abandon = step (one_register operands) _ (λ r. omega arith)
operator_small operands Out = step (one_register operands) _ (λ r. omega arith)
operator_small operands In = step (one_register operands) _ (λ r. omega arith)
operator_small operands Load = step (two_registers operands) _ (λ r. omega arith)
operator_small operands Set =
    step (two_operands operands) _ (λ tokens. step (register_at tokens.0) _ (λ a. step (value_written tokens.1) _ (λ v. omega arith)))

word_small : (operands : List (List ℕ)) → words_of (word_at operands) ≤ 1
word_small operands = step (one_operand operands) _ (λ token. step (value_written token) _ (λ v. omega arith))

hex_small : (rest : Option (List ℕ)) (most : ℕ) → ((text : List ℕ) → rest ≡ Some text → length text ≤ most) → words_of (hex_at (operands_in rest)) ≤ most
hex_small None most less = omega arith
hex_small (Some text) most less = rw (operands-cut text) (by_rest (behind_byte 44 text))
  where
    token : List ℕ
    token = trimmed (before 44 text)

    small : length token / 8 ≤ most
    small = omega (arith, trimmed-le (before 44 text), before-le 44 text, less text refl)

    by_test : (b : Bool) → words_of (cond b (Some (Hex token)) None) ≤ most
    by_test true = small
    by_test false = omega arith

    by_rest : (behind : Option (List ℕ)) → words_of (hex_at (token ∷ operands_in behind)) ≤ most
    by_rest None = by_test (are_hex_words token)
    by_rest (Some more) = rw (operands-cut more) (omega arith)

statement_small : (text : List ℕ) → 0 < length text → words_of (statement_at text) ≤ length text
statement_small text some = by_word (bytes_eq word (codes ".word"))
  where
    word : List ℕ
    word = before 32 text

    rest : Option (List ℕ)
    rest = behind_byte 32 text

    named : words_of (mnemonic_at word >>= operator_at (operands_in rest)) ≤ length text
    named = omega (arith, step (mnemonic_at word) (operator_at (operands_in rest)) (λ m. operator_small (operands_in rest) m))

    by_hex : (b : Bool) → words_of (cond b (hex_at (operands_in rest)) (mnemonic_at word >>= operator_at (operands_in rest))) ≤ length text
    by_hex true = hex_small rest (length text) (λ r e. after-le 32 text r e)
    by_hex false = named

    by_word : (b : Bool) → words_of (cond b (word_at (operands_in rest)) (cond (bytes_eq word (codes ".hex")) (hex_at (operands_in rest)) (mnemonic_at word >>= operator_at (operands_in rest)))) ≤ length text
    by_word true = omega (arith, word_small (operands_in rest))
    by_word false = by_hex (bytes_eq word (codes ".hex"))

labelled_small : (label : Option (List ℕ)) (text : List ℕ) → size_of (labelled_at label text) ≤ length text
labelled_small label text = by_empty (length text == 0) refl
  where
    same : (statement : Option (Statement (List ℕ))) → size_of (option_map (λ s. Code label (Some s)) statement) ≡ words_of statement
    same None = refl
    same (Some (Operator o)) = refl
    same (Some (SetTo a v)) = refl
    same (Some (Word v)) = refl
    same (Some (Hex digits)) = refl

    by_empty : (b : Bool) → (length text == 0) ≡ b → size_of (cond b (Some (Code label None)) (option_map (λ s. Code label (Some s)) (statement_at text))) ≤ length text
    by_empty true e = omega arith
    by_empty false e =
        let some : 0 < length text = grind (arith, e) in
        rw (same (statement_at text)) (statement_small text some)

array_small : (operands : List (List ℕ)) → size_of (array_line operands) ≡ 0
array_small operands = by_name (one_operand operands)
  where
    by_label : (name : List ℕ) (b : Bool) → size_of (cond b (Some (Array name)) None) ≡ 0
    by_label name true = refl
    by_label name false = refl

    by_name : (o : Option (List ℕ)) → size_of (o >>= λ name. cond (is_label name) (Some (Array name)) None) ≡ 0
    by_name None = refl
    by_name (Some name) = by_label name (is_label name)

end_small : (operands : List (List ℕ)) → size_of (end_at operands) ≡ 0
end_small operands = by_none (no_operand operands)
  where
    by_none : (o : Option (Unit {0})) → size_of (o >>= λ _. Some End) ≡ 0
    by_none None = refl
    by_none (Some u) = refl

unlabelled_small : (text : List ℕ) → size_of (unlabelled_at text) ≤ length text
unlabelled_small text = by_array (bytes_eq (before 32 text) (codes ".array"))
  where
    operands : List (List ℕ)
    operands = operands_in (behind_byte 32 text)

    by_end : (b : Bool) → size_of (cond b (end_at operands) (labelled_at None text)) ≤ length text
    by_end true = omega (arith, end_small operands)
    by_end false = labelled_small None text

    by_array : (b : Bool) → size_of (cond b (array_line operands) (cond (bytes_eq (before 32 text) (codes ".end")) (end_at operands) (labelled_at None text))) ≤ length text
    by_array true = omega (arith, array_small operands)
    by_array false = by_end (bytes_eq (before 32 text) (codes ".end"))

content_small : (text : List ℕ) (rest : Option (List ℕ)) → behind_byte 58 text ≡ rest → size_of (content_at text rest) ≤ length text
content_small text None e = omega (arith, unlabelled_small (trimmed text), trimmed-le text)
content_small text (Some rest) e = by_label (is_label (trimmed_start (before 58 text)))
  where
    by_label : (b : Bool) → size_of (cond b (labelled_at (Some (trimmed_start (before 58 text))) (trimmed rest)) None) ≤ length text
    by_label true = omega (arith, labelled_small (Some (trimmed_start (before 58 text))) (trimmed rest), trimmed-le rest, after-le 58 text rest e)
    by_label false = omega arith

pub line_small : (line : List ℕ) → size_of (parsed_line line) ≤ length line
line_small line = by_printable (list_all is_printable line)
  where
    text : List ℕ
    text = before 59 line

    by_printable : (b : Bool) → size_of (cond b (content_at text (behind_byte 58 text)) None) ≤ length line
    by_printable true = omega (arith, content_small text (behind_byte 58 text) refl, before-le 59 line)
    by_printable false = omega arith
