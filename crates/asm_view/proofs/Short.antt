-- No line of a page has more than 100 columns.
use Rattle.std.proofs.Common.{◌≡◌, ◌-◌, ◌+◌, ◌^◌, ◌<◌, ◌≤◌, ◌==◌, ℕ, true, false, Bool, List, [], ◌++◌, map, take, drop, length, refl, arith, length-append, length-drop}
use Rattle.std.specs.Prelude.{Option, Some, None, if◌then◌else◌, codes, decimal, slice_index}
use Rattle.std.proofs.lemmas.Fmt.{length-decimal-le}
use Rattle.std.proofs.lemmas.List.{length-map, length-take}
use Rattle.std.specs.Int.{w32, to_be_bytes}
use Rattle.hex.specs.Hex.{lower_digits}
use Rattle.hex.proofs.HexLemmas.{length-encode_with}
use Rattle.text_picture.specs.Rows.{shown}
use Rattle.um_asm.specs.declared.fault.AsmFault.{AsmFault}
use Rattle.um_asm.specs.declared.fault.AsmFault.TheVariants.{BadLine, SameLabel, NoLabel, ValueTooLarge, TooLong, Memory}
use Rattle.um_asm.specs.declared.text_line.Head.{Head}
use Rattle.um_asm.specs.declared.text_line.Head.TheVariants as head
use Rattle.um_asm.specs.declared.text_line.TextLine.{TextLine}
use Rattle.asm_view.specs.declared.hints.Form.{Form}
use Rattle.asm_view.specs.declared.hints.Form.TheVariants.{Cmov, Index, Amend, Add, Mul, Div, Nand, Halt}
use Rattle.asm_view.specs.declared.hints.Form.TheVariants.{Alloc, Abandon, Out, In, Load, Set, Word, Hex}
use Rattle.asm_view.specs.declared.hints.Form.TheVariants.{Array, End}
use Rattle.asm_view.specs.Hints.{form_at, head_hint, hint_of, sentence_of, word_hint}
use Rattle.asm_view.specs.Rows.{column, hex_digits, more_row, plain_row, row, source_part, word_columns, word_part}

column_nine : (label : List ℕ) → length label ≤ 9 → length (column label) ≤ 9
column_nine label few =
    let nine : length (codes "         ") ≡ 9 = refl in
    let cut = length-drop (length label) (codes "         ") in
    let all = length-append (drop (length label) (codes "         ")) label in
    omega (arith, few, nine, cut, all)

number_nine : (n : ℕ) → n < 10 ^ 9 → length (column (decimal n)) ≤ 9
number_nine n lt = column_nine (decimal n) (length-decimal-le 9 n (omega arith) lt (omega (arith, lt)))

hex_eight : (word : ℕ) → length (hex_digits word) ≡ 8
hex_eight word =
    let twice = length-encode_with lower_digits (to_be_bytes w32 word) in
    let four : length (to_be_bytes w32 word) ≡ 4 = refl in
    omega (arith, twice, four)

hex_nine : (word : ℕ) → length (column (hex_digits word)) ≤ 9
hex_nine word = let eight = hex_eight word in column_nine (hex_digits word) (omega (arith, eight))

source_short : (count : ℕ) (bytes : List ℕ) → length (source_part count bytes) ≤ count + 3
source_short count bytes =
    let mapped = length-map (take count bytes) shown in
    let taken = length-take count bytes in
    let all = length-append (codes " | ") (map shown (take count bytes)) in
    let three : length (codes " | ") ≡ 3 = refl in
    omega (arith, mapped, taken, all, three)

three_short : (a b c : List ℕ) → length a ≤ 9 → length b ≤ 9 → length c ≤ 9 → length (a ++ b ++ c) ≤ 27
three_short a b c p q r =
    let one = length-append a b in
    let all = length-append (a ++ b) c in
    omega (arith, p, q, r, one, all)

blank : length (column []) ≤ 9
blank = column_nine [] (omega arith)

columns_short : (words : List ℕ) (base at : ℕ) → at < 10 ^ 9 → length (word_columns words base at) ≤ 27
columns_short words base at place =
    three_short _ _ _ (number_nine (at - base) (omega (arith, place))) (number_nine at place) (hex_nine (slice_index words at))

first_short : (words : List ℕ) (l : TextLine (List ℕ)) → l.place < 10 ^ 9 → (b : Bool) →
    length (if b then column [] ++ column [] ++ column [] else word_columns words l.base l.place) ≤ 27
first_short words l place true = three_short (column []) (column []) (column []) blank blank blank
first_short words l place false = columns_short words l.base l.place place

pub row_short : (words : List ℕ) (l : TextLine (List ℕ)) → l.number < 10 ^ 9 → l.place < 10 ^ 9 → length (row words l) ≤ 100
row_short words l number place =
    let first = number_nine l.number number in
    let middle = first_short words l place (l.count == 0) in
    let last = source_short 61 l.bytes in
    let one = length-append (column (decimal l.number)) (word_part words l) in
    let all = length-append (column (decimal l.number) ++ word_part words l) (source_part 61 l.bytes) in
    omega (arith, first, middle, last, one, all)

pub more_short : (words : List ℕ) (base at : ℕ) → at < 10 ^ 9 → length (more_row words base at) ≤ 100
more_short words base at place =
    let columns = columns_short words base at place in
    let all = length-append (column []) (word_columns words base at) in
    omega (arith, columns, blank, all)

pub plain_short : (l : TextLine (List ℕ)) → l.number < 10 ^ 9 → length (plain_row l) ≤ 100
plain_short l number =
    let first = number_nine l.number number in
    let last = source_short 88 l.bytes in
    let all = length-append (column (decimal l.number)) (source_part 88 l.bytes) in
    omega (arith, first, last, all)

sentence_short : (f : Form) → length (sentence_of f) ≤ 100
sentence_short Cmov = omega arith
sentence_short Index = omega arith
sentence_short Amend = omega arith
sentence_short Add = omega arith
sentence_short Mul = omega arith
sentence_short Div = omega arith
sentence_short Nand = omega arith
sentence_short Halt = omega arith
sentence_short Alloc = omega arith
sentence_short Abandon = omega arith
sentence_short Out = omega arith
sentence_short In = omega arith
sentence_short Load = omega arith
sentence_short Set = omega arith
sentence_short Word = omega arith
sentence_short Hex = omega arith
sentence_short Array = omega arith
sentence_short End = omega arith

word_short : (f : Option Form) → length (word_hint f) ≤ 100
word_short (Some f) = sentence_short f
word_short None = omega arith

head_short : (h : Head (List ℕ)) → length (head_hint h) ≤ 100
head_short head.Unprintable = omega arith
head_short head.BadLabel = omega arith
head_short (head.Word word) = word_short (form_at word)

pub hint_short : (f : AsmFault) (h : Head (List ℕ)) → length (hint_of f h) ≤ 100
hint_short (BadLine n) h = head_short h
hint_short (SameLabel n) h = omega arith
hint_short (NoLabel n) h = omega arith
hint_short (ValueTooLarge n) h = omega arith
hint_short TooLong h = omega arith
hint_short Memory h = omega arith
