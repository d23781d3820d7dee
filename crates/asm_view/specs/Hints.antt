-- What a faulty line would have been.
use Rattle.std.specs.Prelude.{ℕ, List, [], ◌∷◌, codes, Option, Some, None}
use Rattle.std.specs.List.{find}
use Rattle.std.specs.Str.{bytes_eq}
use Rattle.um_asm.specs.declared.fault.AsmFault.{AsmFault}
use Rattle.um_asm.specs.declared.fault.AsmFault.TheVariants.{BadLine, SameLabel, NoLabel}
use Rattle.um_asm.specs.declared.fault.AsmFault.TheVariants.{ValueTooLarge, TooLong, Memory}
use Rattle.um_asm.specs.declared.text_line.Head.{Head}
use Rattle.um_asm.specs.declared.text_line.Head.TheVariants as head
use Rattle.asm_view.specs.declared.hints.Form.{Form}
use Rattle.asm_view.specs.declared.hints.Form.TheVariants.{Cmov, Index, Amend, Add, Mul, Div, Nand, Halt}
use Rattle.asm_view.specs.declared.hints.Form.TheVariants.{Alloc, Abandon, Out, In, Load, Set, Word, Hex}
use Rattle.asm_view.specs.declared.hints.Form.TheVariants.{Array, End}

-- the word with which a line of a form begins
abbrev pub word_of : Form → List ℕ
word_of Cmov = codes "cmov"
word_of Index = codes "index"
word_of Amend = codes "amend"
word_of Add = codes "add"
word_of Mul = codes "mul"
word_of Div = codes "div"
word_of Nand = codes "nand"
word_of Halt = codes "halt"
word_of Alloc = codes "alloc"
word_of Abandon = codes "abandon"
word_of Out = codes "out"
word_of In = codes "in"
word_of Load = codes "load"
word_of Set = codes "set"
word_of Word = codes ".word"
word_of Hex = codes ".hex"
word_of Array = codes ".array"
word_of End = codes ".end"

-- what such a line has
abbrev pub sentence_of : Form → List ℕ
sentence_of Cmov = codes "`cmov` takes three registers, as in `cmov r0, r1, r2`."
sentence_of Index = codes "`index` takes three registers, as in `index r0, r1, r2`."
sentence_of Amend = codes "`amend` takes three registers, as in `amend r0, r1, r2`."
sentence_of Add = codes "`add` takes three registers, as in `add r0, r1, r2`."
sentence_of Mul = codes "`mul` takes three registers, as in `mul r0, r1, r2`."
sentence_of Div = codes "`div` takes three registers, as in `div r0, r1, r2`."
sentence_of Nand = codes "`nand` takes three registers, as in `nand r0, r1, r2`."
sentence_of Halt = codes "`halt` takes nothing, as in `halt`."
sentence_of Alloc = codes "`alloc` takes two registers, identifier and size, as in `alloc r0, r1`."
sentence_of Abandon = codes "`abandon` takes one register, as in `abandon r0`."
sentence_of Out = codes "`out` takes one register, as in `out r0`."
sentence_of In = codes "`in` takes one register, as in `in r0`."
sentence_of Load = codes "`load` takes two registers, array and offset, as in `load r0, r1`."
sentence_of Set = codes "`set` takes a register and a number or a name, as in `set r0, 65`."
sentence_of Word = codes "`.word` takes a number or a name, as in `.word 0x1f`."
sentence_of Hex = codes "`.hex` takes eight digits a word, with nothing between, as in `.hex 00000041`."
sentence_of Array =
    codes "`.array` takes a name, stands in no block and has no label; its block needs an `.end`."
sentence_of End = codes "`.end` takes nothing, ends a block and has no label."

-- all forms
abbrev pub forms : List Form
forms =
    Cmov ∷ Index ∷ Amend ∷ Add ∷ Mul ∷ Div ∷ Nand ∷ Halt ∷ Alloc ∷ Abandon ∷ Out ∷ In ∷ Load
    ∷ Set ∷ Word ∷ Hex ∷ Array ∷ End ∷ []

-- the form that a word begins
abbrev pub form_at : List ℕ → Option Form
form_at word = find (λ f. bytes_eq (word_of f) word) forms

-- the sentence for a line that begins with a word
abbrev pub word_hint : Option Form → List ℕ
word_hint (Some f) = sentence_of f
word_hint None = codes "No statement begins with this word; all are in lower case, and comments begin with `;`."

-- the sentence for a line that is of no form, by how it begins
abbrev pub head_hint : Head (List ℕ) → List ℕ
head_hint head.Unprintable = codes "A byte of this line isn't printable ASCII: mostly a tab, or an accent in a comment."
head_hint head.BadLabel = codes "Before the `:` stands no label: one token, a letter first, as in `again: halt`."
head_hint (head.Word word) = word_hint (form_at word)

-- the sentence for a fault, on a line that begins so
abbrev pub hint_of : AsmFault → Head (List ℕ) → List ℕ
hint_of (BadLine n) h = head_hint h
hint_of (SameLabel n) h = codes "An earlier line of the same scope defines this name; the first of them counts."
hint_of (NoLabel n) h = codes "A name is used that is defined neither in this block nor outside."
hint_of (ValueTooLarge n) h = codes "A value is at most 33554431 in `set`, and 4294967295 in `.word`."
hint_of TooLong h = codes "A text has at most 16,777,216 words."
hint_of Memory h = []
