-- One line of a walk over the lines of a text.
use Rattle.std.proofs.Common.{◌≡◌, ℕ, ◌+◌, ◌≤◌, length, map, List, ◌∷◌, Option, Some, None, Result, Ok, Err, ◌++◌, refl, sym, ap, ◌∙◌, append_assoc, arith, nat_le, ◌<◌, true, false}
use mathlib.Core.Path.{fun_ext}
use Rattle.std.specs.Option.{option_or}
use Rattle.std.specs.Str.Lines.{lines}
use Rattle.um_asm.specs.declared.position.Block.{Block}
use Rattle.um_asm.specs.declared.labels.Definition.{Definition}
use Rattle.um_asm.specs.Lines.{parsed_line, size_of}
use Rattle.um_asm.specs.Scopes.{Said, standing, all_standing, definitions, in_block, block_after, lookup}
use Rattle.um_asm.specs.declared.fault.AsmFault.{AsmFault}
use Rattle.um_asm.specs.declared.fault.AsmFault.TheVariants.{TooLong}
use Rattle.um_word.specs.Scroll.{most_scroll_words}
use Rattle.um_asm.specs.Assembly.{NameMeaning, assembled, not_too_long, said_by, line_words, lines_words, ◌>>=◌}
use Rattle.um_asm.specs.inner.Parts.{IsBehind, unended_from, said_in}
use Rattle.um_asm.specs.inner.Definitions.{Definitions, meaning_in, known_by, Adds}
use Rattle.um_asm.proofs.Scoping.{coming, coming_step, said_same}

or_assoc : (a b c : Option Definition) → option_or (option_or a b) c ≡ option_or a (option_or b c)
or_assoc None b c = refl
or_assoc (Some a) b c = refl

-- the first line, read
pub said_first : (rest line behind : List ℕ) (said : Said) → lines rest ≡ line ∷ lines behind → said ≡ parsed_line line → said_by rest ≡ said ∷ said_by behind
said_first rest line behind said e same = ap (map parsed_line) e ∙ rw same refl

-- what is known and what comes stay the same together
pub walk_known : (old new : Definitions) (number place number' place' : ℕ) (block block' : Option (Block (List ℕ))) (line : Said) (rest more : List Said) (all : NameMeaning)
    → rest ≡ line ∷ more → number' ≡ number + 1 → block' ≡ block_after number place block line → place' ≡ place + size_of line → IsBehind place block
    → Adds old new (known_by number block place line)
    → ((scope : Option ℕ) (name : List ℕ) → option_or (meaning_in old scope name) (lookup (coming number block place rest) scope name) ≡ all scope name)
    → (scope : Option ℕ) (name : List ℕ) → option_or (meaning_in new scope name) (lookup (coming number' block' place' more) scope name) ≡ all scope name
walk_known old new number place number' place' block block' line rest more all first n b p behind adds known scope name =
    let next : List Said → Option Definition = λ lines. lookup (coming (number + 1) (block_after number place block line) (place + size_of line) lines) scope name in
    let now = lookup (known_by number block place line) scope name in
    let before = meaning_in old scope name in
    rw (n, b, p, adds scope name)
    (or_assoc before now (next more) ∙ (ap (option_or before) (sym (coming_step number place block line more behind scope name)) ∙ (ap (λ lines. option_or before (lookup (coming number block place lines) scope name)) (sym first) ∙ known scope name)))

pub walk_unended : (number place number' place' : ℕ) (block block' : Option (Block (List ℕ))) (line : Said) (rest more : List Said) (all : Option ℕ)
    → rest ≡ line ∷ more → number' ≡ number + 1 → block' ≡ block_after number place block line → place' ≡ place + size_of line
    → unended_from number block place rest ≡ all → unended_from number' block' place' more ≡ all
walk_unended number place number' place' block block' line rest more all first n b p known =
    rw (n, b, p) (sym (rw first refl) ∙ known)

-- words before others, if those have no fault
abbrev pub prepended : List ℕ → Result (List ℕ) AsmFault → Result (List ℕ) AsmFault
prepended front words = words >>= λ more. Ok (front ++ more)

prepended_twice : (old pushed : List ℕ) (words : Result (List ℕ) AsmFault) → prepended (old ++ pushed) words ≡ prepended old (words >>= λ more. Ok (pushed ++ more))
prepended_twice old pushed (Ok more) = rw append_assoc refl
prepended_twice old pushed (Err fault) = refl

-- the line's words go to those before it
pub walk_words : (meaning : NameMeaning) (old new pushed : List ℕ) (unended : Option ℕ) (number place number' place' : ℕ) (block block' : Option (Block (List ℕ))) (line : Said) (rest more : List Said) (all : Result (List ℕ) AsmFault)
    → rest ≡ line ∷ more → number' ≡ number + 1 → block' ≡ block_after number place block line → place' ≡ place + size_of line
    → unended ≡ unended_from number block place rest
    → line_words meaning number block (said_in unended number block line) ≡ Ok pushed → new ≡ old ++ pushed
    → prepended old (lines_words meaning (standing number block place rest)) ≡ all
    → prepended new (lines_words meaning (standing number' block' place' more)) ≡ all
walk_words meaning old new pushed unended number place number' place' block block' line rest more all first n b p ends said added known =
    let here : said_in unended number block line ≡ in_block block line more = rw (ends, first) (said_same number place block line more) in
    let words : line_words meaning number block (in_block block line more) ≡ Ok pushed = rw (← here) said in
    let later = lines_words meaning (standing (number + 1) (block_after number place block line) (place + size_of line) more) in
    let now : lines_words meaning (standing number block place rest) ≡ (later >>= λ more. Ok (pushed ++ more)) = rw (first, words) refl in
    rw (n, b, p, added) (prepended_twice old pushed later ∙ (ap (prepended old) (sym now) ∙ known))

-- the line's fault is that of the text
pub walk_fault : (meaning : NameMeaning) (old : List ℕ) (unended : Option ℕ) (number place : ℕ) (block : Option (Block (List ℕ))) (line : Said) (rest more : List Said) (all : Result (List ℕ) AsmFault) (fault : AsmFault)
    → rest ≡ line ∷ more → unended ≡ unended_from number block place rest
    → line_words meaning number block (said_in unended number block line) ≡ Err fault
    → prepended old (lines_words meaning (standing number block place rest)) ≡ all
    → all ≡ Err fault
walk_fault meaning old unended number place block line rest more all fault first ends said known =
    let here : said_in unended number block line ≡ in_block block line more = rw (ends, first) (said_same number place block line more) in
    let words : line_words meaning number block (in_block block line more) ≡ Err fault = rw (← here) said in
    let now : lines_words meaning (standing number block place rest) ≡ Err fault = rw (first, words) refl in
    sym known ∙ ap (prepended old) now

-- names mean the same where each name does
pub same_meaning : (a b : NameMeaning) → ((scope : Option ℕ) (name : List ℕ) → a scope name ≡ b scope name) → a ≡ b
same_meaning a b same = fun_ext (λ scope. fun_ext (λ name. same scope name))

-- a text's words and fault are those of its lines, where names mean what it defines
pub assembled_by : (text : List ℕ) (meaning : NameMeaning) → ((scope : Option ℕ) (name : List ℕ) → meaning scope name ≡ lookup (definitions (all_standing (said_by text))) scope name)
    → assembled text ≡ (lines_words meaning (all_standing (said_by text)) >>= not_too_long)
assembled_by text meaning same =
    let lines = all_standing (said_by text) in
    ap (λ m. lines_words m lines >>= not_too_long) (sym (same_meaning meaning (lookup (definitions lines)) same))

pub too_long : (words : List ℕ) → most_scroll_words < length words → not_too_long words ≡ Err TooLong
too_long words long = let test : nat_le (length words) most_scroll_words ≡ false = grind (arith, long) in rw test refl

pub short_enough : (words : List ℕ) → length words ≤ most_scroll_words → not_too_long words ≡ Ok words
short_enough words short = let test : nat_le (length words) most_scroll_words ≡ true = grind (arith, short) in rw test refl
