-- The texts of a program are of bytes, and few enough for its weight.
use Rattle.std.specs.Prelude.{◌≡◌, ℕ, zero, suc, ◌+◌, ◌*◌, ◌<◌, ◌++◌, List, [], ◌∷◌, length, map, take, Some, None, slice_index_or, slice_get, vec_len}
use Rattle.std.proofs.Common.{refl, sym, ◌∙◌, ap, subst, arith, length-append}
use Rattle.std.proofs.lemmas.List.{length-map}
use Rattle.std.proofs.lemmas.Option.{slice_get-get_or}
use Rattle.um_word.specs.Operators.{decode_word}
use Rattle.code_templates.specs.Templates.{pop_work}
use Rattle.two_d.specs.declared.module.Module.{Module}
use Rattle.two_d.specs.Trees.{send}
use Rattle.two_d.specs.Programs.{BoxForm, ModuleForm, Program, modules_of, box_of, module_at, box_at, box_count}
use Rattle.two_d.specs.Good.{IsGood}
use Rattle.two_d.specs.Weights.{part, weight}
use Rattle.lower_plan.proofs.Planned.{module_is}
use Rattle.lower_link.specs.declared.texts.Texts.{Texts}
use Rattle.lower_link.specs.inner.Lines.{box_line, box_lines, lines_below, all_lines}
use Rattle.lower_link.specs.inner.Printer.{writes}
use Rattle.lower_link.specs.inner.Drafts.{AddsTexts, AreTextsOf, text_code, text_codes, starts}
use Rattle.lower_link.proofs.Adding.{adds_length}
use Rattle.lower_link.proofs.Fitting.{texts_words, texts_fit, texts_bytes}

-- what is read of a module is what its program has
pub count_is : (modules : List Module) (P : Program) → modules_of modules ≡ P → (number : ℕ) (owner : Module) → number < length P → owner ≡ slice_index_or modules number owner →
    (n : ℕ) → n ≡ vec_len owner.boxes → vec_len owner.boxes ≡ length owner.boxes.items → n ≡ box_count P number
count_is modules P are number owner there is n len ok =
    omega (arith, len, ok, ap (λ (m : ModuleForm). length m.boxes) (module_is modules P are number owner there is), length-map owner.boxes.items box_of)

no_box : BoxForm
no_box = record { command = send []; n = None; w = None }

pub row_at : (P : Program) (m b : ℕ) → b < box_count P m → (row : BoxForm) × (box_at P m b ≡ Some row)
row_at P m b lt = (slice_index_or (module_at P m).boxes b no_box, slice_get-get_or (module_at P m).boxes b no_box lt)

-- one box more
lines_from : (P : Program) (m b : ℕ) (rows : List BoxForm) (i : ℕ) (row : BoxForm) → slice_get rows i ≡ Some row →
    box_lines P m b (take (suc i) rows) ≡ box_lines P m b (take i rows) ++ box_line P m (b + i) row.command ∷ []
lines_from P m b [] i row e = absurd (cc)
lines_from P m b (r ∷ rows) zero row e =
    let f : r ≡ row = cc in
    ap (λ (x : BoxForm). box_line P m b x.command ∷ []) f ∙ ap (λ c. box_line P m c row.command ∷ []) (omega arith)
lines_from P m b (r ∷ rows) (suc i) row e =
    ap (λ ls. box_line P m b r.command ∷ ls) (lines_from P m (suc b) rows i row e
    ∙ ap (λ c. box_lines P m (suc b) (take i rows) ++ box_line P m c row.command ∷ []) (omega arith))

pub lines_next : (P : Program) (m i : ℕ) (line : List ℕ) → i < box_count P m → ((row : BoxForm) → box_at P m i ≡ Some row → line ≡ box_line P m i row.command) →
    box_lines P m 0 (take i (module_at P m).boxes) ++ line ∷ [] ≡ box_lines P m 0 (take (i + 1) (module_at P m).boxes)
lines_next P m i line lt is =
    let there = row_at P m i lt in
    let one : suc i ≡ i + 1 = omega arith in
    let low : 0 + i ≡ i = omega arith in
    ap (λ l. box_lines P m 0 (take i (module_at P m).boxes) ++ l ∷ []) (is there.0 there.1 ∙ ap (λ c. box_line P m c there.0.command) (sym low))
    ∙ (sym (lines_from P m 0 (module_at P m).boxes i there.0 there.1) ∙ ap (λ k. box_lines P m 0 (take k (module_at P m).boxes)) one)

-- the words of these texts, and one for the place of each
writes_length : (xs : List ℕ) → length (writes xs) ≡ 2 * length xs
writes_length [] = omega arith
writes_length (x ∷ xs) = omega (arith, writes_length xs)

words_are : (lines : List (List ℕ)) → length (text_codes lines) + length lines ≡ texts_words lines
unfolding texts_words
words_are [] = omega arith
words_are (line ∷ lines) =
    let rest = words_are lines in
    omega (arith, rest, writes_length line, length-append (writes line) pop_work, length-append (text_code line) (text_codes lines))

pub weight_more : (P : Program) (n : ℕ) → n < length P → weight (take (suc n) P) ≡ weight (take n P) + part (module_at P n)
weight_more [] n lt = absurd (omega (arith, lt))
weight_more (m ∷ P) zero lt = omega arith
weight_more (m ∷ P) (suc n) lt = omega (arith, weight_more P n (omega (arith, lt)))

pub starts_length : (place : ℕ) (lines : List (List ℕ)) → length (starts place lines) ≡ length lines
starts_length place [] = refl
starts_length place (line ∷ lines) = ap suc (starts_length (place + length (text_code line)) lines)

-- The texts that were added from the beginning, up to the number of modules, are those of the program.
pub texts_are : (P : Program) → IsGood P → (n : ℕ) → n ≡ length P → (old new : Texts) → old.places.items ≡ [] → old.code.words.items ≡ [] → AddsTexts old new (lines_below P n) → AreTextsOf P new
texts_are P good n is old new none empty adds =
    let lines = all_lines P in
    let added = subst (λ k. AddsTexts old new (lines_below P k)) is adds in
    let places : new.places.items ≡ starts 0 lines =
    added.places ∙ (ap (λ ps. ps ++ starts (length old.code.words.items) lines) none ∙ ap (λ ws. starts (length ws) lines) empty) in
    record {
      code = added.code.say ∙ ap (λ ws. map decode_word ws ++ map Some (text_codes lines)) empty;
      places = places;
      bytes = texts_bytes P good;
      short = omega (arith, texts_fit P good, words_are lines, adds_length added.code, ap length empty, ap length places, starts_length 0 lines);
    }
