-- Behind the printer's code stand the places of its texts, and the texts.
use Rattle.std.specs.Prelude.{◌≡◌, ℕ, zero, suc, ◌+◌, ◌*◌, ◌<◌, ◌≤◌, ◌++◌, List, [], ◌∷◌, length, map, take, Some, slice_index, slice_index_or}
use Rattle.std.proofs.Common.{refl, sym, ◌∙◌, ap, subst, arith, length-append}
use Rattle.std.proofs.lemmas.List.{length-map, map-append, append_assoc, take_more, get_or-append-add, get_or_append_left}
use Rattle.um_word.specs.declared.op.Op.{Op}
use Rattle.um_word.specs.Operators.{decode_word}
use Rattle.code_templates.specs.Lines.{StandsAt}
use Rattle.code_templates.proofs.Words.{words_stand}
use Rattle.two_d.specs.Programs.{Program}
use Rattle.two_d.specs.Weights.{weight}
use Rattle.lower_link.specs.declared.texts.Texts.{Texts}
use Rattle.lower_link.specs.inner.Lines.{all_lines, line_at}
use Rattle.lower_link.specs.inner.Printer.{printer_code, IsPrinter}
use Rattle.lower_link.specs.inner.Drafts.{AreTextsOf, text_code, text_codes, starts}
use Rattle.lower_link.proofs.TextLines.{starts_length}

-- words that say two lists of operators are words of the one, and then words of the other
record Split (xs ys : List Op) (ws : List ℕ) : Type 0 where
  front : List ℕ
  back : List ℕ
  is : ws ≡ front ++ back
  one : map decode_word front ≡ map Some xs
  more : map decode_word back ≡ map Some ys

split : (xs ys : List Op) (ws : List ℕ) → map decode_word ws ≡ map Some (xs ++ ys) → Split xs ys ws
split [] ys ws e = record { front = []; back = ws; is = refl; one = refl; more = e }
split (x ∷ xs) ys [] e = absurd (cc)
split (x ∷ xs) ys (w ∷ ws) e =
    let here : decode_word w ≡ Some x = cc in
    let rest : map decode_word ws ≡ map Some (xs ++ ys) = cc in
    let s = split xs ys ws rest in
    record { front = w ∷ s.front; back = s.back; is = λ i. w ∷ s.is i; one = λ i. here i ∷ s.one i; more = s.more }

said_length : (ops : List Op) (ws : List ℕ) → map decode_word ws ≡ map Some ops → length ws ≡ length ops
said_length ops ws e = omega (arith, ap length e, length-map ws decode_word, length-map ops Some)

-- each text stands where it begins
texts_stand : (lines : List (List ℕ)) (front ws : List ℕ) (j : ℕ) → map decode_word ws ≡ map Some (text_codes lines) → j < length lines →
    StandsAt (front ++ ws) (slice_index (starts (length front) lines) j) (text_code (slice_index_or lines j []))
texts_stand [] front ws j e lt = absurd (omega (arith, lt))
texts_stand (line ∷ lines) front ws zero e lt =
    let s = split (text_code line) (text_codes lines) ws e in
    subst (λ ws. StandsAt (front ++ ws) (length front) (text_code line)) (sym s.is) (words_stand front s.front s.back (text_code line) s.one)
texts_stand (line ∷ lines) front ws (suc j) e lt =
    let s = split (text_code line) (text_codes lines) ws e in
    let code = text_code (slice_index_or lines j []) in
    let far : length (front ++ s.front) ≡ length front + length (text_code line) = omega (arith, length-append front s.front, said_length (text_code line) s.front s.one) in
    let all : (front ++ s.front) ++ s.back ≡ front ++ ws = append_assoc front s.front s.back ∙ ap (λ xs. front ++ xs) (sym s.is) in
    subst (λ xs. StandsAt xs (slice_index (starts (length front + length (text_code line)) lines) j) code) all
    (subst (λ n. StandsAt ((front ++ s.front) ++ s.back) (slice_index (starts n lines) j) code) far (texts_stand lines (front ++ s.front) s.back j s.more (omega (arith, lt))))

starts_far : (far place : ℕ) (lines : List (List ℕ)) → map (λ p. far + p) (starts place lines) ≡ starts (far + place) lines
starts_far far place [] = refl
starts_far far place (line ∷ lines) =
    ap (λ ps. (far + place) ∷ ps) (starts_far far (place + length (text_code line)) lines
    ∙ ap (λ p. starts p lines) (omega arith))

starts_within : (place : ℕ) (lines : List (List ℕ)) (j : ℕ) → j < length lines → slice_index (starts place lines) j ≤ place + length (text_codes lines)
starts_within place [] j lt = absurd (omega (arith, lt))
starts_within place (line ∷ lines) zero lt = omega arith
starts_within place (line ∷ lines) (suc j) lt =
    omega (arith, starts_within (place + length (text_code line)) lines j (omega (arith, lt)), length-append (text_code line) (text_codes lines))

-- a text begins within the texts' code
pub place_within : (P : Program) (texts : Texts) → AreTextsOf P texts → (j : ℕ) → j < length texts.places.items → slice_index texts.places.items j ≤ 16 * weight P
place_within P texts are j lt =
    let lines = all_lines P in
    omega (
      arith,
      are.short,
      starts_within 0 lines j (omega (arith, lt, ap length are.places, starts_length 0 lines)),
      ap (λ ps. slice_index ps j) are.places,
      said_length (text_codes lines) texts.code.words.items are.code,
    )

-- The words are a printer's block, and few enough.
pub printer_is : (P : Program) → weight P ≤ 262144 → (texts : Texts) → AreTextsOf P texts → (first : ℕ) (core words : List ℕ) → map decode_word core ≡ map Some printer_code → first ≡ length core + length texts.places.items →
    words ≡ (core ++ map (λ place. first + place) texts.places.items) ++ texts.code.words.items →
    IsPrinter words (line_at P) (length (all_lines P)) × (length words ≤ 147 + 16 * weight P)
printer_is P few texts are first core words say first_is is =
    let lines = all_lines P in
    let ws = texts.code.words.items in
    let place : first + 0 ≡ first = omega arith in
    let places : map (λ place. first + place) texts.places.items ≡ starts first lines =
    ap (map (λ place. first + place)) are.places ∙ (starts_far first 0 lines ∙ ap (λ p. starts p lines) place) in
    let front = core ++ starts first lines in
    let whole : words ≡ front ++ ws = is ∙ ap (λ ps. (core ++ ps) ++ ws) places in
    let core_length : length core ≡ 147 = said_length printer_code core say in
    let count : length texts.places.items ≡ length lines = ap length are.places ∙ starts_length 0 lines in
    let front_length : length front ≡ first = omega (arith, length-append core (starts first lines), starts_length first lines, count, first_is) in
    let size : length words ≡ 147 + length lines + length ws = omega (arith, ap length whole, length-append front ws, front_length, first_is, core_length, count) in
    let short : length words ≤ 147 + 16 * weight P = omega (arith, size, are.short, count) in
    let found : (j : ℕ) → j < length lines → slice_index words (j + 147) ≡ slice_index (starts first lines) j =
    λ j lt. (let at : j + 147 ≡ length core + j = omega (arith, core_length) in
    ap (λ ws. slice_index ws (j + 147)) whole
    ∙ (get_or_append_left front ws 0 (j + 147) (omega (arith, lt, front_length, first_is, core_length, count))
    ∙ (ap (slice_index front) at ∙ get_or-append-add core (starts first lines) j 0))) in (
      record {
        stand = subst (λ xs. StandsAt xs 0 printer_code) (sym (append_assoc core (starts first lines) ws) ∙ sym whole) (words_stand [] core (starts first lines ++ ws) printer_code say);
        small = omega (arith, short, few);
        inside = omega (arith, size);
        bytes = λ j lt. are.bytes j;
        written = λ j lt. (subst (λ n. StandsAt words n (text_code (line_at P j))) (sym (found j lt))
            (subst (λ xs. StandsAt xs (slice_index (starts first lines) j) (text_code (line_at P j))) (sym whole)
            (subst (λ n. StandsAt (front ++ ws) (slice_index (starts n lines) j) (text_code (line_at P j))) front_length (texts_stand lines front ws j are.code lt))));
      },
      short,
    )

-- one place more
pub places_next : (core places : List ℕ) (first i : ℕ) → i < length places →
    (core ++ map (λ place. first + place) (take i places)) ++ (first + slice_index places i) ∷ [] ≡ core ++ map (λ place. first + place) (take (i + 1) places)
places_next core places first i lt =
    append_assoc core (map (λ place. first + place) (take i places)) ((first + slice_index places i) ∷ [])
    ∙ ap (λ ws. core ++ ws) (sym (map-append (λ place. first + place) (take i places) (slice_index places i ∷ []))
    ∙ ap (map (λ place. first + place)) (sym (take_more places i 0 lt)))
