-- The grid of forms is read as their program, and is not long.
use Rattle.std.specs.Prelude.{◌≡◌, ◌+◌, ◌*◌, ◌<◌, ◌≤◌, ◌%◌, ℕ, zero, suc, false, List, [], ◌∷◌, ◌++◌, length, map, codes, Ok}
use Rattle.std.specs.List.{flat_map}
use Rattle.std.proofs.Common.{arith, refl, sym, ap, subst, ◌∙◌, get_or}
use Rattle.std.proofs.lemmas.Grind.{flat_map-append}
use Rattle.std.proofs.lemmas.List.{length-append, length-map}
use Rattle.two_d.specs.Good.{IsGood}
use Rattle.two_d.specs.Program.{program_of}
use Rattle.grid_picture.specs.Lined.{lined}
use Rattle.rand_pcg.specs.Lcg.{Lcg}
use Rattle.rand_pcg.specs.Pcg.{pcg32}
use Rattle.codex_gen.specs.Generated.{strip, strip_columns, main_texts, grid_of_forms, generator, next_words, forms_of_number, module_count, grid_of_number}
use Rattle.codex_gen.proofs.GeneratedProgram.{main_strip, main_module, main_texts_are, program_of_forms, strip_at, strips_from, lines_are, modules_are, columns_are, is_good}
use Rattle.codex_gen.proofs.ModuleNames.{name_long}
use Rattle.codex_gen.proofs.StripLines.{long_line}
use Rattle.codex_gen.proofs.StripsRead.{Strip, lines_of, module_of, strips_read}

abbrev times : ℕ → ℕ → ℕ
times zero n = 0
times (suc k) n = n + times k n

long_rows : (rows : List (List ℕ)) (n : ℕ) → ((i : ℕ) → i < length rows → length (get_or rows i []) ≡ n) → length (lined rows) ≡ times (length rows) (n + 1)
long_rows [] n each = refl
long_rows (row ∷ rows) n each =
    let a = length-append (row ++ 10 ∷ []) (lined rows) in
    let b = length-append row (10 ∷ []) in
    let c = long_rows rows n (λ i lt. each (suc i) (omega arith)) in
    let d : length row ≡ n = each 0 (omega arith) in
    omega arith

long_strip : (s : Strip) → length (lined (lines_of s)) ≡ times 6 (strip_columns s.texts + 2 + 1)
long_strip s = long_rows (lines_of s) (strip_columns s.texts + 2) (λ i lt. long_line [] [] s.name s.west s.texts s.fit i lt)

lined_append : (xs ys : List (List ℕ)) → length (lined (xs ++ ys)) ≡ length (lined xs) + length (lined ys)
lined_append xs ys = ap length (flat_map-append (λ row. row ++ 10 ∷ []) xs ys) ∙ length-append (lined xs) (lined ys)

long_modules : (i : ℕ) (forms : List ℕ) (lt : i + length forms < 100) → length (lined (flat_map lines_of (strips_from i forms lt))) ≤ 294 * length forms
long_modules i [] lt = omega arith
long_modules i (f ∷ more) lt =
    let s = strip_at i f more (omega arith) in
    let a = lined_append (lines_of s) (flat_map lines_of (strips_from (suc i) more (omega arith))) in
    let b = long_strip s in
    let c = (columns_are i f more (omega arith)).1 in
    let d = long_modules (suc i) more (omega arith) in
    omega arith

module _ (forms : List ℕ) (few : length forms < 100) where
  abbrev strips : List Strip
  strips = main_strip ∷ strips_from 0 forms (omega arith)

  grid_is : lined (flat_map lines_of strips) ≡ grid_of_forms forms
  grid_is =
      ap (λ texts. lined (strip (codes "main") false texts ++ flat_map lines_of (strips_from 0 forms (omega arith)))) (sym main_texts_are)
      ∙ ap (λ rows. lined (strip (codes "main") false main_texts ++ rows)) (lines_are 0 forms (omega arith))

  program_is : map module_of strips ≡ program_of_forms forms
  program_is = ap (λ l. main_module ∷ l) (modules_are 0 forms (omega arith))

  -- the bytes of the grid
  pub grid_long : length (grid_of_forms forms) ≤ 168 + 294 * length forms
  grid_long =
      let e = ap length grid_is in
      let a = lined_append (lines_of main_strip) (flat_map lines_of (strips_from 0 forms (omega arith))) in
      let b = long_strip main_strip in
      let c = long_modules 0 forms (omega arith) in
      let n = name_long 0 (omega arith) in
      let d : strip_columns main_strip.texts ≤ 25 = main_columns in
      omega arith
    where
      main_columns : strip_columns main_strip.texts ≤ 25
      main_columns = subst (λ texts. strip_columns texts ≤ 25) main_texts_are (omega arith)

  -- the grid is read as the program
  pub grid_has_program : 0 < length forms → program_of (grid_of_forms forms) (Ok (program_of_forms forms))
  grid_has_program some =
      subst (λ text. program_of text (Ok (program_of_forms forms))) grid_is
      (subst (λ P. program_of (lined (flat_map lines_of strips)) (Ok P)) program_is
      (strips_read strips (let e = ap length grid_is in let n = grid_long in omega arith) (subst IsGood (sym program_is) (is_good forms (omega arith) some))))

long_words : (n : ℕ) (g : Lcg) → length (next_words g n) ≡ n
long_words zero g = refl
long_words (suc n) g = ap suc (long_words n (pcg32 g).1)

pub long_forms : (number : ℕ) → length (forms_of_number number) ≡ module_count number
long_forms number = length-map (next_words (pcg32 (generator number)).1 (module_count number)) (λ word. word % 5) ∙ long_words (module_count number) (pcg32 (generator number)).1

pub count_bounds : (number : ℕ) → (24 ≤ module_count number) × (module_count number ≤ 55)
count_bounds number = (omega arith, omega arith)

-- the grid of a number has a program
pub number_has_program : (number : ℕ) → program_of (grid_of_number number) (Ok (program_of_forms (forms_of_number number)))
number_has_program number = let n = long_forms number in let c = count_bounds number in grid_has_program (forms_of_number number) (omega arith) (omega arith)

pub number_grid_long : (number : ℕ) → length (grid_of_number number) ≤ 16338
number_grid_long number = let n = long_forms number in let c = count_bounds number in let e = grid_long (forms_of_number number) (omega arith) in omega arith
