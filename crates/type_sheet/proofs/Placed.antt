-- The places of faults.
use Rattle.std.specs.Prelude.{◌≡◌, ℕ, suc, ◌+◌, ◌<◌, List, [], ◌∷◌, length, Some, Bool, Err, is_some, slice_get}
use Rattle.std.proofs.Common.{refl, sym, subst, arith}
use Rattle.std.proofs.lemmas.Option.{slice_get_within, get_or_from_slice_get}
use Rattle.two_d.specs.Programs.{ModuleForm, Program, module_at, no_module}
use Rattle.std.specs.Str.Lines.{lines}
use Rattle.two_d.specs.Reading.{Reading, Refused, each_from, goes_on, stops, it, missing, refused}
use Rattle.type_sheet.specs.declared.fault.At.TheVariants.{Module as in_module, Bx, Exit}
use Rattle.type_sheet.specs.declared.fault.SheetFault.{SheetFault}
use Rattle.type_sheet.specs.declared.fault.SheetFault.TheVariants.{TooLong, SameLine, NoType, NoPlace, NoLine, Mismatch}
use Rattle.type_sheet.specs.declared.line.SheetRow.{SheetRow}
use Rattle.type_sheet.specs.Fits.{want, has_place, has_lines, box_fits, exit_fits, places_there, lines_there, module_fits, fits_of, TellsPlace}
use Rattle.type_sheet.specs.Said.{module_line}
use Rattle.type_sheet.specs.Sheets.{declares_anew, uses_declared, row_of, rows_from, sheet_of}
use Rattle.type_sheet.proofs.Holes.{box_in_order}

-- where a reading of a list failed
record FailedAt {F A : Type 0} (k : ℕ → A → Reading F (Unit {0})) (n : ℕ) (xs : List A) (f : F) : Type 0 where
  i : ℕ
  x : A
  at : slice_get xs i ≡ Some x
  bad : k (n + i) x (Err f)

where_failed : {F A : Type 0} (k : ℕ → A → Reading F (Unit {0})) (n : ℕ) (xs : List A) (f : F) →
    each_from k n xs (Err f) → FailedAt k n xs f
where_failed k n [] f bad = elim bad [ ]
where_failed k n (x ∷ xs) f (stops _ bad) =
    let same : n ≡ n + 0 = omega arith in
    record { i = 0; x = x; at = refl; bad = subst (λ m. k m x (Err f)) same bad }
where_failed k n (x ∷ xs) f (goes_on u ok rest) =
    let w = where_failed k (n + 1) xs f rest in
    let same : (n + 1) + w.i ≡ n + suc w.i = omega arith in
    record { i = suc w.i; x = w.x; at = w.at; bad = subst (λ m. k m w.x (Err f)) same w.bad }

refused_so : (fault : SheetFault) (Q : Type 0) (f : SheetFault) → Refused fault Q (Err f) → fault ≡ f
refused_so fault Q _ (refused is) = refl

wanted : (fault : SheetFault) (test : Bool) (f : SheetFault) → want fault test (Err f) → fault ≡ f
wanted fault test f bad = refused_so fault _ f bad

module _ (P : Program) (rows : List SheetRow) where
  place_told : (f : SheetFault) → places_there P rows (Err f) → TellsPlace P f
  place_told f bad =
      let w = where_failed (λ _ (row : SheetRow). want (NoPlace row.at) (has_place P row.line)) 0 rows f bad in
      subst (TellsPlace P) (wanted (NoPlace w.x.at) (has_place P w.x.line) f w.bad) tt

  module _ (i : ℕ) (m : ModuleForm) (at : slice_get P i ≡ Some m) where
    module_there : i < length P
    module_there = slice_get_within P i m at

    is_module : m ≡ module_at P i
    is_module = sym (get_or_from_slice_get P i m no_module at)

    box_there : (b : ℕ) → b < length m.boxes → b < length (module_at P i).boxes
    box_there b lt = subst (λ (n : ModuleForm). b < length n.boxes) is_module lt

    exit_there : (j : ℕ) → j < length m.exits → j < length (module_at P i).exits
    exit_there j lt = subst (λ (n : ModuleForm). j < length n.exits) is_module lt

    line_told : (f : SheetFault) → lines_there rows i m (Err f) → TellsPlace P f
    line_told f (stops _ bad) =
        subst (TellsPlace P) (wanted (NoLine (in_module i)) (is_some (module_line rows m.name)) f bad) module_there
    line_told f (goes_on u ok rest) =
        let w = where_failed (λ b _. want (NoLine (Bx i b)) (has_lines rows m b)) 0 m.boxes f rest in
        let lt = slice_get_within m.boxes w.i w.x w.at in
        subst (TellsPlace P) (wanted (NoLine (Bx i (0 + w.i))) (has_lines rows m (0 + w.i)) f w.bad)
        (module_there, box_there (0 + w.i) (omega (arith, lt)))

    rule_told : (f : SheetFault) → module_fits rows i m (Err f) → TellsPlace P f
    rule_told f (stops _ bad) = elim bad [ ]
    rule_told f (goes_on order (it _ kept) (stops _ bad)) =
        let w = where_failed (λ _ b. want (Mismatch (Bx i b)) (box_fits rows m b)) 0 order f bad in
        subst (TellsPlace P) (wanted (Mismatch (Bx i w.x)) (box_fits rows m w.x) f w.bad)
        (module_there, box_there w.x (box_in_order m order kept.valid w.i w.x w.at))
    rule_told f (goes_on order (it _ kept) (goes_on u ok rest)) =
        let w = where_failed (λ j exit. want (Mismatch (Exit i j)) (exit_fits rows m exit)) 0 m.exits f rest in
        let lt = slice_get_within m.exits w.i w.x w.at in
        subst (TellsPlace P) (wanted (Mismatch (Exit i (0 + w.i))) (exit_fits rows m w.x) f w.bad)
        (module_there, exit_there (0 + w.i) (omega (arith, lt)))

  lines_told : (f : SheetFault) → each_from (lines_there rows) 0 P (Err f) → TellsPlace P f
  lines_told f bad =
      let w = where_failed (lines_there rows) 0 P f bad in
      let same : 0 + w.i ≡ w.i = omega arith in
      line_told w.i w.x w.at f (subst (λ i. lines_there rows i w.x (Err f)) same w.bad)

  rules_told : (f : SheetFault) → each_from (module_fits rows) 0 P (Err f) → TellsPlace P f
  rules_told f bad =
      let w = where_failed (module_fits rows) 0 P f bad in
      let same : 0 + w.i ≡ w.i = omega arith in
      rule_told w.i w.x w.at f (subst (λ i. module_fits rows i w.x (Err f)) same w.bad)

-- the place that a fault of a program tells is in it
pub place_there : (P : Program) (rows : List SheetRow) (f : SheetFault) → fits_of P rows (Err f) → TellsPlace P f
place_there P rows f (stops _ bad) = place_told P rows f bad
place_there P rows f (goes_on u ok (stops _ bad)) = lines_told P rows f bad
place_there P rows f (goes_on u ok (goes_on v fine bad)) = rules_told P rows f bad

-- a fault of a text tells none
module _ (P : Program) where
  row_place : (n : ℕ) (text : List ℕ) (f : SheetFault) → row_of n text (Err f) → TellsPlace P f
  row_place n [] f bad = elim bad [ ]
  row_place n (b ∷ bs) _ (stops _ (missing none)) = tt
  row_place n (b ∷ bs) f (goes_on line is bad) = elim bad [ ]

  rows_place : (n : ℕ) (texts : List (List ℕ)) (f : SheetFault) → rows_from n texts (Err f) → TellsPlace P f
  rows_place n [] f bad = elim bad [ ]
  rows_place n (text ∷ texts) f (stops _ bad) = row_place n text f bad
  rows_place n (text ∷ texts) f (goes_on row ok (stops _ bad)) = rows_place (n + 1) texts f bad
  rows_place n (text ∷ texts) f (goes_on row ok (goes_on rows fine bad)) = elim bad [ ]

  anew_place : (rows : List SheetRow) (f : SheetFault) → each_from (declares_anew rows) 0 rows (Err f) → TellsPlace P f
  anew_place rows f bad =
      let w = where_failed (declares_anew rows) 0 rows f bad in
      subst (TellsPlace P) (refused_so (SameLine w.x.at) _ f w.bad) tt

  used_place : (rows : List SheetRow) (f : SheetFault) → each_from (λ _. uses_declared rows) 0 rows (Err f) → TellsPlace P f
  used_place rows f bad =
      let w = where_failed (λ _. uses_declared rows) 0 rows f bad in
      subst (TellsPlace P) (refused_so (NoType w.x.at) _ f w.bad) tt

  pub no_place : (text : List ℕ) (f : SheetFault) → sheet_of text (Err f) → TellsPlace P f
  no_place text f (stops _ bad) = subst (TellsPlace P) (refused_so TooLong _ f bad) tt
  no_place text f (goes_on u short (stops _ bad)) = rows_place 1 (lines text) f bad
  no_place text f (goes_on u short (goes_on rows read (stops _ bad))) = anew_place rows f bad
  no_place text f (goes_on u short (goes_on rows read (goes_on v anew (stops _ bad)))) = used_place rows f bad
  no_place text f (goes_on u short (goes_on rows read (goes_on v anew (goes_on w used bad)))) = elim bad [ ]
