-- Whether a program fits has one answer.
use Rattle.std.specs.Prelude.{◌≡◌, ℕ, ◌+◌, List, [], ◌∷◌, Some, Bool, not, IsTrue, is_some, slice_get}
use Rattle.std.proofs.Common.{subst}
use Rattle.std.proofs.lemmas.Option.{slice_get_within, get_or_from_slice_get}
use Rattle.two_d.specs.Good.{IsGood}
use Rattle.two_d.specs.Programs.{ModuleForm, Program}
use Rattle.two_d.specs.Reading.{Reading, each_from}
use Rattle.two_d.specs.Sound.{IsKeptOrder, IsSound, Reaches}
use Rattle.two_d.proofs.KeptOrders.{kept_there, kept_once}
use Rattle.two_d.proofs.OneReading.{HasOneAnswer, gave_one, the_one, refused_one, then_one}
use Rattle.two_d.proofs.SomeReading.{HasAnswer, the_some, refused_some, then_some, each_some, decided_true}
use Rattle.type_sheet.specs.declared.fault.At.TheVariants.{Module as in_module, Bx, Exit}
use Rattle.type_sheet.specs.declared.fault.SheetFault.{SheetFault}
use Rattle.type_sheet.specs.declared.fault.SheetFault.TheVariants.{NoPlace, NoLine, Mismatch}
use Rattle.type_sheet.specs.declared.line.SheetRow.{SheetRow}
use Rattle.type_sheet.specs.Said.{module_line}
use Rattle.type_sheet.specs.Fits.{want, has_place, has_lines, box_fits, exit_fits, lines_there, module_fits, fits_of}

pub from_one : {F A : Type 0} (k : ℕ → A → Reading F (Unit {0})) → ((n : ℕ) (x : A) → HasOneAnswer (k n x)) → (n : ℕ) (xs : List A) → HasOneAnswer (each_from k n xs)
from_one k one n [] = gave_one tt
from_one k one n (x ∷ xs) = then_one (k n x) (λ _. each_from k (n + 1) xs) (one n x) (λ _. from_one k one (n + 1) xs)

want_one : (fault : SheetFault) (test : Bool) → HasOneAnswer (want fault test)
want_one fault test = refused_one fault (IsTrue (not test))

want_some : (fault : SheetFault) (test : Bool) → HasAnswer (want fault test)
want_some fault test = refused_some fault (IsTrue (not test)) (decided_true (not test))

module _ (rows : List SheetRow) where
  lines_one : (i : ℕ) (m : ModuleForm) → HasOneAnswer (lines_there rows i m)
  lines_one i m = then_one _ _ (want_one (NoLine (in_module i)) (is_some (module_line rows m.name)))
      (λ _. from_one (λ b _. want (NoLine (Bx i b)) (has_lines rows m b)) (λ b _. want_one (NoLine (Bx i b)) (has_lines rows m b)) 0 m.boxes)

  module_one : (i : ℕ) (m : ModuleForm) → HasOneAnswer (module_fits rows i m)
  module_one i m = then_one _ _ (the_one (IsKeptOrder m) (kept_once m))
      (λ order. then_one _ _ (from_one (λ _ b. want (Mismatch (Bx i b)) (box_fits rows m b)) (λ _ b. want_one (Mismatch (Bx i b)) (box_fits rows m b)) 0 order)
      (λ _. from_one (λ j exit. want (Mismatch (Exit i j)) (exit_fits rows m exit)) (λ j exit. want_one (Mismatch (Exit i j)) (exit_fits rows m exit)) 0 m.exits))

  lines_some : (i : ℕ) (m : ModuleForm) → HasAnswer (lines_there rows i m)
  lines_some i m = then_some _ _ (want_some (NoLine (in_module i)) (is_some (module_line rows m.name)))
      (λ _. each_some (λ b _. want (NoLine (Bx i b)) (has_lines rows m b)) m.boxes (λ b _ _ _. want_some (NoLine (Bx i b)) (has_lines rows m b)) 0)

  module_some : (i : ℕ) (m : ModuleForm) → (order : List ℕ) × IsKeptOrder m order → HasAnswer (module_fits rows i m)
  module_some i m kept = then_some _ _ (the_some (IsKeptOrder m) kept)
      (λ order. then_some _ _ (each_some (λ _ b. want (Mismatch (Bx i b)) (box_fits rows m b)) order (λ _ _ b _. want_some (Mismatch (Bx i b)) (box_fits rows m b)) 0)
      (λ _. each_some (λ j exit. want (Mismatch (Exit i j)) (exit_fits rows m exit)) m.exits (λ j _ exit _. want_some (Mismatch (Exit i j)) (exit_fits rows m exit)) 0))

pub fits_one : (P : Program) (rows : List SheetRow) → HasOneAnswer (fits_of P rows)
fits_one P rows =
    then_one _ _ (from_one (λ _ (row : SheetRow). want (NoPlace row.at) (has_place P row.line)) (λ _ row. want_one (NoPlace row.at) (has_place P row.line)) 0 rows)
    (λ _. then_one _ _ (from_one (lines_there rows) (lines_one rows) 0 P) (λ _. from_one (module_fits rows) (module_one rows) 0 P))

pub fits_some : (P : Program) (rows : List SheetRow) → IsGood P → HasAnswer (fits_of P rows)
fits_some P rows good =
    then_some _ _ (each_some (λ _ (row : SheetRow). want (NoPlace row.at) (has_place P row.line)) rows (λ _ _ row _. want_some (NoPlace row.at) (has_place P row.line)) 0)
    (λ _. then_some _ _ (each_some (lines_there rows) P (λ n _ m _. lines_some rows n m) 0)
    (λ _. each_some (module_fits rows) P (λ n i m at. module_some rows n m (kept i m at)) 0))
  where
    kept : (i : ℕ) (m : ModuleForm) → slice_get P i ≡ Some m → (order : List ℕ) × IsKeptOrder m order
    kept i m at =
        let lt = slice_get_within P i m at in
        let same = get_or_from_slice_get P i m m at in
        kept_there m (subst IsSound same (good.sound i m lt)) (subst (λ (m : ModuleForm). (b : ℕ) → Reaches m b b → ⊥) same (good.acyclic i m lt))
