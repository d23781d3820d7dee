-- What never happens in a program that fits a sheet.
use Rattle.std.specs.Prelude.{◌≡◌, ℕ, List, Option, Some, None, Bool, false, IsTrue}
use Rattle.codex_values.specs.Value.{Value}
use Rattle.two_d.specs.Meaning.{Outcome, Gives, Stuck, Cell, Meaning}
use Rattle.two_d.specs.declared.module.Origin.{Origin}
use Rattle.two_d.specs.Programs.{Program, main_of, module_at}
use Rattle.two_d.specs.Sound.{Comes}
use Rattle.two_d.specs.Steps.{Table, instance_at, fired, wires, HasMeaning, IsStateOf}
use Rattle.two_d.specs.Trails.{Trail}
use Rattle.two_d.specs.declared.trail.Site.{Site}
use Rattle.two_d.specs.declared.trail.Site.TheVariants.{NoSum, NoPair, NoResult, TwoResults}
use Rattle.two_d.specs.declared.module.To.{To}
use Rattle.type_sheet.specs.declared.line.SheetRow.{SheetRow}
use Rattle.type_sheet.specs.Said.{result_type}
use Rattle.type_sheet.specs.Types.{has_type}
use Rattle.type_sheet.specs.Wires.{wire_type}

-- the value has this type, if it is one
abbrev pub value_fits : List SheetRow → Value → Option (List ℕ) → Bool
value_fits rows v None = false
value_fits rows v (Some a) = has_type rows v a

-- stuck by the lack of a result or by two, and not by a value of a wrong shape
abbrev pub IsByResults : Site → Type 0
IsByResults (NoSum m b) = ⊥
IsByResults (NoPair m b) = ⊥
IsByResults (NoResult m) = Unit {0}
IsByResults (TwoResults m) = Unit {0}

-- a value of the result type of module m, or stuck by the lack of a result or by two
abbrev pub IsTypedOutcome : Program → List SheetRow → ℕ → Outcome → Type 0
IsTypedOutcome P rows m (Gives v) =
    IsTrue (value_fits rows v (result_type rows (module_at P m).name))
IsTypedOutcome P rows m (Stuck trail) = IsByResults trail.site

-- no box of the table is stuck by a wrong shape, and each value on a wire has the wire's type
pub record IsSafeTable (P : Program) (rows : List SheetRow) (T : Table) : Type 0 where
  pub unstuck : (i b : ℕ) (c : Cell) (trail : Trail) →
      fired (instance_at T i) b ≡ Some c → c.stuck ≡ Some trail → IsByResults trail.site
  pub carried : (i : ℕ) (o : Origin) (end : To) (v : Value) →
      Comes (module_at P (instance_at T i).kind) o end → wires (instance_at T i) o ≡ Some v →
      IsTrue (value_fits rows v (wire_type rows (module_at P (instance_at T i).kind) o))

-- this holds of each state of the program, and its outcome is one of main
pub record IsSafe (P : Program) (rows : List SheetRow) : Type 0 where
  pub states : (T : Table) → IsStateOf P T → IsSafeTable P rows T
  pub outcome : (r : Meaning) → HasMeaning P r → IsTypedOutcome P rows (main_of P) r.outcome
