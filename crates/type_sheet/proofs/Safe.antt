-- A program that fits a sheet is never stuck by a value of a wrong shape.
use Rattle.std.specs.Prelude.{◌≡◌, ℕ, ◌≤◌, List, length, Some, None, Ok, true}
use Rattle.std.proofs.Common.{inl, inr}
use Rattle.std.proofs.lemmas.Bool.{cases_lt}
use Rattle.std.proofs.lemmas.List.{get_or_past}
use Rattle.codex_values.specs.Value.{Value}
use Rattle.two_d.specs.declared.module.Origin.{Origin}
use Rattle.two_d.specs.declared.module.Origin.TheVariants.{North, West, South, East}
use Rattle.two_d.specs.declared.module.To.{To}
use Rattle.two_d.specs.Good.{IsGood}
use Rattle.two_d.specs.Meaning.{no_inputs, Outcome, Gives, Stuck, Cell, Meaning}
use Rattle.two_d.specs.Programs.{Program, main_of, module_at}
use Rattle.two_d.specs.Sound.{Comes}
use Rattle.two_d.specs.Steps.{Table, nobody, instance_at, fired, wires, start, HasMeaning, IsStateOf}
use Rattle.two_d.specs.Trails.{Trail}
use Rattle.type_sheet.specs.declared.line.SheetRow.{SheetRow}
use Rattle.type_sheet.specs.Wires.{wire_type}
use Rattle.type_sheet.specs.Fits.{fits_of}
use Rattle.type_sheet.specs.Safety.{value_fits, IsByResults, IsTypedOutcome, IsSafeTable, IsSafe}
use Rattle.type_sheet.proofs.TestLemmas.{wired}
use Rattle.type_sheet.proofs.Effects.{IsOutcome}
use Rattle.type_sheet.proofs.Depths.{AllFit, mean-fits}
use Rattle.type_sheet.proofs.Tables.{IsTyped, typed-start, typed-run, wires-on}
use Rattle.type_sheet.proofs.Rules.{all-fit}

module _ (rows : List SheetRow) (P : Program) (all : AllFit rows P) (T : Table) (typed : IsTyped rows P T) where
  no-cell : (i b : ℕ) (c : Cell) → length T ≤ i → fired (instance_at T i) b ≡ Some c → ⊥
  no-cell i b c past e = let f : None ≡ Some c = rw (get_or_past T i nobody past) at e in cc

  no-wire : (i : ℕ) (o : Origin) (v : Value) → length T ≤ i → wires (instance_at T i) o ≡ Some v → ⊥
  no-wire i o v past e = none o (rw (get_or_past T i nobody past) at e)
    where
      none : (o : Origin) → wires nobody o ≡ Some v → ⊥
      none North f = cc
      none West f = cc
      none (South b) f = cc
      none (East b) f = cc

  safe-table : IsSafeTable P rows T
  safe-table = record { unstuck = unstuck; carried = on }
    where
      unstuck : (i b : ℕ) (c : Cell) (trail : Trail) → fired (instance_at T i) b ≡ Some c → c.stuck ≡ Some trail → IsByResults trail.site
      unstuck i b c trail e is = elim (cases_lt i (length T)) [
        | inl lt ↦ (typed.cells i b c lt e).stuck trail is
        | inr past ↦ absurd (no-cell i b c past e)
      ]

      on : (i : ℕ) (o : Origin) (end : To) (v : Value) → Comes (module_at P (instance_at T i).kind) o end → wires (instance_at T i) o ≡ Some v →
          value_fits rows v (wire_type rows (module_at P (instance_at T i).kind) o) ≡ true
      on i o end v comes e = elim (cases_lt i (length T)) [
        | inl lt ↦ wires-on rows P all T typed i lt o v (wired (module_at P (instance_at T i).kind) o end comes) e
        | inr past ↦ absurd (no-wire i o v past e)
      ]

pub safe : (P : Program) (rows : List SheetRow) → IsGood P → fits_of P rows (Ok tt) → IsSafe P rows
safe P rows good fits = record { states = states; outcome = outcome }
  where
    all : AllFit rows P
    all = all-fit rows P good fits

    states : (T : Table) → IsStateOf P T → IsSafeTable P rows T
    states T state =
        let typed : IsTyped rows P T = rw state.is (typed-run rows P all (start P) state.events (typed-start rows P good.main_there) state.each_ready) in
        safe-table rows P all T typed

    outcome-is : (o : Outcome) → IsOutcome rows (module_at P (main_of P)).name o → IsTypedOutcome P rows (main_of P) o
    outcome-is (Gives v) of = of
    outcome-is (Stuck trail) of = of

    outcome : (r : Meaning) → HasMeaning P r → IsTypedOutcome P rows (main_of P) r.outcome
    outcome r has =
        outcome-is r.outcome (mean-fits rows P all has.depth (main_of P) no_inputs r good.main_there (record { north = λ v e. absurd (cc); west = λ v e. absurd (cc) }) has.means)
