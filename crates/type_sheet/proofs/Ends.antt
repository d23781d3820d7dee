-- What an instance of a module that fits comes to.
use Rattle.std.specs.Prelude.{◌≡◌, ℕ, suc, List, [], ◌∷◌, Option, Some, None, true, slice_get}
use Rattle.std.proofs.Common.{refl}
use Rattle.codex_values.specs.Value.{Value}
use Rattle.two_d.specs.declared.module.Origin.{Origin}
use Rattle.two_d.specs.declared.module.To.TheVariants.{Exit}
use Rattle.two_d.specs.Meaning.{Cell, Cells, stuck_of, first_below, carried_by, result_of, unless_stuck, outcome_of}
use Rattle.two_d.specs.Programs.{Program, module_at, box_count}
use Rattle.two_d.specs.Trails.{Trail}
use Rattle.two_d.proofs.ProgramTrails.{first_below-some}
use Rattle.type_sheet.specs.declared.line.SheetRow.{SheetRow}
use Rattle.type_sheet.specs.Said.{result_type}
use Rattle.type_sheet.specs.Wires.{wire_type}
use Rattle.type_sheet.specs.Safety.{value_fits, IsByResults}
use Rattle.type_sheet.proofs.TestLemmas.{wired, same_types}
use Rattle.type_sheet.proofs.Effects.{FitsWell, AreOnWires, IsCellOf, IsOutcome}

-- the first value that exits carry
carried-first : (rows : List SheetRow) (t : Option (List ℕ)) (look : Origin → Option Value) (exits : List (Option Origin)) →
    ((i : ℕ) (o : Origin) (v : Value) → slice_get exits i ≡ Some (Some o) → look o ≡ Some v → value_fits rows v t ≡ true) →
    (v : Value) (vs : List Value) → carried_by look exits ≡ v ∷ vs → value_fits rows v t ≡ true
carried-first rows t look [] h v vs e = absurd (cc)
carried-first rows t look (None ∷ exits) h v vs e = carried-first rows t look exits (λ i. h (suc i)) v vs e
carried-first rows t look (Some o ∷ exits) h v vs e = by (look o) refl (carried-first rows t look exits (λ i. h (suc i)) v vs) e
  where
    by : (x : Option Value) → look o ≡ x → (carried_by look exits ≡ v ∷ vs → value_fits rows v t ≡ true) →
        elim x [ None ↦ carried_by look exits | Some w ↦ w ∷ carried_by look exits ] ≡ v ∷ vs → value_fits rows v t ≡ true
    by None is more f = more f
    by (Some w) is more f = let same : w ≡ v = cc in rw (← same) (h 0 o w refl is)

module _ (rows : List SheetRow) (P : Program) (m : ℕ) (fits : FitsWell rows (module_at P m)) (look : Origin → Option Value)
    (on : AreOnWires rows (module_at P m) look) where
  result-of : (vs : List Value) → carried_by look (module_at P m).exits ≡ vs → IsOutcome rows (module_at P m).name (result_of m vs)
  result-of [] e = tt
  result-of (v ∷ w ∷ vs) e = tt
  result-of (v ∷ []) e = carried-first rows (result_type rows (module_at P m).name) look (module_at P m).exits at v [] e
    where
      at : (i : ℕ) (o : Origin) (v : Value) → slice_get (module_at P m).exits i ≡ Some (Some o) → look o ≡ Some v →
          value_fits rows v (result_type rows (module_at P m).name) ≡ true
      at i o v there is =
          rw (← same_types (wire_type rows (module_at P m) o) _ (fits.exits i o there)) (on o v (wired (module_at P m) o (Exit i) there) is)

  pub outcome-of : (cells : Cells) → ((b : ℕ) (c : Cell) → cells b ≡ Some c → IsCellOf rows (module_at P m) b c) →
      IsOutcome rows (module_at P m).name (outcome_of P m cells look)
  unfolding outcome_of
  outcome-of cells of = by (first_below (box_count P m) (λ b. stuck_of (cells b))) refl
    where
      stuck : (b : ℕ) (t : Trail) (c : Option Cell) → cells b ≡ c → stuck_of c ≡ Some t → IsByResults t.site
      stuck b t None is e = absurd (cc)
      stuck b t (Some c) is e = (of b c is).stuck t e

      by : (o : Option Trail) → first_below (box_count P m) (λ b. stuck_of (cells b)) ≡ o →
          IsOutcome rows (module_at P m).name (unless_stuck o (result_of m (carried_by look (module_at P m).exits)))
      by None is = result-of (carried_by look (module_at P m).exits) refl
      by (Some t) is = let (b, lt, here) = first_below-some (box_count P m) (λ b. stuck_of (cells b)) t is in stuck b t (cells b) refl here
