-- Where the boxes of a module have an order, what the wires carry is told by what the wires carry.
use Rattle.std.specs.Prelude.{◌≡◌, ℕ, zero, suc, ◌<◌, ◌≤◌, List, [], ◌∷◌, length, Option, Some, None}
use Rattle.std.specs.Option.{option_and_then}
use Rattle.std.proofs.Common.{refl, sym, ◌∙◌, ap, arith, inl, inr}
use Rattle.std.proofs.lemmas.Bool.{cases_lt}
use Rattle.std.proofs.lemmas.Option.{slice_get_past}
use Rattle.two_d.specs.declared.module.Origin.{Origin}
use Rattle.two_d.specs.declared.module.Origin.TheVariants.{North, West, South, East}
use Rattle.two_d.specs.declared.command.Side.{Side}
use Rattle.two_d.specs.declared.command.Side.TheVariants.{S, E}
use Rattle.two_d.specs.Programs.{BoxForm, Program, module_at, box_at, box_count}
use Rattle.two_d.specs.Sound.{IsOrder}
use Rattle.two_d.proofs.Sourced.{IsFrom, SourcesAmong, IsSourced, sourced, among_order}
use Rattle.two_d.proofs.Pulling.{behind, among-behind, length-behind}
use Rattle.type_sheet.specs.declared.line.SheetRow.{SheetRow}
use Rattle.type_sheet.specs.Types.{InputTypes}
use Rattle.type_sheet.specs.Wires.{WireTypes, type_to, input_types, side_type, box_type, types_from, types_within, wire_type}

-- the two agree on what comes from these boxes and from the entries
pub record Agree (before : List ℕ) (types types' : WireTypes) : Type 0 where
  pub at : (o : Origin) → IsFrom before (Some o) → types o ≡ types' o

type_to-agree : (w : Option Origin) (before : List ℕ) (types types' : WireTypes) → Agree before types types' → IsFrom before w → type_to types w ≡ type_to types' w
type_to-agree None before types types' agree from = refl
type_to-agree (Some o) before types types' agree from = agree.at o from

ports-agree : (row : BoxForm) (before : List ℕ) (types types' : WireTypes) → Agree before types types' → IsFrom before row.n → IsFrom before row.w →
    input_types types row ≡ input_types types' row
ports-agree row before types types' agree n w = rw (type_to-agree row.n before types types' agree n, type_to-agree row.w before types types' agree w) refl

module _ (rows : List SheetRow) (P : Program) (m : ℕ) where
  box-agree : (b : ℕ) (side : Side) (before : List ℕ) (types types' : WireTypes) → Agree before types types' → SourcesAmong before (box_at P m b) →
      box_type rows (module_at P m) types b side ≡ box_type rows (module_at P m) types' b side
  box-agree b side before types types' agree sources = by (box_at P m b) sources
    where
      by : (row : Option BoxForm) → SourcesAmong before row →
          option_and_then (λ (row : BoxForm). side_type rows (module_at P m).name b (input_types types row) row.command side) row
          ≡ option_and_then (λ (row : BoxForm). side_type rows (module_at P m).name b (input_types types' row) row.command side) row
      by None s = refl
      by (Some row) s = ap (λ (ports : InputTypes). side_type rows (module_at P m).name b ports row.command side) (ports-agree row before types types' agree s.0 s.1)

  -- in more than so many steps, what comes from these boxes stays as it is
  record IsSettled (before : List ℕ) : Type 0 where
    pub at : (k : ℕ) → length before < k → Agree before (types_within rows (module_at P m) k) (types_within rows (module_at P m) (suc k))

  settled-nil : IsSettled []
  unfolding types_within
  settled-nil = record { at = at }
    where
      at : (k : ℕ) → length {A = ℕ} [] < k → Agree [] (types_within rows (module_at P m) k) (types_within rows (module_at P m) (suc k))
      at zero lt = absurd (omega arith)
      at (suc k) lt = record { at = on }
        where
          on : (o : Origin) → IsFrom [] (Some o) → types_within rows (module_at P m) (suc k) o ≡ types_within rows (module_at P m) (suc (suc k)) o
          on North from = refl
          on West from = refl
          on (South c) from = absurd from
          on (East c) from = absurd from

  -- one more box, whose sources stand before it
  settled-cons : (before : List ℕ) (b : ℕ) → IsSettled before → SourcesAmong before (box_at P m b) → IsSettled (b ∷ before)
  unfolding types_within
  settled-cons before b settled sources = record { at = at }
    where
      same : (side : Side) (k : ℕ) → length before < k →
          box_type rows (module_at P m) (types_within rows (module_at P m) k) b side ≡ box_type rows (module_at P m) (types_within rows (module_at P m) (suc k)) b side
      same side k lt = box-agree b side before (types_within rows (module_at P m) k) (types_within rows (module_at P m) (suc k)) (settled.at k lt) sources

      at : (k : ℕ) → length (b ∷ before) < k → Agree (b ∷ before) (types_within rows (module_at P m) k) (types_within rows (module_at P m) (suc k))
      at zero lt = absurd (omega arith)
      at (suc k) lt = record { at = on }
        where
          on : (o : Origin) → IsFrom (b ∷ before) (Some o) → types_within rows (module_at P m) (suc k) o ≡ types_within rows (module_at P m) (suc (suc k)) o
          on North from = refl
          on West from = refl
          on (South c) (inl is) = rw (← is) (same S k (omega arith))
          on (South c) (inr from) = (settled.at (suc k) (omega arith)).at (South c) from
          on (East c) (inl is) = rw (← is) (same E k (omega arith))
          on (East c) (inr from) = (settled.at (suc k) (omega arith)).at (East c) from

  settled-all : (before bs : List ℕ) → IsSettled before → IsSourced P m before bs → IsSettled (behind before bs)
  settled-all before [] settled sources = settled
  settled-all before (b ∷ bs) settled sources = settled-all (b ∷ before) bs (settled-cons before b settled sources.0) sources.1

  -- what a wire carries is told by its box, at what the wires carry
  pub told-whole : (order : List ℕ) → IsOrder (module_at P m) order → (o : Origin) →
      wire_type rows (module_at P m) o ≡ types_from rows (module_at P m) (wire_type rows (module_at P m)) o
  unfolding types_within
  told-whole order is = at
    where
      enough : ℕ
      enough = suc (box_count P m)

      agree : Agree (behind [] order) (types_within rows (module_at P m) enough) (types_within rows (module_at P m) (suc enough))
      agree = (settled-all [] order settled-nil (sourced P m order is)).at enough (omega (arith, length-behind [] order, is.once))

      past : (b : ℕ) (side : Side) (types : WireTypes) → box_count P m ≤ b → box_type rows (module_at P m) types b side ≡ None
      past b side types le = rw (slice_get_past (module_at P m).boxes b le) refl

      at : (o : Origin) → types_within rows (module_at P m) enough o ≡ types_within rows (module_at P m) (suc enough) o
      at North = refl
      at West = refl
      at (South b) = elim (cases_lt b (box_count P m)) [
        | inl lt ↦ agree.at (South b) (among-behind b [] order (inr (among_order P m order is b lt)))
        | inr le ↦ past b S (types_within rows (module_at P m) (box_count P m)) le ∙ sym (past b S (types_within rows (module_at P m) enough) le)
      ]
      at (East b) = elim (cases_lt b (box_count P m)) [
        | inl lt ↦ agree.at (East b) (among-behind b [] order (inr (among_order P m order is b lt)))
        | inr le ↦ past b E (types_within rows (module_at P m) (box_count P m)) le ∙ sym (past b E (types_within rows (module_at P m) enough) le)
      ]
