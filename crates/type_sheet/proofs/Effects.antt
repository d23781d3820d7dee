-- What a box of a module that fits does with values that have the types of its wires.
use Rattle.std.specs.Prelude.{◌≡◌, ℕ, List, [], ◌∷◌, Option, Some, None, Bool, true, false, ◌&&◌, is_some, slice_get}
use Rattle.std.specs.List.{list_all}
use Rattle.std.specs.Option.{option_and_then}
use Rattle.std.proofs.Common.{refl, sym, ◌∙◌}
use Rattle.std.proofs.lemmas.Option.{same_Some}
use Rattle.codex_values.specs.Value.{Value, unit, pair, inl as inl_value, inr as inr_value}
use Rattle.two_d.specs.declared.module.Origin.{Origin}
use Rattle.two_d.specs.declared.module.Origin.TheVariants.{North, West, South, East}
use Rattle.two_d.specs.declared.command.Side.{Side}
use Rattle.two_d.specs.declared.command.Side.TheVariants.{S, E}
use Rattle.two_d.specs.declared.trail.Site.TheVariants.{NoSum, NoPair}
use Rattle.two_d.specs.Meaning.{Inputs, Outcome, Gives, Stuck, Cell, quiet, sent_to, sent, chosen, parts, Done, Starts, effect_of, returned, with_input, inputs_of, val, Cells, look_in, south_of, east_of}
use Rattle.two_d.specs.Programs.{BoxForm, ModuleForm, Program, find}
use Rattle.two_d.specs.Trails.{Trail, trail_of, via}
use Rattle.two_d.specs.Trees.{Tree, Form, send, case, split, call}
use Rattle.type_sheet.specs.declared.line.Form.{Form as TypeForm}
use Rattle.type_sheet.specs.declared.line.Form.TheVariants.{Unit as UnitForm, Pair, Sum}
use Rattle.type_sheet.specs.declared.line.SheetRow.{SheetRow}
use Rattle.type_sheet.specs.Said.{form_in, is_side}
use Rattle.type_sheet.specs.Types.{InputTypes, is_unit, is_pairs, has_first, has_second, has_type, summands, components}
use Rattle.type_sheet.specs.Said.{north_type, west_type, result_type, wire_line}
use Rattle.type_sheet.specs.Wires.{is_wired, origin_of, type_to, input_types, expression_type, part, case_type, side_type, types_from, wire_type}
use Rattle.type_sheet.specs.Fits.{are_same_type, expression_fits, wire_fits, out_fits, sum_fits, command_fits}
use Rattle.type_sheet.specs.Safety.{value_fits, IsByResults}
use Rattle.type_sheet.proofs.TestLemmas.{both, unless, same_side, is_side-refl, same_types}
use Rattle.type_sheet.proofs.Having.{IsPortOf, AreInputsOf, val-has}
use Rattle.two_d.proofs.Listed.{is_name-true}

-- the rules hold in the module, and its boxes can be numbered so that wires rise
pub record FitsWell (rows : List SheetRow) (m : ModuleForm) : Type 0 where
  pub told : (o : Origin) → wire_type rows m o ≡ types_from rows m (wire_type rows m) o
  pub boxes : (b : ℕ) (row : BoxForm) → slice_get m.boxes b ≡ Some row → command_fits rows m b (wire_type rows m) row row.command ≡ true
  pub exits : (i : ℕ) (o : Origin) → slice_get m.exits i ≡ Some (Some o) → are_same_type (wire_type rows m o) (result_type rows m.name) ≡ true

-- each value on a wire has the wire's type
abbrev pub AreOnWires : List SheetRow → ModuleForm → (Origin → Option Value) → Type 0
AreOnWires rows m look = (o : Origin) (v : Value) → is_wired m o ≡ true → look o ≡ Some v → value_fits rows v (wire_type rows m o) ≡ true

-- the values at the entries have the types of the entries
pub record AreEntriesOf (rows : List SheetRow) (name : List ℕ) (a : Inputs) : Type 0 where
  pub north : (v : Value) → a.north ≡ Some v → value_fits rows v (north_type rows name) ≡ true
  pub west : (v : Value) → a.west ≡ Some v → value_fits rows v (west_type rows name) ≡ true

-- what a box has come to: what it sent has the types of the wires, and no value was of a wrong shape
pub record IsCellOf (rows : List SheetRow) (m : ModuleForm) (b : ℕ) (c : Cell) : Type 0 where
  pub south : (v : Value) → c.south ≡ Some v → is_wired m (South b) ≡ true → value_fits rows v (wire_type rows m (South b)) ≡ true
  pub east : (v : Value) → c.east ≡ Some v → is_wired m (East b) ≡ true → value_fits rows v (wire_type rows m (East b)) ≡ true
  pub stuck : (trail : Trail) → c.stuck ≡ Some trail → IsByResults trail.site

-- a value of this result type, or stuck by the lack of a result, or by two
abbrev pub IsOutcome : List SheetRow → List ℕ → Outcome → Type 0
IsOutcome rows name (Gives v) = value_fits rows v (result_type rows name) ≡ true
IsOutcome rows name (Stuck trail) = IsByResults trail.site

pub quiet-cell : (rows : List SheetRow) (m : ModuleForm) (b : ℕ) → IsCellOf rows m b quiet
quiet-cell rows m b = record { south = λ v e. absurd (cc); east = λ v e. absurd (cc); stuck = λ t e. absurd (cc) }

-- where the input comes from
abbrev pub IsInput : (Origin → Option Value) → Option Origin → Option Value → Type 0
IsInput look None x = x ≡ None
IsInput look (Some o) x = (v : Value) × (x ≡ Some v) × (look o ≡ Some v)

input-from : (w : Option Origin) (look : Origin → Option Value) (go : Option Value → Option Inputs) (a : Inputs) → with_input w look go ≡ Some a →
    (x : Option Value) × IsInput look w x × (go x ≡ Some a)
input-from None look go a e = (None, refl, e)
input-from (Some o) look go a e = by (look o) refl e
  where
    by : (x : Option Value) → look o ≡ x → with_input (Some o) (λ _. x) go ≡ Some a → (x : Option Value) × IsInput look (Some o) x × (go x ≡ Some a)
    by None is f = absurd (cc)
    by (Some v) is f = (Some v, (v, refl, is), f)

pub inputs-from : (row : BoxForm) (look : Origin → Option Value) (a : Inputs) → inputs_of look row ≡ Some a → IsInput look row.n a.north × IsInput look row.w a.west
inputs-from row look a e =
    let (n, from_n, e1) = input-from row.n look (λ n. with_input row.w look (λ w. Some (record { north = n; west = w }))) a e in
    let (w, from_w, e2) = input-from row.w look (λ w. Some (record { north = n; west = w })) a e1 in
    let same : record { north = n; west = w } ≡ a = same_Some _ a e2 in
    rw (← same) (from_n, from_w)

port-of : (rows : List SheetRow) (t : Option (List ℕ)) (v : Value) → value_fits rows v t ≡ true → IsPortOf rows t (Some v)
port-of rows None v e = absurd (cc)
port-of rows (Some a) v e = e

of-port : (rows : List SheetRow) (x : Tree) (ports : InputTypes) (a : Inputs) → AreInputsOf rows ports a → (t : Option (List ℕ)) → expression_fits rows ports x t ≡ true →
    value_fits rows (val x a) t ≡ true
of-port rows x ports a inputs None e = absurd (cc)
of-port rows x ports a inputs (Some t) e = val-has rows ports a inputs x t e

module _ (rows : List SheetRow) (m : ModuleForm) where
  port-from : (look : Origin → Option Value) → AreOnWires rows m look → (o : Option Origin) → ((p : Origin) → o ≡ Some p → is_wired m p ≡ true) →
      (x : Option Value) → IsInput look o x → IsPortOf rows (type_to (wire_type rows m) o) x
  port-from look on None wired x from = tt
  port-from look on (Some p) wired x from = rw from.1 (port-of rows (wire_type rows m p) from.0 (on p from.0 (wired p refl) from.2))

  sent_to-cell : (b : ℕ) (side : Side) (w : Value) → (is_wired m (origin_of b side) ≡ true → value_fits rows w (wire_type rows m (origin_of b side)) ≡ true) →
      IsCellOf rows m b (sent_to side w)
  sent_to-cell b S w h = record {
    south = λ v e wired. let same : w ≡ v = same_Some w v e in rw (← same) (h wired);
    east = λ v e. absurd (cc);
    stuck = λ t e. absurd (cc);
  }
  sent_to-cell b E w h = record {
    south = λ v e. absurd (cc);
    east = λ v e wired. let same : w ≡ v = same_Some w v e in rw (← same) (h wired);
    stuck = λ t e. absurd (cc);
  }

  send-side : (b : ℕ) (ports : InputTypes) (a : Inputs) → AreInputsOf rows ports a → (side : Side) (outs : List (Tree × Side)) →
      list_all (out_fits rows m b (wire_type rows m) ports) outs ≡ true → (v : Value) → sent side outs a ≡ Some v →
      is_wired m (origin_of b side) ≡ true → value_fits rows v (wire_type rows m (origin_of b side)) ≡ true
  send-side b ports a inputs side [] e v is wired = absurd (cc)
  send-side b ports a inputs S ((x, S) ∷ outs) e v is wired =
      let here = unless (is_wired m (South b)) (expression_fits rows ports x (wire_type rows m (South b))) (both _ _ e).0 wired in
      let same : val x a ≡ v = same_Some _ v is in
      rw (← same) (of-port rows x ports a inputs (wire_type rows m (South b)) here)
  send-side b ports a inputs S ((x, E) ∷ outs) e v is wired = send-side b ports a inputs S outs (both _ _ e).1 v is wired
  send-side b ports a inputs E ((x, S) ∷ outs) e v is wired = send-side b ports a inputs E outs (both _ _ e).1 v is wired
  send-side b ports a inputs E ((x, E) ∷ outs) e v is wired =
      let here = unless (is_wired m (East b)) (expression_fits rows ports x (wire_type rows m (East b))) (both _ _ e).0 wired in
      let same : val x a ≡ v = same_Some _ v is in
      rw (← same) (of-port rows x ports a inputs (wire_type rows m (East b)) here)

  -- what the side of a box carries
  side-told : FitsWell rows m → (b : ℕ) (row : BoxForm) → slice_get m.boxes b ≡ Some row → (side : Side) →
      wire_type rows m (origin_of b side) ≡ side_type rows m.name b (input_types (wire_type rows m) row) row.command side
  side-told fits b row at S = fits.told (South b) ∙ rw at refl
  side-told fits b row at E = fits.told (East b) ∙ rw at refl

  -- the value has a type of this form
  abbrev of_form : Option TypeForm → Value → Bool
  of_form f unit = is_unit f
  of_form f (pair v w) = is_pairs f (has_type rows v) (has_type rows w)
  of_form f (inl_value v) = has_first f (has_type rows v)
  of_form f (inr_value v) = has_second f (has_type rows v)

  of_form-is : (a : List ℕ) (v : Value) → has_type rows v a ≡ true → of_form (form_in rows a) v ≡ true
  of_form-is a unit e = e
  of_form-is a (pair v w) e = e
  of_form-is a (inl_value v) e = e
  of_form-is a (inr_value v) e = e

  -- the content of a value of a sum, at the side to which it goes
  chosen-form : (b : ℕ) (left right : Side) (trail : Trail) (line : Side → Option (List ℕ)) (f : Option TypeForm) →
      ((side : Side) → wire_type rows m (origin_of b side) ≡ case_type left right side (summands f) (line side)) →
      sum_fits m b left right (summands f) ≡ true → (v : Value) → of_form f v ≡ true → IsCellOf rows m b (chosen left right trail v)
  chosen-form b left right trail line None told sums v e = absurd (cc)
  chosen-form b left right trail line (Some UnitForm) told sums v e = absurd (cc)
  chosen-form b left right trail line (Some (Pair p q)) told sums v e = absurd (cc)
  chosen-form b left right trail line (Some (Sum p q)) told sums unit e = absurd (cc)
  chosen-form b left right trail line (Some (Sum p q)) told sums (pair v w) e = absurd (cc)
  chosen-form b left right trail line (Some (Sum p q)) told sums (inl_value w) e =
      sent_to-cell b left w (λ wired. rw (told left, is_side-refl left) e)
  chosen-form b left right trail line (Some (Sum p q)) told sums (inr_value w) e =
      sent_to-cell b right w (λ wired. by (is_side left right) refl wired)
    where
      by : (t : Bool) → is_side left right ≡ t → is_wired m (origin_of b right) ≡ true → value_fits rows w (wire_type rows m (origin_of b right)) ≡ true
      by true is wired =
          let same : left ≡ right = same_side left right is in
          let both_there : is_side left right && is_wired m (origin_of b left) ≡ true = rw (is, same) wired in
          let names : p ≡ q = is_name-true p q (unless _ _ sums both_there) in
          rw (told right, is, names) e
      by false is wired = rw (told right, is, is_side-refl right) e

  case-cell : (b : ℕ) (left right : Side) (trail : Trail) (line : Side → Option (List ℕ)) (t : Option (List ℕ)) →
      ((side : Side) → wire_type rows m (origin_of b side) ≡ case_type left right side (option_and_then (λ a. summands (form_in rows a)) t) (line side)) →
      sum_fits m b left right (option_and_then (λ a. summands (form_in rows a)) t) ≡ true → (v : Value) → value_fits rows v t ≡ true →
      IsCellOf rows m b (chosen left right trail v)
  case-cell b left right trail line None told sums v e = absurd (cc)
  case-cell b left right trail line (Some a) told sums v e = chosen-form b left right trail line (form_in rows a) told sums v (of_form-is a v e)

  split-form : (b : ℕ) (trail : Trail) (f : Option TypeForm) →
      ((side : Side) → wire_type rows m (origin_of b side) ≡ part side (components f)) →
      is_some (components f) ≡ true → (v : Value) → of_form f v ≡ true → IsCellOf rows m b (parts trail v)
  split-form b trail None told pairs v e = absurd (cc)
  split-form b trail (Some UnitForm) told pairs v e = absurd (cc)
  split-form b trail (Some (Sum p q)) told pairs v e = absurd (cc)
  split-form b trail (Some (Pair p q)) told pairs unit e = absurd (cc)
  split-form b trail (Some (Pair p q)) told pairs (inl_value v) e = absurd (cc)
  split-form b trail (Some (Pair p q)) told pairs (inr_value v) e = absurd (cc)
  split-form b trail (Some (Pair p q)) told pairs (pair x y) e = record {
    south = λ v is wired. let same : x ≡ v = same_Some x v is in rw (← same, told S) (both (has_type rows x p) _ e).0;
    east = λ v is wired. let same : y ≡ v = same_Some y v is in rw (← same, told E) (both (has_type rows x p) _ e).1;
    stuck = λ t is. absurd (cc);
  }

  split-cell : (b : ℕ) (trail : Trail) (t : Option (List ℕ)) →
      ((side : Side) → wire_type rows m (origin_of b side) ≡ part side (option_and_then (λ a. components (form_in rows a)) t)) →
      is_some (option_and_then (λ a. components (form_in rows a)) t) ≡ true → (v : Value) → value_fits rows v t ≡ true → IsCellOf rows m b (parts trail v)
  split-cell b trail None told pairs v e = absurd (cc)
  split-cell b trail (Some a) told pairs v e = split-form b trail (form_in rows a) told pairs v (of_form-is a v e)

  -- where the wire to an input begins, one begins
  abbrev InputsWired : BoxForm → Type 0
  InputsWired row = ((p : Origin) → row.n ≡ Some p → is_wired m p ≡ true) × ((p : Origin) → row.w ≡ Some p → is_wired m p ≡ true)

  pub ports-from : (look : Origin → Option Value) → AreOnWires rows m look → (row : BoxForm) → InputsWired row → (a : Inputs) → inputs_of look row ≡ Some a →
      AreInputsOf rows (input_types (wire_type rows m) row) a
  ports-from look on row wired a e =
      let from = inputs-from row look a e in
      record { north = port-from look on row.n wired.0 a.north from.0; west = port-from look on row.w wired.1 a.west from.1 }

  -- what a box comes to at once
  pub done-cell : FitsWell rows m → (P : Program) (i b : ℕ) (row : BoxForm) → slice_get m.boxes b ≡ Some row → (a : Inputs) →
      AreInputsOf rows (input_types (wire_type rows m) row) a → (c : Cell) → effect_of P i b row.command a ≡ Done c → IsCellOf rows m b c
  done-cell fits P i b row at a inputs c e = by row.command refl (fits.boxes b row at) e
    where
      by : (command : Form) → row.command ≡ command → command_fits rows m b (wire_type rows m) row command ≡ true → effect_of P i b command a ≡ Done c → IsCellOf rows m b c
      by (send outs) is rule e = record {
        south = λ v f. send-side b (input_types (wire_type rows m) row) a inputs S outs rule v (let same : sent S outs a ≡ c.south = cc in same ∙ f);
        east = λ v f. send-side b (input_types (wire_type rows m) row) a inputs E outs rule v (let same : sent E outs a ≡ c.east = cc in same ∙ f);
        stuck = λ t f. absurd (let none : c.stuck ≡ None = cc in cc);
      }
      by (case x left right) is rule e =
          let same : chosen left right (trail_of (NoSum i b)) (val x a) ≡ c = cc in
          let rules = both _ _ rule in
          let ports = input_types (wire_type rows m) row in
          rw (← same) (case-cell b left right (trail_of (NoSum i b)) (wire_line rows m.name b) (expression_type rows m.name b ports x)
          (λ side. side-told fits b row at side ∙ rw is refl) rules.1 (val x a) (of-port rows x ports a inputs (expression_type rows m.name b ports x) rules.0))
      by (split x) is rule e =
          let same : parts (trail_of (NoPair i b)) (val x a) ≡ c = cc in
          let rules = both _ _ rule in
          let ports = input_types (wire_type rows m) row in
          rw (← same) (split-cell b (trail_of (NoPair i b)) (expression_type rows m.name b ports x)
          (λ side. side-told fits b row at side ∙ rw is refl) rules.1 (val x a) (of-port rows x ports a inputs (expression_type rows m.name b ports x) rules.0))
      by (call name) is rule e = absurd (cc)

  entry-from : (look : Origin → Option Value) → AreOnWires rows m look → (o : Option Origin) → ((p : Origin) → o ≡ Some p → is_wired m p ≡ true) →
      (x : Option Value) → IsInput look o x → (t : Option (List ℕ)) → wire_fits (wire_type rows m) o t ≡ true → (v : Value) → x ≡ Some v → value_fits rows v t ≡ true
  entry-from look on None wired x from t rule v is = absurd (let none : None ≡ Some v = sym from ∙ is in cc)
  entry-from look on (Some p) wired x from t rule v is =
      let same : from.0 ≡ v = same_Some _ v (sym from.1 ∙ is) in
      rw (← same, ← same_types (wire_type rows m p) t rule) (on p from.0 (wired p refl) from.2)

  -- what a box starts
  pub starts-entries : FitsWell rows m → (P : Program) (i b : ℕ) (row : BoxForm) → slice_get m.boxes b ≡ Some row → (look : Origin → Option Value) →
      AreOnWires rows m look → InputsWired row → (a : Inputs) → inputs_of look row ≡ Some a → (j : ℕ) (a' : Inputs) →
      effect_of P i b row.command a ≡ Starts j a' → (name : List ℕ) × (row.command ≡ call name) × (j ≡ find P name) × AreEntriesOf rows name a'
  starts-entries fits P i b row at look on wired a inputs j a' e = by row.command refl (fits.boxes b row at) e
    where
      by : (command : Form) → row.command ≡ command → command_fits rows m b (wire_type rows m) row command ≡ true → effect_of P i b command a ≡ Starts j a' →
          (name : List ℕ) × (row.command ≡ call name) × (j ≡ find P name) × AreEntriesOf rows name a'
      by (send outs) is rule e = absurd (cc)
      by (case x left right) is rule e = absurd (cc)
      by (split x) is rule e = absurd (cc)
      by (call name) is rule e =
          let same : a ≡ a' = cc in
          let number : j ≡ find P name = cc in
          let rules = both _ _ rule in
          let from = inputs-from row look a inputs in (
            name,
            is,
            number,
            rw (← same) (record {
              north = entry-from look on row.n wired.0 a.north from.0 (north_type rows name) rules.0;
              west = entry-from look on row.w wired.1 a.west from.1 (west_type rows name) rules.1;
            }),
          )

  -- what a `use` has come to
  pub returned-cell : FitsWell rows m → (i b : ℕ) (row : BoxForm) → slice_get m.boxes b ≡ Some row → (name : List ℕ) → row.command ≡ call name →
      (o : Outcome) → IsOutcome rows name o → IsCellOf rows m b (returned i b o)
  unfolding returned
  returned-cell fits i b row at name is (Gives v) of =
      let told : wire_type rows m (East b) ≡ result_type rows name = side-told fits b row at E ∙ rw is refl in
      sent_to-cell b E v (λ wired. rw told of)
  returned-cell fits i b row at name is (Stuck trail) of = record {
    south = λ v e. absurd (cc);
    east = λ v e. absurd (cc);
    stuck = λ t e. let same : via i b trail ≡ t = same_Some _ t e in rw (← same) of;
  }

  -- the values on the wires of an instance
  pub look-on : FitsWell rows m → (a : Inputs) → AreEntriesOf rows m.name a → (cells : Cells) → ((b : ℕ) (c : Cell) → cells b ≡ Some c → IsCellOf rows m b c) →
      AreOnWires rows m (look_in a cells)
  look-on fits a entries cells of = at
    where
      south : (b : ℕ) (v : Value) → is_wired m (South b) ≡ true → (c : Option Cell) → cells b ≡ c → south_of c ≡ Some v → value_fits rows v (wire_type rows m (South b)) ≡ true
      south b v wired None is e = absurd (cc)
      south b v wired (Some c) is e = (of b c is).south v e wired

      east : (b : ℕ) (v : Value) → is_wired m (East b) ≡ true → (c : Option Cell) → cells b ≡ c → east_of c ≡ Some v → value_fits rows v (wire_type rows m (East b)) ≡ true
      east b v wired None is e = absurd (cc)
      east b v wired (Some c) is e = (of b c is).east v e wired

      at : (o : Origin) (v : Value) → is_wired m o ≡ true → look_in a cells o ≡ Some v → value_fits rows v (wire_type rows m o) ≡ true
      at North v wired e = rw (fits.told North) (entries.north v e)
      at West v wired e = rw (fits.told West) (entries.west v e)
      at (South b) v wired e = south b v wired (cells b) refl e
      at (East b) v wired e = east b v wired (cells b) refl e
