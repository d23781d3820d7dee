-- The tables of a program that fits.
use Rattle.std.specs.Prelude.{◌≡◌, ◌≢◌, ℕ, zero, suc, ◌<◌, ◌≤◌, List, [], ◌∷◌, ◌++◌, length, Option, Some, None, true, slice_set}
use Rattle.std.proofs.Common.{refl, sym, ◌∙◌, arith, ◌⊎◌, inl, inr}
use Rattle.std.proofs.lemmas.Bool.{cases_lt, cases_eq}
use Rattle.std.proofs.lemmas.Option.{same_Some, some_pair_parts}
use Rattle.std.proofs.lemmas.List.{get_or_past, get_or-set_same, get_or-set_other, length-set, get_or_append_left, get_or_push, length_push}
use Rattle.two_d.specs.Meaning.{Inputs, Outcome, Cell, quiet, Effect, Done, Starts, returned}
use Rattle.two_d.specs.Programs.{Program, BoxForm, main_of, module_at, box_at, box_count}
use Rattle.two_d.specs.Steps.{Event, Fire, End, Instance, Table, nobody, instance_at, begun, fired, wires, is_ready, with_cell, set_cell, fire, end_of, ended, deliver, step, start, after, EachReady}
use Rattle.two_d.specs.Trees.{call}
use Rattle.two_d.proofs.State.{live_within}
use Rattle.two_d.proofs.Ending.{over-ready}
use Rattle.two_d.proofs.Firing.{CanFire, can_fire-ready, step-fire, fired-same, fired-other, none_of}
use Rattle.type_sheet.specs.declared.line.SheetRow.{SheetRow}
use Rattle.type_sheet.proofs.Effects.{AreOnWires, AreEntriesOf, IsCellOf, IsOutcome, quiet-cell, look-on}
use Rattle.type_sheet.proofs.Ends.{outcome-of}
use Rattle.type_sheet.proofs.Depths.{AllFit, IsStart, act-done, act-starts, start-returned}

-- instance h was started by box b of instance i, which uses its module
pub record IsCalled (P : Program) (T : Table) (h i b : ℕ) : Type 0 where
  pub within : i < length T
  pub row : BoxForm
  pub there : box_at P (instance_at T i).kind b ≡ Some row
  pub name : List ℕ
  pub is_call : row.command ≡ call name
  pub named : (module_at P (instance_at T h).kind).name ≡ name

pub record IsTyped (rows : List SheetRow) (P : Program) (T : Table) : Type 0 where
  pub kinds : (i : ℕ) → i < length T → (instance_at T i).kind < length P
  pub entries : (i : ℕ) → i < length T → AreEntriesOf rows (module_at P (instance_at T i).kind).name (instance_at T i).inputs
  pub cells : (i b : ℕ) (c : Cell) → i < length T → fired (instance_at T i) b ≡ Some c → IsCellOf rows (module_at P (instance_at T i).kind) b c
  pub called : (h i b : ℕ) → h < length T → (instance_at T h).parent ≡ Some (i, b) → IsCalled P T h i b

-- an instance of the same module at the same values, started by the same box
record Same (x y : Instance) : Type 0 where
  pub kind : y.kind ≡ x.kind
  pub inputs : y.inputs ≡ x.inputs
  pub parent : y.parent ≡ x.parent

same_itself : (x : Instance) → Same x x
same_itself x = record { kind = refl; inputs = refl; parent = refl }

module _ (rows : List SheetRow) (P : Program) where
  typed-changed : (T U : Table) → IsTyped rows P T → length U ≡ length T → ((i : ℕ) → Same (instance_at T i) (instance_at U i)) →
      ((i b : ℕ) (c : Cell) → i < length T → fired (instance_at U i) b ≡ Some c → IsCellOf rows (module_at P (instance_at T i).kind) b c) → IsTyped rows P U
  typed-changed T U typed size same cells = record {
    kinds = λ i lt. rw (same i).kind (typed.kinds i (omega (arith, size, lt)));
    entries = λ i lt. rw ((same i).kind, (same i).inputs) (typed.entries i (omega (arith, size, lt)));
    cells = λ i b c lt e. rw (same i).kind (cells i b c (omega (arith, size, lt)) e);
    called = λ h i b lt e. let c = typed.called h i b (omega (arith, size, lt)) (sym (same h).parent ∙ e) in record {
      within = omega (arith, size, c.within);
      row = c.row;
      there = rw (same i).kind c.there;
      name = c.name;
      is_call = c.is_call;
      named = rw (same h).kind c.named;
    };
  }

  -- what a box has come to, after another one has come to something
  fired-set : (x : Instance) (b : ℕ) (c : Cell) (d : ℕ) (e : Cell) → fired (with_cell x b c) d ≡ Some e → ((d ≡ b) × (c ≡ e)) ⊎ (fired x d ≡ Some e)
  fired-set x b c d e is = elim (cases_eq d b) [
    | inr other ↦ inr (sym (fired-other x b c d other) ∙ is)
    | inl here ↦ elim (cases_lt b (length x.cells)) [
      | inl lt ↦ inl (here, same_Some c e (sym (fired-same x b c lt) ∙ (rw here at is)))
      | inr past ↦ absurd (let none : fired (with_cell x b c) d ≡ None = get_or_past (slice_set x.cells b (Some c)) d None (omega (arith, here, past, length-set x.cells b (Some c))) in
          let f : None ≡ Some e = sym none ∙ is in cc)
    ]
  ]

  set-here : (T : Table) (i : ℕ) (x : Instance) → i < length T → instance_at (slice_set T i x) i ≡ x
  set-here T i x lt = get_or-set_same T i x nobody lt

  set-there : (T : Table) (i : ℕ) (x : Instance) (j : ℕ) → j ≢ i → instance_at (slice_set T i x) j ≡ instance_at T j
  set-there T i x j other = get_or-set_other T i j x nobody other

  typed-cell : (T : Table) (i b : ℕ) (c : Cell) → IsTyped rows P T → i < length T → IsCellOf rows (module_at P (instance_at T i).kind) b c →
      IsTyped rows P (set_cell T i b c)
  typed-cell T i b c typed lt of = typed-changed T (set_cell T i b c) typed (length-set T i _) same cells
    where
      same : (j : ℕ) → Same (instance_at T j) (instance_at (set_cell T i b c) j)
      same j = elim (cases_eq j i) [
        | inl is ↦ rw (is, set-here T i (with_cell (instance_at T i) b c) lt) (record { kind = refl; inputs = refl; parent = refl })
        | inr other ↦ rw (set-there T i (with_cell (instance_at T i) b c) j other) (same_itself (instance_at T j))
      ]

      cells : (j d : ℕ) (e : Cell) → j < length T → fired (instance_at (set_cell T i b c) j) d ≡ Some e → IsCellOf rows (module_at P (instance_at T j).kind) d e
      cells j d e within is = elim (cases_eq j i) [
        | inr other ↦ typed.cells j d e within (rw (set-there T i (with_cell (instance_at T i) b c) j other) at is)
        | inl here ↦
            let f : fired (with_cell (instance_at T i) b c) d ≡ Some e = rw (here, set-here T i (with_cell (instance_at T i) b c) lt) at is in
            elim (fired-set (instance_at T i) b c d e f) [
              | inl both ↦ rw (here, both.0, ← both.1) of
              | inr was ↦ rw here (typed.cells i d e lt was)
            ]
      ]

  typed-ended : (T : Table) (i : ℕ) (o : Outcome) → IsTyped rows P T → i < length T → IsTyped rows P (slice_set T i (ended (instance_at T i) o))
  typed-ended T i o typed lt = typed-changed T (slice_set T i (ended (instance_at T i) o)) typed (length-set T i _) same cells
    where
      same : (j : ℕ) → Same (instance_at T j) (instance_at (slice_set T i (ended (instance_at T i) o)) j)
      same j = elim (cases_eq j i) [
        | inl is ↦ rw (is, set-here T i (ended (instance_at T i) o) lt) (record { kind = refl; inputs = refl; parent = refl })
        | inr other ↦ rw (set-there T i (ended (instance_at T i) o) j other) (same_itself (instance_at T j))
      ]

      cells : (j d : ℕ) (e : Cell) → j < length T → fired (instance_at (slice_set T i (ended (instance_at T i) o)) j) d ≡ Some e →
          IsCellOf rows (module_at P (instance_at T j).kind) d e
      cells j d e within is = elim (cases_eq j i) [
        | inr other ↦ typed.cells j d e within (rw (set-there T i (ended (instance_at T i) o) j other) at is)
        | inl here ↦ let f : fired (instance_at T i) d ≡ Some e = rw (here, set-here T i (ended (instance_at T i) o) lt) at is in rw here (typed.cells i d e lt f)
      ]

  typed-push : (T : Table) (i b j : ℕ) (a : Inputs) → IsTyped rows P T → i < length T → IsStart rows P (instance_at T i).kind b j a →
      IsTyped rows P (T ++ begun P j (Some (i, b)) a ∷ [])
  typed-push T i b j a typed lt s = record { kinds = kinds; entries = entries; cells = cells; called = called }
    where
      x : Instance
      x = begun P j (Some (i, b)) a

      left : (h : ℕ) → h < length T → instance_at (T ++ x ∷ []) h ≡ instance_at T h
      left h under = get_or_append_left T (x ∷ []) nobody h under

      last : (h : ℕ) → h < length (T ++ x ∷ []) → length T ≤ h → instance_at (T ++ x ∷ []) h ≡ x
      last h under past = get_or_push T x nobody h (omega (arith, under, past, length_push T x))

      kinds : (h : ℕ) → h < length (T ++ x ∷ []) → (instance_at (T ++ x ∷ []) h).kind < length P
      kinds h under = elim (cases_lt h (length T)) [
        | inl before ↦ rw (left h before) (typed.kinds h before)
        | inr past ↦ rw (last h under past) s.within
      ]

      entries : (h : ℕ) → h < length (T ++ x ∷ []) → AreEntriesOf rows (module_at P (instance_at (T ++ x ∷ []) h).kind).name (instance_at (T ++ x ∷ []) h).inputs
      entries h under = elim (cases_lt h (length T)) [
        | inl before ↦ rw (left h before) (typed.entries h before)
        | inr past ↦ rw (last h under past) s.entries
      ]

      cells : (h d : ℕ) (c : Cell) → h < length (T ++ x ∷ []) → fired (instance_at (T ++ x ∷ []) h) d ≡ Some c →
          IsCellOf rows (module_at P (instance_at (T ++ x ∷ []) h).kind) d c
      cells h d c under is = elim (cases_lt h (length T)) [
        | inl before ↦ rw (left h before) (typed.cells h d c before (rw (left h before) at is))
        | inr past ↦ absurd (let f : fired x d ≡ Some c = rw (last h under past) at is in
            let none : fired x d ≡ None = none_of (box_count P j) d in
            let g : None ≡ Some c = sym none ∙ f in cc)
      ]

      called : (h k d : ℕ) → h < length (T ++ x ∷ []) → (instance_at (T ++ x ∷ []) h).parent ≡ Some (k, d) → IsCalled P (T ++ x ∷ []) h k d
      called h k d under is = elim (cases_lt h (length T)) [
        | inl before ↦
            let c = typed.called h k d before (rw (left h before) at is) in
            record {
              within = omega (arith, c.within, length_push T x);
              row = c.row;
              there = rw (left k c.within) c.there;
              name = c.name;
              is_call = c.is_call;
              named = rw (left h before) c.named;
            }
        | inr past ↦
            let within : i < length (T ++ x ∷ []) = omega (arith, lt, length_push T x) in
            let f : Some (i, b) ≡ Some (k, d) = rw (last h under past) at is in
            let (same_i, same_b) = some_pair_parts i k b d f in
            rw (← same_i, ← same_b) (record {
              within = within;
              row = s.row;
              there = rw (left i lt) s.there;
              name = s.name;
              is_call = s.is_call;
              named = rw (last h under past) s.named;
            })
      ]

  pub typed-start : main_of P < length P → IsTyped rows P (start P)
  typed-start there = record { kinds = kinds; entries = entries; cells = cells; called = called }
    where
      kinds : (i : ℕ) → i < length (start P) → (instance_at (start P) i).kind < length P
      kinds zero lt = there
      kinds (suc i) lt = absurd (omega arith)

      entries : (i : ℕ) → i < length (start P) → AreEntriesOf rows (module_at P (instance_at (start P) i).kind).name (instance_at (start P) i).inputs
      entries zero lt = record { north = λ v e. absurd (cc); west = λ v e. absurd (cc) }
      entries (suc i) lt = absurd (omega arith)

      cells : (i b : ℕ) (c : Cell) → i < length (start P) → fired (instance_at (start P) i) b ≡ Some c → IsCellOf rows (module_at P (instance_at (start P) i).kind) b c
      cells zero b c lt e = absurd (let none = none_of (box_count P (main_of P)) b in let f : None ≡ Some c = sym none ∙ e in cc)
      cells (suc i) b c lt e = absurd (omega arith)

      called : (h i b : ℕ) → h < length (start P) → (instance_at (start P) h).parent ≡ Some (i, b) → IsCalled P (start P) h i b
      called zero i b lt e = absurd (cc)
      called (suc h) i b lt e = absurd (omega arith)

  module _ (all : AllFit rows P) where
    -- each value on a wire of an instance has the wire's type
    pub wires-on : (T : Table) → IsTyped rows P T → (i : ℕ) → i < length T → AreOnWires rows (module_at P (instance_at T i).kind) (wires (instance_at T i))
    wires-on T typed i lt =
        look-on rows (module_at P (instance_at T i).kind) (all.modules (instance_at T i).kind (typed.kinds i lt)) (instance_at T i).inputs (typed.entries i lt)
        (fired (instance_at T i)) (λ b c e. typed.cells i b c lt e)

    typed-fire : (T : Table) → IsTyped rows P T → (i b : ℕ) → is_ready P T (Fire i b) ≡ true → IsTyped rows P (step P T (Fire i b))
    typed-fire T typed i b ready = let (x, fires) = can_fire-ready P T i b ready in rw (step-fire P T i b x fires) (by x fires)
      where
        by : (x : Effect) → CanFire P T i b x → IsTyped rows P (fire P T i b (Some x))
        by (Done c) fires =
            let lt = live_within T i fires.live in
            typed-cell T i b c typed lt (act-done rows P all (instance_at T i).kind (typed.kinds i lt) (wires (instance_at T i)) (wires-on T typed i lt) b c fires.acts)
        by (Starts j a) fires =
            let lt = live_within T i fires.live in
            let s = act-starts rows P all (instance_at T i).kind (typed.kinds i lt) (wires (instance_at T i)) (wires-on T typed i lt) b j a fires.acts in
            let mid = typed-cell T i b quiet typed lt (quiet-cell rows (module_at P (instance_at T i).kind) b) in
            let kind : (instance_at (set_cell T i b quiet) i).kind ≡ (instance_at T i).kind = rw (set-here T i (with_cell (instance_at T i) b quiet) lt) refl in
            typed-push (set_cell T i b quiet) i b j a mid (omega (arith, lt, length-set T i (with_cell (instance_at T i) b quiet))) (rw kind s)

    typed-end : (T : Table) → IsTyped rows P T → (i : ℕ) → is_ready P T (End i) ≡ true → IsTyped rows P (step P T (End i))
    unfolding step
    typed-end T typed i ready = by (instance_at T i).parent refl
      where
        lt : i < length T
        lt = live_within T i (over-ready P T i ready).0

        o : Outcome
        o = end_of P (instance_at T i)

        of : IsOutcome rows (module_at P (instance_at T i).kind).name o
        of = outcome-of rows P (instance_at T i).kind (all.modules (instance_at T i).kind (typed.kinds i lt)) (wires (instance_at T i)) (wires-on T typed i lt)
            (fired (instance_at T i)) (λ b c e. typed.cells i b c lt e)

        mid : Table
        mid = slice_set T i (ended (instance_at T i) o)

        typed_mid : IsTyped rows P mid
        typed_mid = typed-ended T i o typed lt

        by : (parent : Option (ℕ × ℕ)) → (instance_at T i).parent ≡ parent → IsTyped rows P (deliver mid parent o)
        by None is = typed_mid
        by (Some p) is =
            let was : (instance_at mid i).parent ≡ Some (p.0, p.1) = rw (set-here T i (ended (instance_at T i) o) lt) is in
            let in_mid : i < length mid = omega (arith, lt, length-set T i (ended (instance_at T i) o)) in
            let c = typed_mid.called i p.0 p.1 in_mid was in
            let kind : (instance_at mid i).kind ≡ (instance_at T i).kind = rw (set-here T i (ended (instance_at T i) o) lt) refl in
            let named : (module_at P (instance_at T i).kind).name ≡ c.name = rw kind at c.named in
            typed-cell mid p.0 p.1 (returned (instance_at mid p.0).kind p.1 o) typed_mid c.within
            (start-returned rows P all (instance_at mid p.0).kind (typed_mid.kinds p.0 c.within) p.1 c.row c.there c.name c.is_call o (rw named at of))

    typed-step : (T : Table) → IsTyped rows P T → (e : Event) → is_ready P T e ≡ true → IsTyped rows P (step P T e)
    typed-step T typed (Fire i b) ready = typed-fire T typed i b ready
    typed-step T typed (End i) ready = typed-end T typed i ready

    pub typed-run : (T : Table) (events : List Event) → IsTyped rows P T → EachReady P T events → IsTyped rows P (after P T events)
    typed-run T [] typed ready = typed
    typed-run T (e ∷ events) typed ready = typed-run (step P T e) events (typed-step T typed e ready.0) ready.1
