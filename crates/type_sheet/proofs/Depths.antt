-- What a module of a program that fits means.
use Rattle.std.specs.Prelude.{◌≡◌, ℕ, zero, suc, ◌<◌, List, length, Option, Some, None, Bool, true, false, if◌then◌else◌}
use Rattle.std.specs.Option.{option_map, option_and_then}
use Rattle.std.proofs.Common.{refl}
use Rattle.codex_values.specs.Value.{Value}
use Rattle.two_d.specs.declared.module.Origin.{Origin}
use Rattle.two_d.specs.declared.module.To.TheVariants.{N, W}
use Rattle.two_d.specs.Meaning.{Inputs, Outcome, Cell, Effect, Done, Starts, Meaning, Answers, effect_of, returned, cell_of, act, inputs_of, cells_from, none_fired, pulled, look_of, all_known, summary_of, meaning_of, mean}
use Rattle.two_d.specs.Programs.{Program, BoxForm, find, module_at, box_at, box_count}
use Rattle.two_d.specs.Trees.{call}
use Rattle.two_d.proofs.Options.{option_map_some}
use Rattle.type_sheet.specs.declared.line.SheetRow.{SheetRow}
use Rattle.type_sheet.specs.Wires.{is_wired}
use Rattle.type_sheet.proofs.TestLemmas.{wired}
use Rattle.type_sheet.proofs.Effects.{FitsWell, AreOnWires, AreEntriesOf, IsCellOf, IsOutcome, quiet-cell, ports-from, done-cell, starts-entries, returned-cell, look-on}
use Rattle.type_sheet.proofs.Ends.{outcome-of}

-- each module fits, and each module that is used is there, under its name
pub record AllFit (rows : List SheetRow) (P : Program) : Type 0 where
  pub modules : (m : ℕ) → m < length P → FitsWell rows (module_at P m)
  pub uses : (m b : ℕ) (row : BoxForm) (name : List ℕ) → m < length P → box_at P m b ≡ Some row → row.command ≡ call name →
      (find P name < length P) × ((module_at P (find P name)).name ≡ name)

-- all that these answers say has its types
abbrev pub AnswersFit : List SheetRow → Program → Answers → Type 0
AnswersFit rows P answer = (m : ℕ) (a : Inputs) (r : Meaning) → m < length P → AreEntriesOf rows (module_at P m).name a → answer m a ≡ Some r →
    IsOutcome rows (module_at P m).name r.outcome

-- what box b starts: a module that is there, at values of its entries
pub record IsStart (rows : List SheetRow) (P : Program) (m b j : ℕ) (a : Inputs) : Type 0 where
  pub row : BoxForm
  pub there : box_at P m b ≡ Some row
  pub name : List ℕ
  pub is_call : row.command ≡ call name
  pub number : j ≡ find P name
  pub within : j < length P
  pub named : (module_at P j).name ≡ name
  pub entries : AreEntriesOf rows (module_at P j).name a

start-from : (rows : List SheetRow) (P : Program) (m b j : ℕ) (a : Inputs) (row : BoxForm) → box_at P m b ≡ Some row → (name : List ℕ) → row.command ≡ call name →
    j ≡ find P name → find P name < length P → (module_at P (find P name)).name ≡ name → AreEntriesOf rows name a → IsStart rows P m b j a
start-from rows P m b j a row at name is number within named entries = record {
  row = row;
  there = at;
  name = name;
  is_call = is;
  number = number;
  within = rw number within;
  named = rw number named;
  entries = rw (number, named) entries;
}

module _ (rows : List SheetRow) (P : Program) (all : AllFit rows P) (m : ℕ) (lt : m < length P) (look : Origin → Option Value)
    (on : AreOnWires rows (module_at P m) look) where
  inputs-wired : (b : ℕ) (row : BoxForm) → box_at P m b ≡ Some row →
      ((p : Origin) → row.n ≡ Some p → is_wired (module_at P m) p ≡ true) × ((p : Origin) → row.w ≡ Some p → is_wired (module_at P m) p ≡ true)
  inputs-wired b row at = (λ p e. wired (module_at P m) p (N b) (row, at, e), λ p e. wired (module_at P m) p (W b) (row, at, e))

  -- what a box that is enabled does
  pub act-done : (b : ℕ) (c : Cell) → act P m look b ≡ Some (Done c) → IsCellOf rows (module_at P m) b c
  act-done b c e = by (box_at P m b) refl e
    where
      by : (row : Option BoxForm) → box_at P m b ≡ row →
          option_and_then (λ (row : BoxForm). option_map (effect_of P m b row.command) (inputs_of look row)) row ≡ Some (Done c) → IsCellOf rows (module_at P m) b c
      by None at f = absurd (cc)
      by (Some row) at f =
          let (a, inputs, effect) = option_map_some (effect_of P m b row.command) (inputs_of look row) (Done c) f in
          done-cell rows (module_at P m) (all.modules m lt) P m b row at a
          (ports-from rows (module_at P m) look on row (inputs-wired b row at) a inputs) c effect

  pub act-starts : (b j : ℕ) (a : Inputs) → act P m look b ≡ Some (Starts j a) → IsStart rows P m b j a
  act-starts b j a e = by (box_at P m b) refl e
    where
      by : (row : Option BoxForm) → box_at P m b ≡ row →
          option_and_then (λ (row : BoxForm). option_map (effect_of P m b row.command) (inputs_of look row)) row ≡ Some (Starts j a) → IsStart rows P m b j a
      by None at f = absurd (cc)
      by (Some row) at f =
          let (given, inputs, effect) = option_map_some (effect_of P m b row.command) (inputs_of look row) (Starts j a) f in
          let (name, is, number, entries) = starts-entries rows (module_at P m) (all.modules m lt) P m b row at look on (inputs-wired b row at) given inputs j a effect in
          let (within, named) = all.uses m b row name lt at is in
          start-from rows P m b j a row at name is number within named entries

-- what the instance that a box started ends with, at the box
pub start-returned : (rows : List SheetRow) (P : Program) (all : AllFit rows P) (m : ℕ) → m < length P → (b : ℕ) (row : BoxForm) → box_at P m b ≡ Some row →
    (name : List ℕ) → row.command ≡ call name → (o : Outcome) → IsOutcome rows name o → IsCellOf rows (module_at P m) b (returned m b o)
start-returned rows P all m lt b row at name is o of = returned-cell rows (module_at P m) (all.modules m lt) m b row at name is o of

module _ (rows : List SheetRow) (P : Program) (all : AllFit rows P) (answer : Answers) (fit : AnswersFit rows P answer) (m : ℕ) (lt : m < length P) where
  cells-fit : (look : Origin → Option Value) → AreOnWires rows (module_at P m) look → (b : ℕ) (c : Cell) → cells_from P answer m look b ≡ Some c →
      IsCellOf rows (module_at P m) b c
  cells-fit look on b c e =
      let (x, acts, is) = option_map_some (cell_of m b answer) (act P m look b) c e in
      rw (← is) (by x acts)
    where
      known : (j : ℕ) (a : Inputs) → IsStart rows P m b j a → (r : Option Meaning) → answer j a ≡ r →
          IsCellOf rows (module_at P m) b (cell_of m b (λ _ _. r) (Starts j a))
      known j a s None is = quiet-cell rows (module_at P m) b
      known j a s (Some r) is =
          start-returned rows P all m lt b s.row s.there s.name s.is_call r.outcome (rw s.named at (fit j a r s.within s.entries is))

      by : (x : Effect) → act P m look b ≡ Some x → IsCellOf rows (module_at P m) b (cell_of m b answer x)
      by (Done d) acts = act-done rows P all m lt look on b d acts
      by (Starts j a) acts = known j a (act-starts rows P all m lt look on b j a acts) (answer j a) refl

  pulled-on : (a : Inputs) → AreEntriesOf rows (module_at P m).name a → (k : ℕ) → AreOnWires rows (module_at P m) (pulled P answer m a k)
  unfolding pulled
  pulled-on a entries zero = look-on rows (module_at P m) (all.modules m lt) a entries none_fired (λ b c e. absurd (cc))
  pulled-on a entries (suc k) =
      look-on rows (module_at P m) (all.modules m lt) a entries (cells_from P answer m (pulled P answer m a k)) (cells-fit (pulled P answer m a k) (pulled-on a entries k))

  pub meaning-fits : (a : Inputs) (r : Meaning) → AreEntriesOf rows (module_at P m).name a → meaning_of P answer m a ≡ Some r →
      IsOutcome rows (module_at P m).name r.outcome
  unfolding meaning_of
  meaning-fits a r entries e = by (all_known P answer m (look_of P answer m a)) e
    where
      on : AreOnWires rows (module_at P m) (look_of P answer m a)
      on = pulled-on a entries (box_count P m)

      by : (t : Bool) → (if t then Some (summary_of P answer m (look_of P answer m a)) else None) ≡ Some r → IsOutcome rows (module_at P m).name r.outcome
      by false f = absurd (cc)
      by true f =
          let same : summary_of P answer m (look_of P answer m a) ≡ r = cc in
          rw (← same) (outcome-of rows P m (all.modules m lt) (look_of P answer m a) on (cells_from P answer m (look_of P answer m a)) (cells-fit (look_of P answer m a) on))

pub mean-fits : (rows : List SheetRow) (P : Program) → AllFit rows P → (n : ℕ) → AnswersFit rows P (mean P n)
unfolding mean
mean-fits rows P all zero m a r lt entries e = absurd (let f : None ≡ Some r = e in cc)
mean-fits rows P all (suc n) m a r lt entries e = meaning-fits rows P all (mean P n) (mean-fits rows P all n) m lt a r entries e
