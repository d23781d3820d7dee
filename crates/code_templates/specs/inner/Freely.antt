-- The way in which proofs read the laws of templates: as operators, without limits.
use Rattle.std.specs.Prelude.{◌≡◌, ℕ, ◌++◌, false, List, length, Some}
use Rattle.std.specs.FinMap as map
use Rattle.um_word.specs.declared.op.Op.{Op}
use Rattle.um_word.specs.State.{State, reg}
use Rattle.um_word.specs.Loads.{Loads}
use Rattle.um_word.specs.Leads.{Leads}
use Rattle.code_templates.specs.Lines.{StandsAt}
use Rattle.code_templates.specs.Laws.{Quietly, Way}

-- The machine comes to operators, which stand under the finger, with registers as in
-- `ComesToRows`.
pub record ArrivesAt (ops : List Op) (table current : ℕ) (s : State) : Type 0 where
  pub running : s.halted ≡ false
  pub code : List ℕ
  pub code_is : map.get s.arrays 0 ≡ Some code
  pub operators : StandsAt code s.finger ops
  pub eight : length s.registers ≡ 8
  pub zero_is : reg s 0 ≡ 0
  pub table_is : reg s 1 ≡ table
  pub current_is : reg s 2 ≡ current

-- it is led to Q without limits, whatever new identifiers are handed out
abbrev pub Freely : (size cycles : ℕ) (but : List ℕ) → Loads → (State → Type 0) → State → Type 0
Freely size cycles but loads Q s =
    (l : Loads) → Leads (Quietly s.finger size but s l) cycles (λ t k. Q t × (k ≡ l ++ loads)) s l

-- the way of operators: so the proofs of crates above join laws before they look at limits
abbrev pub freely : Way
freely = record {
  comes = λ holes. ArrivesAt;
  leads = λ course. Freely course.size course.cycles course.amends course.loads;
}
