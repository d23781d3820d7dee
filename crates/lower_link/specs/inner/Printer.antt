-- The printer's code, and what it does with a value.
use Rattle.std.specs.Prelude.{ℕ, ◌+◌, List, ◌∷◌, ◌++◌, ◌<◌, codes, ◌*◌, ◌≤◌, length, ◌≡◌, false}
use Rattle.std.specs.Prelude.{Some, ◌^◌, slice_index, None, true, []}
use Rattle.um_word.specs.declared.op.Op.{Op}
use Rattle.code_templates.specs.Templates.{write_byte, push_work, pop_work, branch_on_slot}
use Rattle.code_templates.specs.Templates.{go_to_part, start_text, go_to_text, halt}
use Rattle.um_word.specs.State.{State, Arrays, reg}
use Rattle.code_templates.specs.inner.Spent.{spent}
use Rattle.um_word.specs.Loads.{Loads}
use Rattle.um_word.specs.Leads.{Leads}
use Rattle.code_templates.specs.Lines.{IsOwnAt, StandsAt}
use Rattle.codex_values.specs.Value.{Value, unit, pair, inl, inr, show}
use Rattle.lower_emit.specs.inner.Stretches.{KeepsArrays}
use Rattle.lower_emit.specs.Entered.{BlocksStand}
use Rattle.lower_emit.specs.Stands.{Stands, TextTrail, At, Via, Trails, Ending}
use Rattle.lower_emit.specs.inner.Uses.{Returned}
use Rattle.std.specs.FinMap as map

-- one template for each byte
abbrev pub writes : List ℕ → List Op
writes [] = []
writes (byte ∷ bytes) = write_byte byte ++ writes bytes

-- each is a byte
abbrev pub AreBytes : List ℕ → Type 0
AreBytes [] = Unit {0}
AreBytes (byte ∷ bytes) = (byte < 256) × AreBytes bytes

-- the part that prints values, from place 15 on
abbrev pub print_value_code : List Op
print_value_code =
    branch_on_slot 0 21 43  -- 15
    ++ branch_on_slot 1 27 55  -- 21
    ++ branch_on_slot 2 33 67  -- 27
    ++ writes (codes "()") ++ pop_work  -- 33
    ++ writes (codes "Inl ") ++ go_to_part 0 15  -- 43
    ++ writes (codes "Inr ") ++ go_to_part 1 15  -- 55
    ++ writes (codes "(") ++ push_work 97 ++ push_work 91 ++ go_to_part 2 15  -- 67
    ++ writes (codes ",") ++ go_to_part 3 15  -- 91
    ++ writes (codes ")") ++ pop_work  -- 97

-- what is spent, and this credit besides, is within the base and 200 for each byte that was written
abbrev pub IsPaid : (base credit : ℕ) → State → Type 0
IsPaid base credit s = spent s + credit ≤ base + 200 * length s.out

-- the words of the blocks by their numbers, and the arrays that hold them
pub record Kept : Type 0 where
  pub words : ℕ → List ℕ
  pub ids : List ℕ

-- they stand there, and register 1 names their table
abbrev pub IsKept : Kept → State → Type 0
IsKept kept s = BlocksStand kept.words kept.ids s

-- n cycles of the printer's own, which load no array, are paid for and keep the blocks, lead to Q:
-- from a state with one credit to a state with another
abbrev pub Prints : Loads → (base : ℕ) → Kept → (before after n : ℕ) → (State → Type 0) → State →
    Type 0
Prints l base kept before after n Q s =
    IsPaid base before s → IsKept kept s →
    Leads (λ t k. IsOwnAt t × (k ≡ l) × IsPaid base 0 t × IsKept kept t) n
    (λ t k. Q t × (k ≡ l) × IsPaid base after t × IsKept kept t) s l

-- the machine is in the printer: at a place, with the cell that is printed, the stack, the arrays
-- and the output
pub record InPrinter (table place cell stack : ℕ) (arrays : Arrays) (out : List ℕ)
    (s : State) : Type 0 where
  pub running : s.halted ≡ false
  pub finger : s.finger ≡ place
  pub eight : length s.registers ≡ 8
  pub zero_is : reg s 0 ≡ 0
  pub table_is : reg s 1 ≡ table
  pub current_is : reg s 2 ≡ cell
  pub stack_is : reg s 3 ≡ stack
  pub arrays_are : s.arrays ≡ arrays
  pub out_is : s.out ≡ out

-- the cycles in which a value is printed
abbrev pub print_cycles : Value → ℕ
print_cycles unit = 28
print_cycles (inl v) = 18 + print_cycles v
print_cycles (inr v) = 24 + print_cycles v
print_cycles (pair v w) = 42 + (print_cycles v + (6 + (print_cycles w + 8)))

-- done with a value: it goes on at the place and with the cell and the rest that lay on the stack
pub record Printed (table place cell stack : ℕ) (arrays : Arrays) (code out : List ℕ)
    (t : State) : Type 0 where
  pub now : Arrays
  pub keeps : KeepsArrays 0 arrays now
  pub code_is : map.get now 0 ≡ Some code
  pub here : InPrinter table place cell stack now out t

-- From `print`, with a cell that stands for v and a stack that isn't empty, the text of v is
-- written; a credit of 20 is enough, and is left.
unfoldable pub PrintLaw : Type 0
PrintLaw = (base : ℕ) (kept : Kept) (table : ℕ) (code : List ℕ) (l : Loads) (v : Value)
    (cell stack place next rest : ℕ) (arrays : Arrays) (out : List ℕ) (s : State) →
    StandsAt code 15 print_value_code → map.get arrays 0 ≡ Some code →
    InPrinter table 15 cell stack arrays out s → Stands arrays cell v →
    (stack ≡ 0 → ⊥) → map.get arrays stack ≡ Some (place ∷ next ∷ rest ∷ []) →
    Prints l base kept 20 20 (print_cycles v)
    (Printed table place next rest arrays code (out ++ show v)) s

-- all of the printer's code but the places of the texts and the texts
abbrev pub printer_code : List Op
printer_code =
    start_text 6 108  -- 0
    ++ (push_work 105  -- 6
    ++ (print_value_code  -- 15
    ++ (write_byte 10  -- 105
    ++ (halt  -- 107
    ++ (push_work 107  -- 108
    ++ (push_work 142  -- 117
    ++ (branch_on_slot 1 132 138  -- 126
    ++ (pop_work  -- 132
    ++ (go_to_part 1 117  -- 138
    ++ go_to_text 147)))))))))  -- 142

-- the printer's block, with so many texts: behind the code stand their places, and there each text
-- is written
pub record IsPrinter (code : List ℕ) (text : ℕ → List ℕ) (texts : ℕ) : Type 0 where
  pub stand : StandsAt code 0 printer_code
  pub small : length code ≤ 2 ^ 32
  pub inside : 147 + texts ≤ length code
  pub bytes : (j : ℕ) → j < texts → AreBytes (text j)
  pub written : (j : ℕ) → j < texts → StandsAt code (slice_index code (j + 147))
      (writes (text j) ++ pop_work)

-- the texts of a trail, the innermost first
abbrev pub lines : (ℕ → List ℕ) → TextTrail → List ℕ
lines text (At j) = text j
lines text (Via j inner) = lines text inner ++ text j

-- the trail names texts that are there
abbrev pub AreTexts : ℕ → TextTrail → Type 0
AreTexts texts (At j) = j < texts
AreTexts texts (Via j inner) = (j < texts) × AreTexts texts inner

-- the cycles in which the lines of a trail are printed
abbrev pub line_cycles : (ℕ → List ℕ) → TextTrail → ℕ
line_cycles text (At j) = 21 + (11 + 2 * length (text j))
line_cycles text (Via j inner) = 19 + (line_cycles text inner + (11 + 2 * length (text j)))

-- the sites and callers of a trail
abbrev pub members : TextTrail → ℕ
members (At j) = 1
members (Via j inner) = 1 + members inner

-- From `rev`, with a cell that stands for a trail and a stack that isn't empty, the lines of the
-- trail are written; a credit of 108 for each of its members is enough, and what is spare is left.
unfoldable pub LinesLaw : Type 0
LinesLaw = (base : ℕ) (kept : Kept) (spare table : ℕ) (code : List ℕ) (text : ℕ → List ℕ)
    (texts : ℕ) (l : Loads) (r : TextTrail) (cell stack place next rest : ℕ) (arrays : Arrays)
    (out : List ℕ) (s : State) →
    IsPrinter code text texts → AreTexts texts r → map.get arrays 0 ≡ Some code →
    InPrinter table 117 cell stack arrays out s → Trails arrays cell r →
    (stack ≡ 0 → ⊥) → map.get arrays stack ≡ Some (place ∷ next ∷ rest ∷ []) →
    Prints l base kept (108 * members r + spare) spare (line_cycles text r)
    (Printed table place next rest arrays code (out ++ lines text r)) s

-- what is printed of an outcome: a value, or where it is stuck
pub data Shown : Type 0 where
  ShowsValue : Value → Shown
  ShowsTrail : TextTrail → Shown

-- the ending of which this is printed
abbrev pub shown_came : Shown → Ending
shown_came (ShowsValue v) = record { value = Some v; mark = None }
shown_came (ShowsTrail r) = record { value = None; mark = Some r }

-- its text
abbrev pub shown_text : (ℕ → List ℕ) → Shown → List ℕ
shown_text text (ShowsValue v) = show v ++ codes "\n"
shown_text text (ShowsTrail r) = lines text r

-- it names texts that are there
abbrev pub AreShown : ℕ → Shown → Type 0
AreShown texts (ShowsValue v) = Unit {0}
AreShown texts (ShowsTrail r) = AreTexts texts r

-- the cycles in which it is printed
abbrev pub shown_cycles : (ℕ → List ℕ) → Shown → ℕ
shown_cycles text (ShowsValue v) = 18 + print_cycles v
shown_cycles text (ShowsTrail r) = 16 + line_cycles text r

-- the credit that this takes, beside what its bytes give
abbrev pub shown_credit : Shown → ℕ
shown_credit (ShowsValue v) = 111
shown_credit (ShowsTrail r) = 92 + 108 * members r

-- the machine has halted with this output
pub record Over (out : List ℕ) (t : State) : Type 0 where
  pub halted : t.halted ≡ true
  pub out_is : t.out ≡ out

-- Where a block has returned to the printer, the text of the outcome is written, and the machine
-- halts; its credit is enough.
unfoldable pub PrinterLaw : Type 0
PrinterLaw = (base : ℕ) (kept : Kept) (blocks : ℕ → List ℕ) (text : ℕ → List ℕ)
    (texts table number : ℕ) (shown : Shown) (frame : ℕ) (l : Loads) (s t : State) →
    IsPrinter (blocks number) text texts → AreShown texts shown →
    Returned blocks table (record { caller = 0; block = number; offset = 0 })
    (shown_came shown) frame s t →
    Prints l base kept (shown_credit shown) 0 (shown_cycles text shown)
    (Over (t.out ++ shown_text text shown)) t
