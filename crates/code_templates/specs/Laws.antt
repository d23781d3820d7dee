-- What the templates do, under any limits and with whatever legal identifiers are handed out.
use Rattle.std.specs.Prelude as list
use Rattle.std.specs.Prelude.{◌≡◌, ◌≢◌, ℕ, zero, suc, ◌+◌, ◌-◌, ◌*◌, ◌^◌, ◌<◌, ◌≤◌, false, true}
use Rattle.std.specs.Prelude.{List, [], ◌∷◌, ◌++◌, length, Some, All, slice_index, slice_set}
use Rattle.std.specs.Prelude.{replicate, take, drop}
use Rattle.std.specs.FinMap as map
use Rattle.um_word.specs.declared.op.Op.{Op}
use Rattle.um_word.specs.State.{State, Arrays, reg}
use Rattle.umix_base.specs.declared.limits.Limits.{Limits}
use Rattle.um_word.specs.Run.{run, first_of, ids_left, AreLegal}
use Rattle.um_word.specs.Loads.{Loads, loads_by, IsLimit}
use Rattle.um_word.specs.Leads.{IsNew, OnStanding}
use Rattle.code_templates.specs.declared.template.Row.{Row}
use Rattle.code_templates.specs.Lines.{StandsWithin}
use Rattle.code_templates.specs.Rows.{filled, HoleFits}
use Rattle.code_templates.specs.Templates.{make_cell, set_slot, choose_slot, read_part}
use Rattle.code_templates.specs.Templates.{branch_on_slot, call_block, take_outcome, return_outcome}
use Rattle.code_templates.specs.Templates.{start_text, write_byte, push_work, pop_work, go_to_part}
use Rattle.code_templates.specs.Templates.{go_to_text, halt, make_table, copy_block}

-- so many words from a place on
abbrev pub piece : (place size : ℕ) → List ℕ → List ℕ
piece place size words = take size (drop place words)

-- an array other than 0, with these words
pub record HasWords (arrays : Arrays) (id : ℕ) (words : List ℕ) : Type 0 where
  pub not_zero : id ≢ 0
  pub there : map.get arrays id ≡ Some words

-- x where c isn't 0, and else y
abbrev pub chosen_word : (c x y : ℕ) → ℕ
chosen_word zero x y = y
chosen_word (suc c) x y = x

-- a cell as it is made
abbrev pub empty_cell : List ℕ
empty_cell = 0 ∷ 0 ∷ 0 ∷ 0 ∷ []

-- The machine comes to a template: the words that filling its rows gives stand under the finger,
-- with values that fit and begin with these; register 0 is 0, register 1 the table of blocks, and
-- register 2 the record that the template works on.
pub record ComesToRows (rows : List Row) (holes : List ℕ) (table current : ℕ) (s : State) :
    Type 0 where
  pub running : s.halted ≡ false
  pub more : List ℕ
  pub fits : All (HoleFits (holes ++ more)) rows
  pub code : List ℕ
  pub code_is : map.get s.arrays 0 ≡ Some code
  pub words : piece s.finger (length rows) code ≡ list.map (filled (holes ++ more)) rows
  pub eight : length s.registers ≡ 8
  pub zero_is : reg s 0 ≡ 0
  pub table_is : reg s 1 ≡ table
  pub current_is : reg s 2 ≡ current

-- The machine leaves a template that it came to in state s: it goes on at a place, with this
-- table, this record, these arrays and this output; no input was read. Registers 3 to 7 are left
-- open: a law says more where one of them carries something on.
pub record Leaves (place table current : ℕ) (arrays : Arrays) (out : List ℕ) (s t : State) :
    Type 0 where
  pub running : t.halted ≡ false
  pub finger : t.finger ≡ place
  pub eight : length t.registers ≡ 8
  pub zero_is : reg t 0 ≡ 0
  pub table_is : reg t 1 ≡ table
  pub current_is : reg t 2 ≡ current
  pub arrays_are : t.arrays ≡ arrays
  pub out_is : t.out ≡ out
  pub rest_is : t.rest ≡ s.rest

-- The machine has halted; nothing else has changed that others can see.
pub record IsHalted (s t : State) : Type 0 where
  pub halted : t.halted ≡ true
  pub table_is : reg t 1 ≡ reg s 1
  pub arrays_are : t.arrays ≡ s.arrays
  pub out_is : t.out ≡ s.out
  pub rest_is : t.rest ≡ s.rest

-- How many words a template has, after how many cycles it is left, which of the arrays that stood
-- before it may amend, and what its cycles load.
pub record Course : Type 0 where
  pub size : ℕ
  pub cycles : ℕ
  pub amends : List ℕ
  pub loads : Loads

-- so many words, with one cycle each, these arrays amended, and no load
abbrev pub straight_on : ℕ → List ℕ → Course
straight_on n amends = record { size = n; cycles = n; amends = amends; loads = [] }

-- it stands within, and these are the loads
abbrev pub Quietly : (place size : ℕ) (but : List ℕ) (came : State) (loads : Loads) →
    State → Loads → Type 0
Quietly place size but came loads t l = StandsWithin place size but came t × (l ≡ loads)

-- After n cycles from s on, which made these loads, the machine is on its course to Q: until the
-- last cycle it stands within the template, and has loaded nothing; then there is Q, and the loads
-- are those of the course.
pub record IsOnCourse (course : Course) (Q : State → Type 0) (s : State) (n : ℕ) (loads : Loads)
    (t : State) : Type 0 where
  pub before : n < course.cycles → Quietly s.finger course.size course.amends s [] t loads
  pub after : n ≡ course.cycles → Q t × (loads ≡ course.loads)

-- At each of its cycles, under any limits and with any legal identifiers, the machine is on its
-- course to Q; or it has come to a limit, stands within the template, and has loaded nothing.
abbrev pub InRuns : Course → (State → Type 0) → State → Type 0
InRuns course Q s = (L : Limits) (ids : List ℕ) (n : ℕ) → n ≤ course.cycles → AreLegal L n ids s →
    let loads = loads_by first_of ids_left L n ids s in
    OnStanding (run L n ids s) (IsOnCourse course Q s n loads)
    (λ t fault. IsLimit fault × Quietly s.finger course.size course.amends s [] t loads)

-- A way to read a law: what it is to come to a template, with values in its first holes and as
-- operators, and what it is that a course leads from there to Q.
pub record Way : Type 1 where
  pub comes : (holes : List ℕ) (ops : List Op) (table current : ℕ) → State → Type 0
  pub leads : Course → (Q : State → Type 0) → State → Type 0

-- the way of rows: where the words that they give stand, runs of the machine are as said
abbrev pub runs_of : List Row → Way
runs_of rows = record { comes = λ holes ops. ComesToRows rows holes; leads = InRuns }

-- Slot d of the frame becomes a new cell, with word i from slot a and word j from slot b.
unfoldable pub MakeCellLaw : Way → Type 0
MakeCellLaw way = (a b i j d table frame : ℕ) (slots : List ℕ) (s : State) →
    way.comes (a ∷ b ∷ i ∷ j ∷ d ∷ []) (make_cell a b i j d) table frame s →
    HasWords s.arrays frame slots →
    a < length slots → b < length slots → d < length slots → i < 4 → j < 4 →
    let x = slice_index slots a in
    let y = slice_index slots b in
    way.leads (straight_on 12 (frame ∷ [])) (λ t. (new : ℕ) × IsNew s.arrays new ×
    Leaves (s.finger + 12) table frame
    (map.insert (map.insert s.arrays new (slice_set (slice_set empty_cell i x) j y)) frame
    (slice_set slots d new)) s.out s t) s

-- Slot d of the frame becomes k.
unfoldable pub SetSlotLaw : Way → Type 0
SetSlotLaw way = (k d table frame : ℕ) (slots : List ℕ) (s : State) →
    way.comes (k ∷ d ∷ []) (set_slot k d) table frame s →
    HasWords s.arrays frame slots → d < length slots →
    way.leads (straight_on 3 (frame ∷ [])) (Leaves (s.finger + 3) table frame
    (map.insert s.arrays frame (slice_set slots d k)) s.out s) s

-- Slot d of the frame becomes slot a where slot c isn't 0, and else slot b.
unfoldable pub ChooseSlotLaw : Way → Type 0
ChooseSlotLaw way = (c a b d table frame : ℕ) (slots : List ℕ) (s : State) →
    way.comes (c ∷ a ∷ b ∷ d ∷ []) (choose_slot c a b d) table frame s →
    HasWords s.arrays frame slots →
    c < length slots → a < length slots → b < length slots → d < length slots →
    let word = chosen_word (slice_index slots c) (slice_index slots a) (slice_index slots b) in
    way.leads (straight_on 9 (frame ∷ [])) (Leaves (s.finger + 9) table frame
    (map.insert s.arrays frame (slice_set slots d word)) s.out s) s

-- Slot d of the frame becomes word f of the array in slot x.
unfoldable pub ReadPartLaw : Way → Type 0
ReadPartLaw way = (x f d table frame : ℕ) (slots words : List ℕ) (s : State) →
    way.comes (x ∷ f ∷ d ∷ []) (read_part x f d) table frame s →
    HasWords s.arrays frame slots → map.get s.arrays (slice_index slots x) ≡ Some words →
    x < length slots → d < length slots → f < length words →
    way.leads (straight_on 6 (frame ∷ [])) (Leaves (s.finger + 6) table frame
    (map.insert s.arrays frame (slice_set slots d (slice_index words f))) s.out s) s

-- Go to one place where slot x is 0, and else to the other; no array changes, and register 3 is as
-- it was.
unfoldable pub BranchOnSlotLaw : Way → Type 0
BranchOnSlotLaw way = (x none some table frame : ℕ) (slots : List ℕ) (s : State) →
    way.comes (x ∷ none ∷ some ∷ []) (branch_on_slot x none some) table frame s →
    map.get s.arrays frame ≡ Some slots → x < length slots →
    way.leads (straight_on 6 []) (λ t.
    Leaves (chosen_word (slice_index slots x) some none) table frame s.arrays s.out s t
    × (reg t 3 ≡ reg s 3)) s

-- Make a frame that says where to return to and has the two values, and load the callee's block at
-- its first word.
unfoldable pub CallBlockLaw : Way → Type 0
CallBlockLaw way =
    (n w callee size own back table caller : ℕ) (slots blocks block : List ℕ) (s : State) →
    way.comes (n ∷ w ∷ callee ∷ size ∷ own ∷ back ∷ []) (call_block n w callee size own back)
    table caller s → 5 ≤ size →
    map.get s.arrays caller ≡ Some slots → n < length slots → w < length slots →
    map.get s.arrays table ≡ Some blocks → callee < length blocks →
    HasWords s.arrays (slice_index blocks callee) block →
    let north = slice_index slots n in
    let west = slice_index slots w in
    let words = caller ∷ own ∷ back ∷ north ∷ west ∷ replicate (size - 5) 0 in
    way.leads
    (record {
      size = 21;
      cycles = 21;
      amends = [];
      loads = record { words = block; offset = 0 } ∷ [];
    })
    (λ t. (new : ℕ) × IsNew s.arrays new ×
    Leaves 0 table new (map.insert (map.insert s.arrays new words) 0 block) s.out s t) s

-- Slots v and x of the frame become the outcome that a block returned in registers 3 and 4.
unfoldable pub TakeOutcomeLaw : Way → Type 0
TakeOutcomeLaw way = (v x table frame : ℕ) (slots : List ℕ) (s : State) →
    way.comes (v ∷ x ∷ []) (take_outcome v x) table frame s →
    HasWords s.arrays frame slots → v < length slots → x < length slots →
    way.leads (straight_on 4 (frame ∷ [])) (Leaves (s.finger + 4) table frame
    (map.insert s.arrays frame (slice_set (slice_set slots v (reg s 3)) x (reg s 4))) s.out s) s

-- Load the block that the frame says, at the offset that it says, with the outcome in registers 3
-- and 4.
unfoldable pub ReturnOutcomeLaw : Way → Type 0
ReturnOutcomeLaw way = (table frame : ℕ) (slots blocks block : List ℕ) (s : State) →
    way.comes [] return_outcome table frame s →
    map.get s.arrays frame ≡ Some slots → 7 ≤ length slots →
    map.get s.arrays table ≡ Some blocks → slice_index slots 1 < length blocks →
    HasWords s.arrays (slice_index blocks (slice_index slots 1)) block →
    let back = slice_index slots 2 in
    way.leads
    (record {
      size = 11;
      cycles = 11;
      amends = [];
      loads = record { words = block; offset = back } ∷ [];
    })
    (λ t.
    Leaves back table (slice_index slots 0) (map.insert s.arrays 0 block) s.out s t
    × (reg t 3 ≡ slice_index slots 5) × (reg t 4 ≡ slice_index slots 6)) s

-- The outcome in registers 3 and 4 becomes the record, which was none: go to one place for a
-- value, to the other for a trail.
unfoldable pub StartTextLaw : Way → Type 0
StartTextLaw way = (value trail table : ℕ) (s : State) →
    way.comes (value ∷ trail ∷ []) (start_text value trail) table 0 s →
    way.leads (straight_on 6 []) (Leaves (chosen_word (reg s 3) value trail) table
    (chosen_word (reg s 3) (reg s 3) (reg s 4)) s.arrays s.out s) s

-- Write the byte c; register 3 is as it was.
unfoldable pub WriteByteLaw : Way → Type 0
WriteByteLaw way = (c table current : ℕ) (s : State) →
    way.comes (c ∷ []) (write_byte c) table current s → c < 256 →
    way.leads (straight_on 2 []) (λ t.
    Leaves (s.finger + 2) table current s.arrays (s.out ++ c ∷ []) s t × (reg t 3 ≡ reg s 3)) s

-- Put a place and the record on the stack, which is a list of arrays from that in register 3 on.
unfoldable pub PushWorkLaw : Way → Type 0
PushWorkLaw way = (place table current : ℕ) (s : State) →
    way.comes (place ∷ []) (push_work place) table current s →
    way.leads (straight_on 9 []) (λ t. (new : ℕ) × IsNew s.arrays new ×
    Leaves (s.finger + 9) table current
    (map.insert s.arrays new (place ∷ current ∷ reg s 3 ∷ [])) s.out s t × (reg t 3 ≡ new)) s

-- Take a place and a record from the stack, and go there.
unfoldable pub PopWorkLaw : Way → Type 0
PopWorkLaw way = (place table current next rest : ℕ) (s : State) →
    way.comes [] pop_work table current s →
    map.get s.arrays (reg s 3) ≡ Some (place ∷ next ∷ rest ∷ []) →
    way.leads (straight_on 6 []) (λ t.
    Leaves place table next s.arrays s.out s t × (reg t 3 ≡ rest)) s

-- The record becomes its own word f: go to a place; register 3 is as it was.
unfoldable pub GoToPartLaw : Way → Type 0
GoToPartLaw way = (f place table current : ℕ) (words : List ℕ) (s : State) →
    way.comes (f ∷ place ∷ []) (go_to_part f place) table current s →
    map.get s.arrays current ≡ Some words → f < length words →
    way.leads (straight_on 4 []) (λ t.
    Leaves place table (slice_index words f) s.arrays s.out s t × (reg t 3 ≡ reg s 3)) s

-- Go to the place that stands in array 0 at j and as many words further as the record's first word
-- says; register 3 is as it was.
unfoldable pub GoToTextLaw : Way → Type 0
GoToTextLaw way = (j table current : ℕ) (words code : List ℕ) (s : State) →
    way.comes (j ∷ []) (go_to_text j) table current s →
    map.get s.arrays current ≡ Some words → 1 ≤ length words → map.get s.arrays 0 ≡ Some code →
    slice_index words 0 + j < length code → length code ≤ 2 ^ 32 →
    way.leads (straight_on 5 []) (λ t.
    Leaves (slice_index code (slice_index words 0 + j)) table current s.arrays s.out s t
    × (reg t 3 ≡ reg s 3)) s

-- Halt.
unfoldable pub HaltLaw : Way → Type 0
HaltLaw way = (table current : ℕ) (s : State) →
    way.comes [] halt table current s → way.leads (straight_on 1 []) (IsHalted s) s

-- The table becomes a new array of words 0.
unfoldable pub MakeTableLaw : Way → Type 0
MakeTableLaw way = (count table current : ℕ) (s : State) →
    way.comes (count ∷ []) (make_table count) table current s →
    way.leads (straight_on 2 []) (λ t. (new : ℕ) × IsNew s.arrays new ×
    Leaves (s.finger + 2) new current (map.insert s.arrays new (replicate count 0)) s.out s t) s

-- Word i of the table becomes a new array, a copy of so many words of array 0 from a place on.
unfoldable pub CopyBlockLaw : Way → Type 0
CopyBlockLaw way = (size i place table current : ℕ) (blocks code : List ℕ) (s : State) →
    let loop = s.finger + 3 in
    let done = s.finger + 12 in
    way.comes (size ∷ i ∷ place ∷ loop ∷ done ∷ []) (copy_block size i place loop done)
    table current s →
    HasWords s.arrays table blocks → i < length blocks →
    map.get s.arrays 0 ≡ Some code → 1 ≤ size → place + size ≤ length code →
    length code ≤ 2 ^ 32 →
    way.leads (record { size = 14; cycles = 5 + 9 * size; amends = table ∷ []; loads = [] })
    (λ t. (new : ℕ) × IsNew s.arrays new ×
    Leaves (s.finger + 14) table current
    (map.insert (map.insert s.arrays new (piece place size code)) table (slice_set blocks i new))
    s.out s t) s
