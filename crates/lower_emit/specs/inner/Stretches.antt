-- Stretches of a run within one block.
use Rattle.std.specs.Prelude.{◌≡◌, ◌≢◌, ℕ, List, [], ◌∷◌, Some, false, length}
use Rattle.um_word.specs.State.{Arrays, State, reg}
use Rattle.um_word.specs.Loads.{Loaded, Loads}
use Rattle.um_word.specs.Leads.{Leads}
use Rattle.code_templates.specs.Lines.{StandStill}
use Rattle.code_templates.specs.Laws.{Quietly, HasWords}
use Rattle.std.specs.FinMap as map

-- all arrays but array 0 and this frame are as they were
abbrev pub KeepsArrays : ℕ → Arrays → Arrays → Type 0
KeepsArrays frame m n = (k : ℕ) (ws : List ℕ) → k ≢ 0 → k ≢ frame → map.get m k ≡ Some ws →
    map.get n k ≡ Some ws

-- a load of these words, to go on at this offset
abbrev pub load_at : List ℕ → ℕ → Loaded
load_at words offset = record { words = words; offset = offset }

-- that with which a block of these words is entered
abbrev pub entry_of : List ℕ → Loaded
entry_of words = load_at words 0

-- where a stretch is: within so many words of array 0 from a place on, amending no array that stood
-- before it but this frame, since a state with these loads
pub record Range : Type 0 where
  pub place : ℕ
  pub size : ℕ
  pub frame : ℕ
  pub came : State
  pub loads : Loads

-- n cycles that stand within the range lead to Q, and load no array
abbrev pub Stretch : Range → ℕ → (State → Type 0) → State → Type 0
Stretch r n Q s = Leads (Quietly r.place r.size (r.frame ∷ []) r.came r.loads) n (λ t k. Q t
    × (k ≡ r.loads)) s r.loads

-- The machine is in a block: at this place of its code, with this table and this frame, which has
-- these slots; since the state in which the range began nothing was written or read, and no array
-- that stood there but the frame was amended.
pub record InBlock (r : Range) (table frame : ℕ) (code : List ℕ) (place : ℕ) (slots : List ℕ)
    (s : State) : Type 0 where
  pub running : s.halted ≡ false
  pub finger : s.finger ≡ place
  pub eight : length s.registers ≡ 8
  pub zero_is : reg s 0 ≡ 0
  pub table_is : reg s 1 ≡ table
  pub current_is : reg s 2 ≡ frame
  pub code_is : map.get s.arrays 0 ≡ Some code
  pub came_with : map.get r.came.arrays 0 ≡ Some code
  pub came_table : reg r.came 1 ≡ table
  pub framed : r.frame ≡ frame
  pub still : StandStill (frame ∷ []) r.came.arrays s.arrays
  pub frame_is : HasWords s.arrays frame slots
  pub out_is : s.out ≡ r.came.out
  pub rest_is : s.rest ≡ r.came.rest
