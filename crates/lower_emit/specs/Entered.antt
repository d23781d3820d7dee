-- How things stand where a block was just called.
use Rattle.std.specs.Prelude.{ℕ, Option, Some, None, ◌≡◌, ◌≢◌, ◌-◌, ◌<◌, List, length, slice_index}
use Rattle.std.specs.Prelude.{false, ◌∷◌, replicate}
use Rattle.um_word.specs.State.{Arrays, State, reg}
use Rattle.codex_values.specs.Value.{Value}
use Rattle.lower_emit.specs.Stands.{Carries}
use Rattle.code_templates.specs.Laws.{HasWords}
use Rattle.two_d.specs.Meaning.{Inputs}
use Rattle.std.specs.FinMap as map

-- the value of an entry, where a wire leaves it; else nothing reads the word
abbrev pub EntryCarries : Arrays → ℕ → Option ℕ → Option Value → Type 0
EntryCarries m k None v = Unit {0}
EntryCarries m k (Some wire) v = Carries m k v

-- the table of blocks, with the arrays of the blocks
pub record HasBlocks (codes : ℕ → List ℕ) (table : ℕ) (ids : List ℕ) (m : Arrays) : Type 0 where
  pub not_zero : table ≢ 0
  pub there : map.get m table ≡ Some ids
  pub each : (i : ℕ) → i < length ids → HasWords m (slice_index ids i) (codes i)

-- register 1 names the table of blocks
abbrev pub BlocksStand : (codes : ℕ → List ℕ) (ids : List ℕ) → State → Type 0
BlocksStand codes ids t = HasBlocks codes (reg t 1) ids t.arrays

-- the array is neither the table nor a block
pub record IsApart (table : ℕ) (ids : List ℕ) (frame : ℕ) : Type 0 where
  pub not_table : frame ≢ table
  pub not_block : (i : ℕ) → i < length ids → frame ≢ slice_index ids i

-- where a block goes back to: the caller's frame, the number of the block and the offset in it
pub record Return : Type 0 where
  pub caller : ℕ
  pub block : ℕ
  pub offset : ℕ

-- A block whose entries have these wires was just entered with these inputs, in a new frame of so
-- many words.
pub record Entered (codes : ℕ → List ℕ) (table : ℕ) (ids : List ℕ) (number size : ℕ)
    (entry_n entry_w : Option ℕ) (back : Return) (a : Inputs) (frame : ℕ) (s : State) : Type 0 where
  pub running : s.halted ≡ false
  pub finger : s.finger ≡ 0
  pub eight : length s.registers ≡ 8
  pub zero_is : reg s 0 ≡ 0
  pub table_is : reg s 1 ≡ table
  pub current_is : reg s 2 ≡ frame
  pub code_is : map.get s.arrays 0 ≡ Some (codes number)
  pub north : ℕ
  pub west : ℕ
  pub frame_is : HasWords s.arrays frame (back.caller ∷ back.block ∷ back.offset ∷ north ∷ west ∷
      replicate (size - 5) 0)
  pub north_is : EntryCarries s.arrays north entry_n a.north
  pub west_is : EntryCarries s.arrays west entry_w a.west
  pub blocks : HasBlocks codes table ids s.arrays
  pub apart : IsApart table ids frame
