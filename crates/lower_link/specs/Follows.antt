-- What it means that words with a list of blocks follow a program, within bounds.
use Rattle.std.specs.Prelude.{ℕ, ◌+◌, ◌*◌, ◌≤◌, ◌≡◌, true, false, Bool, List, length, take}
use Rattle.std.specs.Prelude.{slice_index, slice_index_or, All, AllPairs, IfSome, Some}
use Rattle.std.specs.FinMap as map
use Rattle.umix_base.specs.declared.limits.Limits.{Limits}
use Rattle.um_word.specs.State.{State, array_at, reg, start_of, live_arrays, live_words}
use Rattle.um_word.specs.Table.{Fault, ArraysFull, WordsFull, op_under}
use Rattle.um_word.specs.Run.{Standing, run, first_of, ids_left, AreLegal}
use Rattle.um_word.specs.Loads.{Loads, loads_by, seen, entries, state_in, fault_in}
use Rattle.two_d.specs.Programs.{Program}
use Rattle.two_d.specs.Walks.{AreKeptOrders, route}
use Rattle.two_d.specs.Weights.{weight}
use Rattle.code_templates.specs.Lines.{IsOwn, last_loaded}
use Rattle.code_templates.specs.Laws.{piece, HasWords}
use Rattle.lower_link.specs.Realises.{units}

-- (place, length) of a block in the words
abbrev pub extent : (blocks : List (ℕ × ℕ)) → ℕ → ℕ × ℕ
extent blocks i = slice_index_or blocks i (0, 0)

-- the words of a block
abbrev pub block_at : (words : List ℕ) → (blocks : List (ℕ × ℕ)) → ℕ → List ℕ
block_at words blocks i = piece (extent blocks i).0 (extent blocks i).1 words

-- a block for each module and then one for the printer, none empty, each in the words and behind
-- those before it
pub record AreBlocks (P : Program) (words : List ℕ) (blocks : List (ℕ × ℕ)) : Type 0 where
  pub one_each : length blocks ≡ length P + 1
  pub not_empty : All (λ (b : ℕ × ℕ). 1 ≤ b.1) blocks
  pub within : All (λ (b : ℕ × ℕ). b.0 + b.1 ≤ length words) blocks
  pub apart : AllPairs (λ (b : ℕ × ℕ). λ (c : ℕ × ℕ). b.0 + b.1 ≤ c.0) blocks

-- Register 1 names the table of blocks: its words name arrays other than 0, and each holds its
-- block, the printer's last.
pub record HoldsBlocks (P : Program) (words : List ℕ) (blocks : List (ℕ × ℕ))
    (s : State) : Type 0 where
  pub table : List ℕ
  pub there : map.get s.arrays (reg s 1) ≡ Some table
  pub many : length table ≡ length P + 1
  pub each : (i : ℕ) → i ≤ length P →
      HasWords s.arrays (slice_index table i) (block_at words blocks i)

-- the number that a limit's fault carries is within its bound
abbrev pub IsCountWithin : (bound : ℕ) → Fault → Type 0
IsCountWithin bound (ArraysFull count) = count ≤ 8 * bound
IsCountWithin bound (WordsFull count) = count ≤ 256 * bound
IsCountWithin bound _ = Unit {0}

-- arrays, words and cycles of a run, and the number that a limit's fault carries, are within bounds
pub record IsBounded {I : Type 0} (bound : ℕ) (run : Standing I) : Type 0 where
  pub arrays : live_arrays (state_in run).arrays ≤ 8 * bound
  pub words : live_words (state_in run).arrays ≤ 256 * bound
  pub refused : IfSome (fault_in run) (IsCountWithin bound)
  pub cycles : (state_in run).cycles ≤ 65_536 * bound

-- How a run of these words with these loads stands. The loads are the first of the route, and all
-- of it where the run has halted. Array 0 is the block that was loaded last, or the words where
-- none was. From the first load on, the boot's call of main, register 1 names a table of blocks, and
-- each array that this table names holds its block. The operator that comes next takes no input and
-- abandons no array. And the run is within bounds, by its entries and the bytes that it wrote so far.
pub record Followed {I : Type 0} (P : Program) (words : List ℕ) (blocks : List (ℕ × ℕ))
    (route_to : ℕ → List (List ℕ × Bool))
    (run : Standing I) (loads : Loads) : Type 0 where
  pub on_route : seen loads ≡ take (length loads) (route_to (length loads + 1))
  pub whole_route : (state_in run).halted ≡ true → seen loads ≡ route_to (length loads + 1)
  pub array_zero : array_at (state_in run).arrays 0 ≡ last_loaded words loads
  pub holds : 1 ≤ length loads → HoldsBlocks P words blocks (state_in run)
  pub keeps : (state_in run).halted ≡ false → IsOwn (op_under (state_in run))
  pub bounds : IsBounded (units P (entries loads) (length (state_in run).out)) run

-- The words are few, and the blocks lie apart in them. Under all limits that allow the words, on
-- every input, for every number of cycles and with all legal identifiers a run is on the route by
-- the kept orders, within bounds.
pub record Follows (P : Program) (words : List ℕ) (blocks : List (ℕ × ℕ)) : Type 0 where
  pub short : length words ≤ 48 * (weight P + 64)
  pub blocks_are : AreBlocks P words blocks
  pub order : ℕ → List ℕ
  pub kept : AreKeptOrders P order
  pub runs : (L : Limits) (input : List ℕ) (n : ℕ) (ids : List ℕ) →
      length words ≤ L.words → AreLegal L n ids (start_of words input) →
      Followed P words blocks
      (route P order (block_at words blocks) (block_at words blocks (length P)))
      (run L n ids (start_of words input)) (loads_by first_of ids_left L n ids
      (start_of words input))
