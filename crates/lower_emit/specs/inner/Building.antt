-- What the code of an expression does.
use Rattle.codex_values.specs.Value.{Value}
use Rattle.two_d.specs.Trees.{Tree}
use Rattle.two_d.specs.Good.{NamesN, NamesW}
use Rattle.two_d.specs.Meaning.{val}
use Rattle.std.specs.Prelude.{◌≡◌, Some, ℕ, ◌<◌, List, length, slice_index, ◌+◌, ◌≤◌}
use Rattle.um_word.specs.State.{State}
use Rattle.code_templates.specs.inner.Spent.{IsCheap}
use Rattle.lower_emit.specs.inner.Stretches.{Range, InBlock, KeepsArrays, Stretch}
use Rattle.lower_emit.specs.Stands.{Stands}
use Rattle.code_templates.specs.Lines.{StandsAt}
use Rattle.lower_emit.specs.Expressions.{past, expression_slot, code_of}
use Rattle.lower_emit.specs.Layouts.{zero_slot}

-- the value of an expression at the values of N and W
abbrev pub slot_value : Tree → (north west : Value) → Value
slot_value x north west = val x (record { north = Some north; west = Some west })

-- since state s the frame's slots from `free` on may have changed, and all other arrays are as they
-- were
pub record Grown (r : Range) (table frame : ℕ) (code : List ℕ) (place free : ℕ) (slots : List ℕ)
    (s t : State) : Type 0 where
  pub now : List ℕ
  pub here : InBlock r table frame code place now t
  pub keeps : KeepsArrays frame s.arrays t.arrays
  pub cheap : IsCheap s t
  pub long : length now ≡ length slots
  pub low : (k : ℕ) → k < free → slice_index now k ≡ slice_index slots k

-- and a slot has the value
pub record Built (r : Range) (table frame : ℕ) (code : List ℕ) (place free : ℕ) (slots : List ℕ)
    (slot : ℕ) (v : Value) (s t : State) : Type 0 where
  pub grown : Grown r table frame code place free slots s t
  pub stands : Stands t.arrays (slice_index grown.now slot) v

-- The code of an expression makes its value from those of N and W, as far as it has them.
unfoldable pub BuildLaw : Type 0
BuildLaw = (r : Range) (table frame : ℕ) (code : List ℕ) (north west : ℕ) (vn vw : Value) (x : Tree)
    (place free : ℕ) (slots : List ℕ) (s : State) →
    InBlock r table frame code place slots s → StandsAt code place (code_of x north west free) →
    r.place ≤ place → place + length (code_of x north west free) ≤ r.place + r.size →
    zero_slot < free → north < free → west < free → past x free ≤ length slots → 4 < length slots →
    slice_index slots zero_slot ≡ 0 →
    (NamesN x → Stands s.arrays (slice_index slots north) vn) →
    (NamesW x → Stands s.arrays (slice_index slots west) vw) →
    Stretch r (length (code_of x north west free))
    (Built r table frame code (place + length (code_of x north west free)) free slots
    (expression_slot x north west free) (slot_value x vn vw) s) s
