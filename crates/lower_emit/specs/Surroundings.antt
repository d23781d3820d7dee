-- What stands around a block, and the moments that its run comes to.
use Rattle.std.specs.Prelude.{ℕ, ◌+◌, ◌<◌, ◌≤◌, ◌≡◌, ◌≢◌, ◌⊎◌, false, List, ◌∷◌, length}
use Rattle.std.specs.Prelude.{slice_index, Option, Some, None}
use Rattle.std.specs.FinMap as fin
use Rattle.std.specs.List.{Contains}
use Rattle.um_word.specs.State.{Arrays, State, reg}
use Rattle.codex_values.specs.Value.{Value}
use Rattle.two_d.specs.declared.module.Origin.TheVariants.{North, West}
use Rattle.two_d.specs.Programs.{Program, module_at}
use Rattle.two_d.specs.Meaning.{Inputs}
use Rattle.two_d.specs.Weights.{part}
use Rattle.code_templates.specs.Lines.{IsOwnAt}
use Rattle.lower_plan.specs.Plans.{slot_of}
use Rattle.lower_emit.specs.Stands.{Ending, Stands, TextTrail, Trails, Carries, Marked}
use Rattle.lower_emit.specs.Entered.{Return, Entered}
use Rattle.lower_emit.specs.KnownOutcomes.{Call}
use Rattle.lower_emit.specs.Layouts.{value_out, stuck_out}

-- The blocks that a block meets: their words, the sizes of their frames and the wires of their
-- entries, by their numbers; and the table, with the arrays of the blocks.
pub record Surroundings : Type 0 where
  pub codes : ℕ → List ℕ
  pub size : ℕ → ℕ
  pub north : ℕ → Option ℕ
  pub west : ℕ → Option ℕ
  pub table : ℕ
  pub ids : List ℕ

-- They are those of the program: a block for each module and one more, with the frames and entries
-- of the modules.
pub record AreSurroundings (P : Program) (w : Surroundings) : Type 0 where
  pub many : length P < length w.ids
  pub sizes : (m : ℕ) → m < length P → w.size m ≡ 12 + part (module_at P m)
  pub norths : (m : ℕ) → m < length P → w.north m ≡ slot_of (module_at P m) North
  pub wests : (m : ℕ) → m < length P → w.west m ≡ slot_of (module_at P m) West

-- the block of this number was just called with these inputs, in this new frame
abbrev pub IsCalled : Surroundings → (number : ℕ) → Return → Inputs → (frame : ℕ) → State → Type 0
IsCalled w number back a frame s =
    Entered w.codes w.table w.ids number (w.size number) (w.north number)
    (w.west number) back a frame s

-- the array is the table, a block or one of these frames, or it stands for a value or a trail
abbrev pub StandsThere : Surroundings → (frames : List ℕ) → Arrays → ℕ → Type 0
StandsThere w frames m k =
    (k ≡ w.table) ⊎ Contains w.ids k ⊎ Contains frames k
    ⊎ ((v : Value) × Stands m k v) ⊎ ((trail : TextTrail) × Trails m k trail)

-- all that stands in the first arrays is in the others as it was
abbrev pub Stay : Surroundings → (frames : List ℕ) → Arrays → Arrays → Type 0
Stay w frames m n =
    (k : ℕ) (words : List ℕ) → k ≢ 0 → StandsThere w frames m k →
    fin.get m k ≡ Some words → fin.get n k ≡ Some words

-- A call is answered: t is right after it, and u where the caller goes on. All that stood stays,
-- the caller's frame too.
pub record IsAnswered (w : Surroundings) (frames : List ℕ) (back : Return) (came : Ending)
    (t u : State) : Type 0 where
  pub running : u.halted ≡ false
  pub finger : u.finger ≡ back.offset
  pub eight : length u.registers ≡ 8
  pub zero_is : reg u 0 ≡ 0
  pub table_is : reg u 1 ≡ w.table
  pub current_is : reg u 2 ≡ back.caller
  pub code_is : fin.get u.arrays 0 ≡ Some (w.codes back.block)
  pub value_is : Carries u.arrays (reg u 3) came.value
  pub mark_is : Marked u.arrays (reg u 4) came.mark
  pub stay : Stay w (back.caller ∷ frames) t.arrays u.arrays

-- A moment of the block's own since state s: array 0 is the block, and stays it; all that stood in s
-- stands as it was, but for the block's own frame; nothing was written; and neither an Input nor an
-- Abandonment is next.
pub record IsOwnMoment (w : Surroundings) (frames : List ℕ) (number : ℕ) (s t : State) :
    Type 0 where
  pub own : IsOwnAt t
  pub code_is : fin.get t.arrays 0 ≡ Some (w.codes number)
  pub out_is : t.out ≡ s.out
  pub stay : Stay w frames s.arrays t.arrays

-- where a block goes on after a call: in its own frame, and not at its begin
abbrev pub back_to : (number frame offset : ℕ) → Return
back_to number frame offset = record { caller = frame; block = number; offset = offset }

-- The block has just made this call: the callee's block is entered with these inputs, in a new
-- frame.
pub record CallsNow (w : Surroundings) (frames : List ℕ) (number frame : ℕ) (call : Call)
    (s t : State) : Type 0 where
  pub new : ℕ
  pub offset : ℕ
  pub not_zero : 1 ≤ offset
  pub is_new : fin.get s.arrays new ≡ None
  pub entered : IsCalled w call.callee (back_to number frame offset) call.inputs new t
  pub out_is : t.out ≡ s.out
  pub stay : Stay w frames s.arrays t.arrays

-- The block has just returned: its caller has its answer, and the outcome is in the frame too.
pub record ReturnsNow (w : Surroundings) (frames : List ℕ) (frame : ℕ) (back : Return)
    (came : Ending)
    (s t : State) : Type 0 where
  pub answered : IsAnswered w frames back came s t
  pub slots : List ℕ
  pub frame_is : fin.get t.arrays frame ≡ Some slots
  pub value_is : Carries t.arrays (slice_index slots value_out) came.value
  pub mark_is : Marked t.arrays (slice_index slots stuck_out) came.mark
  pub out_is : t.out ≡ s.out
