-- What a block does for one instance by itself, whoever answers its uses.
use Rattle.std.specs.Prelude.{ℕ, zero, suc, ◌+◌, ◌*◌, ◌<◌, ◌≤◌, ◌≡◌, ◌==◌, false, List, [], ◌∷◌}
use Rattle.std.specs.Prelude.{length, slice_index, if◌then◌else◌, Option, Some, None}
use Rattle.std.specs.Option.{option_map}
use Rattle.std.specs.FinMap as fin
use Rattle.std.specs.List.{Contains}
use Rattle.umix_base.specs.declared.limits.Limits.{Limits}
use Rattle.um_word.specs.State.{State}
use Rattle.um_word.specs.Run.{run, AreLegal}
use Rattle.um_word.specs.Loads.{IsLimit}
use Rattle.um_word.specs.Leads.{OnStanding}
use Rattle.two_d.specs.declared.module.Origin.{Origin}
use Rattle.two_d.specs.Programs.{ModuleForm, Program, module_at, box_count}
use Rattle.two_d.specs.Sound.{IsKeptOrder}
use Rattle.two_d.specs.Meaning.{Inputs, Effect, Done, Starts, Answers, Cells, none_fired}
use Rattle.two_d.specs.Meaning.{act, cell_of, look_in, look_of, meaning_of, stuck_of}
use Rattle.two_d.specs.Weights.{part}
use Rattle.lower_plan.specs.Plans.{slot_of, wire_starts}
use Rattle.lower_emit.specs.Stands.{Ending, Carries, Marked}
use Rattle.lower_emit.specs.Entered.{Return}
use Rattle.lower_emit.specs.KnownOutcomes.{Call, Known, known_of, by_numbers, texts_of}
use Rattle.lower_emit.specs.Layouts.{Layout, wire_slot, stuck_slot}
use Rattle.lower_emit.specs.Surroundings.{Surroundings, AreSurroundings, IsCalled, IsAnswered}
use Rattle.lower_emit.specs.Surroundings.{IsOwnMoment, back_to, CallsNow, ReturnsNow}

-- One instance: the program, the number of its module, its inputs, what is known of the modules that
-- it uses, the blocks around it, its frame, those of its caller and of others, and where it returns.
pub record Instance : Type 0 where
  pub program : Program
  pub number : ℕ
  pub inputs : Inputs
  pub answer : Answers
  pub around : Surroundings
  pub frame : ℕ
  pub others : List ℕ
  pub back : Return

-- what is known of the modules that it uses, and of itself, by the texts of the program
abbrev pub known_to : Instance → Known
known_to one = known_of (texts_of one.program) one.answer

abbrev pub known_about : Instance → Option Ending
known_about one =
    known_of (texts_of one.program) (meaning_of one.program one.answer) one.number one.inputs

-- what a box of the instance does, if it is enabled
abbrev pub effect_at : Instance → ℕ → Option Effect
effect_at one b =
    act one.program one.number (look_of one.program one.answer one.number one.inputs) b

-- what the boxes have come to once this one had its turn too
abbrev pub turned_too : Instance → Cells → (b : ℕ) → Cells
turned_too one cells b = λ d.
    if d == b then option_map (cell_of one.number b one.answer) (effect_at one b) else cells d

-- the layout of the frames of a module
abbrev pub frame_layout : ModuleForm → Layout
frame_layout m = record {
  wires = length (wire_starts m);
  boxes = length m.boxes;
  size = 12 + part m;
}

-- The frame shows what the boxes have come to: each wire has in its slot the value that it carries,
-- or 0 for none; and each box has its mark where it is stuck, or 0.
pub record Shows (one : Instance) (cells : Cells) (t : State) : Type 0 where
  pub slots : List ℕ
  pub frame_is : fin.get t.arrays one.frame ≡ Some slots
  pub wires_are : (o : Origin) (k : ℕ) → slot_of (module_at one.program one.number) o ≡ Some k →
      Carries t.arrays (slice_index slots (wire_slot k)) (look_in one.inputs cells o)
  pub marks_are : (b : ℕ) → b < box_count one.program one.number →
      Marked t.arrays
      (slice_index slots (stuck_slot (frame_layout (module_at one.program one.number)) b))
      (option_map (by_numbers (texts_of one.program)) (stuck_of (cells b)))

-- with so many cycles left of the way
abbrev pub OnTheWay : (State → Type 0) → ℕ → (State → Type 0) → State → Type 0
OnTheWay I zero Q t = Q t
OnTheWay I (suc left) Q t = (t.halted ≡ false) × I t

-- Under any limits and with any legal identifiers the machine comes in n cycles to a state that has
-- Q, and runs and has I at each moment before; or before that it stands at a limit, where it has I.
abbrev pub ComesInRuns : (I : State → Type 0) → (n : ℕ) → (Q : State → Type 0) → State → Type 0
ComesInRuns I n Q s =
    (L : Limits) (done left : ℕ) (ids : List ℕ) → done + left ≡ n → AreLegal L done ids s →
    OnStanding (run L done ids s) (λ t. OnTheWay I left Q t) (λ t fault. IsLimit fault × I t)

-- In n cycles of its own the block comes from u to a state that has Q; s is the state in which it was
-- entered or had its last answer.
abbrev pub Comes : Instance → (n : ℕ) → (Q : State → Type 0) → (s u : State) → Type 0
Comes one n Q s u =
    ComesInRuns (λ t. IsOwnMoment one.around one.others one.number s t) n Q u

-- what a block does from u on in n cycles of its own, since s
abbrev pub Doing : Type 1
Doing = (n : ℕ) → (s u : State) → Type 0

-- it comes to a moment at which its frame shows these cells, and goes on from there
abbrev pub ShowsThen : Instance → Cells → (rest : Doing) → Doing
ShowsThen one cells rest n s u =
    (i j : ℕ) × (i + j ≡ n) × Comes one i (λ t. Shows one cells t × rest j s t) s u

-- It makes this call, and once that is answered by what is known, goes on. Behind a call that isn't
-- answered so, nothing is said.
abbrev pub Asks : Instance → Call → (rest : Doing) → Doing
Asks one call rest n s u =
    (i j : ℕ) × (i + j ≡ n)
    × Comes one i
    (λ t. (now : CallsNow one.around one.others one.number one.frame call s t)
    × ((ending : Ending) → known_to one call.callee call.inputs ≡ Some ending →
    (v : State) →
    IsAnswered one.around one.others (back_to one.number one.frame now.offset) ending t v →
    rest j v v)) s u

-- a box that does this has its turn, and then comes the rest: a `use` makes its call first, and a
-- box that isn't enabled does nothing
abbrev pub Turn : Instance → Option Effect → (rest : Doing) → Doing
Turn one None rest = rest
Turn one (Some (Done cell)) rest = rest
Turn one (Some (Starts callee inputs)) rest =
    Asks one (record { callee = callee; inputs = inputs }) rest

-- The block gives these boxes their turns, one after the other, and behind each its frame shows
-- what the boxes so far have come to, and no more; then it returns with the instance's ending.
unfoldable pub Plays : Instance → Cells → (boxes : List ℕ) → Doing
Plays one cells [] n s u =
    Comes one n (λ t. (ending : Ending) × (known_about one ≡ Some ending)
    × ReturnsNow one.around one.others one.frame one.back ending s t) s u
Plays one cells (b ∷ boxes) n s u =
    Turn one (effect_at one b)
    (ShowsThen one (turned_too one cells b) (Plays one (turned_too one cells b) boxes)) n s u

-- a block has at most so many words, and makes at most so many cycles of its own, for each unit of
-- its module's part
abbrev pub most_a_unit : ℕ
most_a_unit = 18

-- What these words do as the block of module m, for one instance, whatever answers its uses: the
-- inputs go to their wires; the boxes have their turns in the kept order, as long as the calls of
-- the enabled uses are answered; and the block returns with the outcome that the module means. The
-- words may be run with any table and in any new frame; the frames of the caller and of other
-- instances stay.
unfoldable pub BlockRuns : Program → (m : ℕ) → (words : List ℕ) → Type 0
BlockRuns P m words =
    (order : List ℕ) → IsKeptOrder (module_at P m) order →
    (w : Surroundings) (others : List ℕ) (answer : Answers) (back : Return) (a : Inputs) (frame : ℕ)
    (s : State) →
    AreSurroundings P w → w.codes m ≡ words → back.block < length w.ids →
    Contains others back.caller → (Contains others frame → ⊥) → IsCalled w m back a frame s →
    let one : Instance = record {
      program = P;
      number = m;
      inputs = a;
      answer = answer;
      around = w;
      frame = frame;
      others = others;
      back = back;
    } in
    (n : ℕ) × (n ≤ most_a_unit * part (module_at P m))
    × ShowsThen one none_fired (Plays one none_fired order) n s s
