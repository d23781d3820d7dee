-- What a program means: each value is pulled from where it comes.
use Rattle.std.specs.Prelude.{Option, Some, None, ℕ, zero, suc, ◌+◌, List, [], ◌∷◌, Bool, true}
use Rattle.std.specs.Prelude.{false, ◌&&◌, if◌then◌else◌}
use Rattle.std.specs.Option.{option_map, option_and_then, unwrap_or}
use Rattle.codex_values.specs.Value.{Value, unit, pair, inl, inr}
use Rattle.two_d.specs.Trees as tree
use Rattle.two_d.specs.Trees.{Tree, Form, send, case, split, call}
use Rattle.two_d.specs.declared.command.Side.{Side}
use Rattle.two_d.specs.declared.command.Side.TheVariants.{S, E}
use Rattle.two_d.specs.Programs.{Origin, North, West, South, East, BoxForm, Program, find, module_at, box_at, box_count}
use Rattle.two_d.specs.Trails.{Trail, trail_of, via, NoSum, NoPair, NoResult, TwoResults}

-- the values at the two entries of an instance, or at the two ports of a box
pub record Inputs : Type 0 where
  pub north : Option Value
  pub west : Option Value

abbrev pub no_inputs : Inputs
no_inputs = record { north = None; west = None }

-- the value of an expression. An N or a W that isn't wired doesn't occur in a good program
abbrev pub val : Tree → Inputs → Value
val tree.unit a = unit
val (tree.pair x y) a = pair (val x a) (val y a)
val (tree.inl x) a = inl (val x a)
val (tree.inr x) a = inr (val x a)
val tree.n a = unwrap_or a.north unit
val tree.w a = unwrap_or a.west unit

-- what an instance has come to
pub data Outcome : Type 0 where
  Gives : Value → Outcome
  Stuck : Trail → Outcome

-- what a box that fired has come to: the values that it sent, and where it is stuck
pub record Cell : Type 0 where
  pub south : Option Value
  pub east : Option Value
  pub stuck : Option Trail

-- nothing sent, and not stuck
abbrev pub quiet : Cell
quiet = record { south = None; east = None; stuck = None }

abbrev pub stuck_on : Trail → Cell
stuck_on trail = record { south = None; east = None; stuck = Some trail }

abbrev pub sent_to : Side → Value → Cell
sent_to S v = record { south = Some v; east = None; stuck = None }
sent_to E v = record { south = None; east = Some v; stuck = None }

-- the value that a `send` sends to a side
abbrev pub sent : Side → List (Tree × Side) → Inputs → Option Value
sent side [] a = None
sent S ((x, S) ∷ outs) a = Some (val x a)
sent S ((x, E) ∷ outs) a = sent S outs a
sent E ((x, S) ∷ outs) a = sent E outs a
sent E ((x, E) ∷ outs) a = Some (val x a)

-- what a `case` does with a value: the trail is that of a value of the wrong shape
abbrev pub chosen : Side → Side → Trail → Value → Cell
chosen left right trail (inl v) = sent_to left v
chosen left right trail (inr v) = sent_to right v
chosen left right trail unit = stuck_on trail
chosen left right trail (pair v w) = stuck_on trail

-- what a `split` does with a value
abbrev pub parts : Trail → Value → Cell
parts trail (pair v w) = record { south = Some v; east = Some w; stuck = None }
parts trail unit = stuck_on trail
parts trail (inl v) = stuck_on trail
parts trail (inr v) = stuck_on trail

-- what the firing of a box does: it is done at once, or it starts an instance
pub data Effect : Type 0 where
  Done : Cell → Effect
  Starts : ℕ → Inputs → Effect

-- what box b of module m does with its inputs
abbrev pub effect_of : Program → ℕ → ℕ → Form → Inputs → Effect
effect_of P m b (send outs) a =
    Done (record { south = sent S outs a; east = sent E outs a; stuck = None })
effect_of P m b (case x left right) a = Done (chosen left right (trail_of (NoSum m b)) (val x a))
effect_of P m b (split x) a = Done (parts (trail_of (NoPair m b)) (val x a))
effect_of P m b (call name) a = Starts (find P name) a

-- what the `use` at box b of module m has come to when its instance has ended
unfoldable pub returned : ℕ → ℕ → Outcome → Cell
returned m b (Gives v) = sent_to E v
returned m b (Stuck trail) = stuck_on (via m b trail)

-- one input of a box, if it isn't wired or its wire carries a value
abbrev pub with_input :
    Option Origin → (Origin → Option Value) → (Option Value → Option Inputs) → Option Inputs
with_input None look go = go None
with_input (Some o) look go = elim (look o) [ None ↦ None | Some v ↦ go (Some v) ]

-- the inputs of a box, if each of its wired inputs has a value
abbrev pub inputs_of : (Origin → Option Value) → BoxForm → Option Inputs
inputs_of look row =
    with_input row.n look (λ n. with_input row.w look (λ w. Some (record { north = n; west = w })))

-- the outcome of an instance, with the firings and the instances that it takes
pub record Meaning : Type 0 where
  pub outcome : Outcome
  pub firings : ℕ
  pub instances : ℕ

-- what modules mean at their inputs, as far as that is known
abbrev pub Answers : Type 0
Answers = ℕ → Inputs → Option Meaning

-- what is said of a box that is done, of a use with an answer, and of a use without one
abbrev pub by_answer : {T : Type 0} → (Cell → T) → (Meaning → T) → T → Answers → Effect → T
by_answer done known unknown answer (Done c) = done c
by_answer done known unknown answer (Starts j a) = unwrap_or (option_map known (answer j a)) unknown

abbrev pub cell_of : ℕ → ℕ → Answers → Effect → Cell
cell_of m b answer x = by_answer (λ c. c) (λ r. returned m b r.outcome) quiet answer x

abbrev pub is_known : Answers → Effect → Bool
is_known answer x = by_answer (λ c. true) (λ r. true) false answer x

abbrev pub firings_of : Answers → Effect → ℕ
firings_of answer x = by_answer (λ c. 1) (λ r. 1 + r.firings) 1 answer x

abbrev pub instances_of : Answers → Effect → ℕ
instances_of answer x = by_answer (λ c. 0) (λ r. r.instances) 0 answer x

-- what a box does, if it is there and is enabled
abbrev pub act : Program → ℕ → (Origin → Option Value) → ℕ → Option Effect
act P m look b =
    option_and_then (λ row. option_map (effect_of P m b row.command) (inputs_of look row))
    (box_at P m b)

abbrev pub south_of : Option Cell → Option Value
south_of None = None
south_of (Some c) = c.south

abbrev pub east_of : Option Cell → Option Value
east_of None = None
east_of (Some c) = c.east

abbrev pub stuck_of : Option Cell → Option Trail
stuck_of None = None
stuck_of (Some c) = c.stuck

-- what boxes have come to, as far as they have fired
abbrev pub Cells : Type 0
Cells = ℕ → Option Cell

-- the values on the wires of an instance with these inputs and these cells
abbrev pub look_in : Inputs → Cells → Origin → Option Value
look_in a cells North = a.north
look_in a cells West = a.west
look_in a cells (South b) = south_of (cells b)
look_in a cells (East b) = east_of (cells b)

abbrev pub none_fired : Cells
none_fired b = None

-- what each enabled box comes to
abbrev pub cells_from : Program → Answers → ℕ → (Origin → Option Value) → Cells
cells_from P answer m look b = option_map (cell_of m b answer) (act P m look b)

-- the values at the origins, pulled through at most k boxes
unfoldable pub pulled : Program → Answers → ℕ → Inputs → ℕ → Origin → Option Value
pulled P answer m a zero = look_in a none_fired
pulled P answer m a (suc k) = look_in a (cells_from P answer m (pulled P answer m a k))

-- the first trail that stands below n
abbrev pub first_below : ℕ → (ℕ → Option Trail) → Option Trail
first_below zero f = None
first_below (suc n) f = elim (first_below n f) [ None ↦ f n | Some s ↦ Some s ]

unfoldable pub sum_below : ℕ → (ℕ → ℕ) → ℕ
sum_below zero f = 0
sum_below (suc n) f = sum_below n f + f n

unfoldable pub all_below : ℕ → (ℕ → Bool) → Bool
all_below zero f = true
all_below (suc n) f = all_below n f && f n

-- the values that exits carry
abbrev pub carried_by : (Origin → Option Value) → List (Option Origin) → List Value
carried_by look [] = []
carried_by look (None ∷ exits) = carried_by look exits
carried_by look (Some o ∷ exits) =
    elim (look o) [ None ↦ carried_by look exits | Some v ↦ v ∷ carried_by look exits ]

abbrev pub result_of : ℕ → List Value → Outcome
result_of m [] = Stuck (trail_of (NoResult m))
result_of m (v ∷ []) = Gives v
result_of m (v ∷ w ∷ vs) = Stuck (trail_of (TwoResults m))

abbrev pub unless_stuck : Option Trail → Outcome → Outcome
unless_stuck None o = o
unless_stuck (Some trail) o = Stuck trail

-- the outcome of an instance with these cells and these values on its wires
unfoldable pub outcome_of : Program → ℕ → (ℕ → Option Cell) → (Origin → Option Value) → Outcome
outcome_of P m cells look =
    unless_stuck (first_below (box_count P m) (λ b. stuck_of (cells b)))
    (result_of m (carried_by look (module_at P m).exits))

abbrev pub count_of : (Effect → ℕ) → Option Effect → ℕ
count_of f o = unwrap_or (option_map f o) 0

abbrev pub test_of : (Effect → Bool) → Option Effect → Bool
test_of f o = unwrap_or (option_map f o) true

-- a chain of wires passes no box twice, so the number of boxes is far enough
abbrev pub look_of : Program → Answers → ℕ → Inputs → Origin → Option Value
look_of P answer m a = pulled P answer m a (box_count P m)

-- each use that is enabled has an answer
abbrev pub all_known : Program → Answers → ℕ → (Origin → Option Value) → Bool
all_known P answer m look =
    all_below (box_count P m) (λ b. test_of (is_known answer) (act P m look b))

abbrev pub summary_of : Program → Answers → ℕ → (Origin → Option Value) → Meaning
summary_of P answer m look = record {
  outcome = outcome_of P m (cells_from P answer m look) look;
  firings = sum_below (box_count P m) (λ b. count_of (firings_of answer) (act P m look b));
  instances = 1 + sum_below (box_count P m) (λ b. count_of (instances_of answer) (act P m look b));
}

-- what an instance means, where the modules that it uses mean what answer says
unfoldable pub meaning_of : Program → Answers → Answers
meaning_of P answer m a =
    if all_known P answer m (look_of P answer m a)
    then Some (summary_of P answer m (look_of P answer m a))
    else None

-- what module m means at inputs a, by uses nested less than n deep
unfoldable pub mean : Program → ℕ → Answers
mean P zero m a = None
mean P (suc n) m a = meaning_of P (mean P n) m a
