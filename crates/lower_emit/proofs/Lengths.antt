-- How long the code of a module is.
use Rattle.std.specs.Prelude.{Option, Some, None, ◌≡◌, ℕ, zero, suc, ◌+◌, ◌*◌, ◌<◌, ◌≤◌, ◌^◌, Bool, true, false, if◌then◌else◌, is_some, List, [], ◌∷◌, ◌++◌, length, map, slice_get}
use Rattle.std.proofs.Common.{refl, ap, arith, length-append}
use Rattle.std.proofs.lemmas.List.{length-map}
use Rattle.two_d.specs.declared.command.Side.{Side as BoxSide}
use Rattle.two_d.specs.declared.command.Side.TheVariants.{S, E}
use Rattle.two_d.specs.Trees as tree
use Rattle.two_d.specs.Trees.{Tree, Form, send, case, split, call, AreApart}
use Rattle.two_d.specs.Programs.{BoxForm, ModuleForm, Program, module_at, box_count}
use Rattle.two_d.specs.Sound.{IsSound}
use Rattle.two_d.specs.Good.{trees_of}
use Rattle.two_d.specs.Weights.{nodes, all_nodes, boxes_part, part, weight}
use Rattle.lower_plan.specs.declared.plan.Plan.{Plan}
use Rattle.lower_plan.specs.declared.plan.PlanStep.{PlanStep}
use Rattle.lower_plan.specs.Plans.{slot_at, IsStep, IsPlan}
use Rattle.lower_plan.proofs.Orders.{sum_at, sum_boxes, of_box, front_sum, order_sum}
use Rattle.two_d.specs.Meaning.{sum_below}
use Rattle.codex_values.specs.Value.{Value}
use Rattle.lower_plan.proofs.Planned.{part-le}
use Rattle.lower_emit.specs.Expressions.{code_of, expression_slot, past}
use Rattle.lower_emit.specs.Layouts.{zero_slot, Layout, first_node, input_slot, side_slot, SideSlot}
use Rattle.code_templates.specs.Templates.{make_cell}
use Rattle.lower_emit.specs.Boxes.{move_slot, sent_code, out_code, sort_code, sorting_code, Box, Sorts, box_length, body_length, boxes_length, input_slots}
use Rattle.lower_emit.specs.inner.Frames.{guard_cycles, carry_all}
use Rattle.lower_emit.specs.inner.Firing.{box_cycles}
use Rattle.lower_emit.specs.Blocks.{block_length}
use Rattle.lower_emit.specs.KnownOutcomes.{first_text}
use Rattle.lower_emit.specs.Plans.{wired, out_sent, side_of, dropped, both_to, step_box, box_in, box_if, block_of, layout_of}
use Rattle.lower_emit.proofs.Turns.{HasApart}
use Rattle.lower_emit.proofs.Push.{command_apart}

-- twelve words for each node
code_length : (x : Tree) (north west free : ℕ) → length (code_of x north west free) ≤ 12 * nodes x
code_length tree.n north west free = omega arith
code_length tree.w north west free = omega arith
code_length tree.unit north west free = omega arith
code_length (tree.pair a b) north west free = omega (
  arith,
  code_length a north west free,
  code_length b north west (past a free),
  length-append (code_of a north west free) (code_of b north west (past a free) ++ make_cell (expression_slot a north west free) (expression_slot b north west (past a free)) 2 3 (past b (past a free))),
  length-append (code_of b north west (past a free)) (make_cell (expression_slot a north west free) (expression_slot b north west (past a free)) 2 3 (past b (past a free))),
)
code_length (tree.inl a) north west free = omega (
  arith,
  code_length a north west free,
  length-append (code_of a north west free) (make_cell (expression_slot a north west free) zero_slot 0 1 (past a free)),
)
code_length (tree.inr a) north west free = omega (
  arith,
  code_length a north west free,
  length-append (code_of a north west free) (make_cell zero_slot (expression_slot a north west free) 0 1 (past a free)),
)

sent_length : (y : Layout) (north west : ℕ) (step : PlanStep) (outs : List (Tree × BoxSide)) →
    length (sent_code y north west (map (out_sent step) outs)) ≤ 12 * all_nodes (map (λ out. out.0) outs) + 9 * length outs
sent_length y north west step [] = omega arith
sent_length y north west step (out ∷ outs) =
    let one = out_sent step out in
    omega (
      arith,
      sent_length y north west step outs,
      code_length out.0 north west (first_node y),
      length-append (out_code y north west (side_slot y one.wire one.spare) one.value) (sent_code y north west (map (out_sent step) outs)),
      length-append (code_of out.0 north west (first_node y)) (move_slot (expression_slot out.0 north west (first_node y)) (side_slot y one.wire one.spare)),
    )

wired_few : (n w : Option ℕ) → length (wired n w) ≤ 2
wired_few None None = omega arith
wired_few None (Some k) = omega arith
wired_few (Some k) None = omega arith
wired_few (Some k) (Some q) = omega arith

outs_few : (outs : List (Tree × BoxSide)) → AreApart outs → length outs ≤ 2
outs_few [] h = omega arith
outs_few (o ∷ []) h = omega arith
outs_few (o ∷ p ∷ []) h = omega arith
outs_few (o ∷ p ∷ q ∷ more) h = absurd h

sorting_length : (y : Layout) (north west : ℕ) (x : Tree) (f g : ℕ) (one two both : SideSlot) (box text : ℕ) →
    length (sorting_code y north west x f g one two both box text) ≤ 12 * nodes x + 45
sorting_length y north west x f g one two both box text =
    omega (
      arith,
      code_length x north west (first_node y),
      length-append (code_of x north west (first_node y)) (sort_code y (expression_slot x north west (first_node y)) f g one two both box text),
    )

abbrev box_words : BoxForm → ℕ
box_words row = 61 + 12 * all_nodes (trees_of row.command)

sorts_length : (y : Layout) (step : PlanStep) (text : ℕ) (x : Tree) (f g : ℕ) (one two both : SideSlot) →
    box_length y (Sorts (wired step.n step.w) step.n step.w x f g one two both step.bx text) ≤ 61 + 12 * (nodes x + 0)
sorts_length y step text x f g one two both =
    omega (arith, wired_few step.n step.w, sorting_length y (input_slot step.n) (input_slot step.w) x f g one two both step.bx text)

-- a box has at most 61 words and 12 for each node
box_of_length : (P : Program) (m : ℕ) (y : Layout) (step : PlanStep) (text : ℕ) (command : Form) → HasApart command → box_length y (step_box P m step text command) ≤ 61 + 12 * all_nodes (trees_of command)
box_of_length P m y step text (send outs) apart =
    omega (arith, wired_few step.n step.w, outs_few outs apart, sent_length y (input_slot step.n) (input_slot step.w) step outs)
box_of_length P m y step text (case x S S) apart = sorts_length y step text x 0 1 (dropped 0) (dropped 1) (both_to step S)
box_of_length P m y step text (case x S E) apart = sorts_length y step text x 0 1 (side_of step S) (side_of step E) (dropped 2)
box_of_length P m y step text (case x E S) apart = sorts_length y step text x 0 1 (side_of step E) (side_of step S) (dropped 2)
box_of_length P m y step text (case x E E) apart = sorts_length y step text x 0 1 (dropped 0) (dropped 1) (both_to step E)
box_of_length P m y step text (split x) apart = sorts_length y step text x 2 3 (side_of step S) (side_of step E) (dropped 2)
box_of_length P m y step text (call name) apart = omega (arith, wired_few step.n step.w)

boxes_sum : (rows : List BoxForm) → sum_boxes box_words rows + 9 * length rows ≤ 18 * boxes_part rows
boxes_sum [] = omega arith
boxes_sum (row ∷ rows) = omega (arith, boxes_sum rows)

module _ (P : Program) (p : Plan) (plan : IsPlan P p) (sound : IsSound (module_at P p.«module»)) where
  abbrev M : ModuleForm
  M = module_at P p.«module»

  abbrev y : Layout
  y = layout_of P p

  step_length : (s : PlanStep) → IsStep M s s.bx → box_length y (box_in P p.«module» s) ≤ of_box box_words (slice_get M.boxes s.bx)
  step_length s is =
      let e = ap (λ r. box_length y (box_if P p.«module» s (first_text P p.«module» + s.bx) r)) is.there in
      let f = ap (of_box box_words) is.there in
      omega (arith, e, f, box_of_length P p.«module» y s (first_text P p.«module» + s.bx) is.row.command (command_apart M sound s.bx is.row is.there))

  steps_length : (steps : List PlanStep) → ((j : ℕ) (s : PlanStep) → slice_get steps j ≡ Some s → IsStep M s s.bx) →
      boxes_length y (map (box_in P p.«module») steps) ≤ sum_at (λ b. of_box box_words (slice_get M.boxes b)) (map (λ (s : PlanStep). s.bx) steps)
  steps_length [] h = omega arith
  steps_length (s ∷ steps) h = omega (arith, step_length s (h 0 s refl), steps_length steps (λ j t e. h (suc j) t e))

  -- A block with its return has at most 18 words for each unit of its module's part of the weight.
  pub block_words : block_length (block_of P p) + 11 ≤ 18 * part (module_at P p.«module»)
  block_words = omega (
    arith,
    steps_length p.steps.items plan.steps,
    order_sum M (map (λ (s : PlanStep). s.bx) p.steps.items) plan.order.valid box_words,
    boxes_sum M.boxes,
    ap length plan.exits,
    length-map M.exits (slot_at M),
  )

-- what is put before a sum, and a sum that stops earlier
parts_sum : (P : Program) (n : ℕ) → n ≤ length P → sum_below n (λ i. part (module_at P i)) ≤ weight P
unfolding sum_below
parts_sum P zero le = omega arith
parts_sum [] (suc n) le = absurd (omega arith)
parts_sum (m ∷ P) (suc n) le = omega (arith, front_sum n (λ i. part (module_at (m ∷ P) i)), parts_sum P n (omega (arith, le)))

boxes_few : (rows : List BoxForm) → 8 * length rows ≤ boxes_part rows
boxes_few [] = omega arith
boxes_few (row ∷ rows) = omega (arith, boxes_few rows)

texts_sum : (P : Program) (n : ℕ) → first_text P n ≤ sum_below n (λ i. part (module_at P i))
unfolding sum_below
texts_sum P zero = omega arith
texts_sum P (suc n) = omega (arith, texts_sum P n, boxes_few (module_at P n).boxes)

-- the texts of a module have numbers below the weight
pub texts_below : (P : Program) (m b : ℕ) → m < length P → b < box_count P m + 2 → first_text P m + b < weight P
texts_below P m b there lt = omega (arith, lt, texts_sum P (suc m), parts_sum P (suc m) (omega (arith, there)))

-- there are fewer modules than the weight
pub modules_few : (P : Program) → 6 * length P ≤ weight P
modules_few [] = omega arith
modules_few (m ∷ P) = omega (arith, modules_few P)

-- What stands in a hole of a block's code is small where the weight is: slots and sizes of frames, places in the block, and texts.
pub record AreSmall (P : Program) (p : Plan) : Type 0 where
  pub frame : (layout_of P p).size < 2 ^ 25
  pub places : block_length (block_of P p) + 11 < 2 ^ 25
  pub texts : (b : ℕ) → b < box_count P p.«module» + 2 → first_text P p.«module» + b < 2 ^ 25
  pub blocks : p.«module» < 2 ^ 25

pub are_small : (P : Program) (p : Plan) → IsPlan P p → IsSound (module_at P p.«module») → weight P ≤ 262144 → AreSmall P p
are_small P p plan sound few = record {
  frame = omega (arith, few, part-le P p.«module» plan.there);
  places = omega (arith, few, part-le P p.«module» plan.there, block_words P p plan sound);
  texts = λ b lt. omega (arith, few, texts_below P p.«module» b plan.there lt);
  blocks = omega (arith, few, modules_few P, plan.there);
}

-- no jump goes back, so a box makes no more cycles than it has words
guards_few : (wires : ℕ → Option Value) (inputs : List ℕ) → guard_cycles wires inputs ≤ 6 * length inputs
guards_few wires [] = omega arith
guards_few wires (k ∷ ks) = by (is_some (wires k)) (guards_few wires ks)
  where
    by : (t : Bool) → guard_cycles wires ks ≤ 6 * length ks → 6 + (if t then guard_cycles wires ks else 0) ≤ 6 * suc (length ks)
    by true h = omega (arith, h)
    by false h = omega arith

pub box_few : (y : Layout) (box : Box) (wires : ℕ → Option Value) → box_cycles y box wires ≤ box_length y box
box_few y box wires = by (carry_all wires (input_slots box)) (guards_few wires (input_slots box))
  where
    by : (t : Bool) → guard_cycles wires (input_slots box) ≤ 6 * length (input_slots box) → guard_cycles wires (input_slots box) + (if t then body_length y box else 0) ≤ box_length y box
    by true h = omega (arith, h)
    by false h = omega (arith, h)
