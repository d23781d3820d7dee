-- A turn over slots does to the wires and the marks what it does to the boxes.
use Rattle.std.specs.Prelude.{Option, Some, None, ◌≡◌, ◌≢◌, ℕ, ◌+◌, ◌==◌, ◌&&◌, is_some, if◌then◌else◌, Bool, true, false, List, [], ◌∷◌, ◌++◌, map}
use Rattle.std.specs.Option.{option_map, option_and_then, unwrap_or}
use mathlib.Core.Path.{fun_ext}
use Rattle.std.proofs.Common.{refl, sym, ◌∙◌, ap, subst, ◌⊎◌, inl, inr}
use Rattle.std.proofs.lemmas.Bool.{eqb-true, eqb-false, eq-eqb, ne_eqb}
use Rattle.two_d.specs.declared.trail.Site.TheVariants.{NoSum, NoPair}
use Rattle.codex_values.specs.Value.{Value}
use Rattle.codex_values.specs.Value as value
use Rattle.two_d.specs.declared.module.Origin.{Origin}
use Rattle.two_d.specs.declared.module.Origin.TheVariants.{North, West, South, East}
use Rattle.two_d.specs.declared.module.To.TheVariants as to
use Rattle.two_d.specs.declared.command.Side.{Side as BoxSide}
use Rattle.two_d.specs.declared.command.Side.TheVariants.{S, E}
use Rattle.two_d.specs.Trees as tree
use Rattle.two_d.specs.Trees.{Tree, Form, send, case, split, call, AreApart}
use Rattle.two_d.specs.Programs.{BoxForm, ModuleForm, Program, find, module_at, box_at}
use Rattle.two_d.specs.Trails as trails
use Rattle.two_d.specs.Meaning as meaning
use Rattle.two_d.specs.Meaning.{Inputs, Outcome, Gives, Stuck, Meaning, Cell, Cells, Effect, Done, Starts, Answers, with_input, inputs_of, effect_of, cell_of, act, cells_from, look_in, south_of, east_of, stuck_of, returned}
use Rattle.two_d.proofs.Pushing.{turned}
use Rattle.lower_plan.specs.declared.plan.PlanStep.{PlanStep}
use Rattle.lower_plan.specs.Plans.{slot_of, slot_at, step_of}
use Rattle.lower_plan.proofs.Wires.{slot_apart, slot_comes}
use Rattle.lower_plan.specs.Plans.{wire_starts}
use Rattle.lower_emit.specs.inner.Building.{slot_value}
use Rattle.lower_emit.specs.Stands.{TextTrail, At, Via}
use Rattle.lower_emit.specs.inner.Frames.{carry_all, carrying, sending}
use Rattle.lower_emit.specs.inner.Ends.{exit_value}
use Rattle.lower_emit.specs.inner.Sorts.{part_of_value, or_else, stuck_at, marking, sorted}
use Rattle.lower_emit.specs.inner.Uses.{by_caller}
use Rattle.lower_emit.specs.Boxes.{Box, Sends, Sorts, Uses, input_slots as box_inputs}
use Rattle.lower_emit.specs.KnownOutcomes.{Call, Known, through, value_of, mark_of, came_of, known_of, first_text, site_text, texts_of}
use Rattle.lower_emit.specs.inner.Firing.{call_of, answer_to, answered_wires, answered_marks, fired_wires, fired_marks, in_value, value_or_unit}
use Rattle.lower_emit.specs.inner.Plans.{by_texts, inputs_on}
use Rattle.lower_emit.specs.Plans.{wired, out_sent, step_box}

pub carrying_here : (o : Option ℕ) (v : Option Value) (wires : ℕ → Option Value) (k : ℕ) → o ≡ Some k → carrying o v wires k ≡ v
carrying_here None v wires k e = absurd (cc)
carrying_here (Some q) v wires k e = let f : q ≡ k = cc in ap (λ b. if b then v else wires k) (eq-eqb k q (sym f))

pub carrying_past : (o : Option ℕ) (v : Option Value) (wires : ℕ → Option Value) (k : ℕ) → (o ≡ Some k → ⊥) → carrying o v wires k ≡ wires k
carrying_past None v wires k other = refl
carrying_past (Some q) v wires k other = by (k == q) refl
  where
    by : (t : Bool) → (k == q) ≡ t → (if t then v else wires k) ≡ wires k
    by true e = absurd (other (ap Some (sym (eqb-true k q e))))
    by false e = refl

-- the wires of two sides carry what a cell has, and all others what they carried
pub record Writes (s e : Option ℕ) (c : Cell) (wires now : ℕ → Option Value) : Type 0 where
  pub south : (k : ℕ) → s ≡ Some k → now k ≡ c.south
  pub east : (k : ℕ) → e ≡ Some k → now k ≡ c.east
  pub others : (k : ℕ) → (s ≡ Some k → ⊥) → (e ≡ Some k → ⊥) → now k ≡ wires k

-- what a wire carries where the box has sent nothing on it yet
pub record Fresh (s e : Option ℕ) (c : Cell) (wires : ℕ → Option Value) : Type 0 where
  pub south : (k : ℕ) → s ≡ Some k → c.south ≡ None → wires k ≡ None
  pub east : (k : ℕ) → e ≡ Some k → c.east ≡ None → wires k ≡ None

abbrev AreTwo : (s e : Option ℕ) → Type 0
AreTwo s e = (k : ℕ) → s ≡ Some k → e ≡ Some k → ⊥

module _ (s e : Option ℕ) (two : AreTwo s e) (wires : ℕ → Option Value) where
  -- nothing is written
  pub writes_none : (c : Cell) → Fresh s e c wires → c.south ≡ None → c.east ≡ None → Writes s e c wires wires
  writes_none c fresh no_south no_east = record {
    south = λ k is. fresh.south k is no_south ∙ sym no_south;
    east = λ k is. fresh.east k is no_east ∙ sym no_east;
    others = λ k a b. refl;
  }

  pub writes_south : (c : Cell) (v : Option Value) → Fresh s e c wires → c.south ≡ v → c.east ≡ None → Writes s e c wires (carrying s v wires)
  writes_south c v fresh is no_east = record {
    south = λ k h. carrying_here s v wires k h ∙ sym is;
    east = λ k h. carrying_past s v wires k (λ g. two k g h) ∙ (fresh.east k h no_east ∙ sym no_east);
    others = λ k a b. carrying_past s v wires k a;
  }

  pub writes_east : (c : Cell) (v : Option Value) → Fresh s e c wires → c.south ≡ None → c.east ≡ v → Writes s e c wires (carrying e v wires)
  writes_east c v fresh no_south is = record {
    south = λ k h. carrying_past e v wires k (λ g. two k h g) ∙ (fresh.south k h no_south ∙ sym no_south);
    east = λ k h. carrying_here e v wires k h ∙ sym is;
    others = λ k a b. carrying_past e v wires k b;
  }

  pub writes_both : (c : Cell) (v w : Option Value) → c.south ≡ v → c.east ≡ w → Writes s e c wires (carrying e w (carrying s v wires))
  writes_both c v w is js = record {
    south = λ k h. carrying_past e w (carrying s v wires) k (λ g. two k h g) ∙ (carrying_here s v wires k h ∙ sym is);
    east = λ k h. carrying_here e w (carrying s v wires) k h ∙ sym js;
    others = λ k a b. carrying_past e w (carrying s v wires) k b ∙ carrying_past s v wires k a;
  }

  pub writes_both_turned : (c : Cell) (v w : Option Value) → c.south ≡ v → c.east ≡ w → Writes s e c wires (carrying s v (carrying e w wires))
  writes_both_turned c v w is js = record {
    south = λ k h. carrying_here s v (carrying e w wires) k h ∙ sym is;
    east = λ k h. carrying_past s v (carrying e w wires) k (λ g. two k g h) ∙ (carrying_here e w wires k h ∙ sym js);
    others = λ k a b. carrying_past s v (carrying e w wires) k a ∙ carrying_past e w wires k b;
  }

-- an expression has one value, by slots and by inputs
pub same_value : (x : Tree) (vn vw : Value) (a : Inputs) → vn ≡ unwrap_or a.north value.unit → vw ≡ unwrap_or a.west value.unit → slot_value x vn vw ≡ meaning.val x a
same_value tree.unit vn vw a n w = refl
same_value tree.n vn vw a n w = n
same_value tree.w vn vw a n w = w
same_value (tree.pair x y) vn vw a n w = rw (same_value x vn vw a n w, same_value y vn vw a n w) refl
same_value (tree.inl x) vn vw a n w = ap value.inl (same_value x vn vw a n w)
same_value (tree.inr x) vn vw a n w = ap value.inr (same_value x vn vw a n w)

in_value_is : (wires : ℕ → Option Value) (o : Option ℕ) → in_value wires o ≡ unwrap_or (exit_value wires o) value.unit
in_value_is wires None = refl
in_value_is wires (Some k) = by (wires k)
  where
    by : (v : Option Value) → value_or_unit v ≡ unwrap_or v value.unit
    by None = refl
    by (Some v) = refl

-- an input reads from a slot what its wire carries
abbrev pub Reads : (Origin → Option Value) → (ℕ → Option Value) → Option Origin → Option ℕ → Type 0
Reads look wires None None = Unit {0}
Reads look wires None (Some k) = ⊥
Reads look wires (Some o) None = ⊥
Reads look wires (Some o) (Some k) = look o ≡ wires k

abbrev go_in : Option Value → (Option Value → Option Inputs) → Option Inputs
go_in None go = None
go_in (Some v) go = go (Some v)

pub inputs_read : (look : Origin → Option Value) (wires : ℕ → Option Value) (n w : Option Origin) (sn sw : Option ℕ) → Reads look wires n sn → Reads look wires w sw →
    with_input n look (λ x. with_input w look (λ y. Some (record { north = x; west = y })))
    ≡ (if carry_all wires (wired sn sw) then Some (inputs_on wires sn sw) else None)
inputs_read look wires None None None None r q = refl
inputs_read look wires None None None (Some j) r q = absurd q
inputs_read look wires None None (Some k) sw r q = absurd r
inputs_read look wires None (Some p) None None r q = absurd q
inputs_read look wires None (Some p) None (Some j) r q = rw (with_input, q) (by (wires j))
  where
    by : (y : Option Value) → with_input (Some p) (λ _. y) (λ y. Some (record { north = None; west = y })) ≡ (if is_some y && true then Some (record { north = None; west = y }) else None)
    by None = refl
    by (Some v) = refl
inputs_read look wires None (Some p) (Some k) sw r q = absurd r
inputs_read look wires (Some o) w None sw r q = absurd r
inputs_read look wires (Some o) None (Some k) None r q = rw (with_input, r) (by (wires k))
  where
    by : (x : Option Value) → with_input (Some o) (λ _. x) (λ x. Some (record { north = x; west = None })) ≡ (if is_some x && true then Some (record { north = x; west = None }) else None)
    by None = refl
    by (Some v) = refl
inputs_read look wires (Some o) None (Some k) (Some j) r q = absurd q
inputs_read look wires (Some o) (Some p) (Some k) None r q = absurd q
inputs_read look wires (Some o) (Some p) (Some k) (Some j) r q = rw (with_input, r) (by_first (wires k))
  where
    by : (v : Value) (y : Option Value) → with_input (Some p) (λ _. y) (λ y. Some (record { north = Some v; west = y })) ≡ (if is_some y && true then Some (record { north = Some v; west = y }) else None)
    by v None = refl
    by v (Some w) = refl

    by_first : (x : Option Value) → with_input (Some o) (λ _. x) (λ x. with_input (Some p) look (λ y. Some (record { north = x; west = y })))
        ≡ (if is_some x && (is_some (wires j) && true) then Some (record { north = x; west = wires j }) else None)
    by_first None = refl
    by_first (Some v) = rw (with_input, q) (by v (wires j))

-- a `send`
pub sends_write : (s e : Option ℕ) → AreTwo s e → (outs : List (Tree × BoxSide)) → AreApart outs → (step : PlanStep) → step.s ≡ s → step.e ≡ e → (vn vw : Value) (a : Inputs) →
    vn ≡ unwrap_or a.north value.unit → vw ≡ unwrap_or a.west value.unit → (wires : ℕ → Option Value) →
    Fresh s e (record { south = meaning.sent S outs a; east = meaning.sent E outs a; stuck = None }) wires →
    Writes s e (record { south = meaning.sent S outs a; east = meaning.sent E outs a; stuck = None }) wires (sending vn vw (map (out_sent step) outs) wires)
sends_write s e two [] apart step is js vn vw a hn hw wires fresh = writes_none s e two wires _ fresh refl refl
sends_write s e two ((x, S) ∷ []) apart step is js vn vw a hn hw wires fresh =
    rw (is, same_value x vn vw a hn hw) (writes_south s e two wires _ _ fresh refl refl)
sends_write s e two ((x, E) ∷ []) apart step is js vn vw a hn hw wires fresh =
    rw (js, same_value x vn vw a hn hw) (writes_east s e two wires _ _ fresh refl refl)
sends_write s e two ((x, S) ∷ (y, S) ∷ []) apart step is js vn vw a hn hw wires fresh = absurd (apart refl)
sends_write s e two ((x, E) ∷ (y, E) ∷ []) apart step is js vn vw a hn hw wires fresh = absurd (apart refl)
sends_write s e two ((x, S) ∷ (y, E) ∷ []) apart step is js vn vw a hn hw wires fresh =
    rw (is, js, same_value x vn vw a hn hw, same_value y vn vw a hn hw) (writes_both s e two wires _ _ _ refl refl)
sends_write s e two ((x, E) ∷ (y, S) ∷ []) apart step is js vn vw a hn hw wires fresh =
    rw (is, js, same_value x vn vw a hn hw, same_value y vn vw a hn hw) (writes_both_turned s e two wires _ _ _ refl refl)
sends_write s e two (o ∷ p ∷ q ∷ more) apart step is js vn vw a hn hw wires fresh = absurd apart

-- a `case`, with two sides or with one, and a `split`
module _ (s e : Option ℕ) (two : AreTwo s e) (wires : ℕ → Option Value) (trail : trails.Trail) where
  pub case_south_east : (v : Value) → Writes s e (meaning.chosen S E trail v) wires (carrying e (part_of_value 1 v) (carrying s (part_of_value 0 v) wires))
  case_south_east v = writes_both s e two wires (meaning.chosen S E trail v) (part_of_value 0 v) (part_of_value 1 v) (south v) (east v)
    where
      south : (v : Value) → (meaning.chosen S E trail v).south ≡ part_of_value 0 v
      south value.unit = refl
      south (value.pair a b) = refl
      south (value.inl a) = refl
      south (value.inr a) = refl

      east : (v : Value) → (meaning.chosen S E trail v).east ≡ part_of_value 1 v
      east value.unit = refl
      east (value.pair a b) = refl
      east (value.inl a) = refl
      east (value.inr a) = refl

  pub case_east_south : (v : Value) → Writes s e (meaning.chosen E S trail v) wires (carrying s (part_of_value 1 v) (carrying e (part_of_value 0 v) wires))
  case_east_south v = writes_both_turned s e two wires (meaning.chosen E S trail v) (part_of_value 1 v) (part_of_value 0 v) (south v) (east v)
    where
      south : (v : Value) → (meaning.chosen E S trail v).south ≡ part_of_value 1 v
      south value.unit = refl
      south (value.pair a b) = refl
      south (value.inl a) = refl
      south (value.inr a) = refl

      east : (v : Value) → (meaning.chosen E S trail v).east ≡ part_of_value 0 v
      east value.unit = refl
      east (value.pair a b) = refl
      east (value.inl a) = refl
      east (value.inr a) = refl

  pub case_south : (v : Value) → Fresh s e (meaning.chosen S S trail v) wires → Writes s e (meaning.chosen S S trail v) wires (carrying s (or_else (part_of_value 0 v) (part_of_value 1 v)) wires)
  case_south v fresh = writes_south s e two wires (meaning.chosen S S trail v) (or_else (part_of_value 0 v) (part_of_value 1 v)) fresh (south v) (east v)
    where
      south : (v : Value) → (meaning.chosen S S trail v).south ≡ or_else (part_of_value 0 v) (part_of_value 1 v)
      south value.unit = refl
      south (value.pair a b) = refl
      south (value.inl a) = refl
      south (value.inr a) = refl

      east : (v : Value) → (meaning.chosen S S trail v).east ≡ None
      east value.unit = refl
      east (value.pair a b) = refl
      east (value.inl a) = refl
      east (value.inr a) = refl

  pub case_east : (v : Value) → Fresh s e (meaning.chosen E E trail v) wires → Writes s e (meaning.chosen E E trail v) wires (carrying e (or_else (part_of_value 0 v) (part_of_value 1 v)) wires)
  case_east v fresh = writes_east s e two wires (meaning.chosen E E trail v) (or_else (part_of_value 0 v) (part_of_value 1 v)) fresh (south v) (east v)
    where
      south : (v : Value) → (meaning.chosen E E trail v).south ≡ None
      south value.unit = refl
      south (value.pair a b) = refl
      south (value.inl a) = refl
      south (value.inr a) = refl

      east : (v : Value) → (meaning.chosen E E trail v).east ≡ or_else (part_of_value 0 v) (part_of_value 1 v)
      east value.unit = refl
      east (value.pair a b) = refl
      east (value.inl a) = refl
      east (value.inr a) = refl

  pub split_writes : (v : Value) → Writes s e (meaning.parts trail v) wires (carrying e (part_of_value 3 v) (carrying s (part_of_value 2 v) wires))
  split_writes v = writes_both s e two wires (meaning.parts trail v) (part_of_value 2 v) (part_of_value 3 v) (south v) (east v)
    where
      south : (v : Value) → (meaning.parts trail v).south ≡ part_of_value 2 v
      south value.unit = refl
      south (value.pair a b) = refl
      south (value.inl a) = refl
      south (value.inr a) = refl

      east : (v : Value) → (meaning.parts trail v).east ≡ part_of_value 3 v
      east value.unit = refl
      east (value.pair a b) = refl
      east (value.inl a) = refl
      east (value.inr a) = refl

pub case_marks : (P : Program) (m b : ℕ) (left right : BoxSide) (v : Value) →
    stuck_at (first_text P m + b) (or_else (part_of_value 0 v) (part_of_value 1 v)) ≡ option_map (by_texts P) (meaning.chosen left right (trails.trail_of (NoSum m b)) v).stuck
case_marks P m b left right value.unit = refl
case_marks P m b left right (value.pair v w) = refl
case_marks P m b S right (value.inl v) = refl
case_marks P m b E right (value.inl v) = refl
case_marks P m b left S (value.inr v) = refl
case_marks P m b left E (value.inr v) = refl

pub split_marks : (P : Program) (m b : ℕ) (v : Value) →
    stuck_at (first_text P m + b) (or_else (part_of_value 2 v) (part_of_value 3 v)) ≡ option_map (by_texts P) (meaning.parts (trails.trail_of (NoPair m b)) v).stuck
split_marks P m b value.unit = refl
split_marks P m b (value.pair v w) = refl
split_marks P m b (value.inl v) = refl
split_marks P m b (value.inr v) = refl

-- what a turn does where its wired inputs carry values
abbrev pub done_wires : Known → Box → (ℕ → Option Value) → ℕ → Option Value
done_wires known (Sends inputs north west outs) wires = sending (in_value wires north) (in_value wires west) outs wires
done_wires known (Sorts inputs north west x f g one two both number text) wires = sorted (slot_value x (in_value wires north) (in_value wires west)) f g one two both wires
done_wires known (Uses inputs north west callee size own side number text) wires = answered_wires side (known callee (inputs_on wires north west)) wires

abbrev pub done_marks : Known → Box → (ℕ → Option Value) → (ℕ → Option TextTrail) → ℕ → Option TextTrail
done_marks known (Sends inputs north west outs) wires marks = marks
done_marks known (Sorts inputs north west x f g one two both number text) wires marks =
    let v = slot_value x (in_value wires north) (in_value wires west) in marking number (stuck_at text (or_else (part_of_value f v) (part_of_value g v))) marks
done_marks known (Uses inputs north west callee size own side number text) wires marks = answered_marks number text (known callee (inputs_on wires north west)) marks

pub turn_wires_if : (known : Known) (t : Box) (wires : ℕ → Option Value) →
    fired_wires known t wires ≡ (if carry_all wires (box_inputs t) then done_wires known t wires else wires)
turn_wires_if known (Sends inputs north west outs) wires = refl
turn_wires_if known (Sorts inputs north west x f g one two both number text) wires = refl
turn_wires_if known (Uses inputs north west callee size own side number text) wires = by (carry_all wires inputs)
  where
    by : (t : Bool) → answered_wires side (answer_to known (if t then Some (record { callee = callee; inputs = inputs_on wires north west }) else None)) wires
        ≡ (if t then answered_wires side (known callee (inputs_on wires north west)) wires else wires)
    by true = refl
    by false = refl

pub turn_marks_if : (known : Known) (t : Box) (wires : ℕ → Option Value) (marks : ℕ → Option TextTrail) →
    fired_marks known t wires marks ≡ (if carry_all wires (box_inputs t) then done_marks known t wires marks else marks)
turn_marks_if known (Sends inputs north west outs) wires marks = by (carry_all wires inputs)
  where
    by : (t : Bool) → marks ≡ (if t then marks else marks)
    by true = refl
    by false = refl
turn_marks_if known (Sorts inputs north west x f g one two both number text) wires marks = refl
turn_marks_if known (Uses inputs north west callee size own side number text) wires marks = by (carry_all wires inputs)
  where
    by : (t : Bool) → answered_marks number text (answer_to known (if t then Some (record { callee = callee; inputs = inputs_on wires north west }) else None)) marks
        ≡ (if t then answered_marks number text (known callee (inputs_on wires north west)) marks else marks)
    by true = refl
    by false = refl

-- box b has the mark, and all others have theirs
pub record Mark (b : ℕ) (mark : Option TextTrail) (marks now : ℕ → Option TextTrail) : Type 0 where
  pub here : now b ≡ mark
  pub others : (d : ℕ) → d ≢ b → now d ≡ marks d

pub marked : (b : ℕ) (mark mark' : Option TextTrail) (marks : ℕ → Option TextTrail) → mark ≡ mark' → Mark b mark' marks (marking b mark marks)
marked b mark mark' marks e = record {
  here = ap (λ t. if t then mark else marks b) (eq-eqb b b refl) ∙ e;
  others = λ d other. ap (λ t. if t then mark else marks d) (ne_eqb d b other);
}

pub unmarked : (b : ℕ) (mark : Option TextTrail) (marks : ℕ → Option TextTrail) → marks b ≡ mark → Mark b mark marks marks
unmarked b mark marks e = record { here = e; others = λ d other. refl }

-- the text of a caller stands outside those of the trail inside
through_via : (P : Program) (callers : List (ℕ × ℕ)) (trail : TextTrail) (m b : ℕ) →
    Via (first_text P m + b) (through (texts_of P) callers trail) ≡ through (texts_of P) (callers ++ (m, b) ∷ []) trail
through_via P [] trail m b = refl
through_via P (c ∷ callers) trail m b = through_via P callers (Via (first_text P c.0 + c.1) trail) m b

drawn_via : (P : Program) (m b : ℕ) (trail : trails.Trail) → Via (first_text P m + b) (by_texts P trail) ≡ by_texts P (trails.via m b trail)
drawn_via P m b trail = through_via P trail.callers (At (site_text P trail.site)) m b

pub use_marks : (P : Program) (m b : ℕ) (answer : Answers) (j : ℕ) (a : Inputs) (marks : ℕ → Option TextTrail) → ((cell_of m b answer (Starts j a)).stuck ≡ None → marks b ≡ None) →
    Mark b (option_map (by_texts P) (cell_of m b answer (Starts j a)).stuck) marks (answered_marks b (first_text P m + b) (known_of (texts_of P) answer j a) marks)
unfolding returned
use_marks P m b answer j a marks fresh = by (answer j a) fresh
  where
    by : (r : Option Meaning) → ((cell_of m b (λ _ _. r) (Starts j a)).stuck ≡ None → marks b ≡ None) →
        Mark b (option_map (by_texts P) (cell_of m b (λ _ _. r) (Starts j a)).stuck) marks
        (answered_marks b (first_text P m + b) (option_map (λ (r : Meaning). came_of (texts_of P) r.outcome) r) marks)
    by None fresh = unmarked b None marks (fresh refl)
    by (Some r) fresh = at r.outcome
      where
        at : (o : Outcome) → Mark b (option_map (by_texts P) (returned m b o).stuck) marks (marking b (by_caller (first_text P m + b) (mark_of (texts_of P) o)) marks)
        at (Gives v) = marked b None None marks refl
        at (Stuck trail) = marked b _ _ marks (ap Some (drawn_via P m b trail))

pub use_writes : (P : Program) (m b : ℕ) (s e : Option ℕ) → AreTwo s e → (spare : ℕ) (wires : ℕ → Option Value) (answer : Answers) (j : ℕ) (a : Inputs) → Fresh s e (cell_of m b answer (Starts j a)) wires →
    Writes s e (cell_of m b answer (Starts j a)) wires (answered_wires (record { wire = e; spare = spare }) (known_of (texts_of P) answer j a) wires)
unfolding returned
use_writes P m b s e two spare wires answer j a fresh = by (answer j a) fresh
  where
    by : (r : Option Meaning) → Fresh s e (cell_of m b (λ _ _. r) (Starts j a)) wires →
        Writes s e (cell_of m b (λ _ _. r) (Starts j a)) wires
        (answered_wires (record { wire = e; spare = spare }) (option_map (λ (r : Meaning). came_of (texts_of P) r.outcome) r) wires)
    by None fresh = writes_none s e two wires _ fresh refl refl
    by (Some r) fresh = at r.outcome fresh
      where
        at : (o : Outcome) → Fresh s e (returned m b o) wires → Writes s e (returned m b o) wires (carrying e (value_of o) wires)
        at (Gives v) fresh = writes_east s e two wires _ _ fresh refl refl
        at (Stuck trail) fresh = writes_east s e two wires _ _ fresh refl refl

-- what a box calls
abbrev pub call_in : Option Effect → Option Call
call_in None = None
call_in (Some (Done c)) = None
call_in (Some (Starts j a)) = Some (record { callee = j; inputs = a })

-- the wires carry what comes from cells, and the marks are those of the cells
pub record Shows (P : Program) (m : ℕ) (a : Inputs) (wires : ℕ → Option Value) (marks : ℕ → Option TextTrail) (cells : Cells) : Type 0 where
  pub wires_are : (o : Origin) (k : ℕ) → slot_of (module_at P m) o ≡ Some k → wires k ≡ look_in a cells o
  pub marks_are : (b : ℕ) → marks b ≡ option_map (by_texts P) (stuck_of (cells b))

abbrev put : Cells → ℕ → Option Cell → Cells
put cells b x = λ d. if d == b then x else cells d

south_wired : (M : ModuleForm) (b : ℕ) (o : Origin) (k : ℕ) → slot_of M o ≡ Some k → slot_of M (South b) ≡ Some k → o ≡ South b
south_wired M b o k e f = slot_apart (wire_starts M) o (South b) k e f

east_wired : (M : ModuleForm) (b : ℕ) (o : Origin) (k : ℕ) → slot_of M o ≡ Some k → slot_of M (East b) ≡ Some k → o ≡ East b
east_wired M b o k e f = slot_apart (wire_starts M) o (East b) k e f

pub sides_apart : (M : ModuleForm) (b : ℕ) → AreTwo (slot_of M (South b)) (slot_of M (East b))
sides_apart M b k e f = let g : South b ≡ East b = slot_apart (wire_starts M) (South b) (East b) k e f in absurd (cc)

module _ (P : Program) (m : ℕ) (a : Inputs) (wires : ℕ → Option Value) (marks : ℕ → Option TextTrail) (cells : Cells) (b : ℕ) (shows : Shows P m a wires marks cells) where
  fresh_of : (c : Cell) → (cells b ≡ None) ⊎ (cells b ≡ Some c) → Fresh (slot_of (module_at P m) (South b)) (slot_of (module_at P m) (East b)) c wires
  fresh_of c (inl none) = record {
    south = λ k is no. shows.wires_are (South b) k is ∙ ap south_of none;
    east = λ k is no. shows.wires_are (East b) k is ∙ ap east_of none;
  }
  fresh_of c (inr was) = record {
    south = λ k is no. shows.wires_are (South b) k is ∙ (ap south_of was ∙ no);
    east = λ k is no. shows.wires_are (East b) k is ∙ (ap east_of was ∙ no);
  }

  fresh_mark : (c : Cell) → (cells b ≡ None) ⊎ (cells b ≡ Some c) → c.stuck ≡ None → marks b ≡ None
  fresh_mark c (inl none) free = shows.marks_are b ∙ ap (λ x. option_map (by_texts P) (stuck_of x)) none
  fresh_mark c (inr was) free = shows.marks_are b ∙ (ap (λ x. option_map (by_texts P) (stuck_of x)) was ∙ ap (option_map (by_texts P)) free)

  shows_after : (c : Cell) (now : ℕ → Option Value) (marks' : ℕ → Option TextTrail) → Writes (slot_of (module_at P m) (South b)) (slot_of (module_at P m) (East b)) c wires now →
      Mark b (option_map (by_texts P) c.stuck) marks marks' → Shows P m a now marks' (put cells b (Some c))
  shows_after c now marks' writes mark = record { wires_are = wires_at; marks_are = λ d. mark_at d (d == b) refl }
    where
      kept : (o : Origin) (k : ℕ) → slot_of (module_at P m) o ≡ Some k → (o ≡ South b → ⊥) → (o ≡ East b → ⊥) → now k ≡ look_in a cells o
      kept o k e no_south no_east =
          writes.others k (λ f. no_south (south_wired (module_at P m) b o k e f)) (λ f. no_east (east_wired (module_at P m) b o k e f)) ∙ shows.wires_are o k e

      south_at : (d k : ℕ) → slot_of (module_at P m) (South d) ≡ Some k → (t : Bool) → (d == b) ≡ t → now k ≡ south_of (if t then Some c else cells d)
      south_at d k e true is = writes.south k (subst (λ z. slot_of (module_at P m) (South z) ≡ Some k) (eqb-true d b is) e)
      south_at d k e false is = kept (South d) k e (λ f. eqb-false d b is (cc)) (λ f. cc)

      east_at : (d k : ℕ) → slot_of (module_at P m) (East d) ≡ Some k → (t : Bool) → (d == b) ≡ t → now k ≡ east_of (if t then Some c else cells d)
      east_at d k e true is = writes.east k (subst (λ z. slot_of (module_at P m) (East z) ≡ Some k) (eqb-true d b is) e)
      east_at d k e false is = kept (East d) k e (λ f. cc) (λ f. eqb-false d b is (cc))

      wires_at : (o : Origin) (k : ℕ) → slot_of (module_at P m) o ≡ Some k → now k ≡ look_in a (put cells b (Some c)) o
      wires_at North k e = kept North k e (λ f. cc) (λ f. cc)
      wires_at West k e = kept West k e (λ f. cc) (λ f. cc)
      wires_at (South d) k e = south_at d k e (d == b) refl
      wires_at (East d) k e = east_at d k e (d == b) refl

      mark_at : (d : ℕ) (t : Bool) → (d == b) ≡ t → marks' d ≡ option_map (by_texts P) (stuck_of (if t then Some c else cells d))
      mark_at d true is = ap marks' (eqb-true d b is) ∙ mark.here
      mark_at d false is = mark.others d (eqb-false d b is) ∙ shows.marks_are d

-- the outs of a `send` go to two sides
abbrev pub HasApart : Form → Type 0
HasApart (send outs) = AreApart outs
HasApart (case x left right) = Unit {0}
HasApart (split x) = Unit {0}
HasApart (call name) = Unit {0}

pub turn_inputs_are : (P : Program) (m : ℕ) (step : PlanStep) (text : ℕ) (command : Form) → box_inputs (step_box P m step text command) ≡ wired step.n step.w
turn_inputs_are P m step text (send outs) = refl
turn_inputs_are P m step text (case x S S) = refl
turn_inputs_are P m step text (case x S E) = refl
turn_inputs_are P m step text (case x E S) = refl
turn_inputs_are P m step text (case x E E) = refl
turn_inputs_are P m step text (split x) = refl
turn_inputs_are P m step text (call name) = refl

call_is : (P : Program) (m b : ℕ) (step : PlanStep) (text : ℕ) (command : Form) (wires : ℕ → Option Value) →
    call_of (step_box P m step text command) wires
    ≡ call_in (option_map (effect_of P m b command) (if carry_all wires (wired step.n step.w) then Some (inputs_on wires step.n step.w) else None))
call_is P m b step text (send outs) wires = by (carry_all wires (wired step.n step.w))
  where
    by : (t : Bool) → None ≡ call_in (option_map (effect_of P m b (send outs)) (if t then Some (inputs_on wires step.n step.w) else None))
    by true = refl
    by false = refl
call_is P m b step text (case x left right) wires = none left right ∙ by (carry_all wires (wired step.n step.w))
  where
    none : (left right : BoxSide) → call_of (step_box P m step text (case x left right)) wires ≡ None
    none S S = refl
    none S E = refl
    none E S = refl
    none E E = refl

    by : (t : Bool) → None ≡ call_in (option_map (effect_of P m b (case x left right)) (if t then Some (inputs_on wires step.n step.w) else None))
    by true = refl
    by false = refl
call_is P m b step text (split x) wires = by (carry_all wires (wired step.n step.w))
  where
    by : (t : Bool) → None ≡ call_in (option_map (effect_of P m b (split x)) (if t then Some (inputs_on wires step.n step.w) else None))
    by true = refl
    by false = refl
call_is P m b step text (call name) wires = by (carry_all wires (wired step.n step.w))
  where
    by : (t : Bool) → (if t then Some (record { callee = find P name; inputs = inputs_on wires step.n step.w }) else None)
        ≡ call_in (option_map (effect_of P m b (call name)) (if t then Some (inputs_on wires step.n step.w) else None))
    by true = refl
    by false = refl

module _ (P : Program) (answer : Answers) (m b : ℕ) (step : PlanStep) (number : step.bx ≡ b) (two : AreTwo step.s step.e) (wires : ℕ → Option Value) (marks : ℕ → Option TextTrail) where
  the_value : (x : Tree) → slot_value x (in_value wires step.n) (in_value wires step.w) ≡ meaning.val x (inputs_on wires step.n step.w)
  the_value x = same_value x (in_value wires step.n) (in_value wires step.w) (inputs_on wires step.n step.w) (in_value_is wires step.n) (in_value_is wires step.w)

  abbrev pub cell : Form → Cell
  cell command = cell_of m b answer (effect_of P m b command (inputs_on wires step.n step.w))

  marked_here : (mark mark' : Option TextTrail) → mark ≡ mark' → Mark b mark' marks (marking step.bx mark marks)
  marked_here mark mark' e = rw number (marked b mark mark' marks e)

  case_law : (x : Tree) (left right : BoxSide) → Fresh step.s step.e (cell (case x left right)) wires →
      Writes step.s step.e (cell (case x left right)) wires (done_wires (known_of (texts_of P) answer) (step_box P m step (first_text P m + b) (case x left right)) wires)
      × Mark b (option_map (by_texts P) (cell (case x left right)).stuck) marks (done_marks (known_of (texts_of P) answer) (step_box P m step (first_text P m + b) (case x left right)) wires marks)
  case_law x S S fresh = rw (the_value x) (case_south step.s step.e two wires _ _ fresh, marked_here _ _ (case_marks P m b S S _))
  case_law x S E fresh = rw (the_value x) (case_south_east step.s step.e two wires _ _, marked_here _ _ (case_marks P m b S E _))
  case_law x E S fresh = rw (the_value x) (case_east_south step.s step.e two wires _ _, marked_here _ _ (case_marks P m b E S _))
  case_law x E E fresh = rw (the_value x) (case_east step.s step.e two wires _ _ fresh, marked_here _ _ (case_marks P m b E E _))

  pub done_law : (command : Form) → HasApart command → Fresh step.s step.e (cell command) wires → ((cell command).stuck ≡ None → marks b ≡ None) →
      Writes step.s step.e (cell command) wires (done_wires (known_of (texts_of P) answer) (step_box P m step (first_text P m + b) command) wires)
      × Mark b (option_map (by_texts P) (cell command).stuck) marks (done_marks (known_of (texts_of P) answer) (step_box P m step (first_text P m + b) command) wires marks)
  done_law (send outs) apart fresh mark = (
    sends_write step.s step.e two outs apart step refl refl (in_value wires step.n) (in_value wires step.w) (inputs_on wires step.n step.w)
        (in_value_is wires step.n) (in_value_is wires step.w) wires fresh,
    unmarked b None marks (mark refl),
  )
  done_law (case x left right) apart fresh mark = case_law x left right fresh
  done_law (split x) apart fresh mark = rw (the_value x) (split_writes step.s step.e two wires _ _, marked_here _ _ (split_marks P m b _))
  done_law (call name) apart fresh mark = (
    use_writes P m b step.s step.e two 1 wires answer (find P name) (inputs_on wires step.n step.w) fresh,
    rw number (use_marks P m b answer (find P name) (inputs_on wires step.n step.w) marks mark),
  )

module _ (P : Program) (answer : Answers) (m : ℕ) (a : Inputs) (b : ℕ) (row : BoxForm) (there : box_at P m b ≡ Some row) (apart : HasApart row.command)
    (wires : ℕ → Option Value) (marks : ℕ → Option TextTrail) (cells : Cells) (shows : Shows P m a wires marks cells)
    (before : (cells b ≡ None) ⊎ (cells b ≡ cells_from P answer m (look_in a cells) b)) where
  abbrev known : Known
  known = known_of (texts_of P) answer

  abbrev pub turn : Box
  turn = step_box P m (step_of (module_at P m) b row) (first_text P m + b) row.command

  reads : (o : Option Origin) → ((p : Origin) → o ≡ Some p → (k : ℕ) × (slot_of (module_at P m) p ≡ Some k)) → Reads (look_in a cells) wires o (slot_at (module_at P m) o)
  reads None slots = tt
  reads (Some p) slots =
      let (k, e) = slots p refl in
      subst (λ (z : Option ℕ). Reads (look_in a cells) wires (Some p) z) (sym e) (sym (shows.wires_are p k e))

  inputs_are : inputs_of (look_in a cells) row
      ≡ (if carry_all wires (wired (slot_at (module_at P m) row.n) (slot_at (module_at P m) row.w)) then Some (inputs_on wires (slot_at (module_at P m) row.n) (slot_at (module_at P m) row.w)) else None)
  inputs_are = inputs_read (look_in a cells) wires row.n row.w (slot_at (module_at P m) row.n) (slot_at (module_at P m) row.w)
      (reads row.n (λ p e. slot_comes (module_at P m) p (to.N b) (row, there, e))) (reads row.w (λ p e. slot_comes (module_at P m) p (to.W b) (row, there, e)))

  act_is : act P m (look_in a cells) b ≡ option_map (effect_of P m b row.command) (inputs_of (look_in a cells) row)
  act_is = ap (λ r. option_and_then (λ row. option_map (effect_of P m b row.command) (inputs_of (look_in a cells) row)) r) there

  -- The box calls what its firing starts.
  pub turn_calls : call_of turn wires ≡ call_in (act P m (look_in a cells) b)
  turn_calls = call_is P m b (step_of (module_at P m) b row) (first_text P m + b) row.command wires
      ∙ (ap (λ x. call_in (option_map (effect_of P m b row.command) x)) (sym inputs_are) ∙ ap call_in (sym act_is))

  cell_is : cells_from P answer m (look_in a cells) b ≡ option_map (cell_of m b answer) (option_map (effect_of P m b row.command) (inputs_of (look_in a cells) row))
  cell_is = ap (λ r. option_map (cell_of m b answer) (option_and_then (λ row. option_map (effect_of P m b row.command) (inputs_of (look_in a cells) row)) r)) there

  abbrev step : PlanStep
  step = step_of (module_at P m) b row

  inputs_if : (t : Bool) → carry_all wires (box_inputs turn) ≡ t →
      cells_from P answer m (look_in a cells) b ≡ option_map (cell_of m b answer) (option_map (effect_of P m b row.command) (if t then Some (inputs_on wires step.n step.w) else None))
  inputs_if t e =
      cell_is ∙ (ap (λ x. option_map (cell_of m b answer) (option_map (effect_of P m b row.command) x)) inputs_are
      ∙ ap (λ (t : Bool). option_map (cell_of m b answer) (option_map (effect_of P m b row.command) (if t then Some (inputs_on wires step.n step.w) else None)))
      (ap (carry_all wires) (sym (turn_inputs_are P m step (first_text P m + b) row.command)) ∙ e))

  no_change : cells_from P answer m (look_in a cells) b ≡ None → turned P answer m a cells b ≡ cells
  no_change none = fun_ext (λ d. by d (d == b) refl)
    where
      was : (cells b ≡ None) ⊎ (cells b ≡ cells_from P answer m (look_in a cells) b) → cells b ≡ None
      was (inl e) = e
      was (inr e) = e ∙ none

      by : (d : ℕ) (t : Bool) → (d == b) ≡ t → (if t then cells_from P answer m (look_in a cells) b else cells d) ≡ cells d
      by d true e = none ∙ (sym (was before) ∙ ap cells (sym (eqb-true d b e)))
      by d false e = refl

  same_shows : (w w' : ℕ → Option Value) (k k' : ℕ → Option TextTrail) (c c' : Cells) → w' ≡ w → k' ≡ k → c' ≡ c → Shows P m a w k c → Shows P m a w' k' c'
  same_shows w w' k k' c c' ew ek ec h = rw (ew, ek, ec) h

  -- A turn over slots shows what the turn of the box comes to.
  pub turn_law : Shows P m a (fired_wires known turn wires) (fired_marks known turn wires marks) (turned P answer m a cells b)
  turn_law = by (carry_all wires (box_inputs turn)) refl
    where
      by : (t : Bool) → carry_all wires (box_inputs turn) ≡ t → Shows P m a (fired_wires known turn wires) (fired_marks known turn wires marks) (turned P answer m a cells b)
      by false e = same_shows _ _ _ _ _ _
          (turn_wires_if known turn wires ∙ ap (λ (t : Bool). if t then done_wires known turn wires else wires) e)
          (turn_marks_if known turn wires marks ∙ ap (λ (t : Bool). if t then done_marks known turn wires marks else marks) e)
          (no_change (inputs_if false e)) shows
      by true e =
          let c = cell P answer m b step refl (sides_apart (module_at P m) b) wires marks row.command in
          let is : cells_from P answer m (look_in a cells) b ≡ Some c = inputs_if true e in
          let was : (cells b ≡ None) ⊎ (cells b ≡ Some c) = elim before [ inl none ↦ inl none | inr same ↦ inr (same ∙ is) ] in
          let done = done_law P answer m b step refl (sides_apart (module_at P m) b) wires marks row.command apart (fresh_of P m a wires marks cells b shows c was) (fresh_mark P m a wires marks cells b shows c was) in
          same_shows _ _ _ _ _ _
          (turn_wires_if known turn wires ∙ ap (λ (t : Bool). if t then done_wires known turn wires else wires) e)
          (turn_marks_if known turn wires marks ∙ ap (λ (t : Bool). if t then done_marks known turn wires marks else marks) e)
          (ap (put cells b) is)
          (shows_after P m a wires marks cells b shows c _ _ done.0 done.1)
