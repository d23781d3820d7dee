-- The block of a plan does by itself what its module means.
use Rattle.std.proofs.Common.{◌≡◌, ℕ, ◌+◌, ◌-◌, ◌*◌, ◌<◌, ◌≤◌, List, [], ◌∷◌, ◌++◌, length, replicate, Option, Some, None, refl, sym, ap, ◌∙◌, subst, arith}
use Rattle.std.specs.Prelude.{slice_index, slice_get, unwrap_or, map, suc, Bool, true, ◌&&◌, ◌==◌, if◌then◌else◌}
use Rattle.std.specs.Option.{option_map}
use Rattle.std.specs.List.{Contains}
use Rattle.std.proofs.lemmas.List.{length-replicate}
use Rattle.std.proofs.lemmas.Option.{get_or_from_slice_get, slice_get_within}
use Rattle.um_word.specs.declared.op.Op.{Op}
use Rattle.um_word.specs.State.{State}
use Rattle.um_word.specs.Leads.{Leads}
use Rattle.um_word.proofs.Leading.{weaken}
use Rattle.codex_values.specs.Value.{Value}
use Rattle.two_d.specs.declared.command.Side.TheVariants.{S, E}
use Rattle.two_d.specs.Trees.{Form, send, case, split, call}
use Rattle.two_d.specs.Meaning.{Inputs, Effect, Answers, Cells, none_fired, stuck_of, cell_of}
use Rattle.two_d.specs.Programs.{BoxForm, Program, module_at}
use Rattle.two_d.specs.Sound.{IsSound, IsKeptOrder}
use Rattle.two_d.proofs.Sourced.{IsSourced, sourced}
use Rattle.two_d.proofs.Pushing.{turned, IsPushed, pushed_none, pushed_one, act_pushed}
use Rattle.two_d.specs.Good.{UsesWell}
use Rattle.two_d.specs.Good as program
use Rattle.two_d.proofs.KeptOrders.{kept_once}
use Rattle.two_d.specs.Weights.{part}
use Rattle.code_templates.specs.Lines.{StandsAt}
use Rattle.code_templates.specs.Templates.{return_outcome}
use Rattle.code_templates.proofs.Straight.{stands_front, stands_back}
use Rattle.lower_plan.specs.declared.plan.Plan.{Plan}
use Rattle.lower_plan.specs.declared.plan.PlanStep.{PlanStep}
use Rattle.lower_plan.specs.Plans.{IsStep, IsPlan, wire_starts}
use Rattle.lower_plan.proofs.Wires.{slot_below}
use Rattle.lower_plan.proofs.Planned.{sound_at}
use Rattle.lower_emit.specs.inner.Stretches.{Stretch}
use Rattle.lower_emit.specs.Layouts.{zero_slot, Layout, wire_slot, stuck_slot}
use Rattle.lower_emit.specs.Stands.{TextTrail, Ending, Carries, Marked}
use Rattle.lower_emit.specs.inner.Plans.{by_texts}
use Rattle.lower_emit.specs.Entered.{EntryCarries, IsApart, Return, Entered}
use Rattle.lower_emit.specs.inner.Ends.{Ended}
use Rattle.lower_emit.specs.Blocks.{end_code, BlockPlan, entries_code, block_code, block_length}
use Rattle.lower_emit.specs.KnownOutcomes.{Known, first_text, known_of, texts_of}
use Rattle.lower_emit.specs.Boxes.{box_code, box_length, boxes_code, boxes_length}
use Rattle.lower_emit.specs.inner.Firing.{fired_wires, fired_marks, all_wires, all_marks, all_answered, entry_wires, last_wires, last_marks, ArePlaced, IsGoodBlock}
use Rattle.lower_emit.specs.inner.Trips.{came_if, block_came}
use Rattle.lower_emit.specs.Plans.{step_box, box_in, box_if, block_of}
use Rattle.lower_emit.specs.Surroundings.{Surroundings, ReturnsNow}
use Rattle.lower_emit.specs.BlocksAlone.{Instance, Doing, ShowsThen, Turn, Plays, BlockRuns, effect_at, turned_too, known_about, most_a_unit}
use Rattle.lower_emit.proofs.Words.{box_words, boxes_words, block_words}
use Rattle.lower_emit.proofs.Lengths as lengths
use Rattle.lower_emit.proofs.Placed.{is_good}
use Rattle.lower_emit.proofs.Beginning.{entries_law}
use Rattle.lower_emit.proofs.Ending.{end_law}
use Rattle.lower_emit.proofs.Calling.{follow, behind}
use Rattle.lower_emit.proofs.Turns as turns
use Rattle.lower_emit.proofs.Push.{boxes_in, AreSteps, are_steps, one_turn, whole, first_shows}
use Rattle.lower_emit.proofs.Outcomes.{push_came}
use Rattle.lower_emit.proofs.Alone.{range, own_stretch, own_step, return_step}
use Rattle.lower_emit.proofs.Passing.{passes, frame_apart}
use Rattle.lower_emit.proofs.Playing.{IsSized, AreSized, Own, Moment, Now_, Way, Showing, shown_then, turn_way}

both : (x y : Bool) → x ≡ true → y ≡ true → (x && y) ≡ true
both x y e f = rw (e, f) refl

module _ (P : Program) (answer : Answers) (a : Inputs) (w : Surroundings) (frames : List ℕ) (m : ℕ) (p : BlockPlan) (good : IsGoodBlock p) (stand : StandsAt (w.codes m) 0 (block_code p 0 ++ return_outcome)) (back : Return) (frame : ℕ) (far : IsApart w.table w.ids frame)
    (alone : Contains (back.caller ∷ frames) frame → ⊥) where
  abbrev pub y : Layout
  y = p.layout

  abbrev pub width : ℕ
  width = block_length p + 11

  abbrev pub At_ : ℕ → (ℕ → Option Value) → (ℕ → Option TextTrail) → State → State → Type 0
  At_ place wires stuck s u = Now_ P answer a w frames m width p.layout good.size back frame far alone place wires stuck s u

  abbrev pub one_ : Instance
  one_ = record { program = P; number = m; inputs = a; answer = answer; around = w; frame = frame; others = frames; back = back }

  abbrev pub boxes_end : ℕ
  boxes_end = 18 + boxes_length y p.boxes

  abbrev pub ending : List Op
  ending = end_code y p.exits p.none p.two y.boxes

  abbrev pub all_boxes : List Op
  all_boxes = boxes_code y p.boxes 18

  all_code : StandsAt (w.codes m) 0 ((entries_code p ++ (all_boxes ++ ending)) ++ return_outcome)
  all_code = stand

  pub behind_entries : StandsAt (w.codes m) 18 (all_boxes ++ ending)
  behind_entries = stands_back (w.codes m) 0 (entries_code p) (all_boxes ++ ending) (stands_front (w.codes m) 0 (entries_code p ++ (all_boxes ++ ending)) return_outcome all_code)

  end_stands : StandsAt (w.codes m) boxes_end ending
  end_stands = subst (λ n. StandsAt (w.codes m) (18 + n) ending) (boxes_words y p.boxes 18) (stands_back (w.codes m) 18 all_boxes ending behind_entries)

  return_stands : StandsAt (w.codes m) (block_length p) return_outcome
  return_stands =
      let n = block_words p 0 in
      let all : 0 + length (entries_code p ++ (all_boxes ++ ending)) ≡ block_length p = omega (arith, n) in
      subst (λ q. StandsAt (w.codes m) q return_outcome) all (stands_back (w.codes m) 0 (entries_code p ++ (all_boxes ++ ending)) return_outcome all_code)

  module _ (s : State) (entered : Entered w.codes w.table w.ids m p.layout.size p.north p.west back a frame s) where
    abbrev words : List ℕ
    words = back.caller ∷ back.block ∷ back.offset ∷ entered.north ∷ entered.west ∷ replicate (p.layout.size - 5) 0

    -- the block was entered
    pub begins : At_ 0 (λ k. None) (λ b. None) s s
    begins =
        let size = good.size in
        let n = length-replicate {A = ℕ} (y.size - 5) 0 in
        record {
          at = record {
            slots = words;
            here = record {
              running = entered.running;
              finger = entered.finger;
              eight = entered.eight;
              zero_is = entered.zero_is;
              table_is = entered.table_is;
              current_is = entered.current_is;
              code_is = entered.code_is;
              came_with = entered.code_is;
              came_table = entered.table_is;
              framed = refl;
              still = λ j words out e. e;
              frame_is = entered.frame_is;
              out_is = refl;
              rest_is = refl;
            };
            holds = record {
              long = omega (arith, n, size);
              zero = behind back.caller back.block back.offset entered.north entered.west (y.size - 5) zero_slot (omega arith);
              carries = λ k lt. behind back.caller back.block back.offset entered.north entered.west (y.size - 5) (wire_slot k) (omega arith);
              marked = λ b lt. behind back.caller back.block back.offset entered.north entered.west (y.size - 5) (stuck_slot y b) (omega arith);
            };
            keeps = λ k ws z ne e. e;
            cheap = omega arith;
            home = λ j lt. ap (λ o. slice_index (unwrap_or o []) j) (sym entered.frame_is.there);
          };
          keeps = λ k ws z ne e. e;
          was = words;
          was_there = entered.frame_is.there;
          was_long = omega arith;
          caller_is = refl;
          block_is = refl;
          offset_is = refl;
          blocks = entered.blocks;
          out_is = refl;
        }

    same_slots : begins.at.slots ≡ words
    unfolding begins
    same_slots = refl

    abbrev pub wires0 : ℕ → Option Value
    wires0 = entry_wires p a.north a.west

    -- the entries go to their wires
    pub enters : Leads (Moment P answer a w frames m width p.layout good.size back frame far alone s) 18 (λ u k. (k ≡ []) × At_ 18 wires0 (λ b. None) s u) s []
    enters =
        own_step w frames m width y good.size back frame far alone 0 (λ k. None) (λ b. None) s s begins 18 18 wires0 (λ b. None)
        (entries_law (range w frames m width y good.size back frame far alone s) w.table frame (w.codes m) p a.north a.west 0 s s begins.at
        (subst (λ xs. EntryCarries s.arrays (slice_index xs 3) p.north a.north) (sym same_slots) entered.north_is)
        (subst (λ xs. EntryCarries s.arrays (slice_index xs 4) p.west a.west) (sym same_slots) entered.west_is)
        (stands_front (w.codes m) 0 (entries_code p) (all_boxes ++ ending) (stands_front (w.codes m) 0 (entries_code p ++ (all_boxes ++ ending)) return_outcome all_code))
        (omega arith) (omega arith) good)

  module _ (inside : back.block < length w.ids) where
    abbrev known : Known
    known = known_of (texts_of P) answer

    abbrev came : Ending
    came = block_came known p a

    abbrev wires1 : ℕ → Option Value
    wires1 = last_wires known p a.north a.west

    abbrev marks1 : ℕ → Option TextTrail
    marks1 = last_marks known p a.north a.west

    abbrev end_cycles : ℕ
    end_cycles = 63 + 18 * length p.exits + 9 * p.layout.boxes

    -- the outcome goes to its slots, and the block returns
    pub ends : (cells : Cells) → known_about one_ ≡ Some came → Way P answer a w frames m width p.layout good.size back frame far alone (Plays one_ cells []) boxes_end wires1 marks1
    unfolding Plays
    ends cells is = (
      end_cycles + 11,
      omega arith,
      λ t u now.
          let L = block_length p in
          let r = range w frames m width y good.size back frame far alone u in
          let e : boxes_end + 63 + 18 * length p.exits + 9 * y.boxes ≡ L = omega arith in
          let Q : State → Type 0 = λ x. Ended r w.table frame (w.codes m) y L wires1 marks1 came.value came.mark u x in
          let R : State → Type 0 = λ x. (ending : Ending) × (known_about one_ ≡ Some ending) × ReturnsNow w frames frame back ending t x in
          let I = Moment P answer a w frames m width p.layout good.size back frame far alone t in
          passes (Own P answer a w frames m width p.layout good.size back frame far alone t) (end_cycles + 11) R u
          (follow I end_cycles 11 (λ x k. (k ≡ []) × Q x) (λ x k. R x) u []
          (own_stretch w frames m width y good.size back frame far alone boxes_end wires1 marks1 t u now end_cycles Q
          (subst (λ z. Stretch r end_cycles (λ x. Ended r w.table frame (w.codes m) y z wires1 marks1 came.value came.mark u x) u) e
          (end_law r w.table frame (w.codes m) y u wires1 marks1 good.size p.exits p.none p.two y.boxes boxes_end u now.at end_stands (omega arith) (omega arith) good.are_exits (omega arith))))
          (λ x k q. subst (λ l. Leads I 11 (λ x k. R x) x l) (sym q.0)
          (weaken I 11 (λ z k. ReturnsNow w frames frame back came t z) (λ z k. R z) (λ z k now. (came, is, now)) x []
          (return_step w frames m width y good.size back frame far alone boxes_end wires1 marks1 t u now came x L wires1 marks1 q.1 return_stands inside)))),
    )

module _ (P : Program) (good : program.IsGood P) (p : Plan) (plan : IsPlan P p) where
  abbrev sizes : ℕ → ℕ
  sizes j = 12 + part (module_at P j)

  box_sized : (m : ℕ) (step : PlanStep) (text : ℕ) (row : BoxForm) → UsesWell P row → (command : Form) → row.command ≡ command → IsSized sizes (length P) m (step_box P m step text command)
  box_sized m step text row well (send outs) is = tt
  box_sized m step text row well (case x S S) is = tt
  box_sized m step text row well (case x S E) is = tt
  box_sized m step text row well (case x E S) is = tt
  box_sized m step text row well (case x E E) is = tt
  box_sized m step text row well (split x) is = tt
  box_sized m step text row well (call name) is = ((well name is).0, refl, refl)

  uses_well : (b : ℕ) (row : BoxForm) → slice_get (module_at P p.«module»).boxes b ≡ Some row → UsesWell P row
  uses_well b row there =
      let boxes = (module_at P p.«module»).boxes in
      subst (UsesWell P) (get_or_from_slice_get boxes b row row there) (good.uses p.«module» _ plan.there b row (slice_get_within boxes b row there))

  step_sized : (s : PlanStep) → IsStep (module_at P p.«module») s s.bx → IsSized sizes (length P) p.«module» (box_in P p.«module» s)
  step_sized s is = subst (λ r. IsSized sizes (length P) p.«module» (box_if P p.«module» s (first_text P p.«module» + s.bx) r)) (sym is.there)
      (box_sized p.«module» s (first_text P p.«module» + s.bx) is.row (uses_well s.bx is.row is.there) is.row.command refl)

  steps_sized : (steps : List PlanStep) → ((j : ℕ) (s : PlanStep) → slice_get steps j ≡ Some s → IsStep (module_at P p.«module») s s.bx) → AreSized sizes (length P) p.«module» (map (box_in P p.«module») steps)
  steps_sized [] h = tt
  steps_sized (s ∷ steps) h = (step_sized s (h 0 s refl), steps_sized steps (λ j t e. h (suc j) t e))

  module _ (answer : Answers) (a : Inputs) (w : Surroundings) (frames : List ℕ) (back : Return) (frame : ℕ) (far : IsApart w.table w.ids frame) (alone : Contains (back.caller ∷ frames) frame → ⊥)
      (stand : StandsAt (w.codes p.«module») 0 (block_code (block_of P p) 0 ++ return_outcome)) (inside : back.block < length w.ids) (few : length P ≤ length w.ids) (fits : (callee : ℕ) → callee < length P → sizes callee ≡ w.size callee) where
    abbrev m : ℕ
    m = p.«module»

    abbrev b : BlockPlan
    b = block_of P p

    abbrev known_here : Known
    known_here = known_of (texts_of P) answer

    abbrev the_one : Instance
    the_one = record { program = P; number = m; inputs = a; answer = answer; around = w; frame = frame; others = frames; back = back }

    good_block : IsGoodBlock b
    good_block = is_good P good p plan

    abbrev Way_ : Doing → ℕ → (ℕ → Option Value) → (ℕ → Option TextTrail) → Type 0
    Way_ does place wires marks = Way P answer a w frames m (block_length b + 11) b.layout good_block.size back frame far alone does place wires marks

    sound : IsSound (module_at P m)
    sound = sound_at P good m plan.there

    -- where wires and marks are those of cells, the frame shows these
    frame_shows : (place : ℕ) (wires : ℕ → Option Value) (marks : ℕ → Option TextTrail) (cells : Cells) → turns.Shows P m a wires marks cells → Showing P answer a w frames m (block_length b + 11) b.layout good_block.size back frame far alone cells place wires marks
    frame_shows place wires marks cells shows s u now = record {
      slots = now.at.slots;
      frame_is = now.at.here.frame_is.there;
      wires_are = λ o k e.
          subst (Carries u.arrays (slice_index now.at.slots (wire_slot k))) (shows.wires_are o k e)
          (now.at.holds.carries k (subst (λ n. k < n) (sym plan.slots) (slot_below (wire_starts (module_at P m)) o k e)));
      marks_are = λ d lt.
          subst (λ n. Marked u.arrays (slice_index now.at.slots (8 + n + d)) (option_map (by_texts P) (stuck_of (cells d)))) plan.slots
          (subst (Marked u.arrays (slice_index now.at.slots (stuck_slot b.layout d))) (shows.marks_are d) (now.at.holds.marked d lt));
    }

    -- a box with its turn, and those behind it
    plays_on : (d : ℕ) (boxes : List ℕ) (place : ℕ) (wires : ℕ → Option Value) (marks : ℕ → Option TextTrail) (cells next : Cells) → next ≡ turned_too the_one cells d →
        Way_ (Turn the_one (effect_at the_one d) (ShowsThen the_one next (Plays the_one next boxes))) place wires marks → Way_ (Plays the_one cells (d ∷ boxes)) place wires marks
    unfolding Plays
    plays_on d boxes place wires marks cells next is way =
        subst (λ c. Way_ (Turn the_one (effect_at the_one d) (ShowsThen the_one c (Plays the_one c boxes))) place wires marks) is way

    -- the boxes of steps, one after the other
    steps_way : (steps : List PlanStep) (before : List ℕ) (place : ℕ) (wires : ℕ → Option Value) (marks : ℕ → Option TextTrail) (cells : Cells) → AreSteps (module_at P m) steps →
        IsSourced P m before (boxes_in steps) → IsPushed P answer m a before cells → turns.Shows P m a wires marks cells →
        StandsAt (w.codes m) place (boxes_code b.layout (map (box_in P m) steps) place) → place + boxes_length b.layout (map (box_in P m) steps) ≤ block_length b + 11 → ArePlaced b.layout (map (box_in P m) steps) → AreSized sizes (length P) m (map (box_in P m) steps) →
        (all_answered known_here (map (box_in P m) steps) wires ≡ true → (c : Cells) →
        Way_ (Plays the_one c []) (place + boxes_length b.layout (map (box_in P m) steps)) (all_wires known_here (map (box_in P m) steps) wires) (all_marks known_here (map (box_in P m) steps) wires marks)) →
        Way_ (Plays the_one cells (boxes_in steps)) place wires marks
    steps_way [] before place wires marks cells are sources is shows stand high placed sized end =
        let e : place + 0 ≡ place = omega arith in
        subst (λ q. Way_ (Plays the_one cells []) q wires marks) e (end refl cells)
    steps_way (step ∷ steps) before place wires marks cells are sources is shows stand high placed sized end =
        let box = box_in P m step in
        let boxes = map (box_in P m) steps in
        let n = box_length b.layout box in
        let w2 = fired_wires known_here box wires in
        let k2 = fired_marks known_here box wires marks in
        let p2 : place + (n + boxes_length b.layout boxes) ≡ place + n + boxes_length b.layout boxes = omega arith in
        let words = box_words b.layout box place in
        let front = stands_front (w.codes m) place (box_code b.layout box place) (boxes_code b.layout boxes (place + n)) stand in
        let back_stand : StandsAt (w.codes m) (place + n) (boxes_code b.layout boxes (place + n)) =
        subst (λ q. StandsAt (w.codes m) (place + q) (boxes_code b.layout boxes (place + n))) words (stands_back (w.codes m) place (box_code b.layout box place) (boxes_code b.layout boxes (place + n)) stand) in
        let whole_here = whole P answer a p plan sound in
        let one = one_turn P answer m a sound whole_here step before wires marks cells are.0 sources.0 is shows in
        let next = turned P answer m a cells step.bx in
        let same : next ≡ turned_too the_one cells step.bx =
        ap (λ (x : Option Effect). λ (d : ℕ). if d == step.bx then option_map (cell_of m step.bx answer) x else cells d) (act_pushed P answer m a whole_here before cells step.bx is sources.0) in
        plays_on step.bx (boxes_in steps) place wires marks cells next same
        (turn_way P answer a w frames m (block_length b + 11) b.layout good_block.size back frame far alone sizes (length P) few fits box place wires marks front (omega (arith, high)) placed.0 sized.0
        (effect_at the_one step.bx) one.calls next (Plays the_one next (boxes_in steps)) (frame_shows (place + n) w2 k2 next one.shows)
        (λ ok.
        steps_way steps (step.bx ∷ before) (place + n) w2 k2 next are.1 sources.1 (pushed_one P answer m a whole_here before cells step.bx is sources.0) one.shows back_stand (omega (arith, high)) placed.1 sized.1
        (λ all c. subst (λ q. Way_ (Plays the_one c []) q (all_wires known_here boxes w2) (all_marks known_here boxes w2 k2)) p2 (end (both _ _ ok all) c))))

    -- The block, for one instance.
    instance_runs : (s : State) → Entered w.codes w.table w.ids m b.layout.size b.north b.west back a frame s → (order : List ℕ) → IsKeptOrder (module_at P m) order →
        (n : ℕ) × (n ≤ most_a_unit * part (module_at P m)) × ShowsThen the_one none_fired (Plays the_one none_fired order) n s s
    instance_runs s entered order kept =
        let same = kept_once (module_at P m) (boxes_in p.steps.items) order plan.order kept in
        let wires0 = entry_wires b a.north a.west in
        let bound = lengths.block_words P p plan sound in
        let first = first_shows P answer a p plan sound in
        let way = steps_way p.steps.items [] 18 wires0 (λ d. None) none_fired (are_steps (module_at P m) p.steps.items plan.steps) (sourced P m (boxes_in p.steps.items) plan.order.valid) (pushed_none P answer m a) first
        (stands_front (w.codes m) 18 (boxes_code b.layout b.boxes 18) (end_code b.layout b.exits b.none b.two b.layout.boxes) (behind_entries P answer a w frames m b good_block stand back frame far alone)) (omega arith) good_block.placed (steps_sized p.steps.items plan.steps)
        (λ all c. ends P answer a w frames m b good_block stand back frame far alone inside c (sym (push_came P answer a p plan sound) ∙ ap (λ t. came_if t (block_came known_here b a)) all)) in
        let fits = way.1 in (
          18 + way.0,
          omega (arith, fits, bound),
          subst (λ o. ShowsThen the_one none_fired (Plays the_one none_fired o) (18 + way.0) s s) same
              (shown_then P answer a w frames m (block_length b + 11) b.layout good_block.size back frame far alone 18 18 wires0 (λ d. None) none_fired (Plays the_one none_fired (boxes_in p.steps.items))
              (frame_shows 18 wires0 (λ d. None) none_fired first) way s s (enters P answer a w frames m b good_block stand back frame far alone s entered)),
        )

  -- Words that stand as the block of a plan run as one.
  pub block_runs : (words : List ℕ) → StandsAt words 0 (block_code (block_of P p) 0 ++ return_outcome) → BlockRuns P p.«module» words
  unfolding BlockRuns
  block_runs words stand order kept w others answer back a frame s world code inside there alone entered =
      let m = p.«module» in
      let b = block_of P p in
      let e1 : Entered w.codes w.table w.ids m b.layout.size (w.north m) (w.west m) back a frame s = subst (λ z. Entered w.codes w.table w.ids m z (w.north m) (w.west m) back a frame s) (world.sizes m plan.there) entered in
      let e2 : Entered w.codes w.table w.ids m b.layout.size b.north (w.west m) back a frame s = subst (λ z. Entered w.codes w.table w.ids m b.layout.size z (w.west m) back a frame s) (world.norths m plan.there ∙ sym plan.north) e1 in
      let e3 : Entered w.codes w.table w.ids m b.layout.size b.north b.west back a frame s = subst (λ z. Entered w.codes w.table w.ids m b.layout.size b.north z back a frame s) (world.wests m plan.there ∙ sym plan.west) e2 in
      let many = world.many in
      instance_runs answer a w others back frame entered.apart (frame_apart others back.caller frame there alone) (subst (λ ws. StandsAt ws 0 (block_code b 0 ++ return_outcome)) (sym code) stand) inside (omega (arith, many)) (λ callee lt. sym (world.sizes callee lt)) s e3 order kept
