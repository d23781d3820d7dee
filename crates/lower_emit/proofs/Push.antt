-- The turns of a plan, one after the other, come to what a module means.
use Rattle.std.specs.Prelude.{Option, Some, None, ◌≡◌, ℕ, zero, suc, ◌+◌, is_some, if◌then◌else◌, true, List, [], ◌∷◌, ◌++◌, map, slice_get}
use Rattle.std.specs.Option.{option_map}
use Rattle.std.proofs.Common.{refl, sym, ◌∙◌, ap, subst, ◌⊎◌, inl, inr}
use Rattle.std.proofs.lemmas.Option.{get_or_from_slice_get, slice_get_within}
use Rattle.std.proofs.lemmas.List.{map-append}
use Rattle.codex_values.specs.Value.{Value}
use Rattle.two_d.specs.declared.module.Origin.{Origin}
use Rattle.two_d.specs.declared.module.Origin.TheVariants.{North, West, South, East}
use Rattle.two_d.specs.declared.module.To.TheVariants as to
use Rattle.two_d.specs.declared.trail.Site.TheVariants.{NoResult, TwoResults}
use Rattle.two_d.specs.Trees.{Form, send, case, split, call, IsWithin}
use Rattle.two_d.specs.Trails as trails
use Rattle.two_d.specs.Programs.{BoxForm, ModuleForm, Program, module_at, box_at, box_count}
use Rattle.two_d.specs.Sound.{IsSound}
use Rattle.two_d.specs.Meaning.{Inputs, Outcome, Cells, Answers, cell_of, act, cells_from, look_in, look_of, none_fired, stuck_of, first_below, outcome_of, carried_by, result_of, unless_stuck}
use Rattle.two_d.proofs.Sourced.{SourcesAmong, IsSourced, sourced}
use Rattle.two_d.proofs.Pulling.{pulled-whole}
use Rattle.two_d.proofs.Pushing.{turned, pushed, IsPushed, pushed_none, pushed_one, act_pushed, sourced_front, push, push_turn}
use Rattle.lower_plan.specs.declared.plan.Plan.{Plan}
use Rattle.lower_plan.specs.declared.plan.PlanStep.{PlanStep}
use Rattle.lower_plan.specs.Plans.{slot_of, slot_at, step_of, wire_starts, IsStep, IsPlan}
use Rattle.lower_plan.proofs.Wires.{IsIn, slot_apart, slot_comes}
use Rattle.lower_emit.specs.Stands.{TextTrail, At}
use Rattle.lower_emit.specs.inner.Frames.{carrying}
use Rattle.lower_emit.specs.inner.Ends.{exit_value, values_seen, or_trail, first_mark, value_unless, outcome_mark, outcome_value}
use Rattle.lower_emit.specs.inner.Sorts.{stuck_at}
use Rattle.lower_emit.specs.Boxes.{Box}
use Rattle.lower_emit.specs.KnownOutcomes.{Call, Known, value_of, mark_of, known_of, first_text, site_text, texts_of}
use Rattle.lower_emit.specs.inner.Firing.{call_of, fired_wires, fired_marks, all_wires, all_marks, entry_wires, last_wires, last_marks}
use Rattle.lower_emit.specs.inner.Plans.{by_texts}
use Rattle.lower_emit.specs.Plans.{step_box, box_in, box_if, block_of}
use Rattle.lower_emit.proofs.Turns.{carrying_here, carrying_past, Shows, HasApart, call_in, turn_law, turn_calls}

abbrev pub boxes_in : List PlanStep → List ℕ
boxes_in steps = map (λ (step : PlanStep). step.bx) steps

-- each step is that of its box
abbrev pub AreSteps : ModuleForm → List PlanStep → Type 0
AreSteps M [] = Unit {0}
AreSteps M (step ∷ steps) = IsStep M step step.bx × AreSteps M steps

pub are_steps : (M : ModuleForm) (steps : List PlanStep) → ((j : ℕ) (step : PlanStep) → slice_get steps j ≡ Some step → IsStep M step step.bx) → AreSteps M steps
are_steps M [] h = tt
are_steps M (step ∷ steps) h = (h 0 step refl, are_steps M steps (λ j s e. h (suc j) s e))

front : (M : ModuleForm) (xs ys : List PlanStep) → AreSteps M (xs ++ ys) → AreSteps M xs
front M [] ys h = tt
front M (x ∷ xs) ys h = (h.0, front M xs ys h.1)

has_apart : (command : Form) → IsWithin command → HasApart command
has_apart (send outs) h = h.1
has_apart (case x left right) h = tt
has_apart (split x) h = tt
has_apart (call name) h = tt

pub command_apart : (M : ModuleForm) → IsSound M → (b : ℕ) (row : BoxForm) → slice_get M.boxes b ≡ Some row → HasApart row.command
command_apart M sound b row there =
    has_apart row.command (subst (λ (r : BoxForm). IsWithin r.command) (get_or_from_slice_get M.boxes b row row there) (sound.commands b row (slice_get_within M.boxes b row there)))

box_in_is : (P : Program) (m : ℕ) (step : PlanStep) (is : IsStep (module_at P m) step step.bx) →
    box_in P m step ≡ step_box P m (step_of (module_at P m) step.bx is.row) (first_text P m + step.bx) is.row.command
box_in_is P m step is =
    ap (λ r. box_if P m step (first_text P m + step.bx) r) is.there
    ∙ ap (λ (s : PlanStep). step_box P m s (first_text P m + step.bx) is.row.command) is.slots

-- what boxes call, one after the other
abbrev pub calls_of : Known → List Box → (ℕ → Option Value) → List (Option Call)
calls_of known [] wires = []
calls_of known (box ∷ boxes) wires = call_of box wires ∷ calls_of known boxes (fired_wires known box wires)

module _ (P : Program) (answer : Answers) (m : ℕ) (a : Inputs) (sound : IsSound (module_at P m))
    (whole : look_of P answer m a ≡ look_in a (cells_from P answer m (look_of P answer m a))) where
  abbrev known : Known
  known = known_of (texts_of P) answer

  -- one box, behind its sources
  pub record Turned (step : PlanStep) (wires : ℕ → Option Value) (marks : ℕ → Option TextTrail) (cells : Cells) (box : Box) : Type 0 where
    pub shows : Shows P m a (fired_wires known box wires) (fired_marks known box wires marks) (turned P answer m a cells step.bx)
    pub calls : call_of box wires ≡ call_in (act P m (look_of P answer m a) step.bx)

  pub one_turn : (step : PlanStep) (before : List ℕ) (wires : ℕ → Option Value) (marks : ℕ → Option TextTrail) (cells : Cells) → IsStep (module_at P m) step step.bx →
      SourcesAmong before (box_at P m step.bx) → IsPushed P answer m a before cells → Shows P m a wires marks cells → Turned step wires marks cells (box_in P m step)
  one_turn step before wires marks cells one sources is shows =
      let same = act_pushed P answer m a whole before cells step.bx is sources in
      let was : (cells step.bx ≡ None) ⊎ (cells step.bx ≡ cells_from P answer m (look_in a cells) step.bx) =
      elim (is.at step.bx) [ inl e ↦ inr (e ∙ sym (ap (option_map (cell_of m step.bx answer)) same)) | inr other ↦ inl other.1 ] in
      let apart = command_apart (module_at P m) sound step.bx one.row one.there in
      subst (λ (box : Box). Turned step wires marks cells box) (sym (box_in_is P m step one)) (record {
        shows = turn_law P answer m a step.bx one.row one.there apart wires marks cells shows was;
        calls = turn_calls P answer m a step.bx one.row one.there apart wires marks cells shows was ∙ ap call_in same;
      })

  -- Turns over slots show what the turns of the boxes come to.
  pub turns_law : (steps : List PlanStep) (before : List ℕ) (wires : ℕ → Option Value) (marks : ℕ → Option TextTrail) (cells : Cells) → AreSteps (module_at P m) steps →
      IsSourced P m before (boxes_in steps) → IsPushed P answer m a before cells → Shows P m a wires marks cells →
      Shows P m a (all_wires known (map (box_in P m) steps) wires) (all_marks known (map (box_in P m) steps) wires marks) (pushed P answer m a cells (boxes_in steps))
  turns_law [] before wires marks cells are sources is shows = shows
  turns_law (step ∷ steps) before wires marks cells are sources is shows =
      let one = one_turn step before wires marks cells are.0 sources.0 is shows in
      turns_law steps (step.bx ∷ before) _ _ _ are.1 sources.1 (pushed_one P answer m a whole before cells step.bx is sources.0) one.shows

  -- They call what the boxes start at the pulled values.
  pub calls_law : (steps : List PlanStep) (before : List ℕ) (wires : ℕ → Option Value) (marks : ℕ → Option TextTrail) (cells : Cells) → AreSteps (module_at P m) steps →
      IsSourced P m before (boxes_in steps) → IsPushed P answer m a before cells → Shows P m a wires marks cells →
      calls_of known (map (box_in P m) steps) wires ≡ map (λ (b : ℕ). call_in (act P m (look_of P answer m a) b)) (boxes_in steps)
  calls_law [] before wires marks cells are sources is shows = refl
  calls_law (step ∷ steps) before wires marks cells are sources is shows =
      let one = one_turn step before wires marks cells are.0 sources.0 is shows in
      let rest = calls_law steps (step.bx ∷ before) _ _ _ are.1 sources.1 (pushed_one P answer m a whole before cells step.bx is sources.0) one.shows in
      ap (λ (c : Option Call). c ∷ calls_of known (map (box_in P m) steps) (fired_wires known (box_in P m step) wires)) one.calls
      ∙ ap (λ (cs : List (Option Call)). call_in (act P m (look_of P answer m a) step.bx) ∷ cs) rest

-- at first the entries' wires carry the entry values
entry_shows : (P : Program) (m : ℕ) (a : Inputs) →
    Shows P m a (carrying (slot_of (module_at P m) West) a.west (carrying (slot_of (module_at P m) North) a.north (λ k. None))) (λ b. None) none_fired
entry_shows P m a = record { wires_are = at; marks_are = λ b. refl }
  where
    apart_from : (o p : Origin) (k : ℕ) → slot_of (module_at P m) o ≡ Some k → (o ≡ p → ⊥) → slot_of (module_at P m) p ≡ Some k → ⊥
    apart_from o p k e other f = other (slot_apart (wire_starts (module_at P m)) o p k e f)

    at : (o : Origin) (k : ℕ) → slot_of (module_at P m) o ≡ Some k →
        carrying (slot_of (module_at P m) West) a.west (carrying (slot_of (module_at P m) North) a.north (λ k. None)) k ≡ look_in a none_fired o
    at North k e = carrying_past _ _ _ k (apart_from North West k e (λ f. cc)) ∙ carrying_here _ _ _ k e
    at West k e = carrying_here _ _ _ k e
    at (South b) k e = carrying_past _ _ _ k (apart_from (South b) West k e (λ f. cc)) ∙ carrying_past _ _ _ k (apart_from (South b) North k e (λ f. cc))
    at (East b) k e = carrying_past _ _ _ k (apart_from (East b) West k e (λ f. cc)) ∙ carrying_past _ _ _ k (apart_from (East b) North k e (λ f. cc))

-- the values of exits
abbrev some_values : List (Option Value) → List Value
some_values [] = []
some_values (None ∷ vs) = some_values vs
some_values (Some v ∷ vs) = v ∷ some_values vs

abbrev Says : List Value → Option Value × Option Value → Type 0
Says [] s = s ≡ (None, None)
Says (v ∷ []) s = s ≡ (Some v, None)
Says (v ∷ w ∷ vs) s = is_some s.1 ≡ true

said_two : (v w : Value) (vs : List (Option Value)) → is_some (values_seen vs (Some v) (Some w)).1 ≡ true
said_two v w [] = refl
said_two v w (None ∷ vs) = said_two v w vs
said_two v w (Some u ∷ vs) = said_two u v vs

said_one : (v : Value) (vs : List (Option Value)) → Says (v ∷ some_values vs) (values_seen vs (Some v) None)
said_one v [] = refl
said_one v (None ∷ vs) = said_one v vs
said_one v (Some u ∷ vs) = said_two u v vs

said : (vs : List (Option Value)) → Says (some_values vs) (values_seen vs None None)
said [] = refl
said (None ∷ vs) = said vs
said (Some u ∷ vs) = said_one u vs

-- the marks, up to the first
marks_first : (P : Program) (n : ℕ) (f : ℕ → Option trails.Trail) (marks : ℕ → Option TextTrail) (mark : Option TextTrail) → ((b : ℕ) → marks b ≡ option_map (by_texts P) (f b)) →
    first_mark n marks mark ≡ or_trail (option_map (by_texts P) (first_below n f)) mark
marks_first P zero f marks mark same = refl
marks_first P (suc n) f marks mark same = marks_first P n f marks (or_trail (marks n) mark) same ∙ (ap (λ x. or_trail (option_map (by_texts P) (first_below n f)) (or_trail x mark)) (same n) ∙ by (first_below n f) (f n))
  where
    by : (x y : Option trails.Trail) → or_trail (option_map (by_texts P) x) (or_trail (option_map (by_texts P) y) mark) ≡ or_trail (option_map (by_texts P) (elim x [ None ↦ y | Some s ↦ Some s ])) mark
    by None y = refl
    by (Some s) y = refl

-- what the exits and the marks come to
ends : (P : Program) (m : ℕ) (trail : Option trails.Trail) (vs : List Value) (s : Option Value × Option Value) → Says vs s →
    let mark = or_trail (option_map (by_texts P) trail) (if is_some s.1 then Some (At (site_text P (TwoResults m))) else stuck_at (site_text P (NoResult m)) s.0) in
    (mark ≡ mark_of (texts_of P) (unless_stuck trail (result_of m vs))) × (value_unless mark s.0 ≡ value_of (unless_stuck trail (result_of m vs)))
ends P m (Some t) vs s says = (refl, refl)
ends P m None [] s says = rw says (refl, refl)
ends P m None (v ∷ []) s says = rw says (refl, refl)
ends P m None (v ∷ w ∷ vs) s says = rw says (refl, refl)

carried_is : (M : ModuleForm) (look : Origin → Option Value) (wires : ℕ → Option Value) → ((o : Origin) (k : ℕ) → slot_of M o ≡ Some k → wires k ≡ look o) →
    (exits : List (Option Origin)) → ((o : Origin) → IsIn (Some o) exits → (k : ℕ) × (slot_of M o ≡ Some k)) →
    carried_by look exits ≡ some_values (map (exit_value wires) (map (slot_at M) exits))
carried_is M look wires same [] there = refl
carried_is M look wires same (None ∷ exits) there = carried_is M look wires same exits (λ o h. there o (inr h))
carried_is M look wires same (Some o ∷ exits) there =
    let (k, e) = there o (inl refl) in
    let rest = carried_is M look wires same exits (λ o h. there o (inr h)) in
    let here : look o ≡ exit_value wires (slot_of M o) = sym (ap (exit_value wires) e ∙ same o k e) in
    ap (λ (x : Option Value). elim x [ None ↦ carried_by look exits | Some v ↦ v ∷ carried_by look exits ]) here ∙ by (exit_value wires (slot_of M o)) rest
  where
    by : (y : Option Value) → carried_by look exits ≡ some_values (map (exit_value wires) (map (slot_at M) exits)) →
        elim y [ None ↦ carried_by look exits | Some v ↦ v ∷ carried_by look exits ] ≡ some_values (y ∷ map (exit_value wires) (map (slot_at M) exits))
    by None rest = rest
    by (Some v) rest = ap (λ vs. v ∷ vs) rest

in_at : {A : Type 0} (x : A) (xs : List A) → IsIn x xs → (i : ℕ) × (slice_get xs i ≡ Some x)
in_at x [] h = absurd h
in_at x (y ∷ xs) (inl e) = (0, ap Some e)
in_at x (y ∷ xs) (inr h) = let r = in_at x xs h in (suc r.0, r.1)

-- the outcome that wires and marks show is that of the cells
pub shows_outcome : (P : Program) (m : ℕ) (a : Inputs) (wires : ℕ → Option Value) (marks : ℕ → Option TextTrail) (cells : Cells) → Shows P m a wires marks cells →
    (outcome_mark wires marks (map (slot_at (module_at P m)) (module_at P m).exits) (site_text P (NoResult m)) (site_text P (TwoResults m)) (box_count P m)
    ≡ mark_of (texts_of P) (outcome_of P m cells (look_in a cells)))
    × (outcome_value wires marks (map (slot_at (module_at P m)) (module_at P m).exits) (site_text P (NoResult m)) (site_text P (TwoResults m)) (box_count P m)
    ≡ value_of (outcome_of P m cells (look_in a cells)))
unfolding outcome_of
shows_outcome P m a wires marks cells shows =
    let M = module_at P m in
    let vs = map (exit_value wires) (map (slot_at M) M.exits) in
    let s = values_seen vs None None in
    let first = first_below (box_count P m) (λ b. stuck_of (cells b)) in
    let carried : carried_by (look_in a cells) M.exits ≡ some_values vs =
    carried_is M (look_in a cells) wires shows.wires_are M.exits (λ o h. let (i, e) = in_at (Some o) M.exits h in slot_comes M o (to.Exit i) e) in
    let both = ends P m first (carried_by (look_in a cells) M.exits) s (subst (λ l. Says l s) (sym carried) (said vs)) in
    let mark = marks_first P (box_count P m) (λ b. stuck_of (cells b)) marks (if is_some s.1 then Some (At (site_text P (TwoResults m))) else stuck_at (site_text P (NoResult m)) s.0) shows.marks_are in
    (mark ∙ both.0, ap (λ k. value_unless k s.0) mark ∙ both.1)

-- what the exits and the marks of module m say, where wires and boxes have come to this
pub record Says_outcome (P : Program) (m : ℕ) (wires : ℕ → Option Value) (marks : ℕ → Option TextTrail) (exits : List (Option ℕ)) (o : Outcome) : Type 0 where
  pub mark_is : outcome_mark wires marks exits (site_text P (NoResult m)) (site_text P (TwoResults m)) (box_count P m) ≡ mark_of (texts_of P) o
  pub value_is : outcome_value wires marks exits (site_text P (NoResult m)) (site_text P (TwoResults m)) (box_count P m) ≡ value_of o

says_outcome : (P : Program) (m : ℕ) (a : Inputs) (wires : ℕ → Option Value) (marks : ℕ → Option TextTrail) (cells : Cells) (look : Origin → Option Value) (exits : List (Option ℕ)) → Shows P m a wires marks cells →
    look_in a cells ≡ look → exits ≡ map (slot_at (module_at P m)) (module_at P m).exits → Says_outcome P m wires marks exits (outcome_of P m cells look)
says_outcome P m a wires marks cells look exits shows same are =
    let both = shows_outcome P m a wires marks cells shows in
    subst (λ (e : List (Option ℕ)). Says_outcome P m wires marks e (outcome_of P m cells look)) (sym are)
    (subst (λ (l : Origin → Option Value). Says_outcome P m wires marks (map (slot_at (module_at P m)) (module_at P m).exits) (outcome_of P m cells l)) same
    (record { mark_is = both.0; value_is = both.1 }))

module _ (P : Program) (answer : Answers) (a : Inputs) (p : Plan) (plan : IsPlan P p) (sound : IsSound (module_at P p.«module»)) where
  abbrev pub m : ℕ
  m = p.«module»

  abbrev pub order : List ℕ
  order = boxes_in p.steps.items

  abbrev pub look : Origin → Option Value
  look = look_of P answer m a

  abbrev pub known_here : Known
  known_here = known_of (texts_of P) answer

  abbrev pub boxes : List Box
  boxes = map (box_in P m) p.steps.items

  pub whole : look_of P answer m a ≡ look_in a (cells_from P answer m (look_of P answer m a))
  whole = pulled-whole P answer m a order plan.order.valid

  abbrev pub first_wires : ℕ → Option Value
  first_wires = entry_wires (block_of P p) a.north a.west

  pub first_shows : Shows P m a first_wires (λ b. None) none_fired
  first_shows = rw (plan.north, plan.west) (entry_shows P m a)

  -- After all turns each wire carries what is pulled and each box has its stuck mark.
  pub push_shows : Shows P m a (last_wires known_here (block_of P p) a.north a.west) (last_marks known_here (block_of P p) a.north a.west) (cells_from P answer m look)
  push_shows = subst (λ (c : Cells). Shows P m a (all_wires known_here boxes first_wires) (all_marks known_here boxes first_wires (λ b. None)) c)
      (push P answer m a order plan.order.valid)
      (turns_law P answer m a sound whole p.steps.items [] first_wires (λ b. None) none_fired (are_steps (module_at P m) p.steps.items plan.steps)
      (sourced P m order plan.order.valid) (pushed_none P answer m a) first_shows)

  -- And what the exits and the marks say is the outcome.
  pub push_says : Says_outcome P m (last_wires known_here (block_of P p) a.north a.west) (last_marks known_here (block_of P p) a.north a.west) p.exits.items
      (outcome_of P m (cells_from P answer m look) look)
  push_says = says_outcome P m a _ _ (cells_from P answer m look) look p.exits.items push_shows (sym whole) plan.exits

  -- The boxes call what they start at the pulled values.
  pub push_calls : calls_of known_here boxes first_wires ≡ map (λ (b : ℕ). call_in (act P m look b)) order
  push_calls = calls_law P answer m a sound whole p.steps.items [] first_wires (λ b. None) none_fired (are_steps (module_at P m) p.steps.items plan.steps)
      (sourced P m order plan.order.valid) (pushed_none P answer m a) first_shows

  -- After the turns before any one step: the wires and marks so far, and that its box does what it does at the pulled values.
  pub push_part : (done : List PlanStep) (step : PlanStep) (left : List PlanStep) → p.steps.items ≡ done ++ step ∷ left →
      Shows P m a (all_wires known_here (map (box_in P m) done) first_wires) (all_marks known_here (map (box_in P m) done) first_wires (λ b. None)) (pushed P answer m a none_fired (boxes_in done))
      × (act P m (look_in a (pushed P answer m a none_fired (boxes_in done))) step.bx ≡ act P m look step.bx)
  push_part done step left e =
      let parts : order ≡ boxes_in done ++ step.bx ∷ boxes_in left = ap boxes_in e ∙ map-append (λ (step : PlanStep). step.bx) done (step ∷ left) in (
        turns_law P answer m a sound whole done [] first_wires (λ b. None) none_fired (front (module_at P m) done (step ∷ left) (subst (AreSteps (module_at P m)) e (are_steps (module_at P m) p.steps.items plan.steps)))
            (sourced_front P m [] (boxes_in done) (step.bx ∷ boxes_in left) (subst (IsSourced P m []) parts (sourced P m order plan.order.valid))).0 (pushed_none P answer m a) first_shows,
        push_turn P answer m a order plan.order.valid (boxes_in done) step.bx (boxes_in left) parts,
      )
