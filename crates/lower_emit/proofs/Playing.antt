-- A block by itself, box after box: each has its turn, and the frame shows what it came to.
use Rattle.std.proofs.Common.{◌≡◌, ℕ, ◌+◌, ◌*◌, ◌<◌, ◌≤◌, Bool, true, false, List, [], ◌∷◌, length, Option, Some, None, refl, sym, ap, ◌∙◌, subst, arith}
use Rattle.std.specs.Prelude.{if◌then◌else◌, is_some}
use Rattle.std.specs.List.{Contains}
use Rattle.std.proofs.lemmas.Option.{same_Some}
use Rattle.um_word.specs.declared.op.Op.{Op}
use Rattle.um_word.specs.State.{State, reg}
use Rattle.um_word.specs.Loads.{Loads}
use Rattle.um_word.specs.Leads.{Leads}
use Rattle.um_word.proofs.Leading.{weaken}
use Rattle.codex_values.specs.Value.{Value}
use Rattle.two_d.specs.Programs.{Program}
use Rattle.two_d.specs.Meaning.{Inputs, Effect, Done, Starts, Answers, Cells}
use Rattle.code_templates.specs.Lines.{StandsAt}
use Rattle.code_templates.specs.Templates.{call_block}
use Rattle.code_templates.proofs.Straight.{stands_front, stands_back}
use Rattle.lower_emit.specs.inner.Stretches.{Stretch}
use Rattle.lower_emit.specs.Stands.{TextTrail, Carries, Marked, Ending}
use Rattle.lower_emit.specs.Layouts.{Layout, temporary, input_slot, SideSlot}
use Rattle.lower_emit.specs.inner.Frames.{IsWireSlot, AreWires, carrying, carry_all, guard_cycles}
use Rattle.lower_emit.specs.Boxes.{guards_code, taken_code, calling_code, use_code, Box, Sends, Sorts, Uses, body_length, input_slots, box_length, box_code}
use Rattle.lower_emit.specs.inner.Sorts.{marking}
use Rattle.lower_emit.specs.inner.Ends.{exit_value}
use Rattle.lower_emit.specs.inner.Uses.{by_caller, CanUse}
use Rattle.lower_emit.specs.Entered.{IsApart, Return, Entered}
use Rattle.lower_emit.specs.KnownOutcomes.{Call, Known, known_of, texts_of}
use Rattle.lower_emit.specs.inner.Firing.{call_of, answer_to, is_answered, answered_wires, answered_marks, fired_wires, fired_marks, box_cycles, IsPlaced}
use Rattle.lower_emit.specs.Surroundings.{Surroundings, IsAnswered, IsOwnMoment, back_to, CallsNow}
use Rattle.lower_emit.specs.BlocksAlone.{Instance, Shows, Doing, ShowsThen, Asks, Turn}
use Rattle.lower_emit.proofs.Boxes.{guards_law, guards_length}
use Rattle.lower_emit.proofs.Blocking.{guards_cycles, cycles_within, box_law}
use Rattle.lower_emit.proofs.Using.{Called, taken_law}
use Rattle.lower_emit.proofs.Calling.{follow}
use Rattle.lower_emit.proofs.Acting.{enabled_call}
use Rattle.lower_emit.proofs.Turns.{call_in}
use Rattle.lower_emit.proofs.Passing.{passes}
use Rattle.lower_emit.proofs.Alone.{range, Here, Now, own_step, call_step, new_is, call_stays, answered_now}

-- the module of a `use` is one of these, with a frame of its size, and the number is that of its own block
abbrev pub IsSized : (ℕ → ℕ) → (modules m : ℕ) → Box → Type 0
IsSized sizes modules m (Sends inputs north west outs) = Unit {0}
IsSized sizes modules m (Sorts inputs north west x f g one two both number text) = Unit {0}
IsSized sizes modules m (Uses inputs north west callee size own side number text) = (callee < modules) × (size ≡ sizes callee) × (own ≡ m)

abbrev pub AreSized : (ℕ → ℕ) → (modules m : ℕ) → List Box → Type 0
AreSized sizes modules m [] = Unit {0}
AreSized sizes modules m (box ∷ boxes) = IsSized sizes modules m box × AreSized sizes modules m boxes

none_some : {A : Type 0} {B : Type 0} (x : A) → None ≡ Some x → B
none_some {A} x e = absurd (let f : Option A → Bool = λ o. is_some o in cc)

module _ (P : Program) (answer : Answers) (a : Inputs) (w : Surroundings) (frames : List ℕ) (m width : ℕ) (y : Layout) (room : temporary y 4 < y.size) (back : Return) (frame : ℕ) (far : IsApart w.table w.ids frame) (alone : Contains (back.caller ∷ frames) frame → ⊥) where
  abbrev pub one : Instance
  one = record { program = P; number = m; inputs = a; answer = answer; around = w; frame = frame; others = frames; back = back }

  abbrev pub known : Known
  known = known_of (texts_of P) answer

  abbrev pub Own : State → State → Type 0
  Own s t = IsOwnMoment w frames m s t

  abbrev pub Moment : State → State → Loads → Type 0
  Moment s t k = IsOwnMoment w frames m s t

  abbrev pub Now_ : ℕ → (ℕ → Option Value) → (ℕ → Option TextTrail) → State → State → Type 0
  Now_ place wires stuck s u = Now w frames m width y room back frame far alone place wires stuck s u

  -- from a place on the block does this, in no more cycles than words
  abbrev pub Way : Doing → (place : ℕ) → (ℕ → Option Value) → (ℕ → Option TextTrail) → Type 0
  Way does place wires stuck = (n : ℕ) × (place + n ≤ width) × ((s u : State) → Now_ place wires stuck s u → does n s u)

  -- at a place the frame shows these cells
  abbrev pub Showing : Cells → (place : ℕ) → (ℕ → Option Value) → (ℕ → Option TextTrail) → Type 0
  Showing cells place wires stuck = (s u : State) → Now_ place wires stuck s u → Shows one cells u

  -- cycles of the block's own to a place where the frame shows these cells
  pub shown_then : (n place : ℕ) (wires : ℕ → Option Value) (stuck : ℕ → Option TextTrail) (cells : Cells) (rest : Doing) → Showing cells place wires stuck → (way : Way rest place wires stuck) →
      (s u : State) → Leads (Moment s) n (λ t k. (k ≡ []) × Now_ place wires stuck s t) u [] → ShowsThen one cells rest (n + way.0) s u
  shown_then n place wires stuck cells rest shown way s u h = (
    n,
    way.0,
    refl,
    passes (Own s) n (λ t. Shows one cells t × rest way.0 s t) u
        (weaken (Moment s) n (λ t k. (k ≡ []) × Now_ place wires stuck s t) (λ t k. Shows one cells t × rest way.0 s t) (λ t k q. (shown s t q.1, way.2 s t q.1)) u [] h),
  )

  -- a box that calls nothing
  plain : (box : Box) (place : ℕ) (wires : ℕ → Option Value) (stuck : ℕ → Option TextTrail) → StandsAt (w.codes m) place (box_code y box place) → place + box_length y box ≤ width → IsPlaced y box → call_of box wires ≡ None →
      (cells : Cells) (rest : Doing) → Showing cells (place + box_length y box) (fired_wires known box wires) (fired_marks known box wires stuck) →
      Way rest (place + box_length y box) (fired_wires known box wires) (fired_marks known box wires stuck) → Way (ShowsThen one cells rest) place wires stuck
  plain box place wires stuck stand high placed none cells rest shown way =
      let n = box_cycles y box wires in
      let few = cycles_within y box wires in
      let fits = way.1 in
      let place2 = place + box_length y box in
      let w2 = fired_wires known box wires in
      let k2 = fired_marks known box wires stuck in
      let p : place + 6 * length (input_slots box) + body_length y box ≡ place2 = omega arith in (
        n + way.0,
        omega (arith, fits, few),
        λ s u now.
            shown_then n place2 w2 k2 cells rest shown way s u
            (own_step w frames m width y room back frame far alone place wires stuck s u now n place2 w2 k2
            (subst (λ q. Stretch (range w frames m width y room back frame far alone u) n (Here w frames m width y room back frame far alone q w2 k2 u) u) p
            (box_law (range w frames m width y room back frame far alone u) w.table frame (w.codes m) y u known box place wires stuck u now.at stand (omega arith) (omega (arith, high)) placed none))),
      )

  -- an enabled `use`
  module _ (inputs : List ℕ) (north west : Option ℕ) (callee size : ℕ) (side : SideSlot) (number text place : ℕ) (wires : ℕ → Option Value) (stuck : ℕ → Option TextTrail) where
    abbrev wanted : Inputs
    wanted = record { north = exit_value wires north; west = exit_value wires west }

    abbrev body : ℕ
    body = place + 6 * length inputs

    module _ (is_north : IsWireSlot y north) (is_west : IsWireSlot y west) (are : AreWires y inputs) (can : CanUse y size side number) (inside : callee < length w.ids) (sized : size ≡ w.size callee) (high : body + 49 ≤ width)
        (stand : StandsAt (w.codes m) place (use_code y inputs (input_slot north) (input_slot west) callee size m side number text place)) (on : carry_all wires inputs ≡ true) where
      abbrev code_back : List Op
      code_back = calling_code y (input_slot north) (input_slot west) callee size m side number text body

      body_stands : StandsAt (w.codes m) body code_back
      body_stands =
          subst (λ n. StandsAt (w.codes m) (place + n) code_back) (guards_length inputs place (place + 6 * length inputs + 49))
          (stands_back (w.codes m) place (guards_code inputs place (place + 6 * length inputs + 49)) code_back stand)

      -- the guards pass
      guards : (s u : State) → Now_ place wires stuck s u → Leads (Moment s) (guard_cycles wires inputs) (λ t k. (k ≡ []) × Now_ body wires stuck s t) u []
      guards s u now =
          let r = range w frames m width y room back frame far alone u in
          own_step w frames m width y room back frame far alone place wires stuck s u now (guard_cycles wires inputs) body wires stuck
          (subst (λ b. Stretch r (guard_cycles wires inputs) (Here w frames m width y room back frame far alone (if b then body else body + 49) wires stuck u) u) on
          (guards_law r w.table frame (w.codes m) y stuck u wires inputs place (body + 49) u now.at
          (stands_front (w.codes m) place (guards_code inputs place (body + 49)) code_back stand) (omega arith) (omega (arith, high)) are (omega arith)))

      abbrev Called_ : State → State → Type 0
      Called_ t u = Called w.codes w.table w.ids callee size (back_to m frame (body + 21)) wanted t u

      -- the call
      calls : (s t : State) → Now_ body wires stuck s t → Leads (Moment s) 21 (λ u k. Called_ t u) t []
      calls s t now =
          call_step w frames m width y room back frame far alone body wires stuck s t now north west callee size is_north is_west
          (stands_front (w.codes m) body (call_block (input_slot north) (input_slot west) callee size m (body + 21)) (taken_code y side number text) body_stands) can.frame inside

      -- the outcome is taken
      takes : (came : Ending) (v : State) → Now_ (body + 21) wires stuck v v → Carries v.arrays (reg v 3) came.value → Marked v.arrays (reg v 4) came.mark →
          Leads (Moment v) 28 (λ t k. (k ≡ []) × Now_ (body + 49) (carrying side.wire came.value wires) (marking number (by_caller text came.mark) stuck) v t) v []
      takes came v now value mark =
          let r = range w frames m width y room back frame far alone v in
          let w2 = carrying side.wire came.value wires in
          let k2 = marking number (by_caller text came.mark) stuck in
          let e : body + 21 + 28 ≡ body + 49 = omega arith in
          own_step w frames m width y room back frame far alone (body + 21) wires stuck v v now 28 (body + 49) w2 k2
          (subst (λ q. Stretch r 28 (Here w frames m width y room back frame far alone q w2 k2 v) v) e
          (taken_law r w.table frame (w.codes m) y v side size number text (body + 21) wires stuck came v now.at
          (stands_back (w.codes m) body (call_block (input_slot north) (input_slot west) callee size m (body + 21)) (taken_code y side number text) body_stands)
          (omega arith) (omega (arith, high)) can value mark))

      enters : (s t u : State) → Now_ body wires stuck s t → (called : Called_ t u) → Entered w.codes w.table w.ids callee (w.size callee) (w.north callee) (w.west callee) (back_to m frame (body + 21)) wanted called.frame u
      enters s t u now called = subst (λ z. Entered w.codes w.table w.ids callee z (w.north callee) (w.west callee) (back_to m frame (body + 21)) wanted called.frame u) sized (called.entered (w.north callee) (w.west callee))

      -- the call, once the guards have passed
      asks : (Q : State → Type 0) (s u : State) → Now_ place wires stuck s u → ((t x : State) → Now_ body wires stuck s t → Called_ t x → Q x) → Leads (Moment s) (guard_cycles wires inputs + 21) (λ x k. Q x) u []
      asks Q s u now go =
          follow (Moment s) (guard_cycles wires inputs) 21 (λ t k. (k ≡ []) × Now_ body wires stuck s t) (λ x k. Q x) u [] (guards s u now)
          (λ t k q. subst (λ l. Leads (Moment s) 21 (λ x k. Q x) t l) (sym q.0) (weaken (Moment s) 21 (λ x k. Called_ t x) (λ x k. Q x) (λ x k called. go t x q.1 called) t [] (calls s t q.1)))

      abbrev the_call : Call
      the_call = record { callee = callee; inputs = wanted }

      abbrev Calling : State → State → Type 0
      Calling s x = CallsNow w frames m frame the_call s x

      calls_now : (s t x : State) → Now_ body wires stuck s t → Called_ t x → Calling s x
      calls_now s t x i called = record {
        new = called.frame;
        offset = body + 21;
        not_zero = omega arith;
        is_new = new_is w frames m width y room back frame far alone body wires stuck s t i callee size wanted x called;
        entered = enters s t x i called;
        out_is = called.out_is ∙ i.out_is;
        stay = call_stays w frames m width y room back frame far alone body wires stuck s t i callee size wanted x called;
      }

      same_ending : (x z : Ending) → known callee wanted ≡ Some x → known callee wanted ≡ Some z → x ≡ z
      same_ending x z e f = same_Some x z (sym e ∙ f)

      -- and what comes of it
      enabled : (came : Option Ending) → known callee wanted ≡ came → (cells : Cells) (rest : Doing) → Showing cells (body + 49) (answered_wires side came wires) (answered_marks number text came stuck) →
          (is_some came ≡ true → Way rest (body + 49) (answered_wires side came wires) (answered_marks number text came stuck)) → Way (Asks one the_call (ShowsThen one cells rest)) place wires stuck
      unfolding calls_now
      enabled None is cells rest shown way =
          let few = guards_cycles wires inputs in
          let n = guard_cycles wires inputs + 21 in (
            n + 0,
            omega (arith, few, high),
            λ s u now.
                let Q : State → Type 0 =
                λ x. (now : Calling s x) × ((ending : Ending) → known callee wanted ≡ Some ending → (v : State) → IsAnswered w frames (back_to m frame now.offset) ending x v → ShowsThen one cells rest 0 v v) in (
                  n,
                  0,
                  refl,
                  passes (Own s) n Q u (asks Q s u now (λ t x i called. (calls_now s t x i called, λ ending e v ans. none_some ending (sym is ∙ e)))),
                ),
          )
      enabled (Some came) is cells rest shown way =
          let few = guards_cycles wires inputs in
          let next = way refl in
          let fits = next.1 in
          let n = guard_cycles wires inputs + 21 in
          let w2 = carrying side.wire came.value wires in
          let k2 = marking number (by_caller text came.mark) stuck in (
            n + (28 + next.0),
            omega (arith, few, fits),
            λ s u now.
                let Q : State → Type 0 =
                λ x. (now : Calling s x) × ((ending : Ending) → known callee wanted ≡ Some ending → (v : State) → IsAnswered w frames (back_to m frame now.offset) ending x v → ShowsThen one cells rest (28 + next.0) v v) in (
                  n,
                  28 + next.0,
                  refl,
                  passes (Own s) n Q u (asks Q s u now (λ t x i called. (
                    calls_now s t x i called,
                    λ ending e v given.
                        let ans : IsAnswered w frames (back_to m frame (body + 21)) came x v = subst (λ o. IsAnswered w frames (back_to m frame (body + 21)) o x v) (same_ending ending came e is) given in
                        shown_then 28 (body + 49) w2 k2 cells rest shown next v v
                        (takes came v (answered_now w frames m width y room back frame far alone body wires stuck s t i callee size wanted x called came v ans) ans.value_is ans.mark_is),
                  ))),
                ),
          )

  -- a `use` that calls
  use_turn : (inputs : List ℕ) (north west : Option ℕ) (callee size own : ℕ) (side : SideSlot) (number text place : ℕ) (wires : ℕ → Option Value) (stuck : ℕ → Option TextTrail) →
      StandsAt (w.codes m) place (box_code y (Uses inputs north west callee size own side number text) place) → place + (6 * length inputs + 49) ≤ width → IsPlaced y (Uses inputs north west callee size own side number text) →
      callee < length w.ids → size ≡ w.size callee → own ≡ m → (b : Bool) → carry_all wires inputs ≡ b → (call : Call) → call_of (Uses inputs north west callee size own side number text) wires ≡ Some call → (cells : Cells) (rest : Doing) →
      Showing cells (place + (6 * length inputs + 49)) (fired_wires known (Uses inputs north west callee size own side number text) wires) (fired_marks known (Uses inputs north west callee size own side number text) wires stuck) →
      (is_answered known (call_of (Uses inputs north west callee size own side number text) wires) ≡ true →
      Way rest (place + (6 * length inputs + 49)) (fired_wires known (Uses inputs north west callee size own side number text) wires) (fired_marks known (Uses inputs north west callee size own side number text) wires stuck)) →
      Way (Asks one call (ShowsThen one cells rest)) place wires stuck
  unfolding enabled_call
  use_turn inputs north west callee size own side number text place wires stuck stand high placed inside sized own_is false e call asked cells rest shown way =
      let wanted_call = enabled_call wires callee north west in
      let none : call_of (Uses inputs north west callee size own side number text) wires ≡ None = ap (λ b. if b then Some wanted_call else None) e in
      none_some call (sym none ∙ asked)
  use_turn inputs north west callee size own side number text place wires stuck stand high placed inside sized own_is true e call asked cells rest shown way =
      let c = enabled_call wires callee north west in
      let some : call_of (Uses inputs north west callee size own side number text) wires ≡ Some c = ap (λ b. if b then Some c else None) e in
      let p : place + (6 * length inputs + 49) ≡ place + 6 * length inputs + 49 = omega arith in
      let shown2 : Showing cells (place + 6 * length inputs + 49) (answered_wires side (known callee c.inputs) wires) (answered_marks number text (known callee c.inputs) stuck) =
      subst (λ q. Showing cells q (answered_wires side (known callee c.inputs) wires) (answered_marks number text (known callee c.inputs) stuck)) p
      (subst (λ o. Showing cells (place + (6 * length inputs + 49)) (answered_wires side (answer_to known o) wires) (answered_marks number text (answer_to known o) stuck)) some shown) in
      let way2 : is_some (known callee c.inputs) ≡ true → Way rest (place + 6 * length inputs + 49) (answered_wires side (known callee c.inputs) wires) (answered_marks number text (known callee c.inputs) stuck) =
      λ ok. subst (λ q. Way rest q (answered_wires side (known callee c.inputs) wires) (answered_marks number text (known callee c.inputs) stuck)) p
      (subst (λ o. Way rest (place + (6 * length inputs + 49)) (answered_wires side (answer_to known o) wires) (answered_marks number text (answer_to known o) stuck)) some (way (ap (is_answered known) some ∙ ok))) in
      subst (λ x. Way (Asks one x (ShowsThen one cells rest)) place wires stuck) (same_Some c call (sym some ∙ asked))
      (enabled inputs north west callee size side number text place wires stuck placed.0 placed.1 placed.2 placed.3 inside sized (omega (arith, high))
      (subst (λ z. StandsAt (w.codes m) place (use_code y inputs (input_slot north) (input_slot west) callee size z side number text place)) own_is stand) e
      (known callee c.inputs) refl cells rest shown2 way2)

  -- a box whose firing starts an instance
  start_turn : (sizes : ℕ → ℕ) (modules : ℕ) → modules ≤ length w.ids → ((callee : ℕ) → callee < modules → sizes callee ≡ w.size callee) → (box : Box) (place : ℕ) (wires : ℕ → Option Value) (stuck : ℕ → Option TextTrail) →
      StandsAt (w.codes m) place (box_code y box place) → place + box_length y box ≤ width → IsPlaced y box → IsSized sizes modules m box → (call : Call) → call_of box wires ≡ Some call → (cells : Cells) (rest : Doing) →
      Showing cells (place + box_length y box) (fired_wires known box wires) (fired_marks known box wires stuck) →
      (is_answered known (call_of box wires) ≡ true → Way rest (place + box_length y box) (fired_wires known box wires) (fired_marks known box wires stuck)) → Way (Asks one call (ShowsThen one cells rest)) place wires stuck
  start_turn sizes modules few same (Sends inputs north west outs) place wires stuck stand high placed is call asked cells rest shown way = none_some call asked
  start_turn sizes modules few same (Sorts inputs north west x f g first two both number text) place wires stuck stand high placed is call asked cells rest shown way = none_some call asked
  start_turn sizes modules few same (Uses inputs north west callee size own side number text) place wires stuck stand high placed is call asked cells rest shown way =
      let inside = is.0 in
      use_turn inputs north west callee size own side number text place wires stuck stand high placed (omega (arith, few, inside)) (is.1 ∙ same callee inside) is.2 (carry_all wires inputs) refl call asked cells rest shown way

  -- The turn of a box that does this: it calls what its firing starts.
  pub turn_way : (sizes : ℕ → ℕ) (modules : ℕ) → modules ≤ length w.ids → ((callee : ℕ) → callee < modules → sizes callee ≡ w.size callee) → (box : Box) (place : ℕ) (wires : ℕ → Option Value) (stuck : ℕ → Option TextTrail) →
      StandsAt (w.codes m) place (box_code y box place) → place + box_length y box ≤ width → IsPlaced y box → IsSized sizes modules m box → (x : Option Effect) → call_of box wires ≡ call_in x → (cells : Cells) (rest : Doing) →
      Showing cells (place + box_length y box) (fired_wires known box wires) (fired_marks known box wires stuck) →
      (is_answered known (call_of box wires) ≡ true → Way rest (place + box_length y box) (fired_wires known box wires) (fired_marks known box wires stuck)) → Way (Turn one x (ShowsThen one cells rest)) place wires stuck
  turn_way sizes modules few same box place wires stuck stand high placed is None e cells rest shown way = plain box place wires stuck stand high placed e cells rest shown (way (ap (is_answered known) e))
  turn_way sizes modules few same box place wires stuck stand high placed is (Some (Done c)) e cells rest shown way = plain box place wires stuck stand high placed e cells rest shown (way (ap (is_answered known) e))
  turn_way sizes modules few same box place wires stuck stand high placed is (Some (Starts j b)) e cells rest shown way =
      start_turn sizes modules few same box place wires stuck stand high placed is (record { callee = j; inputs = b }) e cells rest shown way
