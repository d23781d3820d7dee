-- A block from its first word to its return, with the calls of its uses.
use Rattle.std.proofs.Common.{◌≡◌, ℕ, ◌+◌, ◌-◌, ◌*◌, ◌<◌, ◌≤◌, ◌⊎◌, inl, inr, Bool, true, false, List, [], ◌∷◌, ◌++◌, length, replicate, Option, Some, None, refl, sym, ap, ◌∙◌, subst, arith}
use Rattle.std.specs.Prelude.{◌==◌, ◌&&◌, if◌then◌else◌, is_some, slice_index, unwrap_or, map}
use Rattle.std.proofs.lemmas.Bool.{ne_eqb}
use Rattle.std.proofs.lemmas.List.{append_assoc, append-nil, map-append, length-replicate}
use Rattle.um_word.specs.declared.op.Op.{Op}
use Rattle.um_word.specs.State.{State, array_at}
use Rattle.um_word.specs.Loads.{Loads, seen, Loaded}
use Rattle.um_word.specs.Leads.{Leads}
use Rattle.um_word.proofs.Leading.{weaken, weaken_along, no_step}
use Rattle.codex_values.specs.Value.{Value}
use Rattle.two_d.specs.Meaning.{Inputs}
use Rattle.two_d.specs.Walks.{Visit, Calls, Returns, load_of}
use Rattle.code_templates.specs.Lines.{StandsAt}
use Rattle.code_templates.specs.inner.Spent.{spent}
use Rattle.code_templates.specs.Templates.{call_block, return_outcome}
use Rattle.code_templates.proofs.Straight.{stands_front, stands_back}
use Rattle.lower_emit.specs.inner.Stretches.{Stretch, entry_of, load_at}
use Rattle.lower_emit.specs.Layouts.{zero_slot, Layout, stuck_slot, temporary, wire_slot, input_slot, SideSlot}
use Rattle.lower_emit.specs.Stands.{TextTrail, Ending}
use Rattle.lower_emit.specs.Entered.{EntryCarries, HasBlocks, IsApart, Return, Entered}
use Rattle.lower_emit.specs.inner.Frames.{IsWireSlot, AreWires, carrying, carry_all, guard_cycles}
use Rattle.lower_emit.specs.Boxes.{guards_code, taken_code, calling_code, use_code, Box, Sends, Sorts, Uses, body_length, input_slots, box_length, box_code, boxes_code, boxes_length}
use Rattle.lower_emit.specs.inner.Sorts.{marking}
use Rattle.lower_emit.specs.inner.Ends.{exit_value, Ended}
use Rattle.lower_emit.specs.Blocks.{end_code, BlockPlan, entries_code, block_length}
use Rattle.lower_emit.specs.inner.Uses.{by_caller, CanUse, Returned}
use Rattle.lower_emit.specs.KnownOutcomes.{Call, Known}
use Rattle.lower_emit.specs.inner.Firing.{call_of, answer_to, is_answered, all_answered, answered_wires, answered_marks, fired_wires, fired_marks, box_cycles, all_wires, all_marks, IsPlaced, ArePlaced, entry_wires, last_wires, last_marks}
use Rattle.lower_emit.specs.inner.Trips.{block_came, came_if, came_to, Trips, trip, trips_of, Plans, due, Prices, Along, Backed, Ran, CallLaw, IsCall, AreCalls, IsBlock, IsKnownOf, BlockLaw}
use Rattle.lower_emit.proofs.Boxes.{guards_law, guards_length}
use Rattle.lower_emit.proofs.Blocking.{guards_cycles, cycles_within, box_law}
use Rattle.lower_emit.proofs.Words.{box_words, boxes_words, block_words}
use Rattle.lower_emit.proofs.Beginning.{entries_law}
use Rattle.lower_emit.proofs.Ending.{end_law}
use Rattle.lower_emit.proofs.Using.{Called, taken_law}
use Rattle.lower_emit.proofs.Calling.{follow, behind, range, At, Fair, Now, moved_on, own_step, call_step, within_call, back_step, return_step}

-- a `use` whose inputs carry values calls its module
unfoldable pub enabled_call : (wires : ℕ → Option Value) → ℕ → (north west : Option ℕ) → Call
enabled_call wires callee north west = record { callee = callee; inputs = record { north = exit_value wires north; west = exit_value wires west } }

no_some : {A : Type 0} (x : A) → Some x ≡ None → ⊥
no_some x e = cc

after_zero : (n : ℕ) → ((n + 21) == 0) ≡ false
after_zero n = ne_eqb (n + 21) 0 (λ e. omega (arith, e))

-- the loads of a call, of what it leads to, of its return and of what follows
whole_trip : {A : Type 0} (l : List A) (x : A) (xs : List A) (y : A) (ys : List A) → (((l ++ x ∷ []) ++ xs) ++ y ∷ []) ++ ys ≡ l ++ (x ∷ (xs ++ y ∷ ys))
whole_trip l x xs y ys = append_assoc ((l ++ x ∷ []) ++ xs) (y ∷ []) ys ∙ append_assoc (l ++ x ∷ []) xs (y ∷ ys) ∙ append_assoc l (x ∷ []) (xs ++ y ∷ ys)

seen_more : (l : Loads) (x : Loaded) → seen (l ++ x ∷ []) ≡ seen l ++ (x.words, x.offset == 0) ∷ []
seen_more l x = map-append (λ (x : Loaded). (x.words, x.offset == 0)) l (x ∷ [])

module _ (codes : ℕ → List ℕ) (c : Prices) (plans : Plans) (modules count : ℕ) (few : modules ≤ count) (known : Known) (trips : Trips)
    (told : (m : ℕ) (a : Inputs) → m < modules → IsKnownOf codes c plans count known trips m a) (m width : ℕ) (y : Layout) (room : temporary y 4 < y.size) (low : 8 * width + c.frame ≤ c.price) where
  abbrev Now_ : (table frame : ℕ) (s : State) (l : Loads) → ℕ → (ℕ → Option Value) → (ℕ → Option TextTrail) → State → Loads → Type 0
  Now_ table frame s l place wires stuck u k = Now codes c m width y table frame s l place wires stuck u k

  abbrev if_all : Bool → Type 0 → Type 0
  if_all true A = A
  if_all false A = Unit {0}

  -- what a way is to lead to: these visits more, and where all is answered the end
  abbrev Made : Bool → List Visit → ℕ → (ℕ → Option Value) → (ℕ → Option TextTrail) → (table frame : ℕ) (s : State) (l : Loads) → Loads → State → Loads → Type 0
  Made ok visits place wires stuck table frame s l from u k = (seen k ≡ seen from ++ map (load_of codes) visits) × if_all ok (Now_ table frame s l place wires stuck u k)

  -- so many cycles lead there from a place
  abbrev Way : Bool → List Visit → (end : ℕ) → (ℕ → Option Value) → (ℕ → Option TextTrail) → (place : ℕ) → (ℕ → Option Value) → (ℕ → Option TextTrail) → Type 0
  Way ok visits end w k place wires stuck =
      (n : ℕ) × ((table : ℕ) (ids : List ℕ) (frame : ℕ) (s : State) (l : Loads) → HasBlocks codes table ids s.arrays → IsApart table ids frame → length ids ≡ count → (t : State) (j : Loads) → Now_ table frame s l place wires stuck t j →
      Leads (Along codes ids c s l) n (Made ok visits end w k table frame s l j) t j)

  -- a box that calls nothing
  plain : (box : Box) (place : ℕ) (wires : ℕ → Option Value) (stuck : ℕ → Option TextTrail) → StandsAt (codes m) place (box_code y box place) → place + box_length y box ≤ width → IsPlaced y box → call_of box wires ≡ None →
      (ok : Bool) (visits : List Visit) (end : ℕ) (w : ℕ → Option Value) (k : ℕ → Option TextTrail) → Way ok visits end w k (place + box_length y box) (fired_wires known box wires) (fired_marks known box wires stuck) →
      Way ok visits end w k place wires stuck
  plain box place wires stuck stand high placed none ok visits end w k rest = (
    box_cycles y box wires + rest.0,
    λ table ids frame s l blocks far count_is t j i.
        let place2 = place + box_length y box in
        let w2 = fired_wires known box wires in
        let k2 = fired_marks known box wires stuck in
        let p : place + 6 * length (input_slots box) + body_length y box ≡ place2 = omega arith in
        let Q : State → Type 0 = At codes c m width y table frame s l place2 w2 k2 t j in
        let few_cycles = cycles_within y box wires in
        follow (Along codes ids c s l) (box_cycles y box wires) rest.0 (λ u q. (q ≡ j) × Q u × Fair codes c m width y table frame s l place2 u q) (Made ok visits end w k table frame s l j) t j
        (own_step codes c m width y table frame s l ids blocks far (box_cycles y box wires) place place2 Q wires w2 stuck k2 t j i (λ u q. q) (omega (arith, few_cycles)) (omega (arith, low, high))
        (subst (λ q. Stretch (range codes c m width y table frame s l t j) (box_cycles y box wires) (At codes c m width y table frame s l q w2 k2 t j) t) p
        (box_law (range codes c m width y table frame s l t j) table frame (codes m) y t known box place wires stuck t i.at stand (omega arith) (omega (arith, high)) placed none)))
        (λ u q h.
        subst (λ x. Leads (Along codes ids c s l) rest.0 (Made ok visits end w k table frame s l x) u q) h.0
        (rest.1 table ids frame s l blocks far count_is u q (moved_on codes c m width y table frame s l place place2 wires w2 stuck k2 t j i u q h.1 h.2))),
  )

  -- an enabled `use`
  module _ (inputs : List ℕ) (north west : Option ℕ) (callee : ℕ) (side : SideSlot) (number text place : ℕ) (wires : ℕ → Option Value) (stuck : ℕ → Option TextTrail) where
    abbrev size : ℕ
    size = (plans callee).layout.size

    abbrev asked : Inputs
    asked = record { north = exit_value wires north; west = exit_value wires west }

    abbrev body : ℕ
    body = place + 6 * length inputs

    module _ (is_north : IsWireSlot y north) (is_west : IsWireSlot y west) (are : AreWires y inputs) (can : CanUse y size side number) (inside : callee < modules) (framed : 64 + 4 * size ≤ c.frame) (high : body + 49 ≤ width)
        (stand : StandsAt (codes m) place (use_code y inputs (input_slot north) (input_slot west) callee size m side number text place)) (on : carry_all wires inputs ≡ true) where
      abbrev code_back : List Op
      code_back = calling_code y (input_slot north) (input_slot west) callee size m side number text body

      body_stands : StandsAt (codes m) body code_back
      body_stands =
          subst (λ n. StandsAt (codes m) (place + n) code_back) (guards_length inputs place (place + 6 * length inputs + 49))
          (stands_back (codes m) place (guards_code inputs place (place + 6 * length inputs + 49)) code_back stand)

      -- the guards pass
      guards : (table : ℕ) (ids : List ℕ) (frame : ℕ) (s : State) (l : Loads) → HasBlocks codes table ids s.arrays → IsApart table ids frame → (t : State) (j : Loads) → Now_ table frame s l place wires stuck t j →
          Leads (Along codes ids c s l) (guard_cycles wires inputs) (λ u q. (q ≡ j) × Now_ table frame s l body wires stuck u q) t j
      guards table ids frame s l blocks far t j i =
          let Q : State → Type 0 = At codes c m width y table frame s l body wires stuck t j in
          let n = guards_cycles wires inputs in
          weaken (Along codes ids c s l) (guard_cycles wires inputs) (λ u q. (q ≡ j) × Q u × Fair codes c m width y table frame s l body u q) (λ u q. (q ≡ j) × Now_ table frame s l body wires stuck u q)
          (λ u q h. (h.0, moved_on codes c m width y table frame s l place body wires wires stuck stuck t j i u q h.1 h.2)) t j
          (own_step codes c m width y table frame s l ids blocks far (guard_cycles wires inputs) place body Q wires wires stuck stuck t j i (λ u q. q) (omega (arith, n)) (omega (arith, low, high))
          (subst (λ b. Stretch (range codes c m width y table frame s l t j) (guard_cycles wires inputs) (At codes c m width y table frame s l (if b then body else body + 49) wires stuck t j) t) on
          (guards_law (range codes c m width y table frame s l t j) table frame (codes m) y stuck t wires inputs place (body + 49) t i.at
          (stands_front (codes m) place (guards_code inputs place (body + 49)) code_back stand) (omega arith) (omega (arith, high)) are (omega arith))))

      -- and the callee is called, and goes on to where it is said to go
      calls : (came : Option Ending) (visits : List Visit) (law : CallLaw codes c plans count callee asked came visits) (table : ℕ) (ids : List ℕ) (frame : ℕ) (s : State) (l : Loads) → HasBlocks codes table ids s.arrays → IsApart table ids frame → length ids ≡ count →
          (back_inside : m < count) (R : State → Loads → Type 0) (n : ℕ) (t : State) (j : Loads) (i : Now_ table frame s l body wires stuck t j) →
          ((u : State) (q : Loads) (called : Called codes table ids callee size (record { caller = frame; block = m; offset = body + 21 }) asked t u) → q ≡ j ++ entry_of (codes callee) ∷ [] → spent u ≤ spent t + (21 + c.frame) →
          (v : State) (k : Loads) → Ran codes c table (record { caller = frame; block = m; offset = body + 21 }) came visits called.frame u q v k → Leads (Along codes ids c s l) n R v k) →
          Leads (Along codes ids c s l) (21 + (law.0 + n)) R t j
      calls came visits law table ids frame s l blocks far count_is back_inside R n t j i go =
          let back : Return = record { caller = frame; block = m; offset = body + 21 } in
          follow (Along codes ids c s l) 21 (law.0 + n) (λ u q. (Called codes table ids callee size back asked t u × (q ≡ j ++ entry_of (codes callee) ∷ [])) × (spent u ≤ spent t + (21 + c.frame))) R t j
          (call_step codes c m width y table frame s l ids blocks far body wires stuck t j i north west callee size is_north is_west
          (stands_front (codes m) body (call_block (input_slot north) (input_slot west) callee size m (body + 21)) (taken_code y side number text) body_stands) can.frame room (omega (arith, count_is, inside, few)) framed (omega (arith, low, high)))
          (λ u q h.
          let called = h.0.0 in
          follow (Along codes ids c s l) law.0 n (Ran codes c table back came visits called.frame u q) R u q
          (weaken_along (Along codes ids c u q) (Along codes ids c s l) law.0 (Ran codes c table back came visits called.frame u q)
          (within_call codes c m width y table frame s l ids blocks far body wires stuck t j i callee size asked u q called h.0.1 h.1 (omega (arith, low, high))) u q
          (law.1 table ids back called.frame u q (called.entered (plans callee).north (plans callee).west) count_is back_inside)) (go u q called h.0.1 h.1))

      enabled : m < count → (came : Option Ending) → known callee asked ≡ came →
          (((came ≡ None) × (trips callee asked ≡ [])) ⊎ ((visits : List Visit) × (trips callee asked ≡ Calls callee ∷ visits) × CallLaw codes c plans count callee asked came visits)) →
          (ok : Bool) (visits : List Visit) (end : ℕ) (w : ℕ → Option Value) (k : ℕ → Option TextTrail) → Way ok visits end w k (body + 49) (answered_wires side came wires) (answered_marks number text came stuck) →
          Way (is_some came && ok) (trips callee asked ++ (if is_some came then Returns m ∷ visits else [])) end w k place wires stuck
      enabled here None is (inl h) ok visits end w k rest = (
        0,
        λ table ids frame s l blocks far count_is t j i.
            no_step (Along codes ids c s l) (Made false (trips callee asked ++ []) end w k table frame s l j) t j
            (subst (λ x. seen j ≡ seen j ++ map (load_of codes) (x ++ [])) (sym h.1) (sym (append-nil (seen j))), tt),
      )
      enabled here None is (inr h) ok visits end w k rest = (
        guard_cycles wires inputs + (21 + (h.2.0 + 0)),
        λ table ids frame s l blocks far count_is t j i.
            let R = Made false (trips callee asked ++ []) end w k table frame s l j in
            follow (Along codes ids c s l) (guard_cycles wires inputs) (21 + (h.2.0 + 0)) (λ u q. (q ≡ j) × Now_ table frame s l body wires stuck u q) R t j (guards table ids frame s l blocks far t j i)
            (λ u q g.
            calls None h.0 h.2 table ids frame s l blocks far count_is here R 0 u q g.1
            (λ v k called loads cost x k2 ran.
            no_step (Along codes ids c s l) R x k2
            (let to : seen k ≡ seen j ++ (codes callee, true) ∷ [] = ap seen loads ∙ seen_more q (entry_of (codes callee)) ∙ ap (λ z. seen z ++ (codes callee, true) ∷ []) g.0 in
            let all : seen k2 ≡ seen j ++ map (load_of codes) (Calls callee ∷ h.0) = ran ∙ ap (λ z. z ++ map (load_of codes) h.0) to ∙ append_assoc (seen j) ((codes callee, true) ∷ []) (map (load_of codes) h.0) in
            let same : Calls callee ∷ h.0 ≡ trips callee asked ++ [] = sym h.1 ∙ sym (append-nil (trips callee asked)) in
            (all ∙ ap (λ z. seen j ++ map (load_of codes) z) same, tt)))),
      )
      enabled here (Some came) is (inl h) ok visits end w k rest = absurd (no_some came h.0)
      enabled here (Some came) is (inr h) ok visits end w k rest = (
        guard_cycles wires inputs + (21 + (h.2.0 + (28 + rest.0))),
        λ table ids frame s l blocks far count_is t j i.
            let R = Made ok (trips callee asked ++ Returns m ∷ visits) end w k table frame s l j in
            let w2 = carrying side.wire came.value wires in
            let k2 = marking number (by_caller text came.mark) stuck in
            follow (Along codes ids c s l) (guard_cycles wires inputs) (21 + (h.2.0 + (28 + rest.0))) (λ u q. (q ≡ j) × Now_ table frame s l body wires stuck u q) R t j (guards table ids frame s l blocks far t j i)
            (λ u q g.
            calls (Some came) h.0 h.2 table ids frame s l blocks far count_is here R (28 + rest.0) u q g.1
            (λ v p called loads cost x z ran.
            let now = back_step codes c m width y table frame s l ids blocks far body wires stuck u q g.1 callee size asked v p called loads cost came x z ran.returned ran.bound room in
            let Q : State → Type 0 = At codes c m width y table frame s l (body + 21 + 28) w2 k2 x z in
            let e : body + 21 + 28 ≡ body + 49 = omega arith in
            let to : seen p ≡ seen j ++ (codes callee, true) ∷ [] = ap seen loads ∙ seen_more q (entry_of (codes callee)) ∙ ap (λ z. seen z ++ (codes callee, true) ∷ []) g.0 in
            let back : seen z ≡ ((seen j ++ (codes callee, true) ∷ []) ++ map (load_of codes) h.0) ++ (codes m, false) ∷ [] =
            ran.loads ∙ ap (λ b. (seen p ++ map (load_of codes) h.0) ++ (codes m, b) ∷ []) (after_zero body) ∙ ap (λ o. (o ++ map (load_of codes) h.0) ++ (codes m, false) ∷ []) to in
            let whole : seen z ++ map (load_of codes) visits ≡ seen j ++ map (load_of codes) (trips callee asked ++ Returns m ∷ visits) =
            ap (λ o. o ++ map (load_of codes) visits) back ∙ whole_trip (seen j) (codes callee, true) (map (load_of codes) h.0) (codes m, false) (map (load_of codes) visits)
            ∙ ap (λ o. seen j ++ ((codes callee, true) ∷ o)) (sym (map-append (load_of codes) h.0 (Returns m ∷ visits)))
            ∙ ap (λ o. seen j ++ map (load_of codes) (o ++ Returns m ∷ visits)) (sym h.1) in
            follow (Along codes ids c s l) 28 rest.0 (λ a b. (b ≡ z) × Q a × Fair codes c m width y table frame s l (body + 21 + 28) a b) R x z
            (own_step codes c m width y table frame s l ids blocks far 28 (body + 21) (body + 21 + 28) Q wires w2 stuck k2 x z now (λ a b. b) (omega arith) (omega (arith, low, high))
            (taken_law (range codes c m width y table frame s l x z) table frame (codes m) y x side size number text (body + 21) wires stuck came x now.at
            (stands_back (codes m) body (call_block (input_slot north) (input_slot west) callee size m (body + 21)) (taken_code y side number text) body_stands)
            (omega arith) (omega (arith, high)) can ran.returned.value_is ran.returned.mark_is))
            (λ a b f.
            weaken (Along codes ids c s l) rest.0 (Made ok visits end w k table frame s l b) R
            (λ d o made. (made.0 ∙ ap (λ z. seen z ++ map (load_of codes) visits) f.0 ∙ whole, made.1)) a b
            (rest.1 table ids frame s l blocks far count_is a b
            (subst (λ q. Now_ table frame s l q w2 k2 a b) e
            (moved_on codes c m width y table frame s l (body + 21) (body + 21 + 28) wires w2 stuck k2 x z now a b f.1 f.2)))))),
      )

  -- a `use`, enabled or not
  use_way : m < count → (inputs : List ℕ) (north west : Option ℕ) (callee size own : ℕ) (side : SideSlot) (number text place : ℕ) (wires : ℕ → Option Value) (stuck : ℕ → Option TextTrail) →
      StandsAt (codes m) place (box_code y (Uses inputs north west callee size own side number text) place) → place + (6 * length inputs + 49) ≤ width → IsPlaced y (Uses inputs north west callee size own side number text) →
      IsCall plans modules m (Uses inputs north west callee size own side number text) → 64 + 4 * (plans callee).layout.size ≤ c.frame → (b : Bool) → carry_all wires inputs ≡ b →
      (ok : Bool) (visits : List Visit) (end : ℕ) (w : ℕ → Option Value) (k : ℕ → Option TextTrail) →
      Way ok visits end w k (place + (6 * length inputs + 49)) (fired_wires known (Uses inputs north west callee size own side number text) wires) (fired_marks known (Uses inputs north west callee size own side number text) wires stuck) →
      Way (is_answered known (call_of (Uses inputs north west callee size own side number text) wires) && ok) (trip trips known m (call_of (Uses inputs north west callee size own side number text) wires) visits) end w k place wires stuck
  unfolding enabled_call
  use_way here inputs north west callee size own side number text place wires stuck stand high placed is_call framed false e ok visits end w k rest =
      let call = enabled_call wires callee north west in
      let none : call_of (Uses inputs north west callee size own side number text) wires ≡ None = ap (λ b. if b then Some call else None) e in
      subst (λ o. Way (is_answered known o && ok) (trip trips known m o visits) end w k place wires stuck) (sym none)
      (plain (Uses inputs north west callee size own side number text) place wires stuck stand high placed none ok visits end w k rest)
  use_way here inputs north west callee size own side number text place wires stuck stand high placed is_call framed true e ok visits end w k rest =
      let call = enabled_call wires callee north west in
      let some : call_of (Uses inputs north west callee size own side number text) wires ≡ Some call = ap (λ b. if b then Some call else None) e in
      let p : place + (6 * length inputs + 49) ≡ place + 6 * length inputs + 49 = omega arith in
      let rest2 : Way ok visits end w k (place + 6 * length inputs + 49) (answered_wires side (known callee call.inputs) wires) (answered_marks number text (known callee call.inputs) stuck) =
      subst (λ q. Way ok visits end w k q (answered_wires side (known callee call.inputs) wires) (answered_marks number text (known callee call.inputs) stuck)) p
      (subst (λ o. Way ok visits end w k (place + (6 * length inputs + 49)) (answered_wires side (answer_to known o) wires) (answered_marks number text (answer_to known o) stuck)) some rest) in
      subst (λ o. Way (is_answered known o && ok) (trip trips known m o visits) end w k place wires stuck) (sym some)
      (enabled inputs north west callee side number text place wires stuck placed.0 placed.1 placed.2 (subst (λ z. CanUse y z side number) is_call.1 placed.3) is_call.0 framed (omega (arith, high))
      (subst (λ z. StandsAt (codes m) place (use_code y inputs (input_slot north) (input_slot west) callee z m side number text place)) is_call.1
      (subst (λ z. StandsAt (codes m) place (use_code y inputs (input_slot north) (input_slot west) callee size z side number text place)) is_call.2 stand)) e
      here (known callee call.inputs) refl (told callee call.inputs is_call.0) ok visits end w k rest2)

  -- the boxes, one after the other
  boxes_way : m < count → ((callee : ℕ) → callee < modules → 64 + 4 * (plans callee).layout.size ≤ c.frame) → (boxes : List Box) (place : ℕ) (wires : ℕ → Option Value) (stuck : ℕ → Option TextTrail) →
      StandsAt (codes m) place (boxes_code y boxes place) → place + boxes_length y boxes ≤ width → ArePlaced y boxes → AreCalls plans modules m boxes →
      Way (all_answered known boxes wires) (trips_of trips known m boxes wires) (place + boxes_length y boxes) (all_wires known boxes wires) (all_marks known boxes wires stuck) place wires stuck
  boxes_way here framed [] place wires stuck stand high placed are = (
    0,
    λ table ids frame s l blocks far count_is t j i.
        let e : place ≡ place + 0 = omega arith in
        no_step (Along codes ids c s l) (Made true [] (place + 0) wires stuck table frame s l j) t j (sym (append-nil (seen j)), subst (λ p. Now_ table frame s l p wires stuck t j) e i),
  )
  boxes_way here framed (box ∷ boxes) place wires stuck stand high placed are =
      let n = box_length y box in
      let w2 = fired_wires known box wires in
      let k2 = fired_marks known box wires stuck in
      let ok = all_answered known boxes w2 in
      let visits = trips_of trips known m boxes w2 in
      let p : place + n + boxes_length y boxes ≡ place + (n + boxes_length y boxes) = omega arith in
      let words = box_words y box place in
      let front = stands_front (codes m) place (box_code y box place) (boxes_code y boxes (place + n)) stand in
      let back : StandsAt (codes m) (place + n) (boxes_code y boxes (place + n)) =
      subst (λ q. StandsAt (codes m) (place + q) (boxes_code y boxes (place + n))) words (stands_back (codes m) place (box_code y box place) (boxes_code y boxes (place + n)) stand) in
      let rest : Way ok visits (place + (n + boxes_length y boxes)) (all_wires known boxes w2) (all_marks known boxes w2 k2) (place + n) w2 k2 =
      subst (λ q. Way ok visits q (all_wires known boxes w2) (all_marks known boxes w2 k2) (place + n) w2 k2) p (boxes_way here framed boxes (place + n) w2 k2 back (omega (arith, high)) placed.1 are.1) in
      by_kind box front placed.0 are.0 (omega (arith, high)) ok visits (place + (n + boxes_length y boxes)) (all_wires known boxes w2) (all_marks known boxes w2 k2) rest
    where
      by_kind : (box : Box) → StandsAt (codes m) place (box_code y box place) → IsPlaced y box → IsCall plans modules m box → place + box_length y box ≤ width →
          (ok : Bool) (visits : List Visit) (end : ℕ) (w : ℕ → Option Value) (k : ℕ → Option TextTrail) → Way ok visits end w k (place + box_length y box) (fired_wires known box wires) (fired_marks known box wires stuck) →
          Way (is_answered known (call_of box wires) && ok) (trip trips known m (call_of box wires) visits) end w k place wires stuck
      by_kind (Sends inputs north west outs) stand placed is high ok visits end w k rest = plain (Sends inputs north west outs) place wires stuck stand high placed refl ok visits end w k rest
      by_kind (Sorts inputs north west x f g one two both number text) stand placed is high ok visits end w k rest = plain (Sorts inputs north west x f g one two both number text) place wires stuck stand high placed refl ok visits end w k rest
      by_kind (Uses inputs north west callee size own side number text) stand placed is high ok visits end w k rest =
          use_way here inputs north west callee size own side number text place wires stuck stand high placed is (framed callee is.0) (carry_all wires inputs) refl ok visits end w k rest

module _ (codes : ℕ → List ℕ) (c : Prices) (plans : Plans) (modules count : ℕ) (known : Known) (trips : Trips) (few : modules ≤ count) (are : (m : ℕ) → m < modules → IsBlock codes c plans modules m)
    (told : (m : ℕ) (a : Inputs) → m < modules → IsKnownOf codes c plans count known trips m a) (m : ℕ) (a : Inputs) (inside : m < modules) where
  abbrev p : BlockPlan
  p = plans m

  abbrev y : Layout
  y = (plans m).layout

  is : IsBlock codes c plans modules m
  is = are m inside

  abbrev width : ℕ
  width = block_length (plans m) + 11

  abbrev wires0 : ℕ → Option Value
  wires0 = entry_wires (plans m) a.north a.west

  abbrev visits : List Visit
  visits = trips_of trips known m (plans m).boxes wires0

  abbrev boxes_end : ℕ
  boxes_end = 18 + boxes_length y (plans m).boxes

  abbrev ending : List Op
  ending = end_code y (plans m).exits (plans m).none (plans m).two y.boxes

  abbrev all_boxes : List Op
  all_boxes = boxes_code y (plans m).boxes 18

  whole : StandsAt (codes m) 0 ((entries_code (plans m) ++ (all_boxes ++ ending)) ++ return_outcome)
  whole = is.stand

  behind_entries : StandsAt (codes m) 18 (all_boxes ++ ending)
  behind_entries = stands_back (codes m) 0 (entries_code (plans m)) (all_boxes ++ ending) (stands_front (codes m) 0 (entries_code (plans m) ++ (all_boxes ++ ending)) return_outcome whole)

  boxes_are : length all_boxes ≡ boxes_length y (plans m).boxes
  boxes_are = boxes_words y (plans m).boxes 18

  end_stands : StandsAt (codes m) boxes_end ending
  end_stands = subst (λ n. StandsAt (codes m) (18 + n) ending) boxes_are (stands_back (codes m) 18 all_boxes ending behind_entries)

  return_stands : StandsAt (codes m) (block_length (plans m)) return_outcome
  return_stands =
      let n = block_words (plans m) 0 in
      let all : 0 + length (entries_code (plans m) ++ (all_boxes ++ ending)) ≡ block_length (plans m) = omega (arith, n) in
      subst (λ q. StandsAt (codes m) q return_outcome) all (stands_back (codes m) 0 (entries_code (plans m) ++ (all_boxes ++ ending)) return_outcome whole)

  -- the block was entered
  begins : (table : ℕ) (ids : List ℕ) (back : Return) (frame : ℕ) (s : State) (l : Loads) → Entered codes table ids m y.size (plans m).north (plans m).west back a frame s → Now codes c m width y table frame s l 0 (λ k. None) (λ b. None) s l
  begins table ids back frame s l h =
      let size = is.good.size in
      let words : List ℕ = back.caller ∷ back.block ∷ back.offset ∷ h.north ∷ h.west ∷ replicate (y.size - 5) 0 in
      let n = length-replicate {A = ℕ} (y.size - 5) 0 in
      let home : (j : ℕ) → j < 5 → slice_index words j ≡ slice_index (array_at s.arrays frame) j = λ j lt. ap (λ o. slice_index (unwrap_or o []) j) (sym h.frame_is.there) in
      record {
        at = record {
          slots = words;
          here = record {
            running = h.running;
            finger = h.finger;
            eight = h.eight;
            zero_is = h.zero_is;
            table_is = h.table_is;
            current_is = h.current_is;
            code_is = h.code_is;
            came_with = h.code_is;
            came_table = h.table_is;
            framed = refl;
            still = λ j words out e. e;
            frame_is = h.frame_is;
            out_is = refl;
            rest_is = refl;
          };
          holds = record {
            long = omega (arith, n, size);
            zero = behind back.caller back.block back.offset h.north h.west (y.size - 5) zero_slot (omega arith);
            carries = λ k lt. behind back.caller back.block back.offset h.north h.west (y.size - 5) (wire_slot k) (omega arith);
            marked = λ b lt. behind back.caller back.block back.offset h.north h.west (y.size - 5) (stuck_slot y b) (omega arith);
          };
          keeps = λ k ws z ne e. e;
          cheap = omega arith;
          home = home;
        };
        keeps = λ k ws z ne e. e;
        home = home;
        out_is = refl;
        rest_is = refl;
        fair = omega arith;
      }

  same_slots : (table : ℕ) (ids : List ℕ) (back : Return) (frame : ℕ) (s : State) (l : Loads) (h : Entered codes table ids m y.size (plans m).north (plans m).west back a frame s) →
      (begins table ids back frame s l h).at.slots ≡ back.caller ∷ back.block ∷ back.offset ∷ h.north ∷ h.west ∷ replicate (y.size - 5) 0
  unfolding begins
  same_slots table ids back frame s l h = refl

  -- the entries go to their wires
  entered : (table : ℕ) (ids : List ℕ) (back : Return) (frame : ℕ) (s : State) (l : Loads) → Entered codes table ids m y.size (plans m).north (plans m).west back a frame s →
      Leads (Along codes ids c s l) 18 (λ u q. (q ≡ l) × Now codes c m width y table frame s l 18 wires0 (λ b. None) u q) s l
  entered table ids back frame s l h =
      let now = begins table ids back frame s l h in
      let Q : State → Type 0 = At codes c m width y table frame s l 18 wires0 (λ b. None) s l in
      let priced = is.priced in
      let size = is.good.size in
      weaken (Along codes ids c s l) 18 (λ u q. (q ≡ l) × Q u × Fair codes c m width y table frame s l 18 u q) (λ u q. (q ≡ l) × Now codes c m width y table frame s l 18 wires0 (λ b. None) u q)
      (λ u q g. (g.0, moved_on codes c m width y table frame s l 0 18 (λ k. None) wires0 (λ b. None) (λ b. None) s l now u q g.1 g.2)) s l
      (own_step codes c m width y table frame s l ids h.blocks h.apart 18 0 18 Q (λ k. None) wires0 (λ b. None) (λ b. None) s l now (λ u q. q) (omega arith) (omega (arith, priced))
      (entries_law (range codes c m width y table frame s l s l) table frame (codes m) (plans m) a.north a.west 0 s s now.at
      (subst (λ xs. EntryCarries s.arrays (slice_index xs 3) (plans m).north a.north) (sym (same_slots table ids back frame s l h)) h.north_is)
      (subst (λ xs. EntryCarries s.arrays (slice_index xs 4) (plans m).west a.west) (sym (same_slots table ids back frame s l h)) h.west_is)
      (stands_front (codes m) 0 (entries_code (plans m)) (all_boxes ++ ending) (stands_front (codes m) 0 (entries_code (plans m) ++ (all_boxes ++ ending)) return_outcome whole))
      (omega arith) (omega arith) is.good))

  abbrev end_cycles : ℕ
  end_cycles = 63 + 18 * length (plans m).exits + 9 * y.boxes

  -- the outcome goes to its slots, and the block returns
  ends : (table : ℕ) (ids : List ℕ) (back : Return) (frame : ℕ) (s : State) (l : Loads) → Entered codes table ids m y.size (plans m).north (plans m).west back a frame s → length ids ≡ count → back.block < count → (u : State) (q : Loads) →
      Now codes c m width y table frame s l boxes_end (last_wires known (plans m) a.north a.west) (last_marks known (plans m) a.north a.west) u q → seen q ≡ seen l ++ map (load_of codes) visits →
      Leads (Along codes ids c s l) (end_cycles + 11) (Backed codes c table back (block_came known (plans m) a) visits frame s l) u q
  ends table ids back frame s l h count_is to u q now loads =
      let w = last_wires known (plans m) a.north a.west in
      let k = last_marks known (plans m) a.north a.west in
      let came = block_came known (plans m) a in
      let L = block_length (plans m) in
      let priced = is.priced in
      let size = is.good.size in
      let e : boxes_end + 63 + 18 * length (plans m).exits + 9 * y.boxes ≡ L = omega arith in
      let Q : State → Type 0 = λ x. Ended (range codes c m width y table frame s l u q) table frame (codes m) y L w k came.value came.mark u x in
      follow (Along codes ids c s l) end_cycles 11 (λ x z. (z ≡ q) × Q x × Fair codes c m width y table frame s l L x z) (Backed codes c table back came visits frame s l) u q
      (own_step codes c m width y table frame s l ids h.blocks h.apart end_cycles boxes_end L Q w w k k u q now (λ x g. g.at) (omega arith) (omega (arith, priced))
      (subst (λ z. Stretch (range codes c m width y table frame s l u q) end_cycles (λ x. Ended (range codes c m width y table frame s l u q) table frame (codes m) y z w k came.value came.mark u x) u) e
      (end_law (range codes c m width y table frame s l u q) table frame (codes m) y u w k size (plans m).exits (plans m).none (plans m).two y.boxes boxes_end u now.at end_stands (omega arith) (omega arith) is.good.are_exits (omega arith))))
      (λ x z g.
      weaken (Along codes ids c s l) 11
      (λ v j. Returned codes table back came frame s v × (j ≡ z ++ load_at (codes back.block) back.offset ∷ []) × (spent v + c.frame + due c.price l ≤ spent s + due c.price j + c.price))
      (Backed codes c table back came visits frame s l)
      (λ v j r. record {
        returned = r.0;
        loads = ap seen r.1 ∙ seen_more z (load_at (codes back.block) back.offset) ∙ ap (λ o. o ++ (codes back.block, back.offset == 0) ∷ []) (ap seen g.0 ∙ loads);
        bound = r.2;
      }) x z
      (return_step codes c m width y table frame s l ids h.blocks h.apart back boxes_end w w k k came u q now x z L g.1 g.2 return_stands size (omega (arith, count_is, to)) (omega (arith, priced))
      (ap (λ o. slice_index (unwrap_or o []) 0) h.frame_is.there) (ap (λ o. slice_index (unwrap_or o []) 1) h.frame_is.there) (ap (λ o. slice_index (unwrap_or o []) 2) h.frame_is.there)))

  abbrev BoxesWay : Bool → Type 0
  BoxesWay ok =
      Way codes c plans modules count few known trips told m width y is.good.size is.priced ok visits boxes_end (last_wires known (plans m) a.north a.west) (last_marks known (plans m) a.north a.west) 18 wires0 (λ b. None)

  finish : (ok : Bool) → BoxesWay ok → CallLaw codes c plans count m a (came_if ok (block_came known (plans m) a)) visits
  finish true way = (
    18 + (way.0 + (end_cycles + 11)),
    λ table ids back frame s l h count_is to.
        let came = block_came known (plans m) a in
        let R = Backed codes c table back came visits frame s l in
        follow (Along codes ids c s l) 18 (way.0 + (end_cycles + 11)) (λ u q. (q ≡ l) × Now codes c m width y table frame s l 18 wires0 (λ b. None) u q) R s l (entered table ids back frame s l h) (λ u q g.
        follow (Along codes ids c s l) way.0 (end_cycles + 11)
        (λ x z. (seen z ≡ seen q ++ map (load_of codes) visits) × Now codes c m width y table frame s l boxes_end (last_wires known (plans m) a.north a.west) (last_marks known (plans m) a.north a.west) x z) R u q
        (way.1 table ids frame s l h.blocks h.apart count_is u q g.1) (λ x z f.
        ends table ids back frame s l h count_is to x z f.1 (f.0 ∙ ap (λ o. seen o ++ map (load_of codes) visits) g.0))),
  )
  finish false way = (
    18 + way.0,
    λ table ids back frame s l h count_is to.
        let R : State → Loads → Type 0 = λ u q. seen q ≡ seen l ++ map (load_of codes) visits in
        follow (Along codes ids c s l) 18 way.0 (λ u q. (q ≡ l) × Now codes c m width y table frame s l 18 wires0 (λ b. None) u q) R s l (entered table ids back frame s l h) (λ u q g.
        weaken (Along codes ids c s l) way.0 (λ x z. (seen z ≡ seen q ++ map (load_of codes) visits) × Unit {0}) R (λ x z f. f.0 ∙ ap (λ o. seen o ++ map (load_of codes) visits) g.0) u q
        (way.1 table ids frame s l h.blocks h.apart count_is u q g.1)),
  )

  -- what a block does, with the answers of its uses
  pub acts : CallLaw codes c plans count m a (came_to known (plans m) a) visits
  acts =
      finish (all_answered known (plans m).boxes wires0)
      (boxes_way codes c plans modules count few known trips told m width y is.good.size is.priced (omega (arith, inside, few)) (λ callee lt. (are callee lt).framed) (plans m).boxes 18 wires0 (λ b. None)
      (stands_front (codes m) 18 all_boxes ending behind_entries) (omega arith) is.good.placed is.calls)

pub block_law : BlockLaw
unfolding BlockLaw
block_law codes c plans modules count known trips few are told m a inside = acts codes c plans modules count known trips few are told m a inside
