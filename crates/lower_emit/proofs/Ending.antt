-- The end of a block.
use Rattle.std.proofs.Common.{◌≡◌, ◌≢◌, ℕ, zero, suc, ◌+◌, ◌*◌, ◌<◌, ◌≤◌, List, [], ◌∷◌, length, Option, Some, None, sym, ap, ◌∙◌, subst, arith, length-set, map, get_or-set_other, refl, ◌++◌}
use Rattle.std.specs.Prelude.{if◌then◌else◌, is_some, slice_set, slice_index}
use Rattle.um_word.specs.State.{State, Arrays}
use Rattle.codex_values.specs.Value.{Value}
use Rattle.code_templates.specs.Lines.{StandsAt}
use Rattle.code_templates.specs.Templates.{make_cell, set_slot, choose_slot}
use Rattle.code_templates.specs.Laws.{chosen_word}
use Rattle.code_templates.proofs.Straight.{stands_front, stands_back}
use Rattle.lower_emit.specs.inner.Stretches.{Range, Stretch, KeepsArrays}
use Rattle.lower_emit.specs.Stands.{CellArray, TextTrail, At, Via, Trails, Carries, Marked}
use Rattle.lower_emit.specs.Layouts.{zero_slot, Layout, wire_slot, stuck_slot, temporary, input_slot, value_out, stuck_out}
use Rattle.lower_emit.specs.inner.Frames.{FrameHolds, AtPlace, IsWireSlot}
use Rattle.lower_emit.specs.inner.Sorts.{or_else, stuck_at}
use Rattle.lower_emit.specs.inner.Ends.{exit_value, values_seen, HoldsLast, AreExits, or_trail, first_mark, value_unless, Marks, Ended, outcome_mark, outcome_value}
use Rattle.lower_emit.specs.Blocks.{read_exit, read_exits, trail_code, no_result_code, two_results_code, marks_code, end_value_code, end_code}
use Rattle.lower_emit.proofs.Stretching.{stays, chain, becomes}
use Rattle.lower_emit.proofs.Growth.{stands_not_zero}
use Rattle.lower_emit.proofs.Boxes.{same_holds, carries_grow, marked_grow, chosen_some}
use Rattle.lower_emit.proofs.Sorting.{Wrote, choose_in, here_is, there_is, chosen_carries, chosen_mark, set_temporary, make_trail}

pub trail_not_zero : (m : Arrays) (trail : TextTrail) (k : ℕ) → Trails m k trail → k ≢ 0
trail_not_zero m (At text) k h = h.0
trail_not_zero m (Via text inner) k h = h.1.0

-- a slot is chosen by whether another carries a value
chosen_by : (m : Arrays) (c x z : ℕ) (v a b : Option Value) → Carries m c v → Carries m x a → Carries m z b → Carries m (chosen_word c x z) (if is_some v then a else b)
chosen_by m c x z None a b hc hx hz = subst (λ k. Carries m (chosen_word k x z) b) (sym hc) hz
chosen_by m c x z (Some v) a b hc hx hz = subst (λ k. Carries m k a) (sym (chosen_some c x z (stands_not_zero m v c hc))) hx

module _ (r : Range) (table frame : ℕ) (code : List ℕ) (y : Layout) (s : State) (wires : ℕ → Option Value) (stuck : ℕ → Option TextTrail) (size : temporary y 4 < y.size) where
  abbrev There : ℕ → State → Type 0
  There place t = AtPlace r table frame code y place wires stuck s t

  abbrev Saw : ℕ → Option Value → Option Value → State → Type 0
  Saw place last before t = HoldsLast r table frame code y place wires stuck last before s t

  inside : (place : ℕ) (t : State) (a : There place t) (d : ℕ) → d < y.size → d < length a.slots
  inside place t a d lt = let n = a.holds.long in omega (arith, n, lt)

  -- a temporary gets a word
  temporary_holds : (place : ℕ) (t : State) (a : There place t) (j x : ℕ) (n : Arrays) → KeepsArrays frame t.arrays n → FrameHolds y n (slice_set a.slots (temporary y j) x) wires stuck
  temporary_holds place t a j x n keeps =
      let l = a.holds.long in
      same_holds y frame t.arrays n a.slots (slice_set a.slots (temporary y j) x) wires stuck keeps a.here.frame_is.there (omega (arith, l, size)) (length-set a.slots (temporary y j) x)
      (λ k lt. get_or-set_other a.slots (temporary y j) k x 0 (λ e. omega (arith, e, lt))) a.holds

  input_inside : (exit : Option ℕ) → IsWireSlot y exit → input_slot exit < temporary y 0
  input_inside None h = omega arith
  input_inside (Some k) h = omega (arith, h)

  -- what an exit's slot carries
  exit_carries : (place : ℕ) (t : State) (a : There place t) (exit : Option ℕ) → IsWireSlot y exit → Carries t.arrays (slice_index a.slots (input_slot exit)) (exit_value wires exit)
  exit_carries place t a None h = a.holds.zero
  exit_carries place t a (Some k) h = a.holds.carries k h

  exit_law : (exit : Option ℕ) (place : ℕ) (last before : Option Value) (t : State) → Saw place last before t → StandsAt code place (read_exit y exit) →
      r.place ≤ place → place + 18 ≤ r.place + r.size → IsWireSlot y exit →
      Stretch r 18 (Saw (place + 9 + 9) (or_else (exit_value wires exit) last) (if is_some (exit_value wires exit) then last else before)) t
  exit_law exit place last before t saw stand low high is_wire =
      let a = saw.at in
      let A = temporary y 0 in
      let B = temporary y 1 in
      let S = input_slot exit in
      let v = exit_value wires exit in
      let s_low = input_inside exit is_wire in
      let a_in : A < y.size = omega (arith, size) in
      let b_in : B < y.size = omega (arith, size) in
      let s_in : S < y.size = omega (arith, size, s_low) in
      let one = choose_slot S A B B in
      let two = choose_slot S S A A in
      let n = a.holds.long in
      let before2 = if is_some v then last else before in
      let x = chosen_word (slice_index a.slots S) (slice_index a.slots A) (slice_index a.slots B) in
      let cx : Carries t.arrays x before2 = chosen_by t.arrays (slice_index a.slots S) (slice_index a.slots A) (slice_index a.slots B) v last before (exit_carries place t a exit is_wire) saw.last_is saw.before_is in
      chain r 9 9 _ _ t (choose_in r table frame code y s place wires stuck t a size S A B B wires stuck (stands_front code place one two stand) low (omega (arith, high)) s_in a_in b_in b_in (omega arith)
      (λ m k. temporary_holds place t a 1 x m k)) (λ u h.
      let b = h.at in
      let l = b.holds.long in
      let grow = carries_grow frame a.slots t.arrays u.arrays h.keeps a.here.frame_is.there (omega (arith, n, size)) in
      let sb : slice_index b.slots S ≡ slice_index a.slots S = there_is r table frame code y s (place + 9) wires stuck a.slots B x t.arrays u h S (λ e. omega (arith, e, s_low)) in
      let ab : slice_index b.slots A ≡ slice_index a.slots A = there_is r table frame code y s (place + 9) wires stuck a.slots B x t.arrays u h A (λ e. omega (arith, e)) in
      let bb : slice_index b.slots B ≡ x = here_is r table frame code y s (place + 9) wires stuck a.slots B x t.arrays u h (inside place t a B b_in) in
      let cs : Carries u.arrays (slice_index b.slots S) v = exit_carries (place + 9) u b exit is_wire in
      let ca : Carries u.arrays (slice_index b.slots A) last = subst (λ z. Carries u.arrays z last) (sym ab) (grow (slice_index a.slots A) last saw.last_is) in
      let z = chosen_word (slice_index b.slots S) (slice_index b.slots S) (slice_index b.slots A) in
      becomes r 9 _ (Saw (place + 9 + 9) (or_else v last) before2) u
      (λ w g.
      let d = g.at in
      let grow2 = carries_grow frame b.slots u.arrays w.arrays g.keeps b.here.frame_is.there (omega (arith, l, size)) in
      record {
        at = d;
        last_is = subst (λ q. Carries w.arrays q (or_else v last)) (sym (here_is r table frame code y s (place + 9 + 9) wires stuck b.slots A z u.arrays w g (inside (place + 9) u b A a_in)))
            (grow2 z (or_else v last) (chosen_carries u.arrays (slice_index b.slots S) (slice_index b.slots A) v last cs ca));
        before_is = subst (λ q. Carries w.arrays q before2) (sym (there_is r table frame code y s (place + 9 + 9) wires stuck b.slots A z u.arrays w g B (λ e. omega (arith, e)) ∙ bb))
            (grow2 x before2 (grow x before2 cx));
      })
      (choose_in r table frame code y s (place + 9) wires stuck u b size S S A A wires stuck (stands_back code place one two stand) (omega (arith, low)) (omega (arith, high)) s_in s_in a_in a_in (omega arith)
      (λ m k. temporary_holds (place + 9) u b 0 z m k)))

  -- the exits, one after the other
  pub exits_law : (exits : List (Option ℕ)) (place : ℕ) (last before : Option Value) (t : State) → Saw place last before t → StandsAt code place (read_exits y exits) →
      r.place ≤ place → place + 18 * length exits ≤ r.place + r.size → AreExits y exits →
      Stretch r (18 * length exits) (Saw (place + 18 * length exits) (values_seen (map (exit_value wires) exits) last before).0 (values_seen (map (exit_value wires) exits) last before).1) t
  exits_law [] place last before t saw stand low high are =
      let e : place ≡ place + 18 * 0 = omega arith in
      stays r (Saw (place + 18 * 0) last before) t (subst (λ p. Saw p last before t) e saw)
  exits_law (exit ∷ exits) place last before t saw stand low high are =
      let n : 18 + 18 * length exits ≡ 18 * suc (length exits) = omega arith in
      let p : place + 9 + 9 + 18 * length exits ≡ place + 18 * suc (length exits) = omega arith in
      let v = exit_value wires exit in
      let q : place + 18 ≡ place + 9 + 9 = omega arith in
      let last2 = or_else v last in
      let before2 = if is_some v then last else before in
      let end = values_seen (map (exit_value wires) exits) last2 before2 in
      subst (λ c. Stretch r c (Saw (place + 18 * suc (length exits)) end.0 end.1) t) n
      (subst (λ c. Stretch r (18 + 18 * length exits) (Saw c end.0 end.1) t) p
      (chain r 18 (18 * length exits) _ (Saw (place + 9 + 9 + 18 * length exits) end.0 end.1) t
      (exit_law exit place last before t saw (stands_front code place (read_exit y exit) (read_exits y exits) stand) low (omega (arith, high)) are.0)
      (λ u h. exits_law exits (place + 9 + 9) last2 before2 u h (subst (λ x. StandsAt code x (read_exits y exits)) q (stands_back code place (read_exit y exit) (read_exits y exits) stand)) (omega (arith, low)) (omega (arith, high)) are.1)))

  -- a slot of the outcome gets a word
  outcome_holds : (place : ℕ) (t : State) (a : There place t) (d x : ℕ) → d < zero_slot → (n : Arrays) → KeepsArrays frame t.arrays n → FrameHolds y n (slice_set a.slots d x) wires stuck
  outcome_holds place t a d x small n keeps =
      let l = a.holds.long in
      let long : 4 < length a.slots = omega (arith, l, size) in
      record {
        long = length-set a.slots d x ∙ l;
        zero = get_or-set_other a.slots d zero_slot x 0 (λ e. omega (arith, e, small)) ∙ a.holds.zero;
        carries = λ k lt. subst (λ z. Carries n z (wires k)) (sym (get_or-set_other a.slots d (wire_slot k) x 0 (λ e. omega (arith, e, small)))) (carries_grow frame a.slots t.arrays n keeps a.here.frame_is.there long _ (wires k) (a.holds.carries k lt));
        marked = λ b lt. subst (λ z. Marked n z (stuck b)) (sym (get_or-set_other a.slots d (stuck_slot y b) x 0 (λ e. omega (arith, e, small)))) (marked_grow frame a.slots t.arrays n keeps a.here.frame_is.there long _ (stuck b) (a.holds.marked b lt));
      }

  abbrev Marked_ : ℕ → Option Value → Option Value → Option TextTrail → State → Type 0
  Marked_ place last before mark t = Marks r table frame code y place wires stuck last before mark s t

  -- a slot that a step doesn't write still carries what it carried
  still : (place place2 : ℕ) (t : State) (a : There place t) (d x : ℕ) (u : State) (h : Wrote r table frame code y s place2 wires stuck a.slots d x t.arrays u) (q : ℕ) (v : Option Value) → (q ≡ d → ⊥) →
      Carries t.arrays (slice_index a.slots q) v → Carries u.arrays (slice_index h.at.slots q) v
  still place place2 t a d x u h q v ne c =
      let l = a.holds.long in
      subst (λ z. Carries u.arrays z v) (sym (there_is r table frame code y s place2 wires stuck a.slots d x t.arrays u h q ne)) (carries_grow frame a.slots t.arrays u.arrays h.keeps a.here.frame_is.there (omega (arith, l, size)) _ v c)

  still_marked : (place place2 : ℕ) (t : State) (a : There place t) (d x : ℕ) (u : State) (h : Wrote r table frame code y s place2 wires stuck a.slots d x t.arrays u) (q : ℕ) (m : Option TextTrail) → (q ≡ d → ⊥) →
      Marked t.arrays (slice_index a.slots q) m → Marked u.arrays (slice_index h.at.slots q) m
  still_marked place place2 t a d x u h q m ne c =
      let l = a.holds.long in
      subst (λ z. Marked u.arrays z m) (sym (there_is r table frame code y s place2 wires stuck a.slots d x t.arrays u h q ne)) (marked_grow frame a.slots t.arrays u.arrays h.keeps a.here.frame_is.there (omega (arith, l, size)) _ m c)

  -- and the last temporary has the trail of a text
  record Trailed (place : ℕ) (last before : Option Value) (text : ℕ) (P : (u : State) → There place u → Type 0) (u : State) : Type 0 where
    saw : Saw place last before u
    cell : CellArray u.arrays (slice_index saw.at.slots (temporary y 3)) text 0 0 0
    also : P u saw.at

  trail_law : (text place : ℕ) (last before : Option Value) (q : ℕ) (m : Option TextTrail) (t : State) (saw : Saw place last before t) → StandsAt code place (trail_code y text) → r.place ≤ place → place + 15 ≤ r.place + r.size →
      q < temporary y 0 → Marked t.arrays (slice_index saw.at.slots q) m →
      Stretch r 15 (Trailed (place + 15) last before text (λ u b. Marked u.arrays (slice_index b.slots q) m)) t
  trail_law text place last before q m t saw stand low high q_low marked =
      let a = saw.at in
      let D = temporary y 3 in
      let d_in : D < y.size = omega (arith, size) in
      let one = set_slot text D in
      let two = make_cell D zero_slot 0 1 D in
      let e : place + 3 + 12 ≡ place + 15 = omega arith in
      subst (λ p. Stretch r 15 (Trailed p last before text (λ u b. Marked u.arrays (slice_index b.slots q) m)) t) e
      (chain r 3 12 _ _ t (set_temporary r table frame code y s place wires stuck t a size 3 text (omega arith) (stands_front code place one two stand) low (omega (arith, high))) (λ u h.
      let b = h.at in
      becomes r 12 _ (Trailed (place + 3 + 12) last before text (λ u b. Marked u.arrays (slice_index b.slots q) m)) u
      (λ w g.
      let k = g.2 in
      let d4 : slice_index b.slots D ≡ text = here_is r table frame code y s (place + 3) wires stuck a.slots D text t.arrays u h (inside place t a D d_in) in
      record {
        saw = record {
          at = k.at;
          last_is = still (place + 3) (place + 3 + 12) u b D g.0 w k (temporary y 0) last (λ e. omega (arith, e)) (still place (place + 3) t a D text u h (temporary y 0) last (λ e. omega (arith, e)) saw.last_is);
          before_is = still (place + 3) (place + 3 + 12) u b D g.0 w k (temporary y 1) before (λ e. omega (arith, e)) (still place (place + 3) t a D text u h (temporary y 1) before (λ e. omega (arith, e)) saw.before_is);
        };
        cell = subst (λ z. CellArray w.arrays z text 0 0 0) (sym (here_is r table frame code y s (place + 3 + 12) wires stuck b.slots D g.0 u.arrays w k (inside (place + 3) u b D d_in))) (g.1.0, g.1.1 ∙ ap (λ z. Some (z ∷ 0 ∷ 0 ∷ 0 ∷ [])) d4);
        also = still_marked (place + 3) (place + 3 + 12) u b D g.0 w k q m (λ e. omega (arith, e, q_low)) (still_marked place (place + 3) t a D text u h q m (λ e. omega (arith, e, q_low)) marked);
      })
      (make_trail r table frame code y s (place + 3) wires stuck u b size (stands_back code place one two stand) (omega (arith, low)) (omega (arith, high)))))

  -- no exit carries a value
  no_result_law : (text place : ℕ) (last before : Option Value) (t : State) (saw : Saw place last before t) → StandsAt code place (no_result_code y text) → r.place ≤ place → place + 24 ≤ r.place + r.size →
      Stretch r 24 (Marked_ (place + 15 + 9) last before (stuck_at text last)) t
  no_result_law text place last before t saw stand low high =
      let D = temporary y 3 in
      let A = temporary y 0 in
      let d_in : D < y.size = omega (arith, size) in
      let a_in : A < y.size = omega (arith, size) in
      let z_in : zero_slot < y.size = omega (arith, size) in
      let o_in : stuck_out < y.size = omega (arith, size) in
      let three = choose_slot A zero_slot D stuck_out in
      chain r 15 9 _ _ t (trail_law text place last before zero_slot None t saw (stands_front code place (trail_code y text) three stand) low (omega (arith, high)) (omega arith) saw.at.holds.zero) (λ u h.
      let b = h.saw.at in
      let x = chosen_word (slice_index b.slots A) (slice_index b.slots zero_slot) (slice_index b.slots D) in
      let mark : Marked u.arrays x (stuck_at text last) =
      subst (λ z. Marked u.arrays (chosen_word (slice_index b.slots A) z (slice_index b.slots D)) (stuck_at text last)) (sym b.holds.zero) (chosen_mark u.arrays (slice_index b.slots A) (slice_index b.slots D) text last h.saw.last_is h.cell) in
      becomes r 9 _ (Marked_ (place + 15 + 9) last before (stuck_at text last)) u
      (λ w g.
      let l = b.holds.long in
      record {
        saw = record {
          at = g.at;
          last_is = still (place + 15) (place + 15 + 9) u b stuck_out x w g A last (λ e. omega (arith, e)) h.saw.last_is;
          before_is = still (place + 15) (place + 15 + 9) u b stuck_out x w g (temporary y 1) before (λ e. omega (arith, e)) h.saw.before_is;
        };
        mark_is = subst (λ z. Marked w.arrays z (stuck_at text last)) (sym (here_is r table frame code y s (place + 15 + 9) wires stuck b.slots stuck_out x u.arrays w g (inside (place + 15) u b stuck_out o_in)))
            (marked_grow frame b.slots u.arrays w.arrays g.keeps b.here.frame_is.there (omega (arith, l, size)) x (stuck_at text last) mark);
      })
      (choose_in r table frame code y s (place + 15) wires stuck u b size A zero_slot D stuck_out wires stuck (stands_back code place (trail_code y text) three stand) (omega (arith, low)) (omega (arith, high)) a_in z_in d_in o_in (omega arith)
      (λ n k. outcome_holds (place + 15) u b stuck_out x (omega arith) n k)))

  -- two exits carry a value, and else the mark stays
  marked_by : (m : Arrays) (c k z text : ℕ) (v : Option Value) (mark : Option TextTrail) → Carries m c v → CellArray m k text 0 0 0 → Marked m z mark → Marked m (chosen_word c k z) (if is_some v then Some (At text) else mark)
  marked_by m c k z text None mark hc cell hz = subst (λ x. Marked m (chosen_word x k z) mark) (sym hc) hz
  marked_by m c k z text (Some v) mark hc cell hz = subst (λ x. Trails m x (At text)) (sym (chosen_some c k z (stands_not_zero m v c hc))) cell

  two_results_law : (text place : ℕ) (last before : Option Value) (mark : Option TextTrail) (t : State) → Marked_ place last before mark t → StandsAt code place (two_results_code y text) → r.place ≤ place → place + 24 ≤ r.place + r.size →
      Stretch r 24 (Marked_ (place + 15 + 9) last before (if is_some before then Some (At text) else mark)) t
  two_results_law text place last before mark t m stand low high =
      let D = temporary y 3 in
      let B = temporary y 1 in
      let d_in : D < y.size = omega (arith, size) in
      let b_in : B < y.size = omega (arith, size) in
      let o_in : stuck_out < y.size = omega (arith, size) in
      let three = choose_slot B D stuck_out stuck_out in
      let mark2 = if is_some before then Some (At text) else mark in
      chain r 15 9 _ _ t (trail_law text place last before stuck_out mark t m.saw (stands_front code place (trail_code y text) three stand) low (omega (arith, high)) (omega arith) m.mark_is) (λ u h.
      let b = h.saw.at in
      let x = chosen_word (slice_index b.slots B) (slice_index b.slots D) (slice_index b.slots stuck_out) in
      let is : Marked u.arrays x mark2 = marked_by u.arrays (slice_index b.slots B) (slice_index b.slots D) (slice_index b.slots stuck_out) text before mark h.saw.before_is h.cell h.also in
      becomes r 9 _ (Marked_ (place + 15 + 9) last before mark2) u
      (λ w g.
      let l = b.holds.long in
      record {
        saw = record {
          at = g.at;
          last_is = still (place + 15) (place + 15 + 9) u b stuck_out x w g (temporary y 0) last (λ e. omega (arith, e)) h.saw.last_is;
          before_is = still (place + 15) (place + 15 + 9) u b stuck_out x w g B before (λ e. omega (arith, e)) h.saw.before_is;
        };
        mark_is = subst (λ z. Marked w.arrays z mark2) (sym (here_is r table frame code y s (place + 15 + 9) wires stuck b.slots stuck_out x u.arrays w g (inside (place + 15) u b stuck_out o_in)))
            (marked_grow frame b.slots u.arrays w.arrays g.keeps b.here.frame_is.there (omega (arith, l, size)) x mark2 is);
      })
      (choose_in r table frame code y s (place + 15) wires stuck u b size B D stuck_out stuck_out wires stuck (stands_back code place (trail_code y text) three stand) (omega (arith, low)) (omega (arith, high)) b_in d_in o_in o_in (omega arith)
      (λ n k. outcome_holds (place + 15) u b stuck_out x (omega arith) n k)))

  chosen_trail : (m : Arrays) (c z : ℕ) (one two : Option TextTrail) → Marked m c one → Marked m z two → Marked m (chosen_word c c z) (or_trail one two)
  chosen_trail m c z None two hc hz = subst (λ x. Marked m (chosen_word x x z) two) (sym hc) hz
  chosen_trail m c z (Some trail) two hc hz = subst (λ x. Trails m x trail) (sym (chosen_some c c z (trail_not_zero m trail c hc))) hc

  -- one box's mark goes before what is there
  mark_law : (box place : ℕ) (last before : Option Value) (mark : Option TextTrail) (t : State) → Marked_ place last before mark t → StandsAt code place (choose_slot (stuck_slot y box) (stuck_slot y box) stuck_out stuck_out) →
      r.place ≤ place → place + 9 ≤ r.place + r.size → box < y.boxes → Stretch r 9 (Marked_ (place + 9) last before (or_trail (stuck box) mark)) t
  mark_law box place last before mark t m stand low high is_box =
      let a = m.saw.at in
      let S = stuck_slot y box in
      let s_in : S < y.size = omega (arith, size, is_box) in
      let o_in : stuck_out < y.size = omega (arith, size) in
      let x = chosen_word (slice_index a.slots S) (slice_index a.slots S) (slice_index a.slots stuck_out) in
      let is : Marked t.arrays x (or_trail (stuck box) mark) = chosen_trail t.arrays (slice_index a.slots S) (slice_index a.slots stuck_out) (stuck box) mark (a.holds.marked box is_box) m.mark_is in
      becomes r 9 _ (Marked_ (place + 9) last before (or_trail (stuck box) mark)) t
      (λ w g.
      let l = a.holds.long in
      record {
        saw = record {
          at = g.at;
          last_is = still place (place + 9) t a stuck_out x w g (temporary y 0) last (λ e. omega (arith, e)) m.saw.last_is;
          before_is = still place (place + 9) t a stuck_out x w g (temporary y 1) before (λ e. omega (arith, e)) m.saw.before_is;
        };
        mark_is = subst (λ z. Marked w.arrays z (or_trail (stuck box) mark)) (sym (here_is r table frame code y s (place + 9) wires stuck a.slots stuck_out x t.arrays w g (inside place t a stuck_out o_in)))
            (marked_grow frame a.slots t.arrays w.arrays g.keeps a.here.frame_is.there (omega (arith, l, size)) x (or_trail (stuck box) mark) is);
      })
      (choose_in r table frame code y s place wires stuck t a size S S stuck_out stuck_out wires stuck stand low high s_in s_in o_in o_in (omega arith)
      (λ n k. outcome_holds place t a stuck_out x (omega arith) n k))

  -- the first stuck box by number
  marks_law : (boxes place : ℕ) (last before : Option Value) (mark : Option TextTrail) (t : State) → Marked_ place last before mark t → StandsAt code place (marks_code y boxes) →
      r.place ≤ place → place + 9 * boxes ≤ r.place + r.size → boxes ≤ y.boxes → Stretch r (9 * boxes) (Marked_ (place + 9 * boxes) last before (first_mark boxes stuck mark)) t
  marks_law zero place last before mark t m stand low high le =
      let e : place ≡ place + 9 * 0 = omega arith in
      stays r (Marked_ (place + 9 * 0) last before mark) t (subst (λ p. Marked_ p last before mark t) e m)
  marks_law (suc box) place last before mark t m stand low high le =
      let n : 9 + 9 * box ≡ 9 * suc box = omega arith in
      let p : place + 9 + 9 * box ≡ place + 9 * suc box = omega arith in
      let mark2 = or_trail (stuck box) mark in
      let one = choose_slot (stuck_slot y box) (stuck_slot y box) stuck_out stuck_out in
      subst (λ c. Stretch r c (Marked_ (place + 9 * suc box) last before (first_mark box stuck mark2)) t) n
      (subst (λ c. Stretch r (9 + 9 * box) (Marked_ c last before (first_mark box stuck mark2)) t) p
      (chain r 9 (9 * box) _ (Marked_ (place + 9 + 9 * box) last before (first_mark box stuck mark2)) t
      (mark_law box place last before mark t m (stands_front code place one (marks_code y box) stand) low (omega (arith, high)) (omega (arith, le)))
      (λ u h. marks_law box (place + 9) last before mark2 u h (stands_back code place one (marks_code y box) stand) (omega (arith, low)) (omega (arith, high)) (omega (arith, le)))))

  value_by : (m : Arrays) (c z : ℕ) (mark : Option TextTrail) (v : Option Value) → Marked m c mark → Carries m z v → Carries m (chosen_word c 0 z) (value_unless mark v)
  value_by m c z None v hc hz = subst (λ x. Carries m (chosen_word x 0 z) v) (sym hc) hz
  value_by m c z (Some trail) v hc hz = chosen_some c 0 z (trail_not_zero m trail c hc)

  -- the value seen last goes to its slot, unless the outcome is stuck
  value_law : (place : ℕ) (last before : Option Value) (mark : Option TextTrail) (t : State) → Marked_ place last before mark t → StandsAt code place (end_value_code y) → r.place ≤ place → place + 9 ≤ r.place + r.size →
      Stretch r 9 (λ u. Ended r table frame code y (place + 9) wires stuck (value_unless mark last) mark s u) t
  value_law place last before mark t m stand low high =
      let a = m.saw.at in
      let A = temporary y 0 in
      let a_in : A < y.size = omega (arith, size) in
      let z_in : zero_slot < y.size = omega (arith, size) in
      let v_in : value_out < y.size = omega (arith, size) in
      let o_in : stuck_out < y.size = omega (arith, size) in
      let x = chosen_word (slice_index a.slots stuck_out) (slice_index a.slots zero_slot) (slice_index a.slots A) in
      let v = value_unless mark last in
      let is : Carries t.arrays x v = subst (λ z. Carries t.arrays (chosen_word (slice_index a.slots stuck_out) z (slice_index a.slots A)) v) (sym a.holds.zero) (value_by t.arrays (slice_index a.slots stuck_out) (slice_index a.slots A) mark last m.mark_is m.saw.last_is) in
      becomes r 9 _ (λ u. Ended r table frame code y (place + 9) wires stuck v mark s u) t
      (λ w g.
      let l = a.holds.long in
      record {
        at = g.at;
        value_is = subst (λ z. Carries w.arrays z v) (sym (here_is r table frame code y s (place + 9) wires stuck a.slots value_out x t.arrays w g (inside place t a value_out v_in)))
            (carries_grow frame a.slots t.arrays w.arrays g.keeps a.here.frame_is.there (omega (arith, l, size)) x v is);
        mark_is = still_marked place (place + 9) t a value_out x w g stuck_out mark (λ e. omega (arith, e)) m.mark_is;
      })
      (choose_in r table frame code y s place wires stuck t a size stuck_out zero_slot A value_out wires stuck stand low high o_in z_in a_in v_in (omega arith)
      (λ n k. outcome_holds place t a value_out x (omega arith) n k))

  exits_length : (exits : List (Option ℕ)) → length (read_exits y exits) ≡ 18 * length exits
  exits_length [] = refl
  exits_length (exit ∷ exits) = let n = exits_length exits in omega (arith, n)

  marks_length : (boxes : ℕ) → length (marks_code y boxes) ≡ 9 * boxes
  marks_length zero = refl
  marks_length (suc box) = let n = marks_length box in omega (arith, n)

  -- The end of a block: the outcome by the exits and by the first stuck box goes to its slots.
  pub end_law : (exits : List (Option ℕ)) (none two boxes place : ℕ) (t : State) → There place t → StandsAt code place (end_code y exits none two boxes) →
      r.place ≤ place → place + 63 + 18 * length exits + 9 * boxes ≤ r.place + r.size → AreExits y exits → boxes ≤ y.boxes →
      Stretch r (63 + 18 * length exits + 9 * boxes)
      (λ u. Ended r table frame code y (place + 63 + 18 * length exits + 9 * boxes) wires stuck (outcome_value wires stuck exits none two boxes) (outcome_mark wires stuck exits none two boxes) s u) t
  end_law exits none two boxes place t a stand low high are le =
      let A = temporary y 0 in
      let B = temporary y 1 in
      let a_in : A < y.size = omega (arith, size) in
      let b_in : B < y.size = omega (arith, size) in
      let e = length exits in
      let c1 = set_slot 0 A in
      let c2 = set_slot 0 B in
      let c3 = read_exits y exits in
      let c4 = no_result_code y none in
      let c5 = two_results_code y two in
      let c6 = marks_code y boxes in
      let c7 = end_value_code y in
      let n3 = exits_length exits in
      let n6 = marks_length boxes in
      let r1 = stands_back code place c1 (c2 ++ (c3 ++ (c4 ++ (c5 ++ (c6 ++ c7))))) stand in
      let r2 = stands_back code (place + 3) c2 (c3 ++ (c4 ++ (c5 ++ (c6 ++ c7)))) r1 in
      let p3 = place + 3 + 3 + 18 * e in
      let r3 : StandsAt code p3 (c4 ++ (c5 ++ (c6 ++ c7))) = subst (λ n. StandsAt code (place + 3 + 3 + n) (c4 ++ (c5 ++ (c6 ++ c7)))) n3 (stands_back code (place + 3 + 3) c3 (c4 ++ (c5 ++ (c6 ++ c7))) r2) in
      let q4 : p3 + 24 ≡ p3 + 15 + 9 = omega arith in
      let p4 = p3 + 15 + 9 in
      let r4 : StandsAt code p4 (c5 ++ (c6 ++ c7)) = subst (λ n. StandsAt code n (c5 ++ (c6 ++ c7))) q4 (stands_back code p3 c4 (c5 ++ (c6 ++ c7)) r3) in
      let q5 : p4 + 24 ≡ p4 + 15 + 9 = omega arith in
      let p5 = p4 + 15 + 9 in
      let r5 : StandsAt code p5 (c6 ++ c7) = subst (λ n. StandsAt code n (c6 ++ c7)) q5 (stands_back code p4 c5 (c6 ++ c7) r4) in
      let r6 : StandsAt code (p5 + 9 * boxes) c7 = subst (λ n. StandsAt code (p5 + n) c7) n6 (stands_back code p5 c6 c7 r5) in
      let last = (values_seen (map (exit_value wires) exits) None None).0 in
      let before = (values_seen (map (exit_value wires) exits) None None).1 in
      let mark = if is_some before then Some (At two) else stuck_at none last in
      let count : 3 + (3 + (18 * e + (24 + (24 + (9 * boxes + 9))))) ≡ 63 + 18 * e + 9 * boxes = omega arith in
      let end : p5 + 9 * boxes + 9 ≡ place + 63 + 18 * e + 9 * boxes = omega arith in
      let final = first_mark boxes stuck mark in
      subst (λ n. Stretch r n (λ u. Ended r table frame code y (place + 63 + 18 * e + 9 * boxes) wires stuck (value_unless final last) final s u) t) count
      (subst (λ p. Stretch r (3 + (3 + (18 * e + (24 + (24 + (9 * boxes + 9)))))) (λ u. Ended r table frame code y p wires stuck (value_unless final last) final s u) t) end
      (chain r 3 (3 + (18 * e + (24 + (24 + (9 * boxes + 9))))) _ _ t
      (set_temporary r table frame code y s place wires stuck t a size 0 0 (omega arith) (stands_front code place c1 (c2 ++ (c3 ++ (c4 ++ (c5 ++ (c6 ++ c7))))) stand) low (omega (arith, high))) (λ u1 h1.
      chain r 3 (18 * e + (24 + (24 + (9 * boxes + 9)))) _ _ u1
      (set_temporary r table frame code y s (place + 3) wires stuck u1 h1.at size 1 0 (omega arith) (stands_front code (place + 3) c2 (c3 ++ (c4 ++ (c5 ++ (c6 ++ c7)))) r1) (omega (arith, low)) (omega (arith, high))) (λ u2 h2.
      let zero_a : slice_index h1.at.slots A ≡ 0 = here_is r table frame code y s (place + 3) wires stuck a.slots A 0 t.arrays u1 h1 (inside place t a A a_in) in
      let saw : Saw (place + 3 + 3) None None u2 = record {
        at = h2.at;
        last_is = there_is r table frame code y s (place + 3 + 3) wires stuck h1.at.slots B 0 u1.arrays u2 h2 A (λ e. omega (arith, e)) ∙ zero_a;
        before_is = here_is r table frame code y s (place + 3 + 3) wires stuck h1.at.slots B 0 u1.arrays u2 h2 (inside (place + 3) u1 h1.at B b_in);
      } in
      chain r (18 * e) (24 + (24 + (9 * boxes + 9))) _ _ u2
      (exits_law exits (place + 3 + 3) None None u2 saw (stands_front code (place + 3 + 3) c3 (c4 ++ (c5 ++ (c6 ++ c7))) r2) (omega (arith, low)) (omega (arith, high)) are) (λ u3 h3.
      chain r 24 (24 + (9 * boxes + 9)) _ _ u3 (no_result_law none p3 last before u3 h3 (stands_front code p3 c4 (c5 ++ (c6 ++ c7)) r3) (omega (arith, low)) (omega (arith, high))) (λ u4 h4.
      chain r 24 (9 * boxes + 9) _ _ u4 (two_results_law two p4 last before (stuck_at none last) u4 h4 (stands_front code p4 c5 (c6 ++ c7) r4) (omega (arith, low)) (omega (arith, high))) (λ u5 h5.
      chain r (9 * boxes) 9 _ _ u5 (marks_law boxes p5 last before mark u5 h5 (stands_front code p5 c6 c7 r5) (omega (arith, low)) (omega (arith, high)) le) (λ u6 h6.
      value_law (p5 + 9 * boxes) last before final u6 h6 r6 (omega (arith, low)) (omega (arith, high))))))))))
