-- Guards, and an expression that is sent to a side.
use Rattle.std.proofs.Common.{◌≡◌, ◌≢◌, ℕ, zero, suc, ◌+◌, ◌*◌, ◌<◌, ◌≤◌, Bool, true, false, List, [], ◌∷◌, ◌++◌, length, Option, Some, None, refl, sym, ap, ◌∙◌, subst, arith, length-set, length-append, get_or-set_same, get_or-set_other}
use Rattle.std.specs.Prelude.{◌==◌, if◌then◌else◌, ◌&&◌, is_some, slice_set, slice_index}
use Rattle.std.specs.FinMap as map
use Rattle.std.proofs.lemmas.Bool.{eqb-true, eqb-false, true≢false, ne_eqb}
use Rattle.um_word.specs.declared.op.Op.{Op}
use Rattle.um_word.specs.State.{State, Arrays}
use Rattle.um_word.proofs.Arrays.{get-insert_same, get-insert_other}
use Rattle.codex_values.specs.Value.{Value}
use Rattle.two_d.specs.Trees.{Tree}
use Rattle.code_templates.specs.Lines.{StandsAt, StandStill}
use Rattle.code_templates.specs.Templates.{branch_on_slot}
use Rattle.code_templates.specs.inner.Spent.{held}
use Rattle.code_templates.proofs.Holding.{held_set}
use Rattle.code_templates.specs.Laws.{HasWords, chosen_word, BranchOnSlotLaw, ChooseSlotLaw}
use Rattle.code_templates.proofs.Straight.{stands_front, stands_back}
use Rattle.code_templates.proofs.BlockLaws.{branch_on_slot_law, choose_slot_law}
use Rattle.lower_emit.specs.inner.Stretches.{Range, Stretch, KeepsArrays}
use Rattle.lower_emit.specs.Stands.{Stands, TextTrail, At, Via, Trails, Carries, Marked}
use Rattle.two_d.specs.Good.{NamesN, NamesW}
use Rattle.lower_emit.specs.inner.Building.{slot_value}
use Rattle.lower_emit.specs.Layouts.{zero_slot, Layout, wire_slot, stuck_slot, temporary, first_node, side_slot, input_slot}
use Rattle.lower_emit.specs.Expressions.{past, expression_slot, code_of}
use Rattle.lower_emit.specs.Entered.{EntryCarries}
use Rattle.lower_emit.specs.inner.Frames.{FrameHolds, AtPlace, carrying, IsWireSlot, carry_all, guard_cycles, sending, wires_sent, AreWires, Carried, AreSlotsApart, CanSend}
use Rattle.lower_emit.specs.Boxes.{move_slot, out_code, guards_code, Sent, sent_code, send_code}
use Rattle.lower_emit.proofs.Stretching.{stays, chain, becomes, template_stretch, comes, still_on, quiet_stretch}
use Rattle.lower_emit.proofs.Growth.{cell_stays, grows, stands_not_zero}
use Rattle.lower_emit.proofs.Builds.{all, slot_low, past_ge}

-- what grows with the arrays
module _ (frame : ℕ) (slots : List ℕ) (m n : Arrays) (keeps : KeepsArrays frame m n) (there : map.get m frame ≡ Some slots) (long : 4 < length slots) where
  pub carries_grow : (k : ℕ) (v : Option Value) → Carries m k v → Carries n k v
  carries_grow k None h = h
  carries_grow k (Some v) h = grows frame slots m n keeps there long v k h

  trails_grow : (trail : TextTrail) (k : ℕ) → Trails m k trail → Trails n k trail
  trails_grow (At text) k h = cell_stays frame slots m n keeps there long k text 0 0 0 h
  trails_grow (Via text inner) k h = (h.0, cell_stays frame slots m n keeps there long k text _ 0 0 h.1, trails_grow inner h.0 h.2)

  pub marked_grow : (k : ℕ) (trail : Option TextTrail) → Marked m k trail → Marked n k trail
  marked_grow k None h = h
  marked_grow k (Some trail) h = trails_grow trail k h

-- the frame holds the same where its wires, its stuck marks and its 0 are the same
pub same_holds : (y : Layout) (frame : ℕ) (m n : Arrays) (slots now : List ℕ) (wires : ℕ → Option Value) (stuck : ℕ → Option TextTrail) →
    KeepsArrays frame m n → map.get m frame ≡ Some slots → 4 < length slots → length now ≡ length slots →
    ((k : ℕ) → k < temporary y 0 → slice_index now k ≡ slice_index slots k) → FrameHolds y m slots wires stuck → FrameHolds y n now wires stuck
same_holds y frame m n slots now wires stuck keeps there long same low h = record {
  long = same ∙ h.long;
  zero = low zero_slot (omega arith) ∙ h.zero;
  carries = λ k lt. subst (λ x. Carries n x (wires k)) (sym (low (wire_slot k) (omega (arith, lt)))) (carries_grow frame slots m n keeps there long _ (wires k) (h.carries k lt));
  marked = λ b lt. subst (λ x. Marked n x (stuck b)) (sym (low (stuck_slot y b) (omega (arith, lt)))) (marked_grow frame slots m n keeps there long _ (stuck b) (h.marked b lt));
}

-- a side's slot gets a value
pub side_holds : (y : Layout) (frame : ℕ) (m n : Arrays) (slots : List ℕ) (wires : ℕ → Option Value) (stuck : ℕ → Option TextTrail) (side : Option ℕ) (j x : ℕ) (v : Option Value) →
    KeepsArrays frame m n → map.get m frame ≡ Some slots → 4 < length slots → IsWireSlot y side → side_slot y side j < length slots → Carries m x v →
    FrameHolds y m slots wires stuck → FrameHolds y n (slice_set slots (side_slot y side j) x) (carrying side v wires) stuck
side_holds y frame m n slots wires stuck None j x v keeps there long is_wire inside c h =
    same_holds y frame m n slots (slice_set slots (temporary y j) x) wires stuck keeps there long (length-set slots (temporary y j) x)
    (λ k lt. get_or-set_other slots (temporary y j) k x 0 (λ e. omega (arith, e, lt))) h
side_holds y frame m n slots wires stuck (Some q) j x v keeps there long is_wire inside c h = record {
  long = length-set slots (wire_slot q) x ∙ h.long;
  zero = get_or-set_other slots (wire_slot q) zero_slot x 0 (λ e. omega (arith, e)) ∙ h.zero;
  carries = λ k lt. at_wire k lt (k == q) refl;
  marked = λ b lt. subst (λ z. Marked n z (stuck b)) (sym (get_or-set_other slots (wire_slot q) (stuck_slot y b) x 0 (λ e. omega (arith, e, lt, is_wire)))) (marked_grow frame slots m n keeps there long _ (stuck b) (h.marked b lt));
}
  where
    at_wire : (k : ℕ) → k < y.wires → (b : Bool) → (k == q) ≡ b → Carries n (slice_index (slice_set slots (wire_slot q) x) (wire_slot k)) (if b then v else wires k)
    at_wire k lt true e =
        let same : wire_slot q ≡ wire_slot k = ap wire_slot (sym (eqb-true k q e)) in
        subst (λ z. Carries n z v) (sym (ap (slice_index (slice_set slots (wire_slot q) x)) (sym same) ∙ get_or-set_same slots (wire_slot q) x 0 inside)) (carries_grow frame slots m n keeps there long x v c)
    at_wire k lt false e =
        let ne : k ≢ q = eqb-false k q e in
        subst (λ z. Carries n z (wires k)) (sym (get_or-set_other slots (wire_slot q) (wire_slot k) x 0 (λ same. ne (omega (arith, same))))) (carries_grow frame slots m n keeps there long _ (wires k) (h.carries k lt))

-- a word carries an entry's value where it carries the value
pub for_entry : (m : Arrays) (k : ℕ) (side : Option ℕ) (v : Option Value) → Carries m k v → EntryCarries m k side v
for_entry m k None v h = tt
for_entry m k (Some q) v h = h

-- an entry's value goes to its wire's slot
pub entry_holds : (y : Layout) (frame : ℕ) (m n : Arrays) (slots : List ℕ) (wires : ℕ → Option Value) (stuck : ℕ → Option TextTrail) (side : Option ℕ) (j x : ℕ) (v : Option Value) →
    KeepsArrays frame m n → map.get m frame ≡ Some slots → 4 < length slots → IsWireSlot y side → side_slot y side j < length slots → EntryCarries m x side v →
    FrameHolds y m slots wires stuck → FrameHolds y n (slice_set slots (side_slot y side j) x) (carrying side v wires) stuck
entry_holds y frame m n slots wires stuck None j x v keeps there long is_wire inside c h =
    same_holds y frame m n slots (slice_set slots (temporary y j) x) wires stuck keeps there long (length-set slots (temporary y j) x)
    (λ k lt. get_or-set_other slots (temporary y j) k x 0 (λ e. omega (arith, e, lt))) h
entry_holds y frame m n slots wires stuck (Some q) j x v keeps there long is_wire inside c h = side_holds y frame m n slots wires stuck (Some q) j x v keeps there long is_wire inside c h

-- no side's slot is one of the first five
pub side_high : (y : Layout) (side : Option ℕ) (j : ℕ) → 5 ≤ side_slot y side j
side_high y None j = omega arith
side_high y (Some k) j = omega arith

pub chosen_same : (c x : ℕ) → chosen_word c x x ≡ x
chosen_same zero x = refl
chosen_same (suc c) x = refl

pub chosen_some : (c a b : ℕ) → c ≢ 0 → chosen_word c a b ≡ a
chosen_some zero a b ne = absurd (ne refl)
chosen_some (suc c) a b ne = refl

module _ (r : Range) (table frame : ℕ) (code : List ℕ) (y : Layout) (stuck : ℕ → Option TextTrail) (s : State) where
  abbrev There : ℕ → (ℕ → Option Value) → State → Type 0
  There place wires t = AtPlace r table frame code y place wires stuck s t

  -- a guard goes on where its wire carries a value, and else to the end of the box
  guard_goes : (k place to : ℕ) (wires : ℕ → Option Value) (t : State) (a : There place wires t) → StandsAt code place (branch_on_slot (wire_slot k) to (place + 6)) →
      r.place ≤ place → place + 6 ≤ r.place + r.size → k < y.wires → wire_slot k < y.size → (goes : ℕ) → place ≤ goes → chosen_word (slice_index a.slots (wire_slot k)) (place + 6) to ≡ goes → Stretch r 6 (There goes wires) t
  unfolding BranchOnSlotLaw
  guard_goes k place to wires t a stand low high lt inside goes on ways =
      becomes r 6 _ (There goes wires) t
      (λ u h. record {
        slots = a.slots;
        here = record {
          running = h.0.running;
          finger = h.0.finger ∙ ways;
          eight = h.0.eight;
          zero_is = h.0.zero_is;
          table_is = h.0.table_is;
          current_is = h.0.current_is;
          code_is = ap (λ m. map.get m 0) h.0.arrays_are ∙ a.here.code_is;
          came_with = a.here.came_with;
          came_table = a.here.came_table;
          framed = a.here.framed;
          still = subst (λ m. StandStill (frame ∷ []) r.came.arrays m) (sym h.0.arrays_are) a.here.still;
          frame_is = subst (λ m. HasWords m frame a.slots) (sym h.0.arrays_are) a.here.frame_is;
          out_is = h.0.out_is ∙ a.here.out_is;
          rest_is = h.0.rest_is ∙ a.here.rest_is;
        };
        holds = subst (λ m. FrameHolds y m a.slots wires stuck) (sym h.0.arrays_are) a.holds;
        keeps = λ q ws z f e. ap (λ m. map.get m q) h.0.arrays_are ∙ a.keeps q ws z f e;
        cheap =
            let same = ap held h.0.arrays_are in
            let from = a.here.finger in
            let now = h.0.finger ∙ ways in
            let x = a.cheap in
            omega (arith, same, from, now, x, on);
        home = a.home;
      })
      (quiet_stretch r table frame code 6 6 _ place a.slots t a.here low high
      (branch_on_slot_law (wire_slot k) to (place + 6) table frame a.slots t (comes r table frame code place a.slots t _ a.here stand) a.here.frame_is.there (let n = a.holds.long in omega (arith, n, inside))))

  guard_passes : (k place to : ℕ) (wires : ℕ → Option Value) (v : Value) (t : State) → There place wires t → StandsAt code place (branch_on_slot (wire_slot k) to (place + 6)) →
      r.place ≤ place → place + 6 ≤ r.place + r.size → k < y.wires → wire_slot k < y.size → wires k ≡ Some v → Stretch r 6 (There (place + 6) wires) t
  guard_passes k place to wires v t a stand low high lt inside e =
      guard_goes k place to wires t a stand low high lt inside (place + 6) (omega arith)
      (chosen_some _ (place + 6) to (stands_not_zero t.arrays v _ (subst (λ o. Carries t.arrays (slice_index a.slots (wire_slot k)) o) e (a.holds.carries k lt))))

  guard_stops : (k place to : ℕ) (wires : ℕ → Option Value) (t : State) → There place wires t → StandsAt code place (branch_on_slot (wire_slot k) to (place + 6)) →
      r.place ≤ place → place + 6 ≤ r.place + r.size → k < y.wires → wire_slot k < y.size → place ≤ to → wires k ≡ None → Stretch r 6 (There to wires) t
  guard_stops k place to wires t a stand low high lt inside on e =
      guard_goes k place to wires t a stand low high lt inside to on
      (ap (λ z. chosen_word z (place + 6) to) (subst (λ o. Carries t.arrays (slice_index a.slots (wire_slot k)) o) e (a.holds.carries k lt)))

  -- a value moves to the slot of a side
  move_out : (x place : ℕ) (side : Option ℕ) (j : ℕ) (wires : ℕ → Option Value) (v : Value) (t : State) (a : There place wires t) →
      StandsAt code place (move_slot x (side_slot y side j)) → r.place ≤ place → place + 9 ≤ r.place + r.size → x < y.size → side_slot y side j < y.size → 4 < y.size → IsWireSlot y side →
      Stands t.arrays (slice_index a.slots x) v → Stretch r 9 (There (place + 9) (carrying side (Some v) wires)) t
  unfolding ChooseSlotLaw
  move_out x place side j wires v t a stand low high hx hd long is_wire sv =
      let n = a.holds.long in
      let d = side_slot y side j in
      let f = a.here.frame_is in
      let value : chosen_word (slice_index a.slots x) (slice_index a.slots x) (slice_index a.slots x) ≡ slice_index a.slots x = chosen_same (slice_index a.slots x) (slice_index a.slots x) in
      let inside : d < length a.slots = omega (arith, n, hd) in
      let x_in : x < length a.slots = omega (arith, n, hx) in
      becomes r 9 _ (There (place + 9) (carrying side (Some v) wires)) t
      (λ u h.
      let is : u.arrays ≡ map.insert t.arrays frame (slice_set a.slots d (slice_index a.slots x)) = h.arrays_are ∙ ap (λ z. map.insert t.arrays frame (slice_set a.slots d z)) value in
      let other : (q : ℕ) → q ≢ frame → map.get u.arrays q ≡ map.get t.arrays q =
      λ q ne. ap (λ m. map.get m q) is ∙ get-insert_other t.arrays frame (slice_set a.slots d (slice_index a.slots x)) q ne in
      let keeps : KeepsArrays frame t.arrays u.arrays = λ q ws z ne e. other q ne ∙ e in
      record {
        slots = slice_set a.slots d (slice_index a.slots x);
        here = record {
          running = h.running;
          finger = h.finger ∙ ap (λ p. p + 9) a.here.finger;
          eight = h.eight;
          zero_is = h.zero_is;
          table_is = h.table_is;
          current_is = h.current_is;
          code_is = other 0 (λ e. f.not_zero (sym e)) ∙ a.here.code_is;
          came_with = a.here.came_with;
          came_table = a.here.came_table;
          framed = a.here.framed;
          still = still_on frame r.came.arrays t.arrays u.arrays a.here.still keeps (other 0 (λ e. f.not_zero (sym e)));
          frame_is = record { not_zero = f.not_zero; there = ap (λ m. map.get m frame) is ∙ get-insert_same t.arrays frame (slice_set a.slots d (slice_index a.slots x)) };
          out_is = h.out_is ∙ a.here.out_is;
          rest_is = h.rest_is ∙ a.here.rest_is;
        };
        holds = side_holds y frame t.arrays u.arrays a.slots wires stuck side j (slice_index a.slots x) (Some v) keeps f.there (omega (arith, n, long)) is_wire inside sv a.holds;
        keeps = λ q ws z ne e. keeps q ws z ne (a.keeps q ws z ne e);
        cheap =
            let same = held_set t.arrays code frame a.slots (slice_set a.slots d (slice_index a.slots x)) a.here.code_is f.there (length-set a.slots d (slice_index a.slots x)) in
            let now : held u.arrays ≡ held t.arrays = ap held is ∙ same in
            let finger = h.finger in
            let z = a.cheap in
            omega (arith, now, finger, z);
        home = λ k lt. get_or-set_other a.slots d k (slice_index a.slots x) 0 (λ e. let high = side_high y side j in omega (arith, e, lt, high)) ∙ a.home k lt;
      })
      (template_stretch r table frame code 9 9 _ place a.slots t a.here low high
      (choose_slot_law x x x d table frame a.slots t (comes r table frame code place a.slots t _ a.here stand) f x_in x_in x_in inside))

  -- an expression is built and moved to the slot of a side
  out_law : (north west : ℕ) (vn vw : Value) (x : Tree) (place : ℕ) (side : Option ℕ) (j : ℕ) (wires : ℕ → Option Value) (t : State) (a : There place wires t) →
      StandsAt code place (out_code y north west (side_slot y side j) x) → r.place ≤ place → place + length (out_code y north west (side_slot y side j) x) ≤ r.place + r.size →
      north < temporary y 0 → west < temporary y 0 → past x (first_node y) ≤ y.size → side_slot y side j < y.size → IsWireSlot y side →
      (NamesN x → Stands t.arrays (slice_index a.slots north) vn) → (NamesW x → Stands t.arrays (slice_index a.slots west) vw) →
      Stretch r (length (out_code y north west (side_slot y side j) x)) (There (place + length (out_code y north west (side_slot y side j) x)) (carrying side (Some (slot_value x vn vw)) wires)) t
  out_law north west vn vw x place side j wires t a stand low high hn hw room hd is_wire sn sw =
      let xs = code_of x north west (first_node y) in
      let d = side_slot y side j in
      let from = expression_slot x north west (first_node y) in
      let ys = move_slot from d in
      let n = a.holds.long in
      let size = length-append xs ys in
      let above = past_ge x (first_node y) in
      let from_low = slot_low x north west (first_node y) (omega (arith, hn)) (omega (arith, hw)) in
      let p : place + length xs + 9 ≡ place + length (xs ++ ys) = omega (arith, size) in
      let c : length xs + 9 ≡ length (xs ++ ys) = omega (arith, size) in
      subst (λ q. Stretch r (length (xs ++ ys)) (There q (carrying side (Some (slot_value x vn vw)) wires)) t) p
      (subst (λ q. Stretch r q (There (place + length xs + 9) (carrying side (Some (slot_value x vn vw)) wires)) t) c
      (chain r (length xs) 9 _ (There (place + length xs + 9) (carrying side (Some (slot_value x vn vw)) wires)) t
      (all r table frame code north west vn vw x place (first_node y) a.slots t a.here (stands_front code place xs ys stand) low (omega (arith, high, size))
      (omega arith) (omega (arith, hn)) (omega (arith, hw)) (omega (arith, n, room)) (omega (arith, n, room, above)) a.holds.zero sn sw)
      (λ u b.
      let g = b.grown in
      let at : There (place + length xs) wires u = record {
        slots = g.now;
        here = g.here;
        holds = same_holds y frame t.arrays u.arrays a.slots g.now wires stuck g.keeps a.here.frame_is.there (omega (arith, n, room, above)) g.long (λ k lt. g.low k (omega (arith, lt))) a.holds;
        keeps = λ q ws z ne e. g.keeps q ws z ne (a.keeps q ws z ne e);
        cheap = let x = g.cheap in let z = a.cheap in omega (arith, x, z);
        home = λ k lt. g.low k (omega (arith, lt)) ∙ a.home k lt;
      } in
      move_out from (place + length xs) side j wires (slot_value x vn vw) u at (stands_back code place xs ys stand) (omega (arith, low)) (omega (arith, high, size))
      (omega (arith, from_low, room)) hd (omega (arith, room, above)) is_wire b.stands)))

-- how a guarded piece of code goes
if_all : (b c : Bool) → (b && c) ≡ true → (b ≡ true) × (c ≡ true)
if_all true c e = (refl, e)
if_all false c e = absurd (true≢false (sym e))

some_of : (o : Option Value) → is_some o ≡ true → (v : Value) × (o ≡ Some v)
some_of None e = absurd (true≢false (sym e))
some_of (Some v) e = (v, refl)

none_of : (o : Option Value) → is_some o ≡ false → o ≡ None
none_of None e = refl
none_of (Some v) e = absurd (true≢false e)

module _ (r : Range) (table frame : ℕ) (code : List ℕ) (y : Layout) (stuck : ℕ → Option TextTrail) (s : State) (wires : ℕ → Option Value) where
  abbrev pub Here : ℕ → State → Type 0
  Here place t = AtPlace r table frame code y place wires stuck s t

  -- one guard before others
  one_guard : (k : ℕ) (ks : List ℕ) (place to : ℕ) (t : State) → Here place t → StandsAt code place (branch_on_slot (wire_slot k) to (place + 6)) →
      r.place ≤ place → place + 6 ≤ r.place + r.size → k < y.wires → wire_slot k < y.size → place ≤ to →
      ((u : State) → Here (place + 6) u → Stretch r (guard_cycles wires ks) (Here (if carry_all wires ks then place + 6 + 6 * length ks else to)) u) →
      (b : Bool) → is_some (wires k) ≡ b →
      Stretch r (6 + (if is_some (wires k) then guard_cycles wires ks else 0)) (Here (if is_some (wires k) && carry_all wires ks then place + 6 * length (k ∷ ks) else to)) t
  one_guard k ks place to t a stand low high lt inside on again true e =
      let v = some_of (wires k) e in
      let six : place + 6 + 6 * length ks ≡ place + 6 * length (k ∷ ks) = omega arith in
      subst (λ b. Stretch r (6 + (if b then guard_cycles wires ks else 0)) (Here (if b && carry_all wires ks then place + 6 * length (k ∷ ks) else to)) t) (sym e)
      (subst (λ p. Stretch r (6 + guard_cycles wires ks) (Here (if carry_all wires ks then p else to)) t) six
      (chain r 6 (guard_cycles wires ks) (Here (place + 6)) (Here (if carry_all wires ks then place + 6 + 6 * length ks else to)) t
      (guard_passes r table frame code y stuck s k place to wires v.0 t a stand low high lt inside v.1) again))
  one_guard k ks place to t a stand low high lt inside on again false e =
      subst (λ b. Stretch r (6 + (if b then guard_cycles wires ks else 0)) (Here (if b && carry_all wires ks then place + 6 * length (k ∷ ks) else to)) t) (sym e)
      (guard_stops r table frame code y stuck s k place to wires t a stand low high lt inside on (none_of (wires k) e))

  -- the guards go to the body where all inputs carry a value, and else to the end of the box
  pub guards_law : (ks : List ℕ) (place to : ℕ) (t : State) → Here place t → StandsAt code place (guards_code ks place to) →
      r.place ≤ place → place + 6 * length ks ≤ r.place + r.size → AreWires y ks → place + 6 * length ks ≤ to →
      Stretch r (guard_cycles wires ks) (Here (if carry_all wires ks then place + 6 * length ks else to)) t
  guards_law [] place to t a stand low high are on =
      let e : place ≡ place + 6 * 0 = omega arith in
      stays r (Here (place + 6 * 0)) t (subst (λ p. Here p t) e a)
  guards_law (k ∷ ks) place to t a stand low high are on =
      let here = branch_on_slot (wire_slot k) to (place + 6) in
      let rest = guards_code ks (place + 6) to in
      one_guard k ks place to t a (stands_front code place here rest stand) low (omega (arith, high)) are.0 are.1 (omega (arith, on))
      (λ u b. guards_law ks (place + 6) to u b (stands_back code place here rest stand) (omega (arith, low)) (omega (arith, high)) are.2 (omega (arith, on))) (is_some (wires k)) refl

-- the input still carries its value where another wire got one
still_carried : (input side : Option ℕ) (v : Value) (w : Option Value) (wires : ℕ → Option Value) → Carried wires input v → AreSlotsApart input side → Carried (carrying side w wires) input v
still_carried None side v w wires c apart = c
still_carried (Some k) None v w wires c apart = c
still_carried (Some k) (Some q) v w wires c apart = ap (λ b. if b then w else wires k) (ne_eqb k q apart) ∙ c

module _ (r : Range) (table frame : ℕ) (code : List ℕ) (y : Layout) (stuck : ℕ → Option TextTrail) (s : State) (north west : Option ℕ) (vn vw : Value)
    (is_north : IsWireSlot y north) (is_west : IsWireSlot y west) where
  abbrev pub At_ : (ℕ → Option Value) → ℕ → State → Type 0
  At_ wires place t = AtPlace r table frame code y place wires stuck s t

  abbrev outs_code : List Sent → List Op
  outs_code outs = sent_code y (input_slot north) (input_slot west) outs

  pub input_low : (o : Option ℕ) → IsWireSlot y o → input_slot o < temporary y 0
  input_low None h = omega arith
  input_low (Some k) h = omega (arith, h)

  pub input_stands : (o : Option ℕ) → IsWireSlot y o → (v : Value) (wires : ℕ → Option Value) (place : ℕ) (t : State) (a : At_ wires place t) → Carried wires o v → Stands t.arrays (slice_index a.slots (input_slot o)) v
  input_stands None h v wires place t a c = absurd c
  input_stands (Some k) h v wires place t a c = subst (λ o. Carries t.arrays (slice_index a.slots (wire_slot k)) o) c (a.holds.carries k h)

  -- the outs of a `send` box, one after the other
  outs_law : (outs : List Sent) (place : ℕ) (wires : ℕ → Option Value) (t : State) → At_ wires place t → StandsAt code place (outs_code outs) →
      r.place ≤ place → place + length (outs_code outs) ≤ r.place + r.size → CanSend y north west vn vw wires outs →
      Stretch r (length (outs_code outs)) (At_ (sending vn vw outs wires) (place + length (outs_code outs))) t
  outs_law [] place wires t a stand low high can =
      let e : place ≡ place + 0 = omega arith in
      stays r (At_ wires (place + 0)) t (subst (λ p. At_ wires p t) e a)
  outs_law (o ∷ outs) place wires t a stand low high can =
      let xs = out_code y (input_slot north) (input_slot west) (side_slot y o.wire o.spare) o.value in
      let ys = outs_code outs in
      let n = length-append xs ys in
      let next = carrying o.wire (Some (slot_value o.value vn vw)) wires in
      let p : place + length xs + length ys ≡ place + length (xs ++ ys) = omega (arith, n) in
      subst (λ q. Stretch r (length (xs ++ ys)) (At_ (sending vn vw outs next) q) t) p
      (subst (λ q. Stretch r q (At_ (sending vn vw outs next) (place + length xs + length ys)) t) (sym n)
      (chain r (length xs) (length ys) (At_ next (place + length xs)) (At_ (sending vn vw outs next) (place + length xs + length ys)) t
      (out_law r table frame code y stuck s (input_slot north) (input_slot west) vn vw o.value place o.wire o.spare wires t a (stands_front code place xs ys stand) low (omega (arith, high, n))
      (input_low north is_north) (input_low west is_west) can.0.room can.0.inside can.0.is_wire
      (λ h. input_stands north is_north vn wires place t a (can.0.has_north h)) (λ h. input_stands west is_west vw wires place t a (can.0.has_west h)))
      (λ u b. outs_law outs (place + length xs) next u b (stands_back code place xs ys stand) (omega (arith, low)) (omega (arith, high, n)) can.1)))

pub guards_length : (ks : List ℕ) (place to : ℕ) → length (guards_code ks place to) ≡ 6 * length ks
guards_length [] place to = refl
guards_length (k ∷ ks) place to = let n = guards_length ks (place + 6) to in omega (arith, n)

-- A `send` box: where all its wired inputs carry a value, its sides' wires carry theirs; else nothing changes.
module _ (r : Range) (table frame : ℕ) (code : List ℕ) (y : Layout) (stuck : ℕ → Option TextTrail) (s : State) (north west : Option ℕ) (vn vw : Value)
    (is_north : IsWireSlot y north) (is_west : IsWireSlot y west) (inputs : List ℕ) (outs : List Sent) (place : ℕ) (wires : ℕ → Option Value) where
  abbrev body : List Op
  body = sent_code y (input_slot north) (input_slot west) outs

  abbrev end : ℕ
  end = place + 6 * length inputs + length body

  by_enabled : (b : Bool) (t : State) → Stretch r (guard_cycles wires inputs) (AtPlace r table frame code y (if b then place + 6 * length inputs else end) wires stuck s) t →
      (b ≡ true → (u : State) → AtPlace r table frame code y (place + 6 * length inputs) wires stuck s u → Stretch r (length body) (AtPlace r table frame code y end (sending vn vw outs wires) stuck s) u) →
      Stretch r (guard_cycles wires inputs + (if b then length body else 0)) (AtPlace r table frame code y end (if b then sending vn vw outs wires else wires) stuck s) t
  by_enabled true t h go = chain r (guard_cycles wires inputs) (length body) _ _ t h (go refl)
  by_enabled false t h go = chain r (guard_cycles wires inputs) 0 _ _ t h (λ u a. stays r (AtPlace r table frame code y end wires stuck s) u a)

  pub send_law : (t : State) → AtPlace r table frame code y place wires stuck s t → StandsAt code place (send_code y inputs (input_slot north) (input_slot west) outs place) →
      r.place ≤ place → end ≤ r.place + r.size → AreWires y inputs → (carry_all wires inputs ≡ true → CanSend y north west vn vw wires outs) →
      Stretch r (guard_cycles wires inputs + (if carry_all wires inputs then length body else 0)) (AtPlace r table frame code y end (wires_sent inputs vn vw outs wires) stuck s) t
  send_law t a stand low high are can =
      let long = guards_length inputs place end in
      by_enabled (carry_all wires inputs) t
      (guards_law r table frame code y stuck s wires inputs place end t a (stands_front code place (guards_code inputs place end) body stand) low (omega (arith, high)) are (omega arith))
      (λ e u b. outs_law r table frame code y stuck s north west vn vw is_north is_west outs (place + 6 * length inputs) wires u b
      (subst (λ n. StandsAt code (place + n) body) long (stands_back code place (guards_code inputs place end) body stand)) (omega (arith, low)) (omega (arith, high)) (can e))
