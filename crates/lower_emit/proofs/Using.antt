-- A `use` box: how its module's block is called, and how its outcome is taken.
use Rattle.std.proofs.Common.{◌≡◌, ◌≢◌, ℕ, ◌+◌, ◌-◌, ◌*◌, ◌<◌, ◌≤◌, List, [], ◌∷◌, ◌++◌, length, replicate, Option, Some, None, refl, sym, ap, ◌∙◌, subst, arith, length-set, get_or-set_same, get_or-set_other}
use Rattle.std.specs.Prelude.{slice_set, slice_index, unwrap_or}
use Rattle.std.specs.FinMap as map
use Rattle.std.proofs.lemmas.List.{length-replicate}
use Rattle.um_word.specs.State.{State, Arrays, reg}
use Rattle.um_word.specs.Loads.{Loads}
use Rattle.um_word.specs.Leads.{IsNew, Leads}
use Rattle.um_word.proofs.Arrays.{get-insert_same, get-insert_other}
use Rattle.um_word.proofs.Leading.{weaken}
use Rattle.codex_values.specs.Value.{Value}
use Rattle.two_d.specs.Meaning.{Inputs}
use Rattle.code_templates.specs.Lines.{StandsAt}
use Rattle.code_templates.specs.inner.Spent.{held}
use Rattle.code_templates.proofs.Holding.{held_new, held_zero, held_set}
use Rattle.code_templates.specs.Templates.{call_block, take_outcome, set_slot, make_cell, choose_slot}
use Rattle.code_templates.specs.Laws.{Quietly, chosen_word, CallBlockLaw, TakeOutcomeLaw}
use Rattle.code_templates.proofs.Straight.{stands_front, stands_back, apart}
use Rattle.code_templates.proofs.BlockLaws.{call_block_law, take_outcome_law}
use Rattle.lower_emit.specs.inner.Stretches.{Range, Stretch, KeepsArrays, entry_of}
use Rattle.lower_emit.specs.Stands.{CellArray, TextTrail, Via, Trails, Carries, Marked, Ending}
use Rattle.lower_emit.specs.Layouts.{zero_slot, Layout, wire_slot, stuck_slot, temporary, input_slot, SideSlot, slot_of_side}
use Rattle.lower_emit.specs.inner.Frames.{FrameHolds, AtPlace, IsWireSlot, carrying}
use Rattle.lower_emit.specs.inner.Sorts.{marking}
use Rattle.lower_emit.specs.inner.Ends.{exit_value}
use Rattle.lower_emit.specs.inner.Uses.{by_caller, CanUse, Returned}
use Rattle.lower_emit.specs.Boxes.{taken_code}
use Rattle.lower_emit.specs.Entered.{HasBlocks, BlocksStand, IsApart, Return, Entered}
use Rattle.lower_emit.proofs.Stretching.{chain, becomes, template_stretch, comes, still_on}
use Rattle.lower_emit.proofs.Builds.{one_cell}
use Rattle.lower_emit.proofs.Boxes.{same_holds, side_holds, carries_grow, marked_grow, chosen_some, side_high, for_entry}
use Rattle.lower_emit.proofs.Sorting.{choose_in, set_temporary, here_is, there_is, mark_holds}
use Rattle.lower_emit.proofs.Ending.{trail_not_zero}

-- where a new array alone may have changed, all others are as they were
pub keeps_all : (m n : Arrays) (new : ℕ) → IsNew m new → KeepsArrays new m n → (q : ℕ) → KeepsArrays q m n
keeps_all m n new is_new keeps q k ws not_zero other e = keeps k ws not_zero (apart m new k ws is_new e) e

module _ (codes : ℕ → List ℕ) (table : ℕ) (ids : List ℕ) where
  -- the blocks stay where they are
  pub blocks_stay : (frame : ℕ) (m n : Arrays) → IsApart table ids frame → KeepsArrays frame m n → HasBlocks codes table ids m → HasBlocks codes table ids n
  blocks_stay frame m n far keeps b = record {
    not_zero = b.not_zero;
    there = keeps table ids b.not_zero (λ e. far.not_table (sym e)) b.there;
    each = λ i lt. let h = b.each i lt in record { not_zero = h.not_zero; there = keeps (slice_index ids i) (codes i) h.not_zero (λ e. far.not_block i lt (sym e)) h.there };
  }

  -- where register 1 is as it was too, they stand
  pub blocks_stand : (frame : ℕ) (s t : State) → IsApart table ids frame → reg s 1 ≡ table → reg t 1 ≡ reg s 1 → KeepsArrays frame s.arrays t.arrays → HasBlocks codes table ids s.arrays → BlocksStand codes ids t
  blocks_stand frame s t far named same keeps b = subst (λ k. HasBlocks codes k ids t.arrays) (sym (same ∙ named)) (blocks_stay frame s.arrays t.arrays far keeps b)

  pub apart_new : (m : Arrays) (new : ℕ) → IsNew m new → HasBlocks codes table ids m → IsApart table ids new
  apart_new m new is_new b = record {
    not_table = λ e. apart m new table ids is_new b.there (sym e);
    not_block = λ i lt e. apart m new (slice_index ids i) (codes i) is_new (b.each i lt).there (sym e);
  }

  -- a block was called from state t: the new frame is the only new array
  pub record Called (number size : ℕ) (back : Return) (a : Inputs) (t u : State) : Type 0 where
    pub frame : ℕ
    pub is_new : IsNew t.arrays frame
    pub entered : (entry_n entry_w : Option ℕ) → Entered codes table ids number size entry_n entry_w back a frame u
    pub keeps : KeepsArrays frame t.arrays u.arrays
    pub more : held u.arrays ≡ held t.arrays + 64 + 4 * size
    pub out_is : u.out ≡ t.out
    pub rest_is : u.rest ≡ t.rest

  module _ (r : Range) (frame own : ℕ) (y : Layout) (s : State) (wires : ℕ → Option Value) (stuck : ℕ → Option TextTrail) (place : ℕ) (t : State)
      (a : AtPlace r table frame (codes own) y place wires stuck s t) where
    input_carries : (o : Option ℕ) → IsWireSlot y o → Carries t.arrays (slice_index a.slots (input_slot o)) (exit_value wires o)
    input_carries None h = a.holds.zero
    input_carries (Some k) h = a.holds.carries k h

    input_inside : (o : Option ℕ) → IsWireSlot y o → temporary y 4 < y.size → input_slot o < length a.slots
    input_inside None h lt = let n = a.holds.long in omega (arith, n, lt)
    input_inside (Some k) h lt = let n = a.holds.long in omega (arith, n, lt, h)

    -- The call: the callee's block is loaded, with the box's inputs in a new frame.
    pub call_law : (north west : Option ℕ) (callee size : ℕ) → IsWireSlot y north → IsWireSlot y west → StandsAt (codes own) place (call_block (input_slot north) (input_slot west) callee size own (place + 21)) →
        5 ≤ size → temporary y 4 < y.size → callee < length ids → HasBlocks codes table ids t.arrays → (l : Loads) →
        Leads (Quietly t.finger 21 [] t l) 21
        (λ u k. Called callee size (record { caller = frame; block = own; offset = place + 21 }) (record { north = exit_value wires north; west = exit_value wires west }) t u × (k ≡ l ++ entry_of (codes callee) ∷ [])) t l
    unfolding CallBlockLaw
    call_law north west callee size is_north is_west stand five room inside b l =
        let n = input_slot north in
        let w = input_slot west in
        let back : Return = record { caller = frame; block = own; offset = place + 21 } in
        let inputs : Inputs = record { north = exit_value wires north; west = exit_value wires west } in
        let block = b.each callee inside in
        let words : List ℕ = frame ∷ own ∷ (place + 21) ∷ slice_index a.slots n ∷ slice_index a.slots w ∷ replicate (size - 5) 0 in
        let size_is : length words ≡ size = let z = length-replicate {A = ℕ} (size - 5) 0 in omega (arith, z, five) in
        let there = a.here.frame_is.there in
        let long : 4 < length a.slots = let z = a.holds.long in omega (arith, z, room) in
        weaken (Quietly t.finger 21 [] t l) 21 _ (λ u k. Called callee size back inputs t u × (k ≡ l ++ entry_of (codes callee) ∷ []))
        (λ u k q.
        let new = q.0.0 in
        let is_new = q.0.1 in
        let h = q.0.2 in
        let m = map.insert t.arrays new words in
        let zero_there : map.get m 0 ≡ Some (codes own) = get-insert_other t.arrays new words 0 (λ e. is_new.not_zero (sym e)) ∙ a.here.code_is in
        let keeps : KeepsArrays new t.arrays u.arrays =
        λ j ws z ne e. ap (λ x. map.get x j) h.arrays_are ∙ get-insert_other m 0 (codes callee) j z ∙ get-insert_other t.arrays new words j ne ∙ e in
        let same = keeps_all t.arrays u.arrays new is_new keeps in
        let one = held_new t.arrays (codes own) new words a.here.code_is is_new in
        let two = held_zero m (codes own) (codes callee) zero_there in
        let all = ap held h.arrays_are in (
          record {
            frame = new;
            is_new = is_new;
            entered = λ entry_n entry_w. record {
              running = h.running;
              finger = h.finger;
              eight = h.eight;
              zero_is = h.zero_is;
              table_is = h.table_is;
              current_is = h.current_is;
              code_is = ap (λ x. map.get x 0) h.arrays_are ∙ get-insert_same m 0 (codes callee);
              north = slice_index a.slots n;
              west = slice_index a.slots w;
              frame_is = record {
                not_zero = is_new.not_zero;
                there = ap (λ x. map.get x new) h.arrays_are ∙ get-insert_other m 0 (codes callee) new is_new.not_zero ∙ get-insert_same t.arrays new words;
              };
              north_is = for_entry u.arrays (slice_index a.slots n) entry_n (exit_value wires north) (carries_grow frame a.slots t.arrays u.arrays (same frame) there long (slice_index a.slots n) (exit_value wires north) (input_carries north is_north));
              west_is = for_entry u.arrays (slice_index a.slots w) entry_w (exit_value wires west) (carries_grow frame a.slots t.arrays u.arrays (same frame) there long (slice_index a.slots w) (exit_value wires west) (input_carries west is_west));
              blocks = blocks_stay new t.arrays u.arrays (apart_new t.arrays new is_new b) keeps b;
              apart = apart_new t.arrays new is_new b;
            };
            keeps = keeps;
            more = omega (arith, all, two, one, size_is);
            out_is = h.out_is;
            rest_is = h.rest_is;
          },
          q.1,
        ))
        t l
        (call_block_law n w callee size own (place + 21) table frame a.slots ids (codes callee) t (comes r table frame (codes own) place a.slots t _ a.here stand) five there
        (input_inside north is_north room) (input_inside west is_west room) b.there inside block l)

    -- The callee has returned: the frame holds what it held.
    pub returned_law : (number size : ℕ) (back : Return) (inputs : Inputs) (came : Ending) (u v : State) (c : Called number size back inputs t u) → back.block ≡ own → back.caller ≡ frame →
        Returned codes table back came c.frame u v → 4 < length a.slots → (place2 size2 : ℕ) (l : Loads) →
        (b : AtPlace (record { place = place2; size = size2; frame = frame; came = v; loads = l }) table frame (codes own) y back.offset wires stuck v v) × (b.slots ≡ a.slots)
    returned_law number size back inputs came u v c own_is frame_is ret long place2 size2 l =
        let keeps : KeepsArrays c.frame t.arrays v.arrays = λ k ws z ne e. ret.keeps k ws z ne (c.keeps k ws z ne e) in
        let same = keeps_all t.arrays v.arrays c.frame c.is_new keeps frame in
        let there : map.get v.arrays frame ≡ Some a.slots = keeps frame a.slots a.here.frame_is.not_zero (apart t.arrays c.frame frame a.slots c.is_new a.here.frame_is.there) a.here.frame_is.there in
        let code_is = ret.code_is ∙ ap (λ n. Some (codes n)) own_is in (
          record {
            slots = a.slots;
            here = record {
              running = ret.running;
              finger = ret.finger;
              eight = ret.eight;
              zero_is = ret.zero_is;
              table_is = ret.table_is;
              current_is = ret.current_is ∙ frame_is;
              code_is = code_is;
              came_with = code_is;
              came_table = ret.table_is;
              framed = refl;
              still = λ j words out e. e;
              frame_is = record { not_zero = a.here.frame_is.not_zero; there = there };
              out_is = refl;
              rest_is = refl;
            };
            holds = same_holds y frame t.arrays v.arrays a.slots a.slots wires stuck same a.here.frame_is.there long refl (λ k lt. refl) a.holds;
            keeps = λ k ws z ne e. e;
            cheap = omega arith;
            home = λ k lt. ap (λ o. slice_index (unwrap_or o []) k) (sym there);
          },
          refl,
        )

module _ (r : Range) (table frame : ℕ) (code : List ℕ) (y : Layout) (s : State) where
  -- the mark of a `use` whose instance is stuck there or isn't
  passed : (m : Arrays) (c k text : ℕ) (mark : Option TextTrail) → Marked m c mark → CellArray m k text c 0 0 → Marked m (chosen_word c k 0) (by_caller text mark)
  passed m c k text None hc cell = ap (λ z. chosen_word z k 0) hc
  passed m c k text (Some trail) hc cell = subst (λ z. Trails m z (Via text trail)) (sym (chosen_some c k 0 (trail_not_zero m trail c hc))) (c, cell, hc)

  -- The outcome is taken: the value goes to the side's wire, the trail with its caller to the mark.
  pub taken_law : (side : SideSlot) (size box text place : ℕ) (wires : ℕ → Option Value) (stuck : ℕ → Option TextTrail) (came : Ending) (t : State) (a : AtPlace r table frame code y place wires stuck s t) →
      StandsAt code place (taken_code y side box text) → r.place ≤ place → place + 28 ≤ r.place + r.size → CanUse y size side box → Carries t.arrays (reg t 3) came.value → Marked t.arrays (reg t 4) came.mark →
      Stretch r 28 (AtPlace r table frame code y (place + 28) (carrying side.wire came.value wires) (marking box (by_caller text came.mark) stuck) s) t
  unfolding TakeOutcomeLaw
  taken_law side size box text place wires stuck came t a stand low high can hv hm =
      let P = slot_of_side y side in
      let T = temporary y 2 in
      let D = temporary y 3 in
      let S = stuck_slot y box in
      let room = can.room in
      let is_box = can.box_inside in
      let t_in : T < y.size = omega (arith, room) in
      let d_in : D < y.size = omega (arith, room) in
      let z_in : zero_slot < y.size = omega (arith, room) in
      let s_in : S < y.size = omega (arith, room, is_box) in
      let n = a.holds.long in
      let long : 4 < length a.slots = omega (arith, n, room) in
      let v = reg t 3 in
      let x = reg t 4 in
      let w = carrying side.wire came.value wires in
      let mark = by_caller text came.mark in
      let slots1 = slice_set a.slots P v in
      let slots2 = slice_set slots1 T x in
      let f = a.here.frame_is in
      let p_len : P < length a.slots = let h = can.side_inside in omega (arith, n, h) in
      let t_len : T < length a.slots = omega (arith, n, t_in) in
      let t_len1 : T < length slots1 = let h = length-set a.slots P v in omega (arith, h, t_len) in
      let same_size : length slots2 ≡ length a.slots = length-set slots1 T x ∙ length-set a.slots P v in
      let high_p = side_high y side.wire side.spare in
      let o1 = take_outcome P T in
      let o2 = set_slot text D in
      let o3 = make_cell D T 0 1 D in
      let o4 = choose_slot T D zero_slot S in
      let r1 = stands_back code place o1 (o2 ++ (o3 ++ o4)) stand in
      let r2 = stands_back code (place + 4) o2 (o3 ++ o4) r1 in
      let r3 = stands_back code (place + 4 + 3) o3 o4 r2 in
      let end : place + 4 + 3 + 12 + 9 ≡ place + 28 = omega arith in
      subst (λ q. Stretch r 28 (AtPlace r table frame code y q w (marking box mark stuck) s) t) end
      (chain r 4 24 _ _ t
      (becomes r 4 _ (λ u. (b : AtPlace r table frame code y (place + 4) w stuck s u) × Marked u.arrays (slice_index b.slots T) came.mark) t
      (λ u h.
      let other : (q : ℕ) → q ≢ frame → map.get u.arrays q ≡ map.get t.arrays q =
      λ q ne. ap (λ m. map.get m q) h.arrays_are ∙ get-insert_other t.arrays frame slots2 q ne in
      let keeps : KeepsArrays frame t.arrays u.arrays = λ q ws z ne e. other q ne ∙ e in
      let first : FrameHolds y u.arrays slots1 w stuck =
      side_holds y frame t.arrays u.arrays a.slots wires stuck side.wire side.spare v came.value keeps f.there long can.side_wire p_len hv a.holds in
      let held_same = ap held h.arrays_are ∙ held_set t.arrays code frame a.slots slots2 a.here.code_is f.there same_size in
      let finger = h.finger in
      let cheap = a.cheap in (
        record {
          slots = slots2;
          here = record {
            running = h.running;
            finger = h.finger ∙ ap (λ p. p + 4) a.here.finger;
            eight = h.eight;
            zero_is = h.zero_is;
            table_is = h.table_is;
            current_is = h.current_is;
            code_is = other 0 (λ e. f.not_zero (sym e)) ∙ a.here.code_is;
            came_with = a.here.came_with;
            came_table = a.here.came_table;
            framed = a.here.framed;
            still = still_on frame r.came.arrays t.arrays u.arrays a.here.still keeps (other 0 (λ e. f.not_zero (sym e)));
            frame_is = record { not_zero = f.not_zero; there = ap (λ m. map.get m frame) h.arrays_are ∙ get-insert_same t.arrays frame slots2 };
            out_is = h.out_is ∙ a.here.out_is;
            rest_is = h.rest_is ∙ a.here.rest_is;
          };
          holds = record {
            long = length-set slots1 T x ∙ first.long;
            zero = get_or-set_other slots1 T zero_slot x 0 (λ e. omega (arith, e)) ∙ first.zero;
            carries = λ k lt. subst (λ q. Carries u.arrays q (w k)) (sym (get_or-set_other slots1 T (wire_slot k) x 0 (λ e. omega (arith, e, lt)))) (first.carries k lt);
            marked = λ b lt. subst (λ q. Marked u.arrays q (stuck b)) (sym (get_or-set_other slots1 T (stuck_slot y b) x 0 (λ e. omega (arith, e, lt)))) (first.marked b lt);
          };
          keeps = λ q ws z ne e. keeps q ws z ne (a.keeps q ws z ne e);
          cheap = omega (arith, held_same, finger, cheap);
          home = λ k lt. get_or-set_other slots1 T k x 0 (λ e. omega (arith, e, lt)) ∙ get_or-set_other a.slots P k v 0 (λ e. omega (arith, e, lt, high_p)) ∙ a.home k lt;
        },
        subst (λ q. Marked u.arrays q came.mark) (sym (get_or-set_same slots1 T x 0 t_len1)) (marked_grow frame a.slots t.arrays u.arrays keeps f.there long x came.mark hm),
      ))
      (template_stretch r table frame code 4 4 _ place a.slots t a.here low (omega (arith, high))
      (take_outcome_law P T table frame a.slots t (comes r table frame code place a.slots t _ a.here (stands_front code place o1 (o2 ++ (o3 ++ o4)) stand)) f p_len t_len))) (λ u1 g1.
      let a1 = g1.0 in
      let n1 = a1.holds.long in
      let long1 : 4 < length a1.slots = omega (arith, n1, room) in
      chain r 3 21 _ _ u1 (set_temporary r table frame code y s (place + 4) w stuck u1 a1 room 3 text (omega arith) (stands_front code (place + 4) o2 (o3 ++ o4) r1) (omega (arith, low)) (omega (arith, high))) (λ u2 h2.
      let a2 = h2.at in
      let n2 = a2.holds.long in
      let long2 : 4 < length a2.slots = omega (arith, n2, room) in
      let d2 : slice_index a2.slots D ≡ text = here_is r table frame code y s (place + 4 + 3) w stuck a1.slots D text u1.arrays u2 h2 (omega (arith, n1, d_in)) in
      let t2 : slice_index a2.slots T ≡ slice_index a1.slots T = there_is r table frame code y s (place + 4 + 3) w stuck a1.slots D text u1.arrays u2 h2 T (λ e. omega (arith, e)) in
      let m2 : Marked u2.arrays (slice_index a2.slots T) came.mark = subst (λ q. Marked u2.arrays q came.mark) (sym t2) (marked_grow frame a1.slots u1.arrays u2.arrays h2.keeps a1.here.frame_is.there long1 _ came.mark g1.1) in
      chain r 12 9 _ _ u2 (one_cell r table frame code D T 0 1 D (place + 4 + 3) a2.slots u2 a2.here (stands_front code (place + 4 + 3) o3 o4 r2) (omega (arith, low)) (omega (arith, high))
      (omega (arith, n2, d_in)) (omega (arith, n2, t_in)) (omega (arith, n2, d_in)) (omega arith) (omega arith)) (λ u3 c.
      let slots3 = slice_set a2.slots D c.new in
      let cheap2 = a2.cheap in
      let cheap3 = c.cheap in
      let a3 : AtPlace r table frame code y (place + 4 + 3 + 12) w stuck s u3 = record {
        slots = slots3;
        here = c.here;
        holds = same_holds y frame u2.arrays u3.arrays a2.slots slots3 w stuck c.keeps a2.here.frame_is.there long2 (length-set a2.slots D c.new)
            (λ k lt. get_or-set_other a2.slots D k c.new 0 (λ e. omega (arith, e, lt))) a2.holds;
        keeps = λ q ws z ne e. c.keeps q ws z ne (a2.keeps q ws z ne e);
        cheap = omega (arith, cheap2, cheap3);
        home = λ q lt. get_or-set_other a2.slots D q c.new 0 (λ e. omega (arith, e, lt)) ∙ a2.home q lt;
      } in
      let t3 : slice_index slots3 T ≡ slice_index a2.slots T = get_or-set_other a2.slots D T c.new 0 (λ e. omega (arith, e)) in
      let d3 : slice_index slots3 D ≡ c.new = get_or-set_same a2.slots D c.new 0 (omega (arith, n2, d_in)) in
      let m3 : Marked u3.arrays (slice_index a2.slots T) came.mark = marked_grow frame a2.slots u2.arrays u3.arrays c.keeps a2.here.frame_is.there long2 _ came.mark m2 in
      let cell : CellArray u3.arrays c.new text (slice_index a2.slots T) 0 0 = (c.not_zero, c.made ∙ ap (λ z. Some (z ∷ slice_index a2.slots T ∷ 0 ∷ 0 ∷ [])) d2) in
      let all : Marked u3.arrays (chosen_word (slice_index slots3 T) (slice_index slots3 D) (slice_index slots3 zero_slot)) mark =
      let z3 = a3.holds.zero in
      subst (λ q. Marked u3.arrays q mark) (λ i. chosen_word (sym t3 i) (sym d3 i) (sym z3 i)) (passed u3.arrays (slice_index a2.slots T) c.new text came.mark m3 cell) in
      let n3 = a3.holds.long in
      becomes r 9 _ (AtPlace r table frame code y (place + 4 + 3 + 12 + 9) w (marking box mark stuck) s) u3 (λ q h. h.at)
      (choose_in r table frame code y s (place + 4 + 3 + 12) w stuck u3 a3 room T D zero_slot S w (marking box mark stuck) r3 (omega (arith, low)) (omega (arith, high)) t_in d_in z_in s_in (omega arith)
      (λ m k. mark_holds y frame u3.arrays m slots3 w stuck box _ mark k a3.here.frame_is.there (omega (arith, n3, room)) is_box (omega (arith, n3, s_in)) all a3.holds))))))
