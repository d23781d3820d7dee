-- A block by itself: its own stretches, its calls and their answers, and its return.
use Rattle.std.proofs.Common.{◌≡◌, ℕ, zero, suc, ◌+◌, ◌<◌, ◌≤◌, inl, inr, List, [], ◌∷◌, ◌++◌, length, Option, Some, None, refl, sym, ap, ◌∙◌, subst, arith}
use Rattle.std.specs.Prelude.{slice_index, unwrap_or}
use Rattle.std.specs.List.{Contains}
use Rattle.std.specs.FinMap as map
use Rattle.um_word.specs.State.{State}
use Rattle.um_word.specs.Loads.{Loads}
use Rattle.um_word.specs.Leads.{Leads}
use Rattle.um_word.proofs.Arrays.{get-insert_same, get-insert_other}
use Rattle.um_word.proofs.Leading.{weaken, weaken_along}
use Rattle.codex_values.specs.Value.{Value}
use Rattle.two_d.specs.Meaning.{Inputs}
use Rattle.code_templates.specs.Lines.{StandsAt}
use Rattle.code_templates.specs.Templates.{call_block, return_outcome}
use Rattle.code_templates.specs.Laws.{Quietly, HasWords, ReturnOutcomeLaw}
use Rattle.code_templates.proofs.BlockLaws.{return_outcome_law}
use Rattle.code_templates.proofs.Straight.{apart}
use Rattle.lower_emit.specs.inner.Stretches.{Range, Stretch, KeepsArrays, entry_of}
use Rattle.lower_emit.specs.Stands.{TextTrail, Carries, Marked, Ending}
use Rattle.lower_emit.specs.Layouts.{Layout, temporary, input_slot}
use Rattle.lower_emit.specs.inner.Frames.{AtPlace, IsWireSlot}
use Rattle.lower_emit.specs.inner.Ends.{exit_value, Ended}
use Rattle.lower_emit.specs.Entered.{HasBlocks, IsApart, Return}
use Rattle.lower_emit.specs.Surroundings.{Surroundings, Stay, IsAnswered, IsOwnMoment, back_to, ReturnsNow}
use Rattle.lower_emit.proofs.Boxes.{carries_grow, marked_grow}
use Rattle.lower_emit.proofs.Stretching.{comes}
use Rattle.lower_emit.proofs.Calling.{only_one, no_other}
use Rattle.lower_emit.proofs.Using.{keeps_all, blocks_stay, Called, call_law}
use Rattle.lower_emit.proofs.Staying.{carries_stay, marked_stay, all_blocks_stay, kept_stay}

no_array : (o : Option (List ℕ)) → ((words : List ℕ) → o ≡ Some words → ⊥) → o ≡ None
no_array None h = refl
no_array (Some words) h = absurd (h words refl)

some_none : (words : List ℕ) → None ≡ Some words → ⊥
some_none words e = cc

module _ (w : Surroundings) (frames : List ℕ) (m width : ℕ) (y : Layout) (room : temporary y 4 < y.size) (back : Return) (frame : ℕ) (far : IsApart w.table w.ids frame) (alone : Contains (back.caller ∷ frames) frame → ⊥) where
  abbrev pub range : State → Range
  range u = record { place = 0; size = width; frame = frame; came = u; loads = [] }

  -- in the block, since state u
  abbrev pub Here : ℕ → (ℕ → Option Value) → (ℕ → Option TextTrail) → State → State → Type 0
  Here place wires stuck u x = AtPlace (range u) w.table frame (w.codes m) y place wires stuck u x

  -- the block is at a place; since state s only its frame has changed
  pub record Now (place : ℕ) (wires : ℕ → Option Value) (stuck : ℕ → Option TextTrail) (s u : State) : Type 0 where
    pub at : Here place wires stuck u u
    pub keeps : KeepsArrays frame s.arrays u.arrays
    pub was : List ℕ
    pub was_there : map.get s.arrays frame ≡ Some was
    pub was_long : 4 < length was
    pub caller_is : slice_index at.slots 0 ≡ back.caller
    pub block_is : slice_index at.slots 1 ≡ back.block
    pub offset_is : slice_index at.slots 2 ≡ back.offset
    pub blocks : HasBlocks w.codes w.table w.ids u.arrays
    pub out_is : u.out ≡ s.out

  abbrev Moment : State → State → Loads → Type 0
  Moment s t k = IsOwnMoment w frames m s t

  alone_frames : Contains frames frame → ⊥
  alone_frames c = alone (suc c.0, omega (arith, c.1), c.2)

  module _ (place : ℕ) (wires : ℕ → Option Value) (stuck : ℕ → Option TextTrail) (s t : State) (i : Now place wires stuck s t) where
    moved_on : (place2 : ℕ) (w2 : ℕ → Option Value) (k2 : ℕ → Option TextTrail) (u : State) → Here place2 w2 k2 t u → Now place2 w2 k2 s u
    moved_on place2 w2 k2 u a =
        let there = i.at.here.frame_is.there in
        let home : (j : ℕ) → j < 5 → slice_index a.slots j ≡ slice_index i.at.slots j = λ j lt. a.home j lt ∙ ap (λ o. slice_index (unwrap_or o []) j) there in
        record {
          at = record {
            slots = a.slots;
            here = record {
              running = a.here.running;
              finger = a.here.finger;
              eight = a.here.eight;
              zero_is = a.here.zero_is;
              table_is = a.here.table_is;
              current_is = a.here.current_is;
              code_is = a.here.code_is;
              came_with = a.here.code_is;
              came_table = a.here.table_is;
              framed = refl;
              still = λ j words out e. e;
              frame_is = a.here.frame_is;
              out_is = refl;
              rest_is = refl;
            };
            holds = a.holds;
            keeps = λ j ws z ne e. e;
            cheap = omega arith;
            home = λ j lt. ap (λ o. slice_index (unwrap_or o []) j) (sym a.here.frame_is.there);
          };
          keeps = λ j ws z ne e. a.keeps j ws z ne (i.keeps j ws z ne e);
          was = i.was;
          was_there = i.was_there;
          was_long = i.was_long;
          caller_is = home 0 (omega arith) ∙ i.caller_is;
          block_is = home 1 (omega arith) ∙ i.block_is;
          offset_is = home 2 (omega arith) ∙ i.offset_is;
          blocks = blocks_stay w.codes w.table w.ids frame t.arrays u.arrays far a.keeps i.blocks;
          out_is = a.here.out_is ∙ i.out_is;
        }

    -- cycles that stand within the block, and amend no array that stood but the frame, are moments of its own
    quiet_step : (n from size : ℕ) (but : List ℕ) (Q : State → Loads → Type 0) (u : State) → ((k : ℕ) → Contains but k → k ≡ frame) → KeepsArrays frame s.arrays u.arrays → map.get u.arrays 0 ≡ Some (w.codes m) → u.out ≡ s.out →
        Leads (Quietly from size but u []) n Q u [] → Leads (Moment s) n Q u []
    quiet_step n from size but Q u only keeps code out h =
        weaken_along (Quietly from size but u []) (Moment s) n Q (λ x k q. record {
          own = q.0.own;
          code_is = q.0.code ∙ code;
          out_is = q.0.out ∙ out;
          stay = kept_stay w frames frame far alone_frames s.arrays x.arrays i.was i.was_there i.was_long (λ j ws z ne e. q.0.stays j ws (λ c. ne (only j c)) (keeps j ws z ne e));
        }) u [] h

    -- a stretch of the block's own
    pub own_stretch : (n : ℕ) (Q : State → Type 0) → Stretch (range t) n Q t → Leads (Moment s) n (λ u k. (k ≡ []) × Q u) t []
    own_stretch n Q h =
        weaken (Moment s) n (λ u k. Q u × (k ≡ [])) (λ u k. (k ≡ []) × Q u) (λ u k q. (q.1, q.0)) t []
        (quiet_step n 0 width (frame ∷ []) (λ u k. Q u × (k ≡ [])) t (only_one frame) i.keeps i.at.here.code_is i.out_is h)

    -- and one to a place
    pub own_step : (n place2 : ℕ) (w2 : ℕ → Option Value) (k2 : ℕ → Option TextTrail) → Stretch (range t) n (Here place2 w2 k2 t) t → Leads (Moment s) n (λ u k. (k ≡ []) × Now place2 w2 k2 s u) t []
    own_step n place2 w2 k2 h =
        weaken (Moment s) n (λ u k. (k ≡ []) × Here place2 w2 k2 t u) (λ u k. (k ≡ []) × Now place2 w2 k2 s u) (λ u k q. (q.0, moved_on place2 w2 k2 u q.1)) t []
        (own_stretch n (Here place2 w2 k2 t) h)

    slots_long : 4 < length i.at.slots
    slots_long = let n = i.at.holds.long in omega (arith, n, room)

    -- the call of another block
    pub call_step : (north west : Option ℕ) (callee size : ℕ) → IsWireSlot y north → IsWireSlot y west → StandsAt (w.codes m) place (call_block (input_slot north) (input_slot west) callee size m (place + 21)) → 5 ≤ size → callee < length w.ids →
        Leads (Moment s) 21 (λ u k. Called w.codes w.table w.ids callee size (back_to m frame (place + 21)) (record { north = exit_value wires north; west = exit_value wires west }) t u) t []
    call_step north west callee size is_north is_west stand five inside =
        let C : State → Type 0 = λ u. Called w.codes w.table w.ids callee size (back_to m frame (place + 21)) (record { north = exit_value wires north; west = exit_value wires west }) t u in
        weaken (Moment s) 21 (λ u k. C u × (k ≡ [] ++ entry_of (w.codes callee) ∷ [])) (λ u k. C u) (λ u k q. q.0) t []
        (quiet_step 21 t.finger 21 [] (λ u k. C u × (k ≡ [] ++ entry_of (w.codes callee) ∷ [])) t (no_other frame) i.keeps i.at.here.code_is i.out_is
        (call_law w.codes w.table w.ids (range t) frame m y t wires stuck place t i.at north west callee size is_north is_west stand five room inside i.blocks []))

    module _ (callee size : ℕ) (inputs : Inputs) (u : State) (called : Called w.codes w.table w.ids callee size (back_to m frame (place + 21)) inputs t u) where
      still : KeepsArrays frame t.arrays u.arrays
      still = keeps_all t.arrays u.arrays called.frame called.is_new called.keeps frame

      -- where the frame is new
      pub new_is : map.get s.arrays called.frame ≡ None
      new_is = no_array (map.get s.arrays called.frame) (λ words e. some_none words (sym called.is_new.absent ∙ i.keeps called.frame words called.is_new.not_zero
          (λ same. apart t.arrays called.frame frame i.at.slots called.is_new i.at.here.frame_is.there (sym same)) e))

      pub call_stays : Stay w frames s.arrays u.arrays
      call_stays = kept_stay w frames frame far alone_frames s.arrays u.arrays i.was i.was_there i.was_long (λ q ws z ne e. still q ws z ne (i.keeps q ws z ne e))

      -- the call is answered
      pub answered_now : (came : Ending) (v : State) → IsAnswered w frames (back_to m frame (place + 21)) came u v → Now (place + 21) wires stuck v v
      answered_now came v ans =
          let slots = i.at.slots in
          let here = i.at.here.frame_is in
          let was : map.get u.arrays frame ≡ Some slots = called.keeps frame slots here.not_zero (apart t.arrays called.frame frame slots called.is_new here.there) here.there in
          let there : map.get v.arrays frame ≡ Some slots = ans.stay frame slots here.not_zero (inr (inr (inl (0, omega arith, refl)))) was in
          let holds = i.at.holds in
          record {
            at = record {
              slots = slots;
              here = record {
                running = ans.running;
                finger = ans.finger;
                eight = ans.eight;
                zero_is = ans.zero_is;
                table_is = ans.table_is;
                current_is = ans.current_is;
                code_is = ans.code_is;
                came_with = ans.code_is;
                came_table = ans.table_is;
                framed = refl;
                still = λ j words out e. e;
                frame_is = record { not_zero = here.not_zero; there = there };
                out_is = refl;
                rest_is = refl;
              };
              holds = record {
                long = holds.long;
                zero = holds.zero;
                carries = λ k lt. carries_stay w (frame ∷ frames) u.arrays v.arrays ans.stay (wires k) _ (carries_grow frame slots t.arrays u.arrays still here.there slots_long _ (wires k) (holds.carries k lt));
                marked = λ b lt. marked_stay w (frame ∷ frames) u.arrays v.arrays ans.stay (stuck b) _ (marked_grow frame slots t.arrays u.arrays still here.there slots_long _ (stuck b) (holds.marked b lt));
              };
              keeps = λ k ws z ne e. e;
              cheap = omega arith;
              home = λ k lt. ap (λ o. slice_index (unwrap_or o []) k) (sym there);
            };
            keeps = λ k ws z ne e. e;
            was = slots;
            was_there = there;
            was_long = slots_long;
            caller_is = i.caller_is;
            block_is = i.block_is;
            offset_is = i.offset_is;
            blocks = all_blocks_stay w (frame ∷ frames) u.arrays v.arrays ans.stay (called.entered None None).blocks;
            out_is = refl;
          }

    -- the return to the caller, with the outcome in registers and in the frame
    pub return_step : (came : Ending) (u : State) (place2 : ℕ) (w2 : ℕ → Option Value) (k2 : ℕ → Option TextTrail) → Ended (range t) w.table frame (w.codes m) y place2 w2 k2 came.value came.mark t u →
        StandsAt (w.codes m) place2 return_outcome → back.block < length w.ids → Leads (Moment s) 11 (λ v k. ReturnsNow w frames frame back came s v) u []
    unfolding ReturnOutcomeLaw moved_on
    return_step came u place2 w2 k2 end stand inside =
        let a = end.at in
        let slots = a.slots in
        let now = moved_on place2 w2 k2 u a in
        let c0 = now.caller_is in
        let c1 = now.block_is in
        let c2 = now.offset_is in
        let n = a.holds.long in
        let there = a.here.frame_is.there in
        let block = now.blocks.each back.block inside in
        weaken (Moment s) 11 _ (λ v k. ReturnsNow w frames frame back came s v)
        (λ v k q.
        let h = q.0.0 in
        let keeps : KeepsArrays frame u.arrays v.arrays = λ x ws z ne e. ap (λ y. map.get y x) h.arrays_are ∙ get-insert_other u.arrays 0 (w.codes back.block) x z ∙ e in
        let value : Carries v.arrays (slice_index slots 5) came.value = carries_grow frame slots u.arrays v.arrays keeps there (omega (arith, n, room)) _ came.value end.value_is in
        let mark : Marked v.arrays (slice_index slots 6) came.mark = marked_grow frame slots u.arrays v.arrays keeps there (omega (arith, n, room)) _ came.mark end.mark_is in
        let out = h.out_is ∙ now.out_is in
        record {
          answered = record {
            running = h.running;
            finger = h.finger ∙ c2;
            eight = h.eight;
            zero_is = h.zero_is;
            table_is = h.table_is;
            current_is = h.current_is ∙ c0;
            code_is = ap (λ y. map.get y 0) h.arrays_are ∙ get-insert_same u.arrays 0 (w.codes back.block);
            value_is = subst (λ z. Carries v.arrays z came.value) (sym q.0.1) value;
            mark_is = subst (λ z. Marked v.arrays z came.mark) (sym q.0.2) mark;
            stay = kept_stay w (back.caller ∷ frames) frame far alone s.arrays v.arrays i.was i.was_there i.was_long (λ x ws z ne e. keeps x ws z ne (now.keeps x ws z ne e));
          };
          slots = slots;
          frame_is = ap (λ y. map.get y frame) h.arrays_are ∙ get-insert_other u.arrays 0 (w.codes back.block) frame a.here.frame_is.not_zero ∙ there;
          value_is = value;
          mark_is = mark;
          out_is = out;
        }) u []
        (quiet_step 11 u.finger 11 [] _ u (no_other frame) now.keeps a.here.code_is now.out_is
        (return_outcome_law w.table frame slots w.ids (w.codes back.block) u (comes (range t) w.table frame (w.codes m) place2 slots u return_outcome a.here stand) there (omega (arith, n, room)) now.blocks.there
        (subst (λ x. x < length w.ids) (sym c1) inside) (subst (λ x. HasWords u.arrays (slice_index w.ids x) (w.codes back.block)) (sym c1) block) []))
