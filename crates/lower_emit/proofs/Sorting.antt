-- A `case` or a `split` box, from the value of its expression on.
use Rattle.std.proofs.Common.{◌≡◌, ◌≢◌, ℕ, zero, suc, ◌+◌, ◌<◌, ◌≤◌, Bool, true, false, List, [], ◌∷◌, ◌++◌, length, Option, Some, None, refl, sym, ap, ◌∙◌, subst, arith, length-set, get_or-set_same, get_or-set_other}
use Rattle.std.specs.Prelude.{◌==◌, if◌then◌else◌, slice_set, slice_index}
use Rattle.std.specs.FinMap as map
use Rattle.std.proofs.lemmas.Bool.{eqb-true, eqb-false}
use Rattle.um_word.specs.State.{State, Arrays}
use Rattle.um_word.proofs.Arrays.{get-insert_same, get-insert_other}
use Rattle.codex_values.specs.Value.{Value, unit, pair, inl, inr}
use Rattle.code_templates.specs.Lines.{StandsAt}
use Rattle.code_templates.specs.Templates.{make_cell, set_slot, choose_slot, read_part}
use Rattle.code_templates.specs.inner.Spent.{held}
use Rattle.code_templates.proofs.Holding.{held_set}
use Rattle.code_templates.specs.Laws.{Leaves, chosen_word, ChooseSlotLaw, ReadPartLaw, SetSlotLaw}
use Rattle.code_templates.proofs.Straight.{stands_front, stands_back}
use Rattle.code_templates.proofs.BlockLaws.{choose_slot_law, read_part_law, set_slot_law}
use Rattle.lower_emit.specs.inner.Stretches.{Range, Stretch, KeepsArrays}
use Rattle.lower_emit.specs.Stands.{CellArray, Stands, TextTrail, At, Carries, Marked}
use Rattle.lower_emit.specs.Layouts.{zero_slot, Layout, wire_slot, stuck_slot, temporary, SideSlot, slot_of_side}
use Rattle.lower_emit.specs.inner.Frames.{FrameHolds, AtPlace, carrying, IsWireSlot}
use Rattle.lower_emit.specs.inner.Sorts.{part_of_value, or_else, stuck_at, marking, sorted, CanSort}
use Rattle.lower_emit.specs.Boxes.{sort_code}
use Rattle.lower_emit.proofs.Stretching.{chain, becomes, template_stretch, comes, still_on}
use Rattle.lower_emit.proofs.Growth.{grows, stands_not_zero}
use Rattle.lower_emit.proofs.Builds.{one_cell}
use Rattle.lower_emit.proofs.Boxes.{same_holds, side_holds, marked_grow, carries_grow, chosen_some, side_high}

-- each word of a value's cell is 0 or stands for its part
record Words (m : Arrays) (k : ℕ) (v : Value) : Type 0 where
  words : List ℕ
  there : map.get m k ≡ Some words
  four : length words ≡ 4
  stand : (f : ℕ) → f < 4 → Carries m (slice_index words f) (part_of_value f v)

by_four : (m : Arrays) (a b c d : ℕ) (p q s t : Option Value) → Carries m a p → Carries m b q → Carries m c s → Carries m d t →
    (f : ℕ) → f < 4 → Carries m (slice_index (a ∷ b ∷ c ∷ d ∷ []) f) (Rattle.std.specs.Prelude.slice_index_or (p ∷ q ∷ s ∷ t ∷ []) f None)
by_four m a b c d p q s t ha hb hc hd zero lt = ha
by_four m a b c d p q s t ha hb hc hd (suc zero) lt = hb
by_four m a b c d p q s t ha hb hc hd (suc (suc zero)) lt = hc
by_four m a b c d p q s t ha hb hc hd (suc (suc (suc zero))) lt = hd
by_four m a b c d p q s t ha hb hc hd (suc (suc (suc (suc f)))) lt = absurd (omega (arith, lt))

words_of : (m : Arrays) (k : ℕ) (v : Value) → Stands m k v → Words m k v
words_of m k unit h = record { words = 0 ∷ 0 ∷ 0 ∷ 0 ∷ []; there = h.1; four = refl; stand = by_four m 0 0 0 0 None None None None refl refl refl refl }
words_of m k (inl a) h = record { words = h.0 ∷ 0 ∷ 0 ∷ 0 ∷ []; there = h.1.1; four = refl; stand = by_four m h.0 0 0 0 (Some a) None None None h.2 refl refl refl }
words_of m k (inr a) h = record { words = 0 ∷ h.0 ∷ 0 ∷ 0 ∷ []; there = h.1.1; four = refl; stand = by_four m 0 h.0 0 0 None (Some a) None None refl h.2 refl refl }
words_of m k (pair a b) h = record { words = 0 ∷ 0 ∷ h.0 ∷ h.1 ∷ []; there = h.2.1; four = refl; stand = by_four m 0 0 h.0 h.1 None None (Some a) (Some b) refl refl h.3 h.4 }

-- a value that is chosen
pub chosen_carries : (m : Arrays) (a b : ℕ) (v w : Option Value) → Carries m a v → Carries m b w → Carries m (chosen_word a a b) (or_else v w)
chosen_carries m a b None w ha hb = subst (λ z. Carries m (chosen_word z z b) w) (sym ha) hb
chosen_carries m a b (Some v) w ha hb = subst (λ z. Stands m z v) (sym (chosen_some a a b (stands_not_zero m v a ha))) ha

-- the mark where there is none of them
pub chosen_mark : (m : Arrays) (c k text : ℕ) (v : Option Value) → Carries m c v → CellArray m k text 0 0 0 → Marked m (chosen_word c 0 k) (stuck_at text v)
chosen_mark m c k text None hc cell = subst (λ z. Marked m (chosen_word z 0 k) (Some (At text))) (sym hc) cell
chosen_mark m c k text (Some v) hc cell = chosen_some c 0 k (stands_not_zero m v c hc)

-- the stuck mark of a box is set
pub mark_holds : (y : Layout) (frame : ℕ) (m n : Arrays) (slots : List ℕ) (wires : ℕ → Option Value) (stuck : ℕ → Option TextTrail) (b x : ℕ) (mark : Option TextTrail) →
    KeepsArrays frame m n → map.get m frame ≡ Some slots → 4 < length slots → b < y.boxes → stuck_slot y b < length slots → Marked m x mark →
    FrameHolds y m slots wires stuck → FrameHolds y n (slice_set slots (stuck_slot y b) x) wires (marking b mark stuck)
mark_holds y frame m n slots wires stuck b x mark keeps there long is_box inside marked h = record {
  long = length-set slots (stuck_slot y b) x ∙ h.long;
  zero = get_or-set_other slots (stuck_slot y b) zero_slot x 0 (λ e. omega (arith, e)) ∙ h.zero;
  carries = λ k lt. subst (λ z. Carries n z (wires k)) (sym (get_or-set_other slots (stuck_slot y b) (wire_slot k) x 0 (λ e. omega (arith, e, lt)))) (carries_grow frame slots m n keeps there long _ (wires k) (h.carries k lt));
  marked = λ j lt. at_box j lt (j == b) refl;
}
  where
    at_box : (j : ℕ) → j < y.boxes → (c : Bool) → (j == b) ≡ c → Marked n (slice_index (slice_set slots (stuck_slot y b) x) (stuck_slot y j)) (if c then mark else stuck j)
    at_box j lt true e =
        let same : j ≡ b = eqb-true j b e in
        subst (λ z. Marked n z mark) (sym (ap (λ i. slice_index (slice_set slots (stuck_slot y b) x) (stuck_slot y i)) same ∙ get_or-set_same slots (stuck_slot y b) x 0 inside)) (marked_grow frame slots m n keeps there long x mark marked)
    at_box j lt false e =
        let ne : j ≢ b = eqb-false j b e in
        subst (λ z. Marked n z (stuck j)) (sym (get_or-set_other slots (stuck_slot y b) (stuck_slot y j) x 0 (λ same. ne (omega (arith, same))))) (marked_grow frame slots m n keeps there long _ (stuck j) (h.marked j lt))

module _ (r : Range) (table frame : ℕ) (code : List ℕ) (y : Layout) (s : State) where
  abbrev pub There : ℕ → (ℕ → Option Value) → (ℕ → Option TextTrail) → State → Type 0
  There place wires stuck t = AtPlace r table frame code y place wires stuck s t

  -- one slot was written
  pub record Wrote (place : ℕ) (wires : ℕ → Option Value) (stuck : ℕ → Option TextTrail) (slots : List ℕ) (d x : ℕ) (before : Arrays) (u : State) : Type 0 where
    pub at : There place wires stuck u
    pub slots_are : at.slots ≡ slice_set slots d x
    pub keeps : KeepsArrays frame before u.arrays

  module _ (n place : ℕ) (wires : ℕ → Option Value) (stuck : ℕ → Option TextTrail) (t : State) (a : There place wires stuck t) (d x : ℕ) (u : State)
      (h : Leaves (t.finger + n) table frame (map.insert t.arrays frame (slice_set a.slots d x)) t.out t u) where
    other : (q : ℕ) → q ≢ frame → map.get u.arrays q ≡ map.get t.arrays q
    other q ne = ap (λ m. map.get m q) h.arrays_are ∙ get-insert_other t.arrays frame (slice_set a.slots d x) q ne

    keeps : KeepsArrays frame t.arrays u.arrays
    keeps q ws z ne e = other q ne ∙ e

    wrote : (w : ℕ → Option Value) (k : ℕ → Option TextTrail) → 5 ≤ d → FrameHolds y u.arrays (slice_set a.slots d x) w k → Wrote (place + n) w k a.slots d x t.arrays u
    wrote w k above holds = record {
      at = record {
        slots = slice_set a.slots d x;
        here = record {
          running = h.running;
          finger = h.finger ∙ ap (λ p. p + n) a.here.finger;
          eight = h.eight;
          zero_is = h.zero_is;
          table_is = h.table_is;
          current_is = h.current_is;
          code_is = other 0 (λ e. a.here.frame_is.not_zero (sym e)) ∙ a.here.code_is;
          came_with = a.here.came_with;
          came_table = a.here.came_table;
          framed = a.here.framed;
          still = still_on frame r.came.arrays t.arrays u.arrays a.here.still keeps (other 0 (λ e. a.here.frame_is.not_zero (sym e)));
          frame_is = record { not_zero = a.here.frame_is.not_zero; there = ap (λ m. map.get m frame) h.arrays_are ∙ get-insert_same t.arrays frame (slice_set a.slots d x) };
          out_is = h.out_is ∙ a.here.out_is;
          rest_is = h.rest_is ∙ a.here.rest_is;
        };
        holds = holds;
        keeps = λ q ws z ne e. keeps q ws z ne (a.keeps q ws z ne e);
        cheap =
            let now = ap held h.arrays_are ∙ held_set t.arrays code frame a.slots (slice_set a.slots d x) a.here.code_is a.here.frame_is.there (length-set a.slots d x) in
            let finger = h.finger in
            let z = a.cheap in
            omega (arith, now, finger, z);
        home = λ q lt. get_or-set_other a.slots d q x 0 (λ e. omega (arith, e, lt, above)) ∙ a.home q lt;
      };
      slots_are = refl;
      keeps = keeps;
    }

  -- what of the law of a template is wanted
  module _ (place : ℕ) (wires : ℕ → Option Value) (stuck : ℕ → Option TextTrail) (t : State) (a : There place wires stuck t) (size : temporary y 4 < y.size) where
    long : 4 < length a.slots
    long = let n = a.holds.long in omega (arith, n, size)

    inside : (d : ℕ) → d < y.size → d < length a.slots
    inside d lt = let n = a.holds.long in omega (arith, n, lt)

    -- a part goes to a side
    read_to : (x f : ℕ) (side : SideSlot) (v : Value) → StandsAt code place (read_part x f (slot_of_side y side)) → r.place ≤ place → place + 6 ≤ r.place + r.size →
        x < y.size → slot_of_side y side < y.size → IsWireSlot y side.wire → f < 4 → Stands t.arrays (slice_index a.slots x) v →
        Stretch r 6 (λ u. (w : ℕ) × Carries t.arrays w (part_of_value f v) × Wrote (place + 6) (carrying side.wire (part_of_value f v) wires) stuck a.slots (slot_of_side y side) w t.arrays u) t
    unfolding ReadPartLaw
    read_to x f side v stand low high hx hd is_wire hf sv =
        let cell = words_of t.arrays (slice_index a.slots x) v sv in
        let four = cell.four in
        let w = slice_index cell.words f in
        let d = slot_of_side y side in
        becomes r 6 _ (λ u. (w : ℕ) × Carries t.arrays w (part_of_value f v) × Wrote (place + 6) (carrying side.wire (part_of_value f v) wires) stuck a.slots (slot_of_side y side) w t.arrays u) t
        (λ u h. (
          w,
          cell.stand f hf,
          wrote 6 place wires stuck t a d w u h (carrying side.wire (part_of_value f v) wires) stuck (side_high y side.wire side.spare)
              (side_holds y frame t.arrays u.arrays a.slots wires stuck side.wire side.spare w (part_of_value f v) (keeps 6 place wires stuck t a d w u h) a.here.frame_is.there long is_wire (inside d hd) (cell.stand f hf) a.holds),
        ))
        (template_stretch r table frame code 6 6 _ place a.slots t a.here low high
        (read_part_law x f d table frame a.slots cell.words t (comes r table frame code place a.slots t _ a.here stand) a.here.frame_is cell.there (inside x hx) (inside d hd) (omega (arith, four, hf))))

    -- a chosen value goes to a slot
    pub choose_in : (c p q d : ℕ) (w : ℕ → Option Value) (k : ℕ → Option TextTrail) → StandsAt code place (choose_slot c p q d) → r.place ≤ place → place + 9 ≤ r.place + r.size →
        c < y.size → p < y.size → q < y.size → d < y.size → 5 ≤ d →
        ((n : Arrays) → KeepsArrays frame t.arrays n → FrameHolds y n (slice_set a.slots d (chosen_word (slice_index a.slots c) (slice_index a.slots p) (slice_index a.slots q))) w k) →
        Stretch r 9 (Wrote (place + 9) w k a.slots d (chosen_word (slice_index a.slots c) (slice_index a.slots p) (slice_index a.slots q)) t.arrays) t
    unfolding ChooseSlotLaw
    choose_in c p q d w k stand low high hc hp hq hd above holds =
        let x = chosen_word (slice_index a.slots c) (slice_index a.slots p) (slice_index a.slots q) in
        becomes r 9 _ (Wrote (place + 9) w k a.slots d x t.arrays) t
        (λ u h. wrote 9 place wires stuck t a d x u h w k above (holds u.arrays (keeps 9 place wires stuck t a d x u h)))
        (template_stretch r table frame code 9 9 _ place a.slots t a.here low high
        (choose_slot_law c p q d table frame a.slots t (comes r table frame code place a.slots t _ a.here stand) a.here.frame_is (inside c hc) (inside p hp) (inside q hq) (inside d hd)))

    -- a number goes to a temporary
    pub set_temporary : (j x : ℕ) → j < 4 → StandsAt code place (set_slot x (temporary y j)) → r.place ≤ place → place + 3 ≤ r.place + r.size →
        Stretch r 3 (Wrote (place + 3) wires stuck a.slots (temporary y j) x t.arrays) t
    unfolding SetSlotLaw
    set_temporary j x small stand low high =
        let d = temporary y j in
        becomes r 3 _ (Wrote (place + 3) wires stuck a.slots d x t.arrays) t
        (λ u h. wrote 3 place wires stuck t a d x u h wires stuck (omega arith)
        (same_holds y frame t.arrays u.arrays a.slots (slice_set a.slots d x) wires stuck (keeps 3 place wires stuck t a d x u h) a.here.frame_is.there long (length-set a.slots d x)
        (λ k lt. get_or-set_other a.slots d k x 0 (λ e. omega (arith, e, lt))) a.holds))
        (template_stretch r table frame code 3 3 _ place a.slots t a.here low high
        (set_slot_law x d table frame a.slots t (comes r table frame code place a.slots t _ a.here stand) a.here.frame_is (inside d (omega (arith, size, small)))))

    -- the trail of a text goes there
    pub make_trail : StandsAt code place (make_cell (temporary y 3) zero_slot 0 1 (temporary y 3)) → r.place ≤ place → place + 12 ≤ r.place + r.size →
        Stretch r 12 (λ u. (k : ℕ) × CellArray u.arrays k (slice_index a.slots (temporary y 3)) 0 0 0 × Wrote (place + 12) wires stuck a.slots (temporary y 3) k t.arrays u) t
    make_trail stand low high =
        let d = temporary y 3 in
        becomes r 12 _ (λ u. (k : ℕ) × CellArray u.arrays k (slice_index a.slots d) 0 0 0 × Wrote (place + 12) wires stuck a.slots d k t.arrays u) t
        (λ u c. (
          c.new,
          (c.not_zero, c.made ∙ ap (λ z. Some (slice_index a.slots d ∷ z ∷ 0 ∷ 0 ∷ [])) a.holds.zero),
          record {
            at = record {
              slots = slice_set a.slots d c.new;
              here = c.here;
              holds = same_holds y frame t.arrays u.arrays a.slots (slice_set a.slots d c.new) wires stuck c.keeps a.here.frame_is.there long (length-set a.slots d c.new)
                  (λ k lt. get_or-set_other a.slots d k c.new 0 (λ e. omega (arith, e, lt))) a.holds;
              keeps = λ q ws z ne e. c.keeps q ws z ne (a.keeps q ws z ne e);
              cheap = let x = c.cheap in let z = a.cheap in omega (arith, x, z);
              home = λ q lt. get_or-set_other a.slots d q c.new 0 (λ e. omega (arith, e, lt)) ∙ a.home q lt;
            };
            slots_are = refl;
            keeps = c.keeps;
          },
        ))
        (one_cell r table frame code d zero_slot 0 1 d place a.slots t a.here stand low high (inside d (omega (arith, size))) (inside zero_slot (omega (arith, size))) (inside d (omega (arith, size))) (omega arith) (omega arith))

  -- a slot that was written, and one that wasn't
  pub here_is : (place : ℕ) (w : ℕ → Option Value) (k : ℕ → Option TextTrail) (slots : List ℕ) (d x : ℕ) (m : Arrays) (u : State) (h : Wrote place w k slots d x m u) → d < length slots → slice_index h.at.slots d ≡ x
  here_is place w k slots d x m u h lt = ap (λ l. slice_index l d) h.slots_are ∙ get_or-set_same slots d x 0 lt

  pub there_is : (place : ℕ) (w : ℕ → Option Value) (k : ℕ → Option TextTrail) (slots : List ℕ) (d x : ℕ) (m : Arrays) (u : State) (h : Wrote place w k slots d x m u) (q : ℕ) → (q ≡ d → ⊥) → slice_index h.at.slots q ≡ slice_index slots q
  there_is place w k slots d x m u h q ne = ap (λ l. slice_index l q) h.slots_are ∙ get_or-set_other slots d q x 0 ne

  pub sort_law : (x f g : ℕ) (one two both : SideSlot) (box text place : ℕ) (wires : ℕ → Option Value) (stuck : ℕ → Option TextTrail) (v : Value) (t : State) (a : There place wires stuck t) →
      StandsAt code place (sort_code y x f g one two both box text) → r.place ≤ place → place + 45 ≤ r.place + r.size → CanSort y x f g one two both box → Stands t.arrays (slice_index a.slots x) v →
      Stretch r 45 (There (place + 6 + 6 + 9 + 3 + 12 + 9) (sorted v f g one two both wires) (marking box (stuck_at text (or_else (part_of_value f v) (part_of_value g v))) stuck)) t
  sort_law x f g one two both box text place wires stuck v t a stand low high can sv =
      let P = slot_of_side y one in
      let Q = slot_of_side y two in
      let C = slot_of_side y both in
      let D = temporary y 3 in
      let S = stuck_slot y box in
      let size = can.size in
      let is_box = can.box_inside in
      let d_in : D < y.size = omega (arith, size) in
      let s_in : S < y.size = omega (arith, size, is_box) in
      let z_in : zero_slot < y.size = omega (arith, size) in
      let w1 = carrying one.wire (part_of_value f v) wires in
      let w2 = carrying two.wire (part_of_value g v) w1 in
      let either = or_else (part_of_value f v) (part_of_value g v) in
      let w3 = carrying both.wire either w2 in
      let o1 = read_part x f P in
      let o2 = read_part x g Q in
      let o3 = choose_slot P P Q C in
      let o4 = set_slot text D in
      let o5 = make_cell D zero_slot 0 1 D in
      let o6 = choose_slot C zero_slot D S in
      let r1 = stands_back code place o1 (o2 ++ (o3 ++ (o4 ++ (o5 ++ o6)))) stand in
      let r2 = stands_back code (place + 6) o2 (o3 ++ (o4 ++ (o5 ++ o6))) r1 in
      let r3 = stands_back code (place + 6 + 6) o3 (o4 ++ (o5 ++ o6)) r2 in
      let r4 = stands_back code (place + 6 + 6 + 9) o4 (o5 ++ o6) r3 in
      let r5 = stands_back code (place + 6 + 6 + 9 + 3) o5 o6 r4 in
      chain r 6 39 _ _ t (read_to place wires stuck t a size x f one v (stands_front code place o1 (o2 ++ (o3 ++ (o4 ++ (o5 ++ o6)))) stand) low (omega (arith, high)) can.x_inside can.one_inside can.one_wire can.f_is sv) (λ u1 g1.
      let h1 = g1.2 in
      let a1 = h1.at in
      let x1 : slice_index a1.slots x ≡ slice_index a.slots x = there_is (place + 6) w1 stuck a.slots P g1.0 t.arrays u1 h1 x can.x_apart in
      let sv1 : Stands u1.arrays (slice_index a1.slots x) v = subst (λ z. Stands u1.arrays z v) (sym x1) (grows frame a.slots t.arrays u1.arrays h1.keeps a.here.frame_is.there (long place wires stuck t a size) v (slice_index a.slots x) sv) in
      let c1 : Carries u1.arrays g1.0 (part_of_value f v) = carries_grow frame a.slots t.arrays u1.arrays h1.keeps a.here.frame_is.there (long place wires stuck t a size) g1.0 (part_of_value f v) g1.1 in
      chain r 6 33 _ _ u1 (read_to (place + 6) w1 stuck u1 a1 size x g two v (stands_front code (place + 6) o2 (o3 ++ (o4 ++ (o5 ++ o6))) r1) (omega (arith, low)) (omega (arith, high)) can.x_inside can.two_inside can.two_wire can.g_is sv1) (λ u2 g2.
      let h2 = g2.2 in
      let a2 = h2.at in
      let long1 = long (place + 6) w1 stuck u1 a1 size in
      let p2 : slice_index a2.slots P ≡ g1.0 = there_is (place + 6 + 6) w2 stuck a1.slots Q g2.0 u1.arrays u2 h2 P can.one_apart ∙ here_is (place + 6) w1 stuck a.slots P g1.0 t.arrays u1 h1 (inside place wires stuck t a size P can.one_inside) in
      let q2 : slice_index a2.slots Q ≡ g2.0 = here_is (place + 6 + 6) w2 stuck a1.slots Q g2.0 u1.arrays u2 h2 (inside (place + 6) w1 stuck u1 a1 size Q can.two_inside) in
      let cp : Carries u2.arrays (slice_index a2.slots P) (part_of_value f v) = subst (λ z. Carries u2.arrays z (part_of_value f v)) (sym p2) (carries_grow frame a1.slots u1.arrays u2.arrays h2.keeps a1.here.frame_is.there long1 g1.0 (part_of_value f v) c1) in
      let cq : Carries u2.arrays (slice_index a2.slots Q) (part_of_value g v) = subst (λ z. Carries u2.arrays z (part_of_value g v)) (sym q2) (carries_grow frame a1.slots u1.arrays u2.arrays h2.keeps a1.here.frame_is.there long1 g2.0 (part_of_value g v) g2.1) in
      let c = chosen_word (slice_index a2.slots P) (slice_index a2.slots P) (slice_index a2.slots Q) in
      let cc2 : Carries u2.arrays c either = chosen_carries u2.arrays (slice_index a2.slots P) (slice_index a2.slots Q) (part_of_value f v) (part_of_value g v) cp cq in
      let long2 = long (place + 6 + 6) w2 stuck u2 a2 size in
      chain r 9 24 _ _ u2 (choose_in (place + 6 + 6) w2 stuck u2 a2 size P P Q C w3 stuck (stands_front code (place + 6 + 6) o3 (o4 ++ (o5 ++ o6)) r2) (omega (arith, low)) (omega (arith, high)) can.one_inside can.one_inside can.two_inside can.both_inside (side_high y both.wire both.spare)
      (λ n k. side_holds y frame u2.arrays n a2.slots w2 stuck both.wire both.spare c either k a2.here.frame_is.there long2 can.both_wire (inside (place + 6 + 6) w2 stuck u2 a2 size C can.both_inside) cc2 a2.holds)) (λ u3 h3.
      let a3 = h3.at in
      let long3 = long (place + 6 + 6 + 9) w3 stuck u3 a3 size in
      let cc3 : Carries u3.arrays c either = carries_grow frame a2.slots u2.arrays u3.arrays h3.keeps a2.here.frame_is.there long2 c either cc2 in
      chain r 3 21 _ _ u3 (set_temporary (place + 6 + 6 + 9) w3 stuck u3 a3 size 3 text (omega arith) (stands_front code (place + 6 + 6 + 9) o4 (o5 ++ o6) r3) (omega (arith, low)) (omega (arith, high))) (λ u4 h4.
      let a4 = h4.at in
      let long4 = long (place + 6 + 6 + 9 + 3) w3 stuck u4 a4 size in
      let d4 : slice_index a4.slots D ≡ text = here_is (place + 6 + 6 + 9 + 3) w3 stuck a3.slots D text u3.arrays u4 h4 (inside (place + 6 + 6 + 9) w3 stuck u3 a3 size D d_in) in
      let cc4 : Carries u4.arrays c either = carries_grow frame a3.slots u3.arrays u4.arrays h4.keeps a3.here.frame_is.there long3 c either cc3 in
      chain r 12 9 _ _ u4 (make_trail (place + 6 + 6 + 9 + 3) w3 stuck u4 a4 size (stands_front code (place + 6 + 6 + 9 + 3) o5 o6 r4) (omega (arith, low)) (omega (arith, high))) (λ u5 g5.
      let h5 = g5.2 in
      let a5 = h5.at in
      let long5 = long (place + 6 + 6 + 9 + 3 + 12) w3 stuck u5 a5 size in
      let cell : CellArray u5.arrays g5.0 text 0 0 0 = (g5.1.0, g5.1.1 ∙ ap (λ z. Some (z ∷ 0 ∷ 0 ∷ 0 ∷ [])) d4) in
      let cc5 : Carries u5.arrays c either = carries_grow frame a4.slots u4.arrays u5.arrays h5.keeps a4.here.frame_is.there long4 c either cc4 in
      let c5 : slice_index a5.slots C ≡ c =
      there_is (place + 6 + 6 + 9 + 3 + 12) w3 stuck a4.slots D g5.0 u4.arrays u5 h5 C can.both_apart
      ∙ there_is (place + 6 + 6 + 9 + 3) w3 stuck a3.slots D text u3.arrays u4 h4 C can.both_apart
      ∙ here_is (place + 6 + 6 + 9) w3 stuck a2.slots C c u2.arrays u3 h3 (inside (place + 6 + 6) w2 stuck u2 a2 size C can.both_inside) in
      let d5 : slice_index a5.slots D ≡ g5.0 = here_is (place + 6 + 6 + 9 + 3 + 12) w3 stuck a4.slots D g5.0 u4.arrays u5 h5 (inside (place + 6 + 6 + 9 + 3) w3 stuck u4 a4 size D d_in) in
      let z5 = a5.holds.zero in
      let mark : Marked u5.arrays (chosen_word (slice_index a5.slots C) (slice_index a5.slots zero_slot) (slice_index a5.slots D)) (stuck_at text either) =
      subst (λ z. Marked u5.arrays z (stuck_at text either)) (λ i. chosen_word (sym c5 i) (sym z5 i) (sym d5 i)) (chosen_mark u5.arrays c g5.0 text either cc5 cell) in
      becomes r 9 _ (There (place + 6 + 6 + 9 + 3 + 12 + 9) w3 (marking box (stuck_at text either) stuck)) u5 (λ t h. h.at)
      (choose_in (place + 6 + 6 + 9 + 3 + 12) w3 stuck u5 a5 size C zero_slot D S w3 (marking box (stuck_at text either) stuck) r5 (omega (arith, low)) (omega (arith, high)) can.both_inside z_in d_in s_in (omega arith)
      (λ n k. mark_holds y frame u5.arrays n a5.slots w3 stuck box _ (stuck_at text either) k a5.here.frame_is.there long5 is_box (inside (place + 6 + 6 + 9 + 3 + 12) w3 stuck u5 a5 size S s_in) mark a5.holds)))))))
