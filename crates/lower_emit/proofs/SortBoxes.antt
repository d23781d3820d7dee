-- A whole `case` or `split` box.
use Rattle.std.proofs.Common.{◌≡◌, ℕ, ◌+◌, ◌*◌, ◌≤◌, Bool, true, false, List, length, Option, refl, ◌∙◌, subst, arith, length-append}
use Rattle.std.specs.Prelude.{if◌then◌else◌}
use Rattle.um_word.specs.declared.op.Op.{Op}
use Rattle.um_word.specs.State.{State}
use Rattle.codex_values.specs.Value.{Value}
use Rattle.two_d.specs.Trees.{Tree}
use Rattle.code_templates.specs.Lines.{StandsAt}
use Rattle.code_templates.proofs.Straight.{stands_front, stands_back}
use Rattle.lower_emit.specs.inner.Stretches.{Range, Stretch}
use Rattle.two_d.specs.Good.{NamesN, NamesW}
use Rattle.lower_emit.specs.inner.Building.{slot_value}
use Rattle.lower_emit.specs.Expressions.{past, expression_slot, code_of}
use Rattle.lower_emit.specs.Stands.{TextTrail}
use Rattle.lower_emit.specs.Layouts.{Layout, first_node, input_slot, SideSlot}
use Rattle.lower_emit.specs.inner.Frames.{AtPlace, IsWireSlot, carry_all, guard_cycles, AreWires, Carried}
use Rattle.lower_emit.specs.Boxes.{guards_code, sort_code, sorting_code, sort_box_code}
use Rattle.lower_emit.specs.inner.Sorts.{part_of_value, or_else, stuck_at, marking, sorted, CanSort}
use Rattle.lower_emit.proofs.Stretching.{stays, chain}
use Rattle.lower_emit.proofs.Builds.{all, past_ge}
use Rattle.lower_emit.proofs.Boxes.{same_holds, guards_law, guards_length, input_low, input_stands}
use Rattle.lower_emit.proofs.Sorting.{sort_law}

module _ (r : Range) (table frame : ℕ) (code : List ℕ) (y : Layout) (s : State) (north west : Option ℕ) (vn vw : Value) (is_north : IsWireSlot y north) (is_west : IsWireSlot y west)
    (x : Tree) (f g : ℕ) (one two both : SideSlot) (box text : ℕ) (wires : ℕ → Option Value) (stuck : ℕ → Option TextTrail)
    (room : past x (first_node y) ≤ y.size) (can : CanSort y (expression_slot x (input_slot north) (input_slot west) (first_node y)) f g one two both box) where
  abbrev v : Value
  v = slot_value x vn vw

  abbrev wires_after : ℕ → Option Value
  wires_after = sorted v f g one two both wires

  abbrev stuck_after : ℕ → Option TextTrail
  stuck_after = marking box (stuck_at text (or_else (part_of_value f v) (part_of_value g v))) stuck

  abbrev body : List Op
  body = sorting_code y (input_slot north) (input_slot west) x f g one two both box text

  -- an enabled box
  sorting_law : (place : ℕ) (t : State) (a : AtPlace r table frame code y place wires stuck s t) → StandsAt code place body → r.place ≤ place → place + length body ≤ r.place + r.size →
      (NamesN x → Carried wires north vn) → (NamesW x → Carried wires west vw) →
      Stretch r (length body) (AtPlace r table frame code y (place + length body) wires_after stuck_after s) t
  sorting_law place t a stand low high has_north has_west =
      let n = input_slot north in
      let w = input_slot west in
      let from = expression_slot x n w (first_node y) in
      let xs = code_of x n w (first_node y) in
      let ys = sort_code y from f g one two both box text in
      let size = length-append xs ys in
      let long = a.holds.long in
      let above = past_ge x (first_node y) in
      let n_low = input_low r table frame code y stuck s north west vn vw is_north is_west north is_north in
      let w_low = input_low r table frame code y stuck s north west vn vw is_north is_west west is_west in
      let c : length xs + 45 ≡ length body = omega (arith, size) in
      let p : place + length xs + 6 + 6 + 9 + 3 + 12 + 9 ≡ place + length body = omega (arith, size) in
      subst (λ k. Stretch r k (AtPlace r table frame code y (place + length body) wires_after stuck_after s) t) c
      (subst (λ q. Stretch r (length xs + 45) (AtPlace r table frame code y q wires_after stuck_after s) t) p
      (chain r (length xs) 45 _ (AtPlace r table frame code y (place + length xs + 6 + 6 + 9 + 3 + 12 + 9) wires_after stuck_after s) t
      (all r table frame code n w vn vw x place (first_node y) a.slots t a.here (stands_front code place xs ys stand) low (omega (arith, high, size))
      (omega arith) (omega (arith, n_low)) (omega (arith, w_low)) (omega (arith, long, room)) (omega (arith, long, room, above)) a.holds.zero
      (λ h. input_stands r table frame code y stuck s north west vn vw is_north is_west north is_north vn wires place t a (has_north h))
      (λ h. input_stands r table frame code y stuck s north west vn vw is_north is_west west is_west vw wires place t a (has_west h)))
      (λ u b.
      let k = b.grown in
      let at : AtPlace r table frame code y (place + length xs) wires stuck s u = record {
        slots = k.now;
        here = k.here;
        holds = same_holds y frame t.arrays u.arrays a.slots k.now wires stuck k.keeps a.here.frame_is.there (omega (arith, long, room, above)) k.long (λ j lt. k.low j (omega (arith, lt))) a.holds;
        keeps = λ q ws z ne e. k.keeps q ws z ne (a.keeps q ws z ne e);
        cheap = let x = k.cheap in let z = a.cheap in omega (arith, x, z);
        home = λ j lt. k.low j (omega (arith, lt)) ∙ a.home j lt;
      } in
      sort_law r table frame code y s from f g one two both box text (place + length xs) wires stuck v u at (stands_back code place xs ys stand) (omega (arith, low)) (omega (arith, high, size)) can b.stands)))

  module _ (inputs : List ℕ) (place : ℕ) where
    abbrev end : ℕ
    end = place + 6 * length inputs + length body

    by_enabled : (b : Bool) (t : State) → Stretch r (guard_cycles wires inputs) (AtPlace r table frame code y (if b then place + 6 * length inputs else end) wires stuck s) t →
        (b ≡ true → (u : State) → AtPlace r table frame code y (place + 6 * length inputs) wires stuck s u → Stretch r (length body) (AtPlace r table frame code y end wires_after stuck_after s) u) →
        Stretch r (guard_cycles wires inputs + (if b then length body else 0)) (AtPlace r table frame code y end (if b then wires_after else wires) (if b then stuck_after else stuck) s) t
    by_enabled true t h go = chain r (guard_cycles wires inputs) (length body) _ _ t h (go refl)
    by_enabled false t h go = chain r (guard_cycles wires inputs) 0 _ _ t h (λ u a. stays r (AtPlace r table frame code y end wires stuck s) u a)

    -- A `case` or `split` box: where all its wired inputs carry a value, its sides carry the parts or it is stuck; else nothing changes.
    pub sort_box_law : (t : State) → AtPlace r table frame code y place wires stuck s t → StandsAt code place (sort_box_code y inputs (input_slot north) (input_slot west) x f g one two both box text place) →
        r.place ≤ place → end ≤ r.place + r.size → AreWires y inputs → (carry_all wires inputs ≡ true → (NamesN x → Carried wires north vn) × (NamesW x → Carried wires west vw)) →
        Stretch r (guard_cycles wires inputs + (if carry_all wires inputs then length body else 0))
        (AtPlace r table frame code y end (if carry_all wires inputs then wires_after else wires) (if carry_all wires inputs then stuck_after else stuck) s) t
    sort_box_law t a stand low high are has =
        let long = guards_length inputs place end in
        by_enabled (carry_all wires inputs) t
        (guards_law r table frame code y stuck s wires inputs place end t a (stands_front code place (guards_code inputs place end) body stand) low (omega (arith, high)) are (omega arith))
        (λ e u b. sorting_law (place + 6 * length inputs) u b
        (subst (λ n. StandsAt code (place + n) body) long (stands_back code place (guards_code inputs place end) body stand)) (omega (arith, low)) (omega (arith, high)) (has e).0 (has e).1)
