-- The boxes of a block, one after the other.
use Rattle.std.proofs.Common.{◌≡◌, ℕ, suc, ◌+◌, ◌*◌, ◌≤◌, Bool, true, false, List, [], ◌∷◌, length, Option, Some, None, refl, sym, ap, ◌∙◌, subst, inl, inr, arith}
use Rattle.std.specs.Prelude.{if◌then◌else◌, ◌&&◌, is_some}
use Rattle.std.proofs.lemmas.Bool.{true≢false, ne_eqb}
use Rattle.um_word.specs.State.{State}
use Rattle.codex_values.specs.Value.{Value}
use Rattle.code_templates.specs.Lines.{StandsAt}
use Rattle.code_templates.proofs.Straight.{stands_front}
use Rattle.lower_emit.specs.inner.Stretches.{Range, Stretch}
use Rattle.lower_emit.specs.inner.Building.{slot_value}
use Rattle.lower_emit.specs.Stands.{TextTrail}
use Rattle.lower_emit.specs.Layouts.{Layout, input_slot, SideSlot}
use Rattle.lower_emit.specs.inner.Frames.{AtPlace, carry_all, carrying, Carried, CanSend, AreWires, guard_cycles}
use Rattle.lower_emit.specs.Boxes.{guards_code, Sent, calling_code, Box, Sends, Sorts, Uses, body_length, input_slots, box_length, box_code}
use Rattle.lower_emit.specs.inner.Ends.{exit_value}
use Rattle.lower_emit.specs.KnownOutcomes.{Call, Known}
use Rattle.lower_emit.specs.inner.Firing.{call_of, answer_to, answered_wires, answered_marks, in_value, value_or_unit, fired_wires, fired_marks, box_cycles, IsAmong, AreDifferent, AreGoodOuts, IsPlaced}
use Rattle.lower_emit.proofs.Boxes.{guards_law, send_law}
use Rattle.lower_emit.proofs.SortBoxes.{sort_box_law}

both : (b c : Bool) → (b && c) ≡ true → (b ≡ true) × (c ≡ true)
both true c e = (refl, e)
both false c e = absurd (true≢false (sym e))

known : (o : Option Value) → is_some o ≡ true → o ≡ Some (value_or_unit o)
known None e = absurd (true≢false (sym e))
known (Some v) e = refl

-- where all wired inputs carry values, each of them does
carried : (wires : ℕ → Option Value) (inputs : List ℕ) (o : Option ℕ) → carry_all wires inputs ≡ true → IsAmong inputs o → Carried wires o (in_value wires o)
carried wires inputs None e h = absurd h
carried wires [] (Some k) e h = absurd h
carried wires (q ∷ inputs) (Some k) e (inl same) = let b = both (is_some (wires q)) (carry_all wires inputs) e in known (wires k) (ap (λ j. is_some (wires j)) (sym same) ∙ b.0)
carried wires (q ∷ inputs) (Some k) e (inr h) = let b = both (is_some (wires q)) (carry_all wires inputs) e in carried wires inputs (Some k) b.1 h

-- and goes on where another wire gets a value
still : (input side : Option ℕ) (v : Value) (w : Option Value) (wires : ℕ → Option Value) → AreDifferent input side → Carried wires input v → Carried (carrying side w wires) input v
still None side v w wires apart c = absurd c
still (Some k) None v w wires apart c = c
still (Some k) (Some q) v w wires apart c = ap (λ b. if b then w else wires k) (ne_eqb k q apart) ∙ c

can_send : (y : Layout) (inputs : List ℕ) (north west : Option ℕ) (vn vw : Value) (outs : List Sent) (wires : ℕ → Option Value) →
    (IsAmong inputs north → Carried wires north vn) → (IsAmong inputs west → Carried wires west vw) → AreGoodOuts y inputs north west outs → CanSend y north west vn vw wires outs
can_send y inputs north west vn vw [] wires n w are = tt
can_send y inputs north west vn vw (o ∷ outs) wires n w are =
    let one = are.0 in (
      record {
        is_wire = one.is_wire;
        inside = one.inside;
        room = one.room;
        has_north = λ h. n (one.has_north h);
        has_west = λ h. w (one.has_west h);
      },
      can_send y inputs north west vn vw outs (carrying o.wire (Some (slot_value o.value vn vw)) wires)
          (λ h. still north o.wire vn (Some (slot_value o.value vn vw)) wires one.apart_north (n h)) (λ h. still west o.wire vw (Some (slot_value o.value vn vw)) wires one.apart_west (w h)) are.1,
    )

-- the guards take no more cycles than they have words, nor does a box
pub guards_cycles : (wires : ℕ → Option Value) (ks : List ℕ) → guard_cycles wires ks ≤ 6 * length ks
guards_cycles wires [] = omega arith
guards_cycles wires (k ∷ ks) = one (guards_cycles wires ks) (is_some (wires k))
  where
    one : guard_cycles wires ks ≤ 6 * length ks → (b : Bool) → 6 + (if b then guard_cycles wires ks else 0) ≤ 6 * suc (length ks)
    one again true = omega (arith, again)
    one again false = omega arith

pub cycles_within : (y : Layout) (box : Box) (wires : ℕ → Option Value) → box_cycles y box wires ≤ box_length y box
cycles_within y box wires = one (guards_cycles wires (input_slots box)) (carry_all wires (input_slots box))
  where
    one : guard_cycles wires (input_slots box) ≤ 6 * length (input_slots box) → (b : Bool) → guard_cycles wires (input_slots box) + (if b then body_length y box else 0) ≤ 6 * length (input_slots box) + body_length y box
    one guards true = omega (arith, guards)
    one guards false = omega (arith, guards)

called : (call : Call) → Some call ≡ None → ⊥
called call e = cc

module _ (r : Range) (table frame : ℕ) (code : List ℕ) (y : Layout) (s : State) where
  abbrev At_ : ℕ → (ℕ → Option Value) → (ℕ → Option TextTrail) → State → Type 0
  At_ place wires stuck t = AtPlace r table frame code y place wires stuck s t

  -- a `use` that isn't enabled
  idle_law : (known : Known) (inputs : List ℕ) (north west : Option ℕ) (callee size own : ℕ) (side : SideSlot) (number text place : ℕ) (wires : ℕ → Option Value) (stuck : ℕ → Option TextTrail) (t : State) → At_ place wires stuck t →
      StandsAt code place (box_code y (Uses inputs north west callee size own side number text) place) → r.place ≤ place → place + 6 * length inputs + 49 ≤ r.place + r.size → AreWires y inputs →
      (b : Bool) → carry_all wires inputs ≡ b → call_of (Uses inputs north west callee size own side number text) wires ≡ None →
      Stretch r (box_cycles y (Uses inputs north west callee size own side number text) wires)
      (At_ (place + 6 * length inputs + 49) (fired_wires known (Uses inputs north west callee size own side number text) wires) (fired_marks known (Uses inputs north west callee size own side number text) wires stuck)) t
  idle_law known inputs north west callee size own side number text place wires stuck t a stand low high are true e none =
      let call : Call = record { callee = callee; inputs = record { north = exit_value wires north; west = exit_value wires west } } in
      absurd (called call (subst (λ b. (if b then Some call else None) ≡ None) e none))
  idle_law known inputs north west callee size own side number text place wires stuck t a stand low high are false e none =
      let end = place + 6 * length inputs + 49 in
      let guards = guards_law r table frame code y stuck s wires inputs place end t a
      (stands_front code place (guards_code inputs place end) (calling_code y (input_slot north) (input_slot west) callee size own side number text (place + 6 * length inputs)) stand) low (omega (arith, high)) are (omega arith) in
      let n : guard_cycles wires inputs + 0 ≡ guard_cycles wires inputs = omega arith in
      subst (λ o. Stretch r (box_cycles y (Uses inputs north west callee size own side number text) wires) (At_ end (answered_wires side (answer_to known o) wires) (answered_marks number text (answer_to known o) stuck)) t) (sym none)
      (subst (λ b. Stretch r (guard_cycles wires inputs + (if b then 49 else 0)) (At_ end wires stuck) t) (sym e)
      (subst (λ c. Stretch r c (At_ end wires stuck) t) (sym n)
      (subst (λ b. Stretch r (guard_cycles wires inputs) (At_ (if b then place + 6 * length inputs else end) wires stuck) t) e guards)))

  -- a box that calls nothing
  pub box_law : (known : Known) (box : Box) (place : ℕ) (wires : ℕ → Option Value) (stuck : ℕ → Option TextTrail) (t : State) → At_ place wires stuck t → StandsAt code place (box_code y box place) →
      r.place ≤ place → place + box_length y box ≤ r.place + r.size → IsPlaced y box → call_of box wires ≡ None →
      Stretch r (box_cycles y box wires) (At_ (place + 6 * length (input_slots box) + body_length y box) (fired_wires known box wires) (fired_marks known box wires stuck)) t
  box_law known (Sends inputs north west outs) place wires stuck t a stand low high placed none =
      let vn = in_value wires north in
      let vw = in_value wires west in
      send_law r table frame code y stuck s north west vn vw placed.0 placed.1 inputs outs place wires t a stand low (omega (arith, high)) placed.2
      (λ e. can_send y inputs north west vn vw outs wires (carried wires inputs north e) (carried wires inputs west e) placed.3)
  box_law known (Sorts inputs north west x f g one two both number text) place wires stuck t a stand low high placed none =
      sort_box_law r table frame code y s north west (in_value wires north) (in_value wires west) placed.0 placed.1 x f g one two both number text wires stuck placed.3 placed.4 inputs place t a stand low (omega (arith, high)) placed.2
      (λ e. ((λ h. carried wires inputs north e (placed.5 h)), (λ h. carried wires inputs west e (placed.6 h))))
  box_law known (Uses inputs north west callee size own side number text) place wires stuck t a stand low high placed none =
      idle_law known inputs north west callee size own side number text place wires stuck t a stand low (omega (arith, high)) placed.2 (carry_all wires inputs) refl none
