-- No two wires that were read have one end: the later would have met the earlier there.
use Rattle.std.specs.Prelude.{◌≡◌, ◌+◌, ◌-◌, ◌<◌, ℕ, zero, suc, List, [], ◌∷◌, length, take, slice_get, Some, Ok}
use Rattle.std.proofs.Common.{arith, refl, sym, ap, subst, ◌∙◌, inl, inr, get_or}
use Rattle.std.proofs.lemmas.Option.{slice_get_within, slice_get-get_or, get_or_from_slice_get, same_Some}
use Rattle.umix_base.specs.declared.place.Place.{Place}
use Rattle.two_d.specs.Places.{at, Before, Rect}
use Rattle.two_d.specs.Cells.{cell}
use Rattle.two_d.specs.Faults.{stray}
use Rattle.two_d.specs.Frames.{exits_of}
use Rattle.two_d.specs.Places.{IsFirstPlace}
use Rattle.two_d.specs.Reading.{The, RefusedAt, each, each_after}
use Rattle.two_d.specs.Ports.{Drawing, IsNPort, IsWPort, IsEPort}
use Rattle.two_d.specs.Wires.{Position, Direction, Axis, horizontal, vertical, axis_of, line, south, east, ahead, next, IsStart, IsEnd, EndsAt, IsTaker, GoesOn, ends, turns, stands, keeps, Trace, IsWay}
use Rattle.two_d.specs.Clean.{ports_at, AreStarts, wire_at, IsStray, WireForm, IsWire, wires_of}
use Rattle.two_d.specs.declared.module.To.{To}
use Rattle.two_d.specs.declared.module.To.TheVariants.{N, W, Exit}
use Rattle.two_d.proofs.Equal.{equal_places}
use Rattle.two_d.proofs.FiguresApart.{take_place_at}
use Rattle.two_d.proofs.InOrder.{then_ok, each_gave, the_has}
use Rattle.two_d.proofs.OneWire.{IsWellDrawn, ToEast, to_is}
use Rattle.two_d.proofs.ReadingOrder.{Before-irreflexive}
use Rattle.two_d.proofs.SomePorts.{n_port_one, w_port_one}
use Rattle.two_d.proofs.SomeStarts.{StartsEast, start_is, south_cell, east_cell, exit_cell}
use Rattle.two_d.proofs.SomeSteps.{EndsEast, end_is}
use Rattle.two_d.proofs.SomeWires.{IsReadTrace, traces_gave, there_at}

-- the wires that were read, with their traces
pub record AreReadWires (m : Drawing) (wires : List WireForm) : Type 0 where
  pub starts : List Position
  pub traces : List Trace
  pub ports : (i : ℕ) (b : Rect) → slice_get m.boxes i ≡ Some b → ports_at m b (Ok tt)
  pub are : AreStarts m starts
  pub each_trace : (k : ℕ) (trace : Trace) → slice_get traces k ≡ Some trace → (start : Position) × (slice_get starts k ≡ Some start) × IsReadTrace m start (take k traces) trace
  pub each_wire : (k : ℕ) (wire : WireForm) → slice_get wires k ≡ Some wire → (trace : Trace) × (slice_get traces k ≡ Some trace) × IsWire m trace wire

-- the ports of each box were read
each_box_read : (m : Drawing) (us : List (Unit {0})) → each (ports_at m) m.boxes (Ok us) → (i : ℕ) (b : Rect) → slice_get m.boxes i ≡ Some b → ports_at m b (Ok tt)
each_box_read m us read i b at_b =
    let (as_boxes, each_port) = each_gave (ports_at m) m.boxes us read in
    let lt = slice_get_within m.boxes i b at_b in
    let (u, at_u) = there_at us i (omega arith) in
    let (c, at_c, passed) = each_port i u at_u in
    by c at_c passed
  where
    by : (c : Rect) → slice_get m.boxes i ≡ Some c → ports_at m c (Ok tt) → ports_at m b (Ok tt)
    by c at_c passed = let same : c ≡ b = same_Some c b (sym at_c ∙ at_b) in subst (λ r. ports_at m r (Ok tt)) same passed

pub wires_gave : (m : Drawing) (wires : List WireForm) → wires_of m (Ok wires) → AreReadWires m wires
wires_gave m wires done =
    let (us, ports, more) = then_ok (each (ports_at m) m.boxes) _ wires done in
    let (starts, read, rest) = then_ok (The (AreStarts m)) _ wires more in
    let are = the_has (AreStarts m) starts read in
    let (traces, told, others) = then_ok (each_after (wire_at m) [] starts) _ wires rest in
    let (u, no_stray, last) = then_ok (RefusedAt stray (IsFirstPlace (IsStray m traces))) (λ _. each (λ trace. The (IsWire m trace)) traces) wires others in
    let (long, each_trace) = traces_gave m starts are traces told in
    let (as_many, each_wire) = each_gave (λ trace. The (IsWire m trace)) traces wires last in
    record {
      starts = starts;
      traces = traces;
      ports = each_box_read m us ports;
      are = are;
      each_trace = each_trace;
      each_wire = λ k wire at.
          let (trace, at_trace, wired) = each_wire k wire at in
          (trace, at_trace, the_has (IsWire m trace) wire wired);
    }

module _ (m : Drawing) (well : IsWellDrawn m) where
  -- no cell of a wire is a side of a box
  no_side_end : (s : Position) → IsEnd m s → cell m.grid s.place ≡ 33 → ⊥
  no_side_end s (end, e) side = elim (end_is m s end e) [
    | inl (to, (i, b, is, port)) ↦ (let here : cell m.grid s.place ≡ 118 = port.0.1 in omega arith)
    | inr (to, there) ↦ elim there [
      | inl (i, b, is, port) ↦ (let here : cell m.grid s.place ≡ 62 = port.0.1 in omega arith)
      | inr exit ↦ (let here = exit_cell m s.place exit in omega arith)
    ]
  ]

  no_line : (a : Axis) → line a ≡ 33 → ⊥
  no_line horizontal e = omega arith
  no_line vertical e = omega arith

  no_side : (s : Position) → IsTaker m s → cell m.grid s.place ≡ 33 → ⊥
  no_side s (inl (inl holds)) side = no_line (axis_of s.to) (sym holds.1 ∙ side)
  no_side s (inl (inr holds)) side = let here : cell m.grid s.place ≡ 35 = holds.1 in omega arith
  no_side s (inr (inl holds)) side = let here : cell m.grid s.place ≡ 43 = holds.1 in omega arith
  no_side s (inr (inr end)) side = no_side_end s end side

  no_side_start : (s : Position) → IsStart m s → cell m.grid s.place ≡ 33 → ⊥
  no_side_start s (o, starts) side = elim (start_is m s o starts) [
    | inl there ↦ (let e = south_cell m s.place there.1 in omega arith)
    | inr there ↦ (let e = east_cell m s.place there.1 in omega arith)
  ]

  no_side_way : (start : Position) → IsStart m start → (way : Trace) → IsWay m start way → (k : ℕ) (s : Position) → slice_get way k ≡ Some s → cell m.grid s.place ≡ 33 → ⊥
  no_side_way start starts way is zero s here side =
      let e : start ≡ s = same_Some start s (sym is.first ∙ here) in
      no_side_start start starts (ap (λ (z : Position). cell m.grid z.place) e ∙ side)
  no_side_way start starts way is (suc k) s here side =
      let lt = slice_get_within way (suc k) s here in
      let before = slice_get-get_or way k start (omega arith) in
      let n : suc k ≡ k + 1 = omega arith in
      no_side s (is.steps k (get_or way k start) s before (subst (λ j. slice_get way j ≡ Some s) n here)).1 side

  next_is : (q l : Position) (xs : List Position) → GoesOn m q xs → xs ≡ l ∷ [] → (d : Direction) × (next q d ≡ l)
  next_is q l _ (ends e) same = absurd (cc)
  next_is q l _ (turns d turn to) same = (d, cc)
  next_is q l _ (stands turn none) same = absurd (cc)
  next_is q l _ (keeps no_end no_turn) same = (q.to, cc)

  -- a cell to which a wire comes from the west has a box's side before it only where the wire starts there
  no_box_before : (start : Position) → IsStart m start → (way : Trace) → IsWay m start way → (k : ℕ) (l : Position) → slice_get way (suc k) ≡ Some l → l.to ≡ east → (i : ℕ) (b : Rect) → slice_get m.boxes i ≡ Some b → IsEPort m b l.place → ⊥
  no_box_before start starts way is k l here to i b at_b port =
      let lt = slice_get_within way (suc k) l here in
      let before = slice_get-get_or way k start (omega arith) in
      let n : suc k ≡ k + 1 = omega arith in
      let q = get_or way k start in
      let step = is.steps k q l before (subst (λ j. slice_get way j ≡ Some l) n here) in
      let (d, same) = next_is q l (l ∷ []) step.0 refl in
      let d_is : d ≡ east = ap (λ (z : Position). z.to) same ∙ to in
      let place : ahead east q.place ≡ l.place = ap (λ e. ahead e q.place) (sym d_is) ∙ ap (λ (z : Position). z.place) same in
      let row : q.place.row ≡ l.place.row = ap (λ (z : Place). z.row) place in
      let next_col : q.place.col + 1 ≡ l.place.col = ap (λ (z : Place). z.col) place in
      let after = port.1 in
      let col : q.place.col ≡ b.right = omega arith in
      let (p, box) = well.boxes.boxes i b at_b in
      let side : cell m.grid (at l.place.row b.right) ≡ 33 = box.right l.place.row port.2.0 port.2.1 in
      let there : q.place ≡ at l.place.row b.right = equal_places q.place (at l.place.row b.right) row col in
      no_side_way start starts way is k q before (ap (cell m.grid) there ∙ side)

  module _ (wires : List WireForm) (read : AreReadWires m wires) where
    same_position : (s t : Position) → s.place ≡ t.place → s.to ≡ t.to → s ≡ t
    same_position s t place to = λ i. record { place = place i; to = to i }

    -- an end is at one position
    one_position : (s t : Position) (end : To) → EndsAt m s end → EndsAt m t end → s ≡ t
    one_position s t end one other = elim (to_is m s end one) [
      | inl (to, (i, b, is, at_b, port)) ↦ elim (to_is m t end other) [
        | inl (same, (j, c, also, at_c, that)) ↦
            (let e : N i ≡ N j = sym is ∙ also in
            let index : i ≡ j = cc in
            let box : b ≡ c = same_Some b c (sym at_b ∙ (ap (slice_get m.boxes) index ∙ at_c)) in
            same_position s t (n_port_one m c (read.ports j c at_c) s.place t.place (subst (λ r. IsNPort m r s.place) box port) that) (to ∙ sym same))
        | inr (apart, there) ↦ elim there [
          | inl (j, c, also, at_c, that) ↦ absurd (let e : N i ≡ W j = sym is ∙ also in cc)
          | inr (j, also, at_j, right) ↦ absurd (let e : N i ≡ Exit j = sym is ∙ also in cc)
        ]
      ]
      | inr (to, there) ↦ elim (to_is m t end other) [
        | inl (apart, (j, c, also, at_c, that)) ↦ elim there [
          | inl (i, b, is, at_b, port) ↦ absurd (let e : W i ≡ N j = sym is ∙ also in cc)
          | inr (i, is, at_i, right) ↦ absurd (let e : Exit i ≡ N j = sym is ∙ also in cc)
        ]
        | inr (same, those) ↦ same_position s t (both_east s.place t.place end there those) (to ∙ sym same)
      ]
    ]
      where
        both_east : (p q : Place) (end : To) → ToEast m p end → ToEast m q end → p ≡ q
        both_east p q end (inl (i, b, is, at_b, port)) (inl (j, c, also, at_c, that)) =
            let e : W i ≡ W j = sym is ∙ also in
            let index : i ≡ j = cc in
            let box : b ≡ c = same_Some b c (sym at_b ∙ (ap (slice_get m.boxes) index ∙ at_c)) in
            w_port_one m c (read.ports j c at_c) p q (subst (λ r. IsWPort m r p) box port) that
        both_east p q end (inl (i, b, is, at_b, port)) (inr (j, also, at_j, right)) = absurd (let e : W i ≡ Exit j = sym is ∙ also in cc)
        both_east p q end (inr (i, is, at_i, right)) (inl (j, c, also, at_c, that)) = absurd (let e : Exit i ≡ W j = sym is ∙ also in cc)
        both_east p q end (inr (i, is, at_i, right)) (inr (j, also, at_j, other)) =
            let e : Exit i ≡ Exit j = sym is ∙ also in
            let index : i ≡ j = cc in
            let row : p.row ≡ q.row = same_Some p.row q.row (sym at_i ∙ (ap (slice_get (exits_of m.grid m.frame)) index ∙ at_j)) in
            equal_places p q row (right ∙ sym other)

    -- the later of two wires with one end isn't a cell that starts and ends at once
    no_start_end : (start : Position) (trace : Trace) (earlier : List Trace) → IsReadTrace m start earlier trace → (before : Position) → Before start.place before.place → (last other : Position) (end : To)
        → slice_get trace (length trace - 1) ≡ Some last → last ≡ other → before ≡ other → IsStart m before → EndsAt m other end → ⊥
    no_start_end start trace earlier read before first last other end at_last same is starts goal = elim (start_is m before starts.0 starts.1) [
      | inl (to, there) ↦ elim (end_is m other end goal) [
        | inl (also, (i, b, at_b, port)) ↦ (let a = south_cell m before.place there in let b : cell m.grid other.place ≡ 118 = port.0.1 in let c : cell m.grid before.place ≡ cell m.grid other.place = ap (λ (z : Position). cell m.grid z.place) is in omega arith)
        | inr (also, those) ↦ (let e : south ≡ east = sym to ∙ (ap (λ (z : Position). z.to) is ∙ also) in cc)
      ]
      | inr (to, there) ↦ elim (end_is m other end goal) [
        | inl (also, those) ↦ (let e : east ≡ south = sym to ∙ (ap (λ (z : Position). z.to) is ∙ also) in cc)
        | inr (also, those) ↦ at_east_end to there those
      ]
    ]
      where
        by_last : (i : ℕ) (b : Rect) → slice_get m.boxes i ≡ Some b → IsEPort m b before.place → before.to ≡ east → (k : ℕ) → slice_get trace k ≡ Some last → ⊥
        by_last i b at_b port to zero here =
            let e : start ≡ before = same_Some start last (sym read.is.way.first ∙ here) ∙ (same ∙ sym is) in
            Before-irreflexive before.place (subst (λ (z : Position). Before z.place before.place) e first)
        by_last i b at_b port to (suc k) here =
            let e : before ≡ last = is ∙ sym same in
            no_box_before start read.starts trace read.is.way k last here (ap (λ (z : Position). z.to) (sym e) ∙ to) i b at_b (subst (λ (z : Position). IsEPort m b z.place) e port)

        at_east_end : before.to ≡ east → StartsEast m before.place → EndsEast m other.place → ⊥
        at_east_end to there (inl (i, b, at_b, port)) = let a = east_cell m before.place there in let b : cell m.grid other.place ≡ 62 = port.0.1 in let c : cell m.grid before.place ≡ cell m.grid other.place = ap (λ (z : Position). cell m.grid z.place) is in omega arith
        at_east_end to (inl entry) (inr exit) =
            let left = entry.0 in
            let right = exit.0 in
            let c : before.place.col ≡ other.place.col = ap (λ (z : Position). z.place.col) is in
            let wide = well.wide in
            omega arith
        at_east_end to (inr (i, b, at_b, port)) (inr exit) = by_last i b at_b port to (length trace - 1) at_last

    pub ends_apart : (k j : ℕ) (w v : WireForm) → k < j → slice_get wires k ≡ Some w → slice_get wires j ≡ Some v → w.to ≡ v.to → ⊥
    ends_apart k j w v less at_w at_v same_end =
        let (trace_k, at_k, one) = read.each_wire k w at_w in
        let (trace_j, at_j, other) = read.each_wire j v at_v in
        let (start_k, begins_k, read_k) = read.each_trace k trace_k at_k in
        let (start_j, begins_j, read_j) = read.each_trace j trace_j at_j in
        let same : one.last ≡ other.last = one_position one.last other.last v.to (subst (EndsAt m one.last) same_end one.ends) other.ends in
        let ordered = read.are.in_order k j start_k less (slice_get_within read.starts j start_j begins_j) in
        let first : Before start_k.place start_j.place = subst (λ (z : Position). Before z.place start_j.place) (get_or_from_slice_get read.starts k start_k start_k begins_k)
        (subst (λ (z : Position). Before (get_or read.starts k start_k).place z.place) (get_or_from_slice_get read.starts j start_j start_k begins_j) ordered) in
        by trace_k at_k start_k read_k trace_j start_j read_j one.last other.last one.is_last same first other.ends (length trace_j - 1) other.is_last
      where
        by : (trace_k : Trace) → slice_get read.traces k ≡ Some trace_k → (start_k : Position) → IsReadTrace m start_k (take k read.traces) trace_k → (trace_j : Trace) (start_j : Position) → IsReadTrace m start_j (take j read.traces) trace_j
            → (l last : Position) → slice_get trace_k (length trace_k - 1) ≡ Some l → l ≡ last → Before start_k.place start_j.place → EndsAt m last v.to → (i : ℕ) → slice_get trace_j i ≡ Some last → ⊥
        by trace_k at_k start_k read_k trace_j start_j read_j l last at_l same first goal zero here =
            no_start_end start_k trace_k (take k read.traces) read_k start_j first l last v.to at_l same (same_Some start_j last (sym read_j.is.way.first ∙ here)) read_j.starts goal
        by trace_k at_k start_k read_k trace_j start_j read_j l last at_l same first goal (suc i) here =
            let there : slice_get (take j read.traces) k ≡ Some trace_k = take_place_at read.traces k j trace_k less at_k in
            read_j.apart i last here (
              k,
              trace_k,
              slice_get_within (take j read.traces) k trace_k there,
              get_or_from_slice_get (take j read.traces) k trace_k trace_k there,
              (length trace_k - 1, l, slice_get_within trace_k (length trace_k - 1) l at_l, get_or_from_slice_get trace_k (length trace_k - 1) l l at_l, (ap (λ (z : Position). z.place) (sym same), inl (ap (λ (z : Position). axis_of z.to) (sym same)))),
            )
