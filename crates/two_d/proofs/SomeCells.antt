-- The cells that a wire tries are told one after the other, and a wire that passes them ends.
use Rattle.std.specs.Prelude.{◌≡◌, ◌-◌, ℕ, zero, suc, List, [], ◌∷◌, ◌++◌, length, take, drop, slice_get, Some, Ok, Any}
use Rattle.std.proofs.Common.{arith, refl, sym, ap, subst, ◌∙◌, inl, inr, get_or, append-nil}
use Rattle.std.proofs.lemmas.List.{length-append, same_lists}
use Rattle.std.proofs.lemmas.Option.{slice_get_within, slice_get-get_or, get_or_from_slice_get, same_Some}
use Rattle.two_d.specs.Cells.{cell}
use Rattle.two_d.specs.Faults.{broken_wire, merge, bad_turn}
use Rattle.two_d.specs.Reading.{Gave, The, Refused, each_after}
use Rattle.two_d.specs.Ports.{Drawing}
use Rattle.two_d.specs.Wires.{Position, IsStart, IsEnd, IsTurn, IsTaker, GoesOn, ends, turns, stands, keeps, next, Collide, Trace, IsTrace}
use Rattle.two_d.specs.Clean.{AreTried, tried_cell, wire_at}
use Rattle.two_d.proofs.Decide.{decided_both, decided_not}
use Rattle.two_d.proofs.GoesOnOne.{goes_on_one}
use Rattle.two_d.proofs.GoodTable.{not_so}
use Rattle.two_d.proofs.InOrder.{then_ok, gave_is, each_after_gave, the_has}
use Rattle.two_d.proofs.OneReading.{HasOneAnswer, IsOne, then_one, refused_one, gave_one, the_one, each_after_one}
use Rattle.two_d.proofs.SomeReading.{HasAnswer, then_some, then_some_of, refused_some, gave_some, the_some, after_some, decided_any}
use Rattle.two_d.proofs.SomeStarts.{start_is, south_cell, east_cell}
use Rattle.two_d.proofs.SomeSteps.{decided_taker, decided_turn, decided_stands, decided_collide, goes_on_some}
use Rattle.two_d.proofs.SomeTraces.{some_trace, trace_one, way_more, last_there}

-- what is asked of a cell that a wire tries
pub record Passed (m : Drawing) (earlier : List Trace) (own : Trace) (s : Position) : Type 0 where
  pub taker : IsTaker m s
  pub apart : Any (Any (Collide m s)) (own ∷ earlier) → ⊥
  pub turns : IsTurn m s × GoesOn m s [] → ⊥

module _ (m : Drawing) where
  some_cell : (earlier : List Trace) (own : Trace) (s : Position) → HasAnswer (tried_cell m earlier own s)
  some_cell earlier own s =
      then_some (Refused (broken_wire s.place) (IsTaker m s → ⊥)) _ (refused_some (broken_wire s.place) (IsTaker m s → ⊥) (decided_not (decided_taker m s)))
      (λ _. then_some (Refused (merge s.place) (Any (Any (Collide m s)) (own ∷ earlier))) _
      (refused_some (merge s.place) (Any (Any (Collide m s)) (own ∷ earlier)) (decided_any (Any (Collide m s)) (decided_any (Collide m s) (decided_collide m s)) (own ∷ earlier)))
      (λ _. then_some (Refused (bad_turn s.place) (IsTurn m s × GoesOn m s [])) (λ _. Gave s)
      (refused_some (bad_turn s.place) (IsTurn m s × GoesOn m s []) (decided_both (decided_turn m s) (decided_stands m s)))
      (λ _. gave_some s)))

  one_cell : (earlier : List Trace) (own : Trace) (s : Position) → HasOneAnswer (tried_cell m earlier own s)
  one_cell earlier own s =
      then_one (Refused (broken_wire s.place) (IsTaker m s → ⊥)) _ (refused_one (broken_wire s.place) (IsTaker m s → ⊥))
      (λ _. then_one (Refused (merge s.place) (Any (Any (Collide m s)) (own ∷ earlier))) _ (refused_one (merge s.place) (Any (Any (Collide m s)) (own ∷ earlier)))
      (λ _. then_one (Refused (bad_turn s.place) (IsTurn m s × GoesOn m s [])) (λ _. Gave s) (refused_one (bad_turn s.place) (IsTurn m s × GoesOn m s [])) (λ _. gave_one s)))

  cell_passed : (earlier : List Trace) (own : Trace) (s z : Position) → tried_cell m earlier own s (Ok z) → (s ≡ z) × Passed m earlier own s
  cell_passed earlier own s z done =
      let (u, first, more) = then_ok (Refused (broken_wire s.place) (IsTaker m s → ⊥)) _ z done in
      let (v, second, rest) = then_ok (Refused (merge s.place) (Any (Any (Collide m s)) (own ∷ earlier))) _ z more in
      let (w, third, last) = then_ok (Refused (bad_turn s.place) (IsTurn m s × GoesOn m s [])) (λ _. Gave s) z rest in
      let e = gave_is s (Ok z) last in (
        (let same : s ≡ z = cc in same),
        record {
          taker = elim (decided_taker m s) [ inl takes ↦ takes | inr none ↦ absurd (not_so (broken_wire s.place) (IsTaker m s → ⊥) (Ok u) first refl none) ];
          apart = not_so (merge s.place) (Any (Any (Collide m s)) (own ∷ earlier)) (Ok v) second refl;
          turns = not_so (bad_turn s.place) (IsTurn m s × GoesOn m s []) (Ok w) third refl;
        },
      )

  -- all that were tried have passed
  cells_passed : (earlier : List Trace) (own tried ys : Trace) → each_after (tried_cell m earlier) own tried (Ok ys)
      → (ys ≡ own ++ tried) × ((i : ℕ) (s : Position) → slice_get tried i ≡ Some s → Passed m earlier (own ++ take i tried) s)
  cells_passed earlier own tried ys done =
      let (zs, same, long, each) = each_after_gave (tried_cell m earlier) own tried ys done in
      by zs same long each
    where
      by : (zs : Trace) → ys ≡ own ++ zs → length zs ≡ length tried → ((i : ℕ) (x : Position) → slice_get tried i ≡ Some x → (z : Position) × (slice_get zs i ≡ Some z) × tried_cell m earlier (own ++ take i zs) x (Ok z))
          → (ys ≡ own ++ tried) × ((i : ℕ) (s : Position) → slice_get tried i ≡ Some s → Passed m earlier (own ++ take i tried) s)
      by zs same long each =
          let alike : zs ≡ tried = same_lists zs tried long (λ k d lt.
          let at : slice_get tried k ≡ Some (get_or tried k d) = slice_get-get_or tried k d (omega arith) in
          let (z, here, passed) = each k (get_or tried k d) at in
          get_or_from_slice_get zs k z d here ∙ sym (cell_passed earlier (own ++ take k zs) (get_or tried k d) z passed).0) in (
            same ∙ ap (λ l. own ++ l) alike,
            λ i s is. let (z, here, passed) = each i s is in
                subst (λ l. Passed m earlier (own ++ take i l) s) alike (cell_passed earlier (own ++ take i zs) s z passed).1,
          )

  module _ (start : Position) (starts : IsStart m start) where
    some_tried : (trace : Trace) → IsTrace m start trace → (tried : Trace) × AreTried m trace tried
    some_tried trace is =
        let lt = slice_get_within trace 0 start is.way.first in
        let last = get_or trace (length trace - 1) start in
        let (more, goes) = goes_on_some m last in
        (drop 1 trace ++ more, record { last = last; more = more; is_last = slice_get-get_or trace (length trace - 1) start (omega arith); goes_on = goes; all = refl })

    tried_one : (trace : Trace) → IsOne (AreTried m trace)
    tried_one trace xs ys one other =
        let last : one.last ≡ other.last = same_Some one.last other.last (sym one.is_last ∙ other.is_last) in
        let more : one.more ≡ other.more = goes_on_one m other.last one.more other.more (subst (λ z. GoesOn m z one.more) last one.goes_on) other.goes_on in
        one.all ∙ (ap (λ l. drop 1 trace ++ l) more ∙ sym other.all)

    pub some_wire_at : (earlier : List Trace) → HasAnswer (wire_at m earlier start)
    some_wire_at earlier =
        then_some_of (The (IsTrace m start)) _ (the_some (IsTrace m start) (some_trace m start starts))
        (λ trace read. then_some (The (AreTried m trace)) (λ tried. each_after (tried_cell m earlier) (start ∷ []) tried)
        (the_some (AreTried m trace) (some_tried trace (the_has (IsTrace m start) trace read)))
        (λ tried. after_some (tried_cell m earlier) (some_cell earlier) (start ∷ []) tried))

    pub one_wire_at : (earlier : List Trace) → HasOneAnswer (wire_at m earlier start)
    one_wire_at earlier =
        then_one (The (IsTrace m start)) _ (the_one (IsTrace m start) (trace_one m start starts))
        (λ trace. then_one (The (AreTried m trace)) (λ tried. each_after (tried_cell m earlier) (start ∷ []) tried) (the_one (AreTried m trace) (tried_one trace))
        (λ tried. each_after_one (tried_cell m earlier) (one_cell earlier) (start ∷ []) tried))

    no_turn_at_start : IsTurn m start → ⊥
    no_turn_at_start turn = elim (start_is m start starts.0 starts.1) [
      | inl there ↦ (let e = south_cell m start.place there.1 in let t : cell m.grid start.place ≡ 43 = turn.1 in omega arith)
      | inr there ↦ (let e = east_cell m start.place there.1 in let t : cell m.grid start.place ≡ 43 = turn.1 in omega arith)
    ]

    head_of : (trace : Trace) → slice_get trace 0 ≡ Some start → trace ≡ start ∷ drop 1 trace
    head_of [] is = absurd (cc)
    head_of (s ∷ trace) is = let e : s ≡ start = cc in ap (λ z. z ∷ trace) e

    dropped : {A : Type 0} (xs : List A) (i : ℕ) → slice_get (drop 1 xs) i ≡ slice_get xs (suc i)
    dropped [] i = refl
    dropped (x ∷ xs) i = refl

    take_front : {A : Type 0} (xs : List A) (x : A) → take (length xs) (xs ++ x ∷ []) ≡ xs
    take_front [] x = refl
    take_front (y ∷ ys) x = ap (λ z. y ∷ z) (take_front ys x)

    later_any : (own : Trace) (earlier : List Trace) (s : Position) → Any (Any (Collide m s)) earlier → Any (Any (Collide m s)) (own ∷ earlier)
    later_any own earlier s (k, x, lt, is, q) = (suc k, x, omega arith, is, q)

    no_more : {earlier : List Trace} (trace : Trace) → IsTrace m start trace → (last t : Position) → slice_get trace (length trace - 1) ≡ Some last → GoesOn m last (t ∷ []) → (tried : Trace) → tried ≡ drop 1 trace ++ t ∷ []
        → ((i : ℕ) (s : Position) → slice_get tried i ≡ Some s → Passed m earlier (start ∷ take i tried) s) → ⊥
    no_more {earlier = earlier} trace is last t at goes tried all passed =
        let front = drop 1 trace in
        let here : slice_get tried (length front) ≡ Some t = ap (λ l. slice_get l (length front)) all ∙ last_there front t in
        let own : start ∷ take (length front) tried ≡ trace = ap (λ l. start ∷ take (length front) l) all ∙ (ap (λ l. start ∷ l) (take_front front t) ∙ sym (head_of trace is.way.first)) in
        let its : Passed m earlier trace t = subst (λ l. Passed m earlier l t) own (passed (length front) t here) in
        let way = way_more m start starts trace t is.way (record { last = last; is_last = at; step = (goes, its.taker); apart = λ a. its.apart (0, trace, omega arith, refl, a) }) in
        let le = is.longest (trace ++ t ∷ []) way in
        let long = length-append trace (t ∷ []) in
        omega arith

    -- the wire that was read is the trace
    same_wire : (trace : Trace) → IsTrace m start trace → (wire tried : Trace) → tried ≡ drop 1 trace → wire ≡ start ∷ tried → wire ≡ trace
    same_wire trace is wire tried all whole = whole ∙ (ap (λ l. start ∷ l) all ∙ sym (head_of trace is.way.first))

    no_stand : {earlier : List Trace} {wire : Trace} (trace : Trace) → IsTrace m start trace → (last : Position) (tried : Trace) → tried ≡ drop 1 trace → wire ≡ start ∷ tried → slice_get trace (length trace - 1) ≡ Some last → IsTurn m last → GoesOn m last []
        → ((i : ℕ) (s : Position) → slice_get tried i ≡ Some s → Passed m earlier (start ∷ take i tried) s) → ⊥
    no_stand {earlier = earlier} {wire = wire} trace is last tried all whole at turn goes passed = by (length trace - 1) at
      where
        by : (k : ℕ) → slice_get trace k ≡ Some last → ⊥
        by zero here = let e : start ≡ last = same_Some start last (sym is.way.first ∙ here) in no_turn_at_start (subst (IsTurn m) (sym e) turn)
        by (suc i) here = (passed i last (ap (λ l. slice_get l i) all ∙ (dropped trace i ∙ here))).turns (turn, goes)

    ended : {earlier : List Trace} {wire : Trace} (trace : Trace) → IsTrace m start trace → (last : Position) (tried : Trace) → tried ≡ drop 1 trace → wire ≡ start ∷ tried → slice_get trace (length trace - 1) ≡ Some last → IsEnd m last
        → ((i : ℕ) (s : Position) → slice_get tried i ≡ Some s → Passed m earlier (start ∷ take i tried) s)
        → IsTrace m start wire × ((last : Position) × (slice_get wire (length wire - 1) ≡ Some last) × IsEnd m last) × ((i : ℕ) (s : Position) → slice_get wire (suc i) ≡ Some s → Any (Any (Collide m s)) earlier → ⊥)
    ended {earlier = earlier} {wire = wire} trace is last tried all whole at e passed =
        let same = same_wire trace is wire tried all whole in (
          subst (IsTrace m start) (sym same) is,
          (last, subst (λ w. slice_get w (length w - 1) ≡ Some last) (sym same) at, e),
          λ i s here a. (passed i s (subst (λ w. slice_get w (suc i) ≡ Some s) whole here)).apart (later_any (start ∷ take i tried) earlier s a),
        )

    -- a wire that was read is the trace of its start, ends at an end, and meets no earlier one behind its start
    pub wire_gave : (earlier : List Trace) (wire : Trace) → wire_at m earlier start (Ok wire)
        → IsTrace m start wire × ((last : Position) × (slice_get wire (length wire - 1) ≡ Some last) × IsEnd m last) × ((i : ℕ) (s : Position) → slice_get wire (suc i) ≡ Some s → Any (Any (Collide m s)) earlier → ⊥)
    wire_gave earlier wire done =
        let (trace, read, more) = then_ok (The (IsTrace m start)) _ wire done in
        let (tried, told, rest) = then_ok (The (AreTried m trace)) (λ tried. each_after (tried_cell m earlier) (start ∷ []) tried) wire more in
        let is = the_has (IsTrace m start) trace read in
        let are = the_has (AreTried m trace) tried told in
        let (whole, passed) = cells_passed earlier (start ∷ []) tried wire rest in
        by trace is are.last are.more are.is_last are.goes_on tried are.all whole passed
      where
        by : (trace : Trace) → IsTrace m start trace → (last : Position) (more : Trace) → slice_get trace (length trace - 1) ≡ Some last → GoesOn m last more → (tried : Trace) → tried ≡ drop 1 trace ++ more → wire ≡ start ∷ tried
            → ((i : ℕ) (s : Position) → slice_get tried i ≡ Some s → Passed m earlier (start ∷ take i tried) s)
            → IsTrace m start wire × ((last : Position) × (slice_get wire (length wire - 1) ≡ Some last) × IsEnd m last) × ((i : ℕ) (s : Position) → slice_get wire (suc i) ≡ Some s → Any (Any (Collide m s)) earlier → ⊥)
        by trace is last _ at (ends e) tried all whole passed = ended trace is last tried (all ∙ append-nil (drop 1 trace)) whole at e passed
        by trace is last _ at (stands turn none) tried all whole passed = absurd (no_stand trace is last tried (all ∙ append-nil (drop 1 trace)) whole at turn (stands turn none) passed)
        by trace is last _ at (turns d turn to) tried all whole passed = absurd (no_more trace is last (next last d) at (turns d turn to) tried all passed)
        by trace is last _ at (keeps no_end no_turn) tried all whole passed = absurd (no_more trace is last (next last last.to) at (keeps no_end no_turn) tried all passed)
