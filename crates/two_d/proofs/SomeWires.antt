-- The wires of a drawing are read, or one of the faults of wires is the first.
use Rattle.std.specs.Prelude.{◌≡◌, ◌-◌, ◌<◌, ℕ, zero, suc, List, [], ◌∷◌, length, take, slice_get, Some, Ok, Any}
use Rattle.std.proofs.Common.{arith, refl, sym, ap, subst, ◌∙◌, inl, inr}
use Rattle.std.proofs.lemmas.Bool.{cases_eq}
use Rattle.std.proofs.lemmas.Option.{slice_get_within, slice_get-get_or, get_or_from_slice_get, same_Some}
use Rattle.umix_base.specs.declared.place.Place.{Place}
use Rattle.two_d.specs.Places.{Covers, IsFirstPlace}
use Rattle.two_d.specs.Cells.{cell}
use Rattle.two_d.specs.Faults.{stray}
use Rattle.two_d.specs.Reading.{The, RefusedAt, each, each_after}
use Rattle.two_d.specs.Ports.{Drawing}
use Rattle.two_d.specs.Wires.{Position, IsStart, IsEnd, Collide, Trace, IsTrace}
use Rattle.two_d.specs.Clean.{ports_at, AreStarts, wire_at, IsStray, WireForm, IsWire, wires_of}
use Rattle.two_d.proofs.Decide.{Decided, decided_both, decided_three, decided_not}
use Rattle.two_d.proofs.FirstPlace.{first_place, first_one}
use Rattle.two_d.proofs.InOrder.{each_after_gave, the_has}
use Rattle.two_d.proofs.LiveCorners.{decided_within}
use Rattle.two_d.proofs.OneReading.{HasOneAnswer, then_one, then_one_of, after_one_of, list_one_of, refused_at_one, the_one}
use Rattle.two_d.proofs.OneWire.{IsWellDrawn, wire_one}
use Rattle.two_d.proofs.SomeCells.{some_wire_at, one_wire_at, wire_gave}
use Rattle.two_d.proofs.SomeFigures.{decided_covers}
use Rattle.two_d.proofs.SomePorts.{some_ports, one_of_ports, decided_name}
use Rattle.two_d.proofs.SomeReading.{HasAnswer, Found, then_some, then_some_of, after_some_of, list_some, list_some_of, refused_at_some, the_some, decided_any}
use Rattle.two_d.proofs.SomeStarts.{some_starts, starts_one}
use Rattle.two_d.proofs.SomeSteps.{decided_places}

-- a trace that was read after earlier ones, from its start to its end
pub record IsReadTrace (m : Drawing) (start : Position) (earlier : List Trace) (trace : Trace) : Type 0 where
  pub starts : IsStart m start
  pub is : IsTrace m start trace
  pub last : Position
  pub is_last : slice_get trace (length trace - 1) ≡ Some last
  pub ends : IsEnd m last
  pub apart : (i : ℕ) (s : Position) → slice_get trace (suc i) ≡ Some s → Any (Any (Collide m s)) earlier → ⊥

pub there_at : {A : Type 0} (xs : List A) (k : ℕ) → k < length xs → (x : A) × (slice_get xs k ≡ Some x)
there_at [] k lt = absurd (omega arith)
there_at (x ∷ xs) zero lt = (x, refl)
there_at (x ∷ xs) (suc k) lt = there_at xs k (omega arith)

module _ (m : Drawing) where
  decided_stray : (traces : List Trace) (p : Place) → Decided (IsStray m traces p)
  decided_stray traces p =
      elim (decided_both (decided_three (decided_within m.frame p) (decided_not (cases_eq (cell m.grid p) 32)) (decided_not (decided_name m p)))
      (decided_both (decided_not (decided_any (λ b. Covers b p) (λ b. decided_covers b p) m.boxes))
      (decided_not (decided_any (Any (λ (s : Position). s.place ≡ p)) (decided_any (λ (s : Position). s.place ≡ p) (λ s. decided_places s.place p)) traces)))) [
        | inl all ↦ inl (record { interior = all.0.0; no_space = all.0.1; no_name = all.0.2; no_box = all.1.0; no_wire = all.1.1 })
        | inr not_all ↦ inr (λ s. not_all ((s.interior, s.no_space, s.no_name), (s.no_box, s.no_wire)))
      ]

  first_stray : (traces : List Trace) → Found (IsFirstPlace (IsStray m traces))
  first_stray traces = first_place (IsStray m traces) (decided_stray traces) m.frame.bottom m.frame.right (λ p s. (s.interior.above_bottom, s.interior.before_right))

  -- each of the traces that were read
  pub traces_gave : (starts : List Position) → AreStarts m starts → (traces : List Trace) → each_after (wire_at m) [] starts (Ok traces)
      → (length traces ≡ length starts) × ((k : ℕ) (trace : Trace) → slice_get traces k ≡ Some trace → (start : Position) × (slice_get starts k ≡ Some start) × IsReadTrace m start (take k traces) trace)
  traces_gave starts are traces done =
      let (zs, same, long, each) = each_after_gave (wire_at m) [] starts traces done in
      by zs same long each
    where
      by : (zs : List Trace) → traces ≡ zs → length zs ≡ length starts → ((i : ℕ) (x : Position) → slice_get starts i ≡ Some x → (z : Trace) × (slice_get zs i ≡ Some z) × wire_at m (take i zs) x (Ok z))
          → (length traces ≡ length starts) × ((k : ℕ) (trace : Trace) → slice_get traces k ≡ Some trace → (start : Position) × (slice_get starts k ≡ Some start) × IsReadTrace m start (take k traces) trace)
      by zs same long each = (ap length same ∙ long, one)
        where
          one : (k : ℕ) (trace : Trace) → slice_get traces k ≡ Some trace → (start : Position) × (slice_get starts k ≡ Some start) × IsReadTrace m start (take k traces) trace
          one k trace at =
              let lt = slice_get_within traces k trace at in
              let shown = ap length same ∙ long in
              let (start, at_start) = there_at starts k (omega arith) in
              (let (z, here, passed) = each k start at_start in
              let e : z ≡ trace = same_Some z trace (sym here ∙ (subst (λ l. slice_get l k ≡ Some trace) same at)) in
              let begins : IsStart m start = (are.each start).0 (k, slice_get_within starts k start at_start, get_or_from_slice_get starts k start start at_start) in
              let (is, (last, at_last, ends), apart) = wire_gave m start begins (take k zs) z passed in
              let read : IsReadTrace m start (take k zs) z = record { starts = begins; is = is; last = last; is_last = at_last; ends = ends; apart = apart } in
              (start, at_start, subst (λ t. IsReadTrace m start (take k traces) t) e (subst (λ l. IsReadTrace m start (take k l) z) (sym same) read)))

  some_wire : (start : Position) (earlier : List Trace) (trace : Trace) → IsReadTrace m start earlier trace → (wire : WireForm) × IsWire m trace wire
  some_wire start earlier trace read =
      let (o, starts) = read.starts in
      let (end, ends) = read.ends in
      (record { from = o; to = end }, record { first = start; last = read.last; is_first = read.is.way.first; is_last = read.is_last; starts = starts; ends = ends })

  pub some_wires : HasAnswer (wires_of m)
  some_wires =
      then_some (each (ports_at m) m.boxes) _ (list_some (ports_at m) (some_ports m) m.boxes)
      (λ _. then_some_of (The (AreStarts m)) _ (the_some (AreStarts m) (some_starts m))
      (λ starts read. let are = the_has (AreStarts m) starts read in
      then_some_of (each_after (wire_at m) [] starts) _ (after_some_of (wire_at m) starts (λ before start there. some_wire_at m start ((are.each start).0 there) before) [])
      (λ traces told. let (long, each_trace) = traces_gave starts are traces told in
      then_some (RefusedAt stray (IsFirstPlace (IsStray m traces))) (λ _. each (λ trace. The (IsWire m trace)) traces) (refused_at_some stray (IsFirstPlace (IsStray m traces)) (first_stray traces))
      (λ _. list_some_of (λ trace. The (IsWire m trace)) traces (λ trace there.
      let (k, lt, is) = there in
      let (start, at_start, read_trace) = each_trace k trace (slice_get-get_or traces k trace lt ∙ ap (λ z. Some z) is) in
      the_some (IsWire m trace) (some_wire start (take k traces) trace read_trace))))))

  pub one_list_of_wires : IsWellDrawn m → HasOneAnswer (wires_of m)
  one_list_of_wires well =
      then_one (each (ports_at m) m.boxes) _ (list_one_of (ports_at m) m.boxes (λ b there. one_of_ports m b))
      (λ _. then_one_of (The (AreStarts m)) _ (the_one (AreStarts m) (starts_one m))
      (λ starts read. let are = the_has (AreStarts m) starts read in
      then_one (each_after (wire_at m) [] starts) _ (after_one_of (wire_at m) starts (λ before start there. one_wire_at m start ((are.each start).0 there) before) [])
      (λ traces. then_one (RefusedAt stray (IsFirstPlace (IsStray m traces))) (λ _. each (λ trace. The (IsWire m trace)) traces) (refused_at_one stray (IsFirstPlace (IsStray m traces)) (first_one (IsStray m traces)))
      (λ _. list_one_of (λ trace. The (IsWire m trace)) traces (λ trace there. the_one (IsWire m trace) (wire_one m well trace))))))
