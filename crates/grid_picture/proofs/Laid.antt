-- The wires of a module that are laid from each start to an end are the wires that are read.
use Rattle.std.specs.Prelude.{◌≡◌, ◌↔◌, ◌-◌, ◌<◌, ℕ, suc, List, [], ◌∷◌, ◌++◌, length, map, slice_get, Any, AllPairs, Ok}
use Rattle.std.specs.List.{Contains}
use Rattle.std.proofs.Common.{arith, refl, sym, ap, subst, ◌∙◌, inl, inr, get_or, append_assoc, append-nil}
use Rattle.std.proofs.lemmas.List.{length-map, get_or-map, get_or_default, map-append}
use Rattle.std.proofs.lemmas.List.Elements.{Contains-get_or, Contains-push_cases, Contains-append_cases}
use Rattle.umix_base.specs.declared.place.Place.{Place}
use Rattle.two_d.specs.Places.{Before, Rect, IsFirstPlace}
use Rattle.two_d.specs.Faults.{TextFault}
use Rattle.two_d.specs.Reading.{goes_on, gave, it, none, each, each_after, the}
use Rattle.two_d.specs.Ports.{Drawing}
use Rattle.two_d.specs.Wires.{Position, axis_of, StartsAt, IsStart, Collide, Trace}
use Rattle.two_d.specs.Clean.{ports_at, wire_at, IsStray, WireForm, IsWire, wires_of}
use Rattle.two_d.proofs.MapLists.{map_contains, contains_map}
use Rattle.two_d.proofs.SomeStarts.{some_starts}
use Rattle.grid_picture.proofs.Pairs.{first_there, later_there}
use Rattle.grid_picture.proofs.Leads.{Leads, AreApart, last_of, wire_read}

-- a wire and the way on which it is laid
pub record Route : Type 0 where
  pub start : Position
  pub more : Trace
  pub wire : WireForm

abbrev pub way : Route → Trace
way r = r.start ∷ r.more

-- the way leads from a start to the wire's end, and meets itself nowhere
pub record IsRoute (m : Drawing) (r : Route) : Type 0 where
  pub starts : StartsAt m r.start r.wire.from
  pub leads : Leads m r.wire.to r.start r.more
  pub apart : AreApart m (way r)

-- some cell is on both on one axis
abbrev pub Meet : Drawing → Route → Route → Type 0
Meet m r q = Any (λ s. Any (Collide m s) (way q)) (way r)

-- From each start a wire is laid, two that meet are one, each side of a box has one port at most, and no cell is stray.
pub record AreLaid (m : Drawing) (routes : List Route) : Type 0 where
  pub each : (r : Route) → Contains routes r → IsRoute m r
  pub begun : (s : Position) → IsStart m s → (r : Route) × Contains routes r × (r.start ≡ s)
  pub apart : (r q : Route) → Contains routes r → Contains routes q → Meet m r q → r ≡ q
  pub ports : (b : Rect) → Contains m.boxes b → ports_at m b (Ok tt)
  pub stray : (p : Place) → IsStray m (map way routes) p → ⊥

before_itself : (s : Position) → Before s.place s.place → ⊥
before_itself s (inl less) = omega arith
before_itself s (inr (same, less)) = omega arith

first_before : (s : Position) (xs : List Position) → AllPairs (λ s t. Before s.place t.place) (s ∷ xs) → (t : Position) → Contains xs t → Before s.place t.place
first_before s xs all t (k, lt, is) = subst (λ z. Before s.place z.place) is (all 0 (suc k) t (omega arith) (omega arith))

module _ (m : Drawing) (routes : List Route) (laid : AreLaid m routes) where
  ports_read : (boxes : List Rect) → ((b : Rect) → Contains boxes b → ports_at m b (Ok tt)) → (us : List (Unit {0})) × each (ports_at m) boxes (Ok us)
  ports_read [] all = ([], gave)
  ports_read (b ∷ boxes) all =
      let (us, rest) = ports_read boxes (λ c there. all c (later_there b c boxes there)) in
      (tt ∷ us, goes_on tt (all b (first_there b boxes)) (goes_on us rest gave))

  -- two that begin at one position are one
  same_start : (r q : Route) → Contains routes r → Contains routes q → r.start ≡ q.start → r ≡ q
  same_start r q there there_q e =
      laid.apart r q there there_q (0, r.start, omega arith, refl, (0, q.start, omega arith, refl, (ap (λ (s : Position). s.place) e, inl (ap (λ (s : Position). axis_of s.to) e))))

  -- the wires of these starts, after earlier ones
  record AreFrom (before : List Route) (xs : List Position) (rs : List Route) : Type 0 where
    read : each_after (wire_at m) (map way before) xs (Ok (map way (before ++ rs)))
    known : (q : Route) → Contains rs q → Contains routes q
    all : (s : Position) → Contains xs s → (q : Route) × Contains rs q × (q.start ≡ s)

  wires_from : (before : List Route) → ((q : Route) → Contains before q → Contains routes q)
      → (xs : List Position) → ((s : Position) → Contains xs s → IsStart m s) → AllPairs (λ s t. Before s.place t.place) xs
      → ((q : Route) (s : Position) → Contains before q → Contains xs s → q.start ≡ s → ⊥)
      → (rs : List Route) × AreFrom before xs rs
  wires_from before known [] starts order fresh = (
    [],
    record {
      read = subst (λ l. each_after (wire_at m) (map way before) [] (Ok (map way l))) (sym (append-nil before)) gave;
      known = λ q (k, lt, is). absurd (omega arith);
      all = λ s (k, lt, is). absurd (omega arith);
    },
  )
  wires_from before known (s ∷ xs) starts order fresh =
      let (r, there, begins) = laid.begun s (starts s (first_there s xs)) in
      let route = laid.each r there in
      let (rs, are) = wires_from (before ++ r ∷ [])
      (λ q q_there. elim (Contains-push_cases before r q q_there) [ inl earlier ↦ known q earlier | inr same ↦ subst (Contains routes) same there ])
      xs (λ t t_there. starts t (later_there s t xs t_there)) (λ i j d less lt. order (suc i) (suc j) d (omega arith) (omega arith))
      (λ q t q_there t_there same. elim (Contains-push_cases before r q q_there) [
        | inl earlier ↦ fresh q t earlier (later_there s t xs t_there) same
        | inr is ↦ before_itself s (subst (λ (z : Position). Before s.place z.place) (sym same ∙ (sym (ap (λ (x : Route). x.start) is) ∙ begins)) (first_before s xs order t t_there))
      ]) in
      let free : (k : ℕ) (d : Position) → k < length r.more → Any (Any (Collide m (get_or r.more k d))) (map way before) → ⊥ = λ k d lt (j, w, less, is, any).
      let n = length-map before way in
      let q = get_or before j r in
      let q_there : Contains before q = Contains-get_or before j r (omega arith) in
      let w_is : way q ≡ w = sym (get_or-map way before j r w (omega arith)) ∙ is in
      let meet : Meet m r q = (suc k, get_or r.more k d, omega arith, get_or_default r.more k (get_or r.more k d) d lt, subst (Any (Collide m (get_or r.more k d))) (sym w_is) any) in
      fresh q s q_there (first_there s xs) (ap (λ (x : Route). x.start) (sym (laid.apart r q there (known q q_there) meet)) ∙ begins) in
      let first : wire_at m (map way before) s (Ok (way r)) = subst (λ z. wire_at m (map way before) z (Ok (way r))) begins (wire_read m r.wire.to (map way before) r.start r.more route.leads route.apart free) in (
        r ∷ rs,
        record {
          read = goes_on (way r) first (subst (λ l. each_after (wire_at m) l xs (Ok (map way (before ++ r ∷ rs)))) (map-append way before (r ∷ []))
              (subst (λ l. each_after (wire_at m) (map way (before ++ r ∷ [])) xs (Ok (map way l))) (append_assoc before (r ∷ []) rs) are.read));
          known = λ q q_there. elim (Contains-append_cases (r ∷ []) rs q q_there) [
            | inl (k, lt, is) ↦ (let e : r ≡ q = ap (λ i. get_or (r ∷ []) i q) (by k lt) ∙ is in subst (Contains routes) e there)
            | inr later ↦ are.known q later
          ];
          all = λ t t_there. elim (Contains-append_cases (s ∷ []) xs t t_there) [
            | inl (k, lt, is) ↦ (let e : s ≡ t = ap (λ i. get_or (s ∷ []) i t) (by k lt) ∙ is in (r, first_there r rs, begins ∙ e))
            | inr later ↦ (let (q, q_there, same) = are.all t later in (q, later_there r q rs q_there, same))
          ];
        },
      )
    where
      by : (k : ℕ) → k < 1 → 0 ≡ k
      by k lt = omega arith

  its_wire : (r : Route) → IsRoute m r → IsWire m (way r) r.wire
  its_wire r is =
      let (last, at, ends) = last_of m r.wire.to r.start r.more is.leads in
      record { first = r.start; last = last; is_first = refl; is_last = ap (slice_get (way r)) (by r.more) ∙ at; starts = is.starts; ends = ends }
    where
      by : (more : Trace) → length (r.start ∷ more) - 1 ≡ length more
      by more = omega arith

  wires_each : (rs : List Route) → ((q : Route) → Contains rs q → Contains routes q) → each {F = TextFault} (λ trace. the (IsWire m trace)) (map way rs) (Ok (map (λ (r : Route). r.wire) rs))
  wires_each [] known = gave
  wires_each (r ∷ rs) known =
      goes_on r.wire (it r.wire (its_wire r (laid.each r (known r (first_there r rs)))))
      (goes_on (map (λ (r : Route). r.wire) rs) (wires_each rs (λ q there. known q (later_there r q rs there))) gave)

  pub wires_read : (wires : List WireForm) × wires_of m (Ok wires) × ((w : WireForm) → Contains wires w ↔ Contains (map (λ (r : Route). r.wire) routes) w)
  wires_read =
      let (starts, are) = some_starts m in
      let (rs, from) = wires_from [] (λ q (k, lt, is). absurd (omega arith)) starts (λ s there. (are.each s).0 there) are.in_order (λ q s (k, lt, is) there same. absurd (omega arith)) in
      let back : (q : Route) → Contains routes q → Contains rs q = λ q there.
      let (r, r_there, same) = from.all q.start ((are.each q.start).1 (q.wire.from, (laid.each q there).starts)) in
      subst (Contains rs) (same_start r q (from.known r r_there) there same) r_there in
      let free : (p : Place) → IsFirstPlace (IsStray m (map way rs)) p → ⊥ = λ p first.
      let h = first.holds in
      laid.stray p (record {
        interior = h.interior;
        no_space = h.no_space;
        no_name = h.no_name;
        no_box = h.no_box;
        no_wire = λ (k, w, lt, is, any).
            let (q, q_there, same) = map_contains way routes w (k, lt, is) in
            let (j, less, at) = contains_map way rs q (back q q_there) in
            h.no_wire (j, way q, less, at, subst (Any (λ (s : Position). s.place ≡ p)) (sym same) any);
      }) in
      let (us, ports) = ports_read m.boxes laid.ports in (
        map (λ (r : Route). r.wire) rs,
        goes_on us ports (goes_on starts (it starts are) (goes_on (map way rs) from.read (goes_on tt (none free) (wires_each rs from.known)))),
        λ w. (
          (λ there. let (q, q_there, same) = map_contains (λ (r : Route). r.wire) rs w there in subst (Contains (map (λ (r : Route). r.wire) routes)) same (contains_map (λ (r : Route). r.wire) routes q (from.known q q_there))),
          (λ there. let (q, q_there, same) = map_contains (λ (r : Route). r.wire) routes w there in subst (Contains (map (λ (r : Route). r.wire) rs)) same (contains_map (λ (r : Route). r.wire) rs q (back q q_there))),
        ),
      )
