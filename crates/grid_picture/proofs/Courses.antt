-- Wires that run in straight legs: where no two legs come near each other, each `+` has one taker and no two wires meet.
use Rattle.std.specs.Prelude.{◌≡◌, ◌≢◌, ◌+◌, ◌<◌, ◌≤◌, ◌⊎◌, ℕ, zero, suc, List, [], ◌∷◌, ◌++◌, length, map, slice_get, Some, Ok}
use Rattle.std.specs.List.{Contains}
use Rattle.std.proofs.Common.{arith, refl, sym, ap, subst, ◌∙◌, inl, inr, get_or, append_assoc}
use Rattle.std.proofs.lemmas.Bool.{cases_lt}
use Rattle.std.proofs.lemmas.List.{length-append}
use Rattle.std.proofs.lemmas.List.Elements.{Contains-append_cases}
use Rattle.std.proofs.lemmas.Option.{same_Some}
use Rattle.umix_base.specs.declared.place.Place.{Place}
use Rattle.two_d.specs.Places.{Rect, Within}
use Rattle.two_d.specs.Cells.{cell}
use Rattle.two_d.specs.Ports.{Drawing, Holds}
use Rattle.two_d.specs.Wires.{Direction, east, west, south, north, Axis, horizontal, vertical, axis_of, ahead, line, Position, next, StartsAt, EndsAt, at_n, at_w, at_exit, IsStart, IsEnd, IsStraight, IsTurn, IsTaker, MayTurn, TurnsTo, GoesOn, turns, keeps, Collide, Trace}
use Rattle.two_d.specs.Clean.{ports_at, IsStray}
use Rattle.two_d.specs.declared.module.Origin.{Origin}
use Rattle.two_d.specs.declared.module.To.{To}
use Rattle.two_d.proofs.SomeStarts.{start_is, south_cell, east_cell}
use Rattle.two_d.proofs.MapLists.{map_contains, contains_map}
use Rattle.grid_picture.specs.Courses.{along, Leg, Course, legs_from, legs}
use Rattle.grid_picture.proofs.Legs.{Fits, spot, run, Near, across, forth, near_at, near_one, spot_first, spot_next, spot_one}
use Rattle.grid_picture.proofs.Pairs.{pairs_cons, pairs_append, all_there}
use Rattle.grid_picture.proofs.Leads.{Leads, ends, leads, AreApart}
use Rattle.grid_picture.proofs.Laid.{Route, way, IsRoute, Meet, AreLaid}

abbrev pub runs : List Leg → Trace
runs [] = []
runs (l ∷ ls) = run l 0 l.long ++ runs ls

abbrev pub route : Course → Route
route c = record { start = c.start; more = runs (legs c); wire = c.wire }

-- at the end of the one leg the wire turns into the other
pub record IsJoint (m : Drawing) (l n : Leg) : Type 0 where
  pub turn : IsTurn m (spot l l.long)
  pub other : axis_of n.to ≢ axis_of l.to
  pub joined : n.from ≡ along l.to l.long l.from
  pub long : 0 < l.long
  pub on : 0 < n.long
  pub inner : n.from.col + 1 < m.frame.right

-- the cells of a wire that runs so
pub record IsCourse (m : Drawing) (c : Course) : Type 0 where
  pub starts : StartsAt m c.start c.wire.from
  pub inner : 0 < c.long → c.start.place.col < m.frame.right
  pub fits : (k : ℕ) (l : Leg) → slice_get (legs c) k ≡ Some l → Fits l.to l.from l.long
  pub straight : (k : ℕ) (l : Leg) → slice_get (legs c) k ≡ Some l → (j : ℕ) → 0 < j → j < l.long → IsStraight m (spot l j)
  pub joints : (k : ℕ) (l n : Leg) → slice_get (legs c) k ≡ Some l → slice_get (legs c) (suc k) ≡ Some n → IsJoint m l n
  pub ends : (k : ℕ) (l : Leg) → slice_get (legs c) k ≡ Some l → length (legs c) ≡ suc k → EndsAt m (spot l l.long) c.wire.to

-- the cell is one of a leg on this axis
pub record OnLeg (cs : List Course) (p : Place) (a : Axis) : Type 0 where
  pub course : Course
  pub there : Contains cs course
  pub number : ℕ
  pub leg : Leg
  pub is : slice_get (legs course) number ≡ Some leg
  pub far : ℕ
  pub within : far ≤ leg.long
  pub axis : axis_of leg.to ≡ a
  pub place : along leg.to far leg.from ≡ p

-- a wire turns at the cell
pub record AtJoint (cs : List Course) (p : Place) : Type 0 where
  pub course : Course
  pub there : Contains cs course
  pub number : ℕ
  pub leg : Leg
  pub on : Leg
  pub is : slice_get (legs course) number ≡ Some leg
  pub is_on : slice_get (legs course) (suc number) ≡ Some on
  pub place : along leg.to leg.long leg.from ≡ p

-- The wires of a module by their legs: no two legs are near each other, each cell that may take a wire lies on a leg
-- of that axis, wires turn at each `+`, and no cell is stray.
pub record AreCourses (m : Drawing) (cs : List Course) : Type 0 where
  pub each : (c : Course) → Contains cs c → IsCourse m c
  pub near : (c d : Course) (k j : ℕ) (l n : Leg) → Contains cs c → Contains cs d → slice_get (legs c) k ≡ Some l → slice_get (legs d) j ≡ Some n → Near l n → (c ≡ d) × (k ≡ j)
  pub taken : (p : Place) (d : Direction) → p.col < m.frame.right → IsTaker m (record { place = p; to = d }) → OnLeg cs p (axis_of d)
  pub turned : (p : Place) → Holds m 43 p → AtJoint cs p
  pub begun : (s : Position) → IsStart m s → (c : Course) × Contains cs c × (c.start ≡ s)
  pub ports : (b : Rect) → Contains m.boxes b → ports_at m b (Ok tt)
  pub stray : (p : Place) → IsStray m (map way (map route cs)) p → ⊥

pub axes_two : (a b c : Axis) → a ≢ c → b ≢ c → a ≡ b
axes_two horizontal horizontal c x y = refl
axes_two vertical vertical c x y = refl
axes_two horizontal vertical horizontal x y = absurd (x refl)
axes_two horizontal vertical vertical x y = absurd (y refl)
axes_two vertical horizontal horizontal x y = absurd (y refl)
axes_two vertical horizontal vertical x y = absurd (x refl)

-- ahead of a cell is its neighbour on the same line
beside : (d : Direction) (p : Place) → (across (axis_of d) (ahead d p) ≡ across (axis_of d) p) × (forth (axis_of d) (ahead d p) ≤ forth (axis_of d) p + 1) × (forth (axis_of d) p ≤ forth (axis_of d) (ahead d p) + 1)
beside east p = (refl, omega arith, omega arith)
beside west p = (refl, omega arith, omega arith)
beside south p = (refl, omega arith, omega arith)
beside north p = (refl, omega arith, omega arith)

-- what is ahead on the same line and on a leg from the cell is ahead on the leg
not_back : (e d : Direction) (p : Place) (i : ℕ) → 0 < p.row → 0 < p.col → axis_of e ≡ axis_of d → along d i p ≡ ahead e p → e ≡ d
not_back east east p i r c a is = refl
not_back west west p i r c a is = refl
not_back south south p i r c a is = refl
not_back north north p i r c a is = refl
not_back east west p i r c a is = absurd (let x = ap (λ (q : Place). q.col) is in omega arith)
not_back west east p i r c a is = absurd (let x = ap (λ (q : Place). q.col) is in omega arith)
not_back south north p i r c a is = absurd (let x = ap (λ (q : Place). q.row) is in omega arith)
not_back north south p i r c a is = absurd (let x = ap (λ (q : Place). q.row) is in omega arith)
not_back east south p i r c a is = absurd (cc)
not_back east north p i r c a is = absurd (cc)
not_back west south p i r c a is = absurd (cc)
not_back west north p i r c a is = absurd (cc)
not_back south east p i r c a is = absurd (cc)
not_back south west p i r c a is = absurd (cc)
not_back north east p i r c a is = absurd (cc)
not_back north west p i r c a is = absurd (cc)

ahead_before : (e : Direction) (p : Place) (right : ℕ) → p.col + 1 < right → (ahead e p).col < right
ahead_before east p right lt = lt
ahead_before west p right lt = omega arith
ahead_before south p right lt = omega arith
ahead_before north p right lt = omega arith

line_byte : (a : Axis) (b : ℕ) → b ≡ line a → (b ≡ 45) ⊎ (b ≡ 124)
line_byte horizontal b e = inl e
line_byte vertical b e = inr e

module _ (m : Drawing) where
  no_end : (s : Position) (b : ℕ) → Holds m b s.place → (b ≡ 118 → ⊥) → (b ≡ 62 → ⊥) → IsEnd m s → ⊥
  no_end s b (within, is) v w (_, at_n p i box e port) = v (sym is ∙ port.0.1)
  no_end s b (within, is) v w (_, at_w p i box e port) = w (sym is ∙ port.0.1)
  no_end s b (within, is) v w (_, at_exit row i e) = let x : m.frame.right < m.frame.right = within.before_right in omega arith

  straight_no_end : (s : Position) → IsStraight m s → IsEnd m s → ⊥
  straight_no_end s (inl holds) = no_end s (line (axis_of s.to)) holds (λ e. by (line_byte _ _ refl) e) (λ e. by' (line_byte _ _ refl) e)
    where
      by : (line (axis_of s.to) ≡ 45) ⊎ (line (axis_of s.to) ≡ 124) → line (axis_of s.to) ≡ 118 → ⊥
      by (inl a) e = omega arith
      by (inr a) e = omega arith

      by' : (line (axis_of s.to) ≡ 45) ⊎ (line (axis_of s.to) ≡ 124) → line (axis_of s.to) ≡ 62 → ⊥
      by' (inl a) e = omega arith
      by' (inr a) e = omega arith
  straight_no_end s (inr holds) = no_end s 35 holds (λ e. omega arith) (λ e. omega arith)

  straight_no_turn : (s : Position) → IsStraight m s → IsTurn m s → ⊥
  straight_no_turn s (inl (within, is)) (w, turn) = by (line_byte (axis_of s.to) (cell m.grid s.place) is)
    where
      by : (cell m.grid s.place ≡ 45) ⊎ (cell m.grid s.place ≡ 124) → ⊥
      by (inl a) = omega arith
      by (inr a) = omega arith
  straight_no_turn s (inr (within, is)) (w, turn) = omega arith

  -- over the cells of a leg
  leads_run : (end : To) (l : Leg) (rest : Trace) → ((j : ℕ) → 0 < j → j < l.long → IsStraight m (spot l j)) → IsTaker m (spot l l.long) → Leads m end (spot l l.long) rest
      → (i n : ℕ) → i + n ≡ l.long → (0 < n → (IsEnd m (spot l i) → ⊥) × (IsTurn m (spot l i) → ⊥)) → Leads m end (spot l i) (run l i n ++ rest)
  leads_run end l rest straight taker on i zero whole goes = subst (λ j. Leads m end (spot l j) rest) (omega arith) on
  leads_run end l rest straight taker on i (suc n) whole goes =
      let (no_e, no_t) = goes (omega arith) in
      leads (spot l (i + 1)) (subst (λ t. GoesOn m (spot l i) (t ∷ [])) (spot_next l i) (keeps no_e no_t), takes)
      (leads_run end l rest straight taker on (i + 1) n (omega arith) (λ lt. let s = straight (i + 1) (omega arith) (omega arith) in (straight_no_end (spot l (i + 1)) s, straight_no_turn (spot l (i + 1)) s)))
    where
      takes : IsTaker m (spot l (i + 1))
      takes = elim (cases_lt (i + 1) l.long) [
        | inl less ↦ inl (straight (i + 1) (omega arith) less)
        | inr more ↦ (let e : l.long ≡ i + 1 = omega arith in subst (λ j. IsTaker m (spot l j)) e taker)
      ]

pub at_length : {A : Type 0} (xs : List A) (y : A) (ys : List A) → slice_get (xs ++ y ∷ ys) (length xs) ≡ Some y
at_length [] y ys = refl
at_length (x ∷ xs) y ys = at_length xs y ys

pub at_next : {A : Type 0} (xs : List A) (y z : A) (ys : List A) → slice_get (xs ++ y ∷ z ∷ ys) (suc (length xs)) ≡ Some z
at_next [] y z ys = refl
at_next (x ∷ xs) y z ys = at_next xs y z ys

module _ (m : Drawing) (cs : List Course) (are : AreCourses m cs) where
  -- a joint has one taker: the next cell of the wire
  turns_to : (c : Course) → Contains cs c → (k : ℕ) (l n : Leg) → slice_get (legs c) k ≡ Some l → slice_get (legs c) (suc k) ≡ Some n
      → IsTaker m (spot n 1) → TurnsTo m (spot l l.long) n.to
  turns_to c there k l n is is_on takes = record { may = (joint.other, subst (IsTaker m) (sym first) takes); only = only }
    where
      joint : IsJoint m l n
      joint = (are.each c there).joints k l n is is_on

      first : next (spot l l.long) n.to ≡ spot n 1
      first = ap (λ p. next (record { place = p; to = l.to }) n.to) (sym joint.joined) ∙ (ap (λ s. next s n.to) (sym (spot_first n)) ∙ spot_next n 0)

      p : Place
      p = n.from

      only : (e : Direction) → MayTurn m (spot l l.long) e → e ≡ n.to
      only e (axis, taker) =
          let axes : axis_of n.to ≡ axis_of e = axes_two (axis_of n.to) (axis_of e) (axis_of l.to) joint.other axis in
          let at_p : IsTaker m (record { place = ahead e n.from; to = e }) = subst (λ q. IsTaker m (record { place = ahead e q; to = e })) (sym joint.joined) taker in
          let on = are.taken (ahead e n.from) e (ahead_before e n.from m.frame.right joint.inner) at_p in
          let within : Within m.frame n.from = subst (Within m.frame) (sym joint.joined) joint.turn.0 in
          let its = are.each c there in
          let n_first = ap (λ (s : Position). s.place) (spot_first n) in
          let (side, before, after) = beside e n.from in
          let near : Near n on.leg = near_at n on.leg 0 on.far (omega arith) on.within (its.fits (suc k) n is_on) ((are.each on.course on.there).fits on.number on.leg on.is) (axes ∙ sym on.axis)
          (subst (λ a. across a (along n.to 0 n.from) ≡ across a (along on.leg.to on.far on.leg.from)) (sym axes) (ap (across (axis_of e)) n_first ∙ (sym side ∙ ap (across (axis_of e)) (sym on.place))))
          (subst (λ a. forth a (along n.to 0 n.from) ≤ forth a (along on.leg.to on.far on.leg.from) + 1) (sym axes) (subst (λ q. forth (axis_of e) q ≤ forth (axis_of e) (along on.leg.to on.far on.leg.from) + 1) (sym n_first) (subst (λ q. forth (axis_of e) n.from ≤ forth (axis_of e) q + 1) (sym on.place) after)))
          (subst (λ a. forth a (along on.leg.to on.far on.leg.from) ≤ forth a (along n.to 0 n.from) + 1) (sym axes) (subst (λ q. forth (axis_of e) (along on.leg.to on.far on.leg.from) ≤ forth (axis_of e) q + 1) (sym n_first) (subst (λ q. forth (axis_of e) q ≤ forth (axis_of e) n.from + 1) (sym on.place) before))) in
          let (same, number) = are.near c on.course (suc k) on.number n on.leg there on.there is_on on.is near in
          let leg : n ≡ on.leg = same_Some n on.leg (sym is_on ∙ (ap (slice_get (legs c)) number ∙ (ap (λ d. slice_get (legs d) on.number) same ∙ on.is))) in
          not_back e n.to n.from on.far (let x = within.below_top in omega arith) (let x = within.after_left in omega arith) (sym axes) (subst (λ (z : Leg). along z.to on.far z.from ≡ ahead e n.from) (sym leg) on.place)

  start_goes_on : (c : Course) → Contains cs c → 0 < c.long → (IsEnd m c.start → ⊥) × (IsTurn m c.start → ⊥)
  start_goes_on c there lt = (by c.start c.wire.from its.starts (its.inner lt), no_turn c.start c.wire.from its.starts (its.inner lt))
    where
      its : IsCourse m c
      its = are.each c there

      byte_at : (s : Position) → IsStart m s → (cell m.grid s.place ≡ 124) ⊎ (cell m.grid s.place ≡ 45)
      byte_at s (o, starts) = elim (start_is m s o starts) [ inl from_south ↦ inl (south_cell m s.place from_south.1) | inr from_east ↦ inr (east_cell m s.place from_east.1) ]

      byte_end : (s : Position) → IsEnd m s → s.place.col < m.frame.right → (cell m.grid s.place ≡ 118) ⊎ (cell m.grid s.place ≡ 62)
      byte_end _ (_, at_n p i b e port) lt = inl port.0.1
      byte_end _ (_, at_w p i b e port) lt = inr port.0.1
      byte_end _ (_, at_exit row i e) lt = absurd (omega arith)

      no_byte : (b : ℕ) → (b ≡ 124) ⊎ (b ≡ 45) → (b ≡ 118) ⊎ (b ≡ 62) → ⊥
      no_byte b (inl x) (inl y) = omega arith
      no_byte b (inl x) (inr y) = omega arith
      no_byte b (inr x) (inl y) = omega arith
      no_byte b (inr x) (inr y) = omega arith

      no_plus : (b : ℕ) → (b ≡ 124) ⊎ (b ≡ 45) → b ≡ 43 → ⊥
      no_plus b (inl x) y = omega arith
      no_plus b (inr x) y = omega arith

      by : (s : Position) (o : Origin) → StartsAt m s o → s.place.col < m.frame.right → IsEnd m s → ⊥
      by s o starts lt end = no_byte (cell m.grid s.place) (byte_at s (o, starts)) (byte_end s end lt)

      no_turn : (s : Position) (o : Origin) → StartsAt m s o → s.place.col < m.frame.right → IsTurn m s → ⊥
      no_turn s o starts lt turn = no_plus (cell m.grid s.place) (byte_at s (o, starts)) turn.1

  -- the last cell of a leg: the wire turns there or ends
  last_takes : (c : Course) → Contains cs c → (done : List Leg) (l : Leg) (rest : List Leg) → legs c ≡ done ++ l ∷ rest → IsTaker m (spot l l.long)
  last_takes c there done l [] whole =
      let is : slice_get (legs c) (length done) ≡ Some l = ap (λ ls. slice_get ls (length done)) whole ∙ at_length done l [] in
      let long : length (legs c) ≡ suc (length done) = ap length whole ∙ (length-append done (l ∷ []) ∙ by (length done)) in
      inr (inr (c.wire.to, (are.each c there).ends (length done) l is long))
    where
      by : (n : ℕ) → n + 1 ≡ suc n
      by n = omega arith
  last_takes c there done l (n ∷ rest) whole =
      let is : slice_get (legs c) (length done) ≡ Some l = ap (λ ls. slice_get ls (length done)) whole ∙ at_length done l (n ∷ rest) in
      let is_on : slice_get (legs c) (suc (length done)) ≡ Some n = ap (λ ls. slice_get ls (suc (length done))) whole ∙ at_next done l n rest in
      inr (inl ((are.each c there).joints (length done) l n is is_on).turn)

  -- on from the end of a leg
  leads_legs : (c : Course) → Contains cs c → (done : List Leg) (l : Leg) (rest : List Leg) → legs c ≡ done ++ l ∷ rest → Leads m c.wire.to (spot l l.long) (runs rest)
  leads_legs c there done l [] whole =
      let is : slice_get (legs c) (length done) ≡ Some l = ap (λ ls. slice_get ls (length done)) whole ∙ at_length done l [] in
      let long : length (legs c) ≡ suc (length done) = ap length whole ∙ (length-append done (l ∷ []) ∙ by (length done)) in
      ends ((are.each c there).ends (length done) l is long)
    where
      by : (n : ℕ) → n + 1 ≡ suc n
      by n = omega arith
  leads_legs c there done l (n ∷ rest) whole =
      let is : slice_get (legs c) (length done) ≡ Some l = ap (λ ls. slice_get ls (length done)) whole ∙ at_length done l (n ∷ rest) in
      let is_on : slice_get (legs c) (suc (length done)) ≡ Some n = ap (λ ls. slice_get ls (suc (length done))) whole ∙ at_next done l n rest in
      let on = leads_legs c there (done ++ l ∷ []) n rest (whole ∙ sym (append_assoc done (l ∷ []) (n ∷ rest))) in
      by is is_on on n.long refl
    where
      its : IsCourse m c
      its = are.each c there

      by : slice_get (legs c) (length done) ≡ Some l → slice_get (legs c) (suc (length done)) ≡ Some n → Leads m c.wire.to (spot n n.long) (runs rest)
          → (long : ℕ) → n.long ≡ long → Leads m c.wire.to (spot l l.long) (run n 0 long ++ runs rest)
      by is is_on on zero e = absurd (let x = (its.joints (length done) l n is is_on).on in omega arith)
      by is is_on on (suc long) e =
          let straight = its.straight (suc (length done)) n is_on in
          let last : IsTaker m (spot n n.long) = last_takes c there (done ++ l ∷ []) n rest (whole ∙ sym (append_assoc done (l ∷ []) (n ∷ rest))) in
          let first : IsTaker m (spot n 1) = first_takes straight last in
          let joint = its.joints (length done) l n is is_on in
          let to : next (spot l l.long) n.to ≡ spot n (0 + 1) = ap (λ p. next (record { place = p; to = l.to }) n.to) (sym joint.joined) ∙ (ap (λ s. next s n.to) (sym (spot_first n)) ∙ spot_next n 0) in
          leads (spot n (0 + 1)) (subst (λ t. GoesOn m (spot l l.long) (t ∷ [])) to (turns n.to joint.turn (turns_to c there (length done) l n is is_on first)), first)
          (leads_run m c.wire.to n (runs rest) straight last on (0 + 1) long (omega arith) (λ lt. let s = straight 1 (omega arith) (omega arith) in (straight_no_end m (spot n 1) s, straight_no_turn m (spot n 1) s)))
        where
          first_takes : ((j : ℕ) → 0 < j → j < n.long → IsStraight m (spot n j)) → IsTaker m (spot n n.long) → IsTaker m (spot n 1)
          first_takes straight last = elim (cases_lt 1 n.long) [
            | inl less ↦ inl (straight 1 (omega arith) less)
            | inr more ↦ (let one : n.long ≡ 1 = omega arith in subst (λ j. IsTaker m (spot n j)) one last)
          ]

  -- the course leads from its start to the end of its wire
  course_leads : (c : Course) → Contains cs c → Leads m c.wire.to c.start (runs (legs c))
  course_leads c there =
      let l : Leg = record { from = c.start.place; to = c.start.to; long = c.long } in
      let rest = legs_from (along c.start.to c.long c.start.place) c.bends in
      let on = leads_legs c there [] l rest refl in
      let last = last_takes c there [] l rest refl in
      subst (λ s. Leads m c.wire.to s (runs (legs c))) (spot_first l)
      (leads_run m c.wire.to l (runs rest) ((are.each c there).straight 0 l refl) last on 0 c.long (omega arith)
      (λ lt. subst (λ s. (IsEnd m s → ⊥) × (IsTurn m s → ⊥)) (sym (spot_first l)) (start_goes_on c there lt)))

-- the position of a course on one of its legs; where a leg begins at a joint, that is the end of the leg before
pub record Spot (c : Course) (t : Position) : Type 0 where
  pub number : ℕ
  pub leg : Leg
  pub is : slice_get (legs c) number ≡ Some leg
  pub far : ℕ
  pub within : far ≤ leg.long
  pub on : (0 < far) ⊎ (number ≡ 0)
  pub at : spot leg far ≡ t

pub axes_or : (a b : Axis) → (a ≡ b) ⊎ (a ≢ b)
axes_or horizontal horizontal = inl refl
axes_or horizontal vertical = inr (λ e. cc)
axes_or vertical horizontal = inr (λ e. cc)
axes_or vertical vertical = inl refl

-- each leg fits, and no two are near each other
pub record AreFar (cs : List Course) : Type 0 where
  pub fits : (c : Course) → Contains cs c → (k : ℕ) (l : Leg) → slice_get (legs c) k ≡ Some l → Fits l.to l.from l.long
  pub near : (c d : Course) (k j : ℕ) (l n : Leg) → Contains cs c → Contains cs d → slice_get (legs c) k ≡ Some l → slice_get (legs d) j ≡ Some n → Near l n → (c ≡ d) × (k ≡ j)

module _ (cs : List Course) (far : AreFar cs) where
  -- where two legs have a cell on one axis, they are one, and it is the same cell of it
  pub one_cell : (c d : Course) → Contains cs c → Contains cs d → (k j : ℕ) (l n : Leg) → slice_get (legs c) k ≡ Some l → slice_get (legs d) j ≡ Some n
      → (i h : ℕ) → i ≤ l.long → h ≤ n.long → axis_of l.to ≡ axis_of n.to → along l.to i l.from ≡ along n.to h n.from → (c ≡ d) × (k ≡ j) × (l ≡ n) × (i ≡ h)
  one_cell c d there there_d k j l n is is_n i h le me axes same =
      let fits = far.fits c there k l is in
      let (e, number) = far.near c d k j l n there there_d is is_n (near_one l n i h le me fits (far.fits d there_d j n is_n) axes same) in
      let leg : l ≡ n = same_Some l n (sym is ∙ (ap (slice_get (legs c)) number ∙ (ap (λ x. slice_get (legs x) j) e ∙ is_n))) in
      (e, number, leg, spot_one l i h le (subst (λ (z : Leg). h ≤ z.long) (sym leg) me) fits (same ∙ subst (λ (z : Leg). along n.to h n.from ≡ along z.to h z.from) (sym leg) refl))

module _ (m : Drawing) (cs : List Course) (are : AreCourses m cs) where
  far_apart : AreFar cs
  far_apart = record { fits = λ c there. (are.each c there).fits; near = are.near }

  -- the leg on which a wire goes on from a joint has no position there
  not_on : (c : Course) → Contains cs c → (s : Position) (at : Spot c s) (joint : AtJoint cs s.place) → axis_of s.to ≡ axis_of joint.on.to → ⊥
  not_on c there s at joint axes =
      let j = (are.each joint.course joint.there).joints joint.number joint.leg joint.on joint.is joint.is_on in
      let axis : axis_of at.leg.to ≡ axis_of joint.on.to = ap (λ (t : Position). axis_of t.to) at.at ∙ axes in
      let first = ap (λ (t : Position). t.place) (spot_first joint.on) in
      let place : along at.leg.to at.far at.leg.from ≡ along joint.on.to 0 joint.on.from = ap (λ (t : Position). t.place) at.at ∙ (sym joint.place ∙ (sym j.joined ∙ sym first)) in
      let (e, number, leg, far) = one_cell cs far_apart c joint.course there joint.there at.number (suc joint.number) at.leg joint.on at.is joint.is_on at.far 0 at.within (omega arith) axis place in
      elim at.on [ inl pos ↦ (omega arith) | inr zero_number ↦ (omega arith) ]

  collide_one : (c d : Course) → Contains cs c → Contains cs d → (s t : Position) (at : Spot c s) (at_t : Spot d t) → Collide m s t → (c ≡ d) × (at.number ≡ at_t.number) × (at.far ≡ at_t.far)
  collide_one c d there there_d s t at at_t (place, how) = elim (axes_or (axis_of s.to) (axis_of t.to)) [
    | inl same ↦
        (let (e, number, leg, far) = one_cell cs far_apart c d there there_d at.number at_t.number at.leg at_t.leg at.is at_t.is at.far at_t.far at.within at_t.within
        (ap (λ (z : Position). axis_of z.to) at.at ∙ (same ∙ sym (ap (λ (z : Position). axis_of z.to) at_t.at)))
        (ap (λ (z : Position). z.place) at.at ∙ (place ∙ sym (ap (λ (z : Position). z.place) at_t.at))) in
        (e, number, far))
    | inr differ ↦ elim how [
      | inl same ↦ absurd (differ same)
      | inr turn ↦
          (let joint = are.turned s.place turn in
          let other = ((are.each joint.course joint.there).joints joint.number joint.leg joint.on joint.is joint.is_on).other in
          elim (axes_or (axis_of s.to) (axis_of joint.on.to)) [
            | inl on ↦ absurd (not_on c there s at joint on)
            | inr off ↦ absurd (not_on d there_d t at_t (subst (AtJoint cs) place joint)
                (subst_axis place joint (axes_two (axis_of t.to) (axis_of joint.on.to) (axis_of s.to) (λ e. differ (sym e)) (λ e. off (sym e)))))
          ])
    ]
  ]
    where
      subst_axis : (place : s.place ≡ t.place) (joint : AtJoint cs s.place) → axis_of t.to ≡ axis_of joint.on.to → axis_of t.to ≡ axis_of (subst (AtJoint cs) place joint).on.to
      subst_axis place joint e = e

  -- the positions of the legs from one on
  record RunSpot (c : Course) (from : ℕ) (t : Position) : Type 0 where
    spot_of : Spot c t
    late : from ≤ spot_of.number
    far : 0 < spot_of.far

  in_run : (l : Leg) (i n : ℕ) (t : Position) → Contains (run l i n) t → (j : ℕ) × (i < j) × (j ≤ i + n) × (spot l j ≡ t)
  in_run l i zero t (k, lt, is) = absurd (omega arith)
  in_run l i (suc n) t there = elim (Contains-append_cases (spot l (i + 1) ∷ []) (run l (i + 1) n) t there) [
    | inl (k, lt, is) ↦ (i + 1, omega arith, omega arith, ap (λ z. get_or (spot l (i + 1) ∷ []) z t) (by k lt) ∙ is)
    | inr later ↦ (let (j, above, below, is) = in_run l (i + 1) n t later in (j, omega arith, omega arith, is))
  ]
    where
      by : (k : ℕ) → k < 1 → 0 ≡ k
      by k lt = omega arith

  in_runs : (c : Course) (done rest : List Leg) → legs c ≡ done ++ rest → (t : Position) → Contains (runs rest) t → RunSpot c (length done) t
  in_runs c done [] whole t (k, lt, is) = absurd (omega arith)
  in_runs c done (l ∷ rest) whole t there = elim (Contains-append_cases (run l 0 l.long) (runs rest) t there) [
    | inl here ↦
        (let (j, above, below, is) = in_run l 0 l.long t here in
        record {
          spot_of = record { number = length done; leg = l; is = ap (λ ls. slice_get ls (length done)) whole ∙ at_length done l rest; far = j; within = omega arith; on = inl above; at = is };
          late = omega arith;
          far = above;
        })
    | inr later ↦
        (let s = in_runs c (done ++ l ∷ []) rest (whole ∙ sym (append_assoc done (l ∷ []) rest)) t later in
        let n = length-append done (l ∷ []) in
        let late = s.late in
        record { spot_of = s.spot_of; late = omega arith; far = s.far })
  ]

  in_way : (c : Course) (t : Position) → Contains (way (route c)) t → Spot c t
  in_way c t there = elim (Contains-append_cases (c.start ∷ []) (runs (legs c)) t there) [
    | inl (k, lt, is) ↦ record {
      number = 0;
      leg = record { from = c.start.place; to = c.start.to; long = c.long };
      is = refl;
      far = 0;
      within = omega arith;
      on = inr refl;
      at = spot_first (record { from = c.start.place; to = c.start.to; long = c.long }) ∙ (ap (λ z. get_or (c.start ∷ []) z t) (by k lt) ∙ is);
    }
    | inr later ↦ (in_runs c [] (legs c) refl t later).spot_of
  ]
    where
      by : (k : ℕ) → k < 1 → 0 ≡ k
      by k lt = omega arith

  run_apart : (c : Course) → Contains cs c → (k : ℕ) (l : Leg) → slice_get (legs c) k ≡ Some l → (i n : ℕ) → i + n ≤ l.long → AreApart m (run l i n)
  run_apart c there k l is i zero le = λ x y d less lt. absurd (omega arith)
  run_apart c there k l is i (suc n) le =
      pairs_cons (λ s t. Collide m s t → ⊥) (spot l (i + 1)) (run l (i + 1) n)
      (all_there (λ t. Collide m (spot l (i + 1)) t → ⊥) (run l (i + 1) n) (λ t t_there collide.
      let (j, above, below, at) = in_run l (i + 1) n t t_there in
      let (e, number, far) = collide_one c c there there (spot l (i + 1)) t
      (record { number = k; leg = l; is = is; far = i + 1; within = omega arith; on = inl (omega arith); at = refl })
      (record { number = k; leg = l; is = is; far = j; within = omega arith; on = inl (omega arith); at = at }) collide in
      omega arith))
      (run_apart c there k l is (i + 1) n (omega arith))

  legs_apart : (c : Course) → Contains cs c → (done rest : List Leg) → legs c ≡ done ++ rest → AreApart m (runs rest)
  legs_apart c there done [] whole = λ i j d less lt. absurd (omega arith)
  legs_apart c there done (l ∷ rest) whole =
      let is : slice_get (legs c) (length done) ≡ Some l = ap (λ ls. slice_get ls (length done)) whole ∙ at_length done l rest in
      let on : legs c ≡ (done ++ l ∷ []) ++ rest = whole ∙ sym (append_assoc done (l ∷ []) rest) in
      pairs_append (λ s t. Collide m s t → ⊥) (run l 0 l.long) (runs rest)
      (run_apart c there (length done) l is 0 l.long (omega arith))
      (legs_apart c there (done ++ l ∷ []) rest on)
      (λ s t s_there t_there collide.
      let (j, above, below, at) = in_run l 0 l.long s s_there in
      let later = in_runs c (done ++ l ∷ []) rest on t t_there in
      let n = length-append done (l ∷ []) in
      let late = later.late in
      let (e, number, far) = collide_one c c there there s t (record { number = length done; leg = l; is = is; far = j; within = omega arith; on = inl above; at = at }) later.spot_of collide in
      omega arith)

  course_apart : (c : Course) → Contains cs c → AreApart m (way (route c))
  course_apart c there =
      pairs_cons (λ s t. Collide m s t → ⊥) c.start (runs (legs c))
      (all_there (λ t. Collide m c.start t → ⊥) (runs (legs c)) (λ t t_there collide.
      let later = in_runs c [] (legs c) refl t t_there in
      let pos = later.far in
      let (e, number, far) = collide_one c c there there c.start t (record { number = 0; leg = first; is = refl; far = 0; within = omega arith; on = inr refl; at = spot_first first }) later.spot_of collide in
      omega arith))
      (legs_apart c there [] (legs c) refl)
    where
      first : Leg
      first = record { from = c.start.place; to = c.start.to; long = c.long }

  routes_one : (r q : Route) → Contains (map route cs) r → Contains (map route cs) q → Meet m r q → r ≡ q
  routes_one r q there there_q (k, s, lt, is, (j, t, less, at, collide)) =
      let (c, c_there, r_is) = map_contains route cs r there in
      let (d, d_there, q_is) = map_contains route cs q there_q in
      let s_there : Contains (way (route c)) s = subst (λ z. Contains (way z) s) (sym r_is) (k, lt, is) in
      let t_there : Contains (way (route d)) t = subst (λ z. Contains (way z) t) (sym q_is) (j, less, at) in
      let (e, number, far) = collide_one c d c_there d_there s t (in_way c s s_there) (in_way d t t_there) collide in
      sym r_is ∙ (ap route e ∙ q_is)

  pub courses_laid : AreLaid m (map route cs)
  courses_laid = record {
    each = λ r there. let (c, c_there, is) = map_contains route cs r there in
        subst (IsRoute m) is (record { starts = (are.each c c_there).starts; leads = course_leads m cs are c c_there; apart = course_apart c c_there });
    begun = λ s starts. let (c, c_there, is) = are.begun s starts in (route c, contains_map route cs c c_there, is);
    apart = routes_one;
    ports = are.ports;
    stray = are.stray;
  }
