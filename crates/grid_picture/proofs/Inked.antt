-- The bytes of cells of wires say which legs have the cell.
use Rattle.std.specs.Prelude.{◌≡◌, ◌≢◌, ◌+◌, ◌-◌, ◌<◌, ◌≤◌, ◌⊎◌, ◌&&◌, ◌==◌, ℕ, zero, suc, Bool, true, false, List, [], ◌∷◌, slice_get, Some, nat_le, if◌then◌else◌}
use Rattle.std.specs.List.{Contains, list_any}
use Rattle.std.proofs.Common.{arith, refl, sym, ap, subst, ◌∙◌, inl, inr, get_or}
use Rattle.std.proofs.lemmas.Bool.{eqb-true, eq-eqb, leb-true, le-leb}
use Rattle.std.proofs.lemmas.List.Folds.{Any-from_list_any, list_any_at}
use Rattle.std.proofs.lemmas.Option.{same_Some, slice_get-get_or, slice_get_within, get_or_from_slice_get}
use Rattle.umix_base.specs.declared.place.Place.{Place}
use Rattle.two_d.specs.Places.{at}
use Rattle.two_d.specs.Wires.{Direction, east, west, south, north, Axis, horizontal, vertical, axis_of, line, Position}
use Rattle.two_d.proofs.Equal.{equal_places}
use Rattle.grid_picture.specs.Courses.{along, Leg, Course, legs_from, legs, bent_legs, has_cell, same_axis, passes, bends_at, wire_byte}
use Rattle.grid_picture.proofs.Courses.{OnLeg, AtJoint, AreFar, one_cell, axes_or, axes_two}
use Rattle.grid_picture.proofs.Legs.{Fits, spot_first}

both_true : (a b : Bool) → (a && b) ≡ true → (a ≡ true) × (b ≡ true)
both_true true true e = (refl, refl)
both_true true false e = absurd (cc)
both_true false b e = absurd (cc)

true_both : (a b : Bool) → a ≡ true → b ≡ true → (a && b) ≡ true
true_both a b x y = ap (λ z. z && b) x ∙ y

axis_is : (a b : Axis) → same_axis a b ≡ true → b ≡ a
axis_is horizontal horizontal e = refl
axis_is horizontal vertical e = absurd (cc)
axis_is vertical horizontal e = absurd (cc)
axis_is vertical vertical e = refl

is_its_axis : (a : Axis) → same_axis a a ≡ true
is_its_axis horizontal = refl
is_its_axis vertical = refl

three_true : (a b c : Bool) → (a && b && c) ≡ true → (a ≡ true) × (b ≡ true) × (c ≡ true)
three_true true true true e = (refl, refl, refl)
three_true true true false e = absurd (cc)
three_true true false c e = absurd (cc)
three_true false b c e = absurd (cc)

true_three : (a b c : Bool) → a ≡ true → b ≡ true → c ≡ true → (a && b && c) ≡ true
true_three true true true x y z = refl
true_three true true false x y z = absurd (cc)
true_three true false c x y z = absurd (cc)
true_three false b c x y z = absurd (cc)

-- how far a cell of a leg is from its begin
far_at : (d : Direction) (f : Place) (n : ℕ) (p : Place) → has_cell d f n p ≡ true → (i : ℕ) × (i ≤ n) × (along d i f ≡ p)
far_at east f n p e =
    let (a, b, c) = three_true (p.row == f.row) (nat_le f.col p.col) (nat_le p.col (f.col + n)) e in
    let row = eqb-true p.row f.row a in let low = leb-true f.col p.col b in let high = leb-true p.col (f.col + n) c in
    (p.col - f.col, omega arith, equal_places (at f.row (f.col + (p.col - f.col))) p (sym row) (omega arith))
far_at west f n p e =
    let (a, b, c) = three_true (p.row == f.row) (nat_le p.col f.col) (nat_le f.col (p.col + n)) e in
    let row = eqb-true p.row f.row a in let low = leb-true p.col f.col b in let high = leb-true f.col (p.col + n) c in
    (f.col - p.col, omega arith, equal_places (at f.row (f.col - (f.col - p.col))) p (sym row) (omega arith))
far_at south f n p e =
    let (a, b, c) = three_true (p.col == f.col) (nat_le f.row p.row) (nat_le p.row (f.row + n)) e in
    let col = eqb-true p.col f.col a in let low = leb-true f.row p.row b in let high = leb-true p.row (f.row + n) c in
    (p.row - f.row, omega arith, equal_places (at (f.row + (p.row - f.row)) f.col) p (omega arith) (sym col))
far_at north f n p e =
    let (a, b, c) = three_true (p.col == f.col) (nat_le p.row f.row) (nat_le f.row (p.row + n)) e in
    let col = eqb-true p.col f.col a in let low = leb-true p.row f.row b in let high = leb-true f.row (p.row + n) c in
    (f.row - p.row, omega arith, equal_places (at (f.row - (f.row - p.row)) f.col) p (omega arith) (sym col))

-- each cell of a leg is one that it has
has_spot : (d : Direction) (f : Place) (n i : ℕ) → i ≤ n → Fits d f n → has_cell d f n (along d i f) ≡ true
has_spot east f n i le fits = true_three _ _ _ (eq-eqb f.row f.row refl) (le-leb f.col (f.col + i) (omega arith)) (le-leb (f.col + i) (f.col + n) (omega arith))
has_spot west f n i le fits = true_three _ _ _ (eq-eqb f.row f.row refl) (le-leb (f.col - i) f.col (omega arith)) (le-leb f.col (f.col - i + n) (omega arith))
has_spot south f n i le fits = true_three _ _ _ (eq-eqb f.col f.col refl) (le-leb f.row (f.row + i) (omega arith)) (le-leb (f.row + i) (f.row + n) (omega arith))
has_spot north f n i le fits = true_three _ _ _ (eq-eqb f.col f.col refl) (le-leb (f.row - i) f.row (omega arith)) (le-leb f.row (f.row - i + n) (omega arith))

-- a cell that some wire passes on an axis is of a leg on that axis
pub passed_on : (a : Axis) (cs : List Course) (p : Place) → passes a cs p ≡ true → OnLeg cs p a
passed_on a cs p e =
    let (k, c, lt, at_k, some_leg) = Any-from_list_any (λ c. list_any (λ (l : Leg). same_axis a (axis_of l.to) && has_cell l.to l.from l.long p) (legs c)) cs e in
    let (j, l, less, at_j, has) = Any-from_list_any (λ (l : Leg). same_axis a (axis_of l.to) && has_cell l.to l.from l.long p) (legs c) some_leg in
    let (axis, cell_there) = both_true (same_axis a (axis_of l.to)) (has_cell l.to l.from l.long p) has in
    let (far, within, place) = far_at l.to l.from l.long p cell_there in
    record {
      course = c;
      there = (k, lt, at_k);
      number = j;
      leg = l;
      is = slice_get-get_or (legs c) j l less ∙ ap (λ z. Some z) at_j;
      far = far;
      within = within;
      axis = axis_is a (axis_of l.to) axis;
      place = place;
    }

-- each cell of a leg is passed on its axis
pub leg_passes : (cs : List Course) (c : Course) → Contains cs c → (k : ℕ) (l : Leg) → slice_get (legs c) k ≡ Some l → Fits l.to l.from l.long → (i : ℕ) → i ≤ l.long → passes (axis_of l.to) cs (along l.to i l.from) ≡ true
leg_passes cs c (j, lt, at_j) k l is fits i le =
    list_any_at (λ c. list_any (λ (n : Leg). same_axis (axis_of l.to) (axis_of n.to) && has_cell n.to n.from n.long (along l.to i l.from)) (legs c)) cs j c lt
    (subst (λ z. list_any (λ (n : Leg). same_axis (axis_of l.to) (axis_of n.to) && has_cell n.to n.from n.long (along l.to i l.from)) (legs z) ≡ true) (sym at_j)
    (list_any_at (λ (n : Leg). same_axis (axis_of l.to) (axis_of n.to) && has_cell n.to n.from n.long (along l.to i l.from)) (legs c) k l (slice_get_within (legs c) k l is)
    (subst (λ (n : Leg). (same_axis (axis_of l.to) (axis_of n.to) && has_cell n.to n.from n.long (along l.to i l.from)) ≡ true) (sym (get_or_from_slice_get (legs c) k l l is))
    (true_both (same_axis (axis_of l.to) (axis_of l.to)) (has_cell l.to l.from l.long (along l.to i l.from)) (is_its_axis (axis_of l.to)) (has_spot l.to l.from l.long i le fits)))))

-- a leg begins where the one before it ends
joined_from : (p : Place) (bends : List (Direction × ℕ)) (k : ℕ) (l n : Leg) → slice_get (legs_from p bends) k ≡ Some l → slice_get (legs_from p bends) (suc k) ≡ Some n → along l.to l.long l.from ≡ n.from
joined_from p [] k l n at_k at_next = absurd (cc)
joined_from p ((d, i) ∷ []) k l n at_k at_next = absurd (let lt = slice_get_within (legs_from p ((d, i) ∷ [])) (suc k) n at_next in omega arith)
joined_from p ((d, i) ∷ (e, j) ∷ more) zero l n at_k at_next =
    let one = same_Some (record { from = p; to = d; long = i }) l at_k in
    let other = same_Some (record { from = along d i p; to = e; long = j }) n at_next in
    subst (λ (z : Leg). along z.to z.long z.from ≡ n.from) one (ap (λ (z : Leg). z.from) other)
joined_from p ((d, i) ∷ (e, j) ∷ more) (suc k) l n at_k at_next = joined_from (along d i p) ((e, j) ∷ more) k l n at_k at_next

pub joined : (c : Course) (k : ℕ) (l n : Leg) → slice_get (legs c) k ≡ Some l → slice_get (legs c) (suc k) ≡ Some n → along l.to l.long l.from ≡ n.from
joined c k l n at_k at_next = joined_from c.start.place ((c.start.to, c.long) ∷ c.bends) k l n at_k at_next

-- a cell at which some wire turns is a joint
pub bend_at : (cs : List Course) (p : Place) → bends_at cs p ≡ true → AtJoint cs p
bend_at cs p e =
    let (k, c, lt, at_k, some_leg) = Any-from_list_any (λ c. list_any (λ (l : Leg). (l.from.row == p.row) && (l.from.col == p.col)) (bent_legs c)) cs e in
    let (j, n, less, at_j, here) = Any-from_list_any (λ (l : Leg). (l.from.row == p.row) && (l.from.col == p.col)) (bent_legs c) some_leg in
    let (row, col) = both_true (n.from.row == p.row) (n.from.col == p.col) here in
    let is_on : slice_get (legs c) (suc j) ≡ Some n = slice_get-get_or (bent_legs c) j n less ∙ ap (λ z. Some z) at_j in
    let l = get_or (legs c) j n in
    let is : slice_get (legs c) j ≡ Some l = slice_get-get_or (legs c) j n (omega arith) in
    record {
      course = c;
      there = (k, lt, at_k);
      number = j;
      leg = l;
      on = n;
      is = is;
      is_on = is_on;
      place = joined c j l n is is_on ∙ equal_places n.from p (eqb-true n.from.row p.row row) (eqb-true n.from.col p.col col);
    }

-- at each joint some wire turns
pub joint_bends : (cs : List Course) (c : Course) → Contains cs c → (k : ℕ) (n : Leg) → slice_get (legs c) (suc k) ≡ Some n → bends_at cs n.from ≡ true
joint_bends cs c (j, lt, at_j) k n is =
    list_any_at (λ c. list_any (λ (l : Leg). (l.from.row == n.from.row) && (l.from.col == n.from.col)) (bent_legs c)) cs j c lt
    (subst (λ z. list_any (λ (l : Leg). (l.from.row == n.from.row) && (l.from.col == n.from.col)) (bent_legs z) ≡ true) (sym at_j)
    (list_any_at (λ (l : Leg). (l.from.row == n.from.row) && (l.from.col == n.from.col)) (bent_legs c) k n (slice_get_within (bent_legs c) k n is)
    (subst (λ (l : Leg). ((l.from.row == n.from.row) && (l.from.col == n.from.col)) ≡ true) (sym (get_or_from_slice_get (bent_legs c) k n n is))
    (true_both _ _ (eq-eqb n.from.row n.from.row refl) (eq-eqb n.from.col n.from.col refl)))))

-- the byte of a cell of wires, by what passes there
byte_of : Bool → Bool → Bool → ℕ
byte_of turns across down = if turns then 43 else (if across then (if down then 35 else 45) else (if down then 124 else 32))

byte_turn : (turns across down : Bool) → byte_of turns across down ≡ 43 → turns ≡ true
unfolding byte_of
byte_turn true across down e = refl
byte_turn false true true e = absurd (omega arith)
byte_turn false true false e = absurd (omega arith)
byte_turn false false true e = absurd (omega arith)
byte_turn false false false e = absurd (omega arith)

byte_across : (turns across down : Bool) → (byte_of turns across down ≡ 45) ⊎ (byte_of turns across down ≡ 35) → across ≡ true
unfolding byte_of
byte_across turns true down e = refl
byte_across true false down (inl e) = absurd (omega arith)
byte_across true false down (inr e) = absurd (omega arith)
byte_across false false true (inl e) = absurd (omega arith)
byte_across false false true (inr e) = absurd (omega arith)
byte_across false false false (inl e) = absurd (omega arith)
byte_across false false false (inr e) = absurd (omega arith)

byte_down : (turns across down : Bool) → (byte_of turns across down ≡ 124) ⊎ (byte_of turns across down ≡ 35) → down ≡ true
unfolding byte_of
byte_down turns across true e = refl
byte_down true across false (inl e) = absurd (omega arith)
byte_down true across false (inr e) = absurd (omega arith)
byte_down false true false (inl e) = absurd (omega arith)
byte_down false true false (inr e) = absurd (omega arith)
byte_down false false false (inl e) = absurd (omega arith)
byte_down false false false (inr e) = absurd (omega arith)

-- a cell with the byte of a line, or `#`, is of a leg on that axis
pub line_is_on : (a : Axis) (cs : List Course) (p : Place) → (wire_byte cs p ≡ line a) ⊎ (wire_byte cs p ≡ 35) → OnLeg cs p a
unfolding byte_of
line_is_on horizontal cs p e = passed_on horizontal cs p (byte_across (bends_at cs p) (passes horizontal cs p) (passes vertical cs p) e)
line_is_on vertical cs p e = passed_on vertical cs p (byte_down (bends_at cs p) (passes horizontal cs p) (passes vertical cs p) e)

-- a `+` is where a wire turns
pub turn_is_at : (cs : List Course) (p : Place) → wire_byte cs p ≡ 43 → AtJoint cs p
unfolding byte_of
turn_is_at cs p e = bend_at cs p (byte_turn (bends_at cs p) (passes horizontal cs p) (passes vertical cs p) e)

byte_passed : (a : Axis) (turns across down : Bool) → turns ≡ false → ((a ≡ horizontal) × (across ≡ true)) ⊎ ((a ≡ vertical) × (down ≡ true)) → (byte_of turns across down ≡ line a) ⊎ (byte_of turns across down ≡ 35)
unfolding byte_of
byte_passed a true across down x y = absurd (cc)
byte_passed a false true true x y = inr refl
byte_passed a false true false x (inl (axis, z)) = inl (ap line (sym axis))
byte_passed a false true false x (inr (axis, z)) = absurd (cc)
byte_passed a false false true x (inl (axis, z)) = absurd (cc)
byte_passed a false false true x (inr (axis, z)) = inl (ap line (sym axis))
byte_passed a false false false x (inl (axis, z)) = absurd (cc)
byte_passed a false false false x (inr (axis, z)) = absurd (cc)

module _ (cs : List Course) (far : AreFar cs) (turns : (c : Course) (k : ℕ) (l n : Leg) → Contains cs c → slice_get (legs c) k ≡ Some l → slice_get (legs c) (suc k) ≡ Some n → axis_of n.to ≢ axis_of l.to) where
  -- between its ends a leg has no joint
  no_joint : (c : Course) → Contains cs c → (k : ℕ) (l : Leg) → slice_get (legs c) k ≡ Some l → (j : ℕ) → 0 < j → j < l.long → AtJoint cs (along l.to j l.from) → ⊥
  no_joint c there k l is j pos lt joint = elim (axes_or (axis_of l.to) (axis_of joint.leg.to)) [
    | inl same ↦
        (let (e, number, leg, at_end) = one_cell cs far c joint.course there joint.there k joint.number l joint.leg is joint.is j joint.leg.long (omega arith) (omega arith) same (sym joint.place) in
        let long = ap (λ (z : Leg). z.long) leg in omega arith)
    | inr other ↦
        (let turn = turns joint.course joint.number joint.leg joint.on joint.there joint.is joint.is_on in
        let axis = axes_two (axis_of l.to) (axis_of joint.on.to) (axis_of joint.leg.to) other turn in
        let first = ap (λ (z : Position). z.place) (spot_first joint.on) in
        let (e, number, leg, at_begin) = one_cell cs far c joint.course there joint.there k (suc joint.number) l joint.on is joint.is_on j 0 (omega arith) (omega arith) axis
        (sym joint.place ∙ (joined joint.course joint.number joint.leg joint.on joint.is joint.is_on ∙ sym first)) in
        omega arith)
  ]

  -- the cells of a leg between its ends have the byte of its axis, or `#`
  pub leg_byte : (c : Course) → Contains cs c → (k : ℕ) (l : Leg) → slice_get (legs c) k ≡ Some l → (j : ℕ) → 0 < j → j < l.long
      → (wire_byte cs (along l.to j l.from) ≡ line (axis_of l.to)) ⊎ (wire_byte cs (along l.to j l.from) ≡ 35)
  unfolding byte_of
  leg_byte c there k l is j pos lt =
      byte_passed (axis_of l.to) (bends_at cs p) (passes horizontal cs p) (passes vertical cs p) (not_bent (bends_at cs p) refl) (passed_there (axis_of l.to) refl)
    where
      p : Place
      p = along l.to j l.from

      not_bent : (b : Bool) → bends_at cs p ≡ b → b ≡ false
      not_bent true e = absurd (no_joint c there k l is j pos lt (bend_at cs p e))
      not_bent false e = refl

      passed_there : (a : Axis) → axis_of l.to ≡ a → ((axis_of l.to ≡ horizontal) × (passes horizontal cs p ≡ true)) ⊎ ((axis_of l.to ≡ vertical) × (passes vertical cs p ≡ true))
      passed_there horizontal e = inl (e, subst (λ a. passes a cs p ≡ true) e (leg_passes cs c there k l is (far.fits c there k l is) j (omega arith)))
      passed_there vertical e = inr (e, subst (λ a. passes a cs p ≡ true) e (leg_passes cs c there k l is (far.fits c there k l is) j (omega arith)))

  -- the cell of a joint is `+`
  pub joint_byte : (c : Course) → Contains cs c → (k : ℕ) (n : Leg) → slice_get (legs c) (suc k) ≡ Some n → wire_byte cs n.from ≡ 43
  unfolding byte_of
  joint_byte c there k n is = ap (λ b. byte_of b (passes horizontal cs n.from) (passes vertical cs n.from)) (joint_bends cs c there k n is)
