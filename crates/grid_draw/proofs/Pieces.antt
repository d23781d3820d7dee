-- The legs of the wires of a drawing, written out.
use Rattle.std.specs.Prelude.{◌≡◌, ◌+◌, ◌-◌, ◌<◌, ◌≤◌, ℕ, zero, suc, Bool, true, false, ◌∷◌, length}
use Rattle.std.specs.Prelude.{slice_get, Some, nat_lt, if◌then◌else◌}
use Rattle.std.proofs.Common.{arith, refl, sym, ap, subst, ◌∙◌}
use Rattle.std.proofs.lemmas.Bool.{ltb-true, ltb-false}
use Rattle.std.proofs.lemmas.Option.{same_Some}
use Rattle.umix_base.specs.declared.place.Place.{Place}
use Rattle.two_d.specs.Places.{at}
use Rattle.two_d.specs.Clean.{WireForm}
use Rattle.two_d.specs.Programs.{ModuleForm}
use Rattle.two_d.specs.Wires.{Direction, east, west, south, north}
use Rattle.two_d.specs.declared.module.Origin.{Origin}
use Rattle.two_d.specs.declared.module.Origin.TheVariants.{North, West, South, East}
use Rattle.two_d.specs.declared.module.To.{To}
use Rattle.two_d.specs.declared.module.To.TheVariants.{N, W, Exit}
use Rattle.two_d.proofs.Equal.{equal_places}
use Rattle.grid_picture.specs.Courses.{along, Leg, legs_from, legs}
use Rattle.grid_draw.specs.Layout.{columns, box_row, east_of, start_row, end_row, last_bends}
use Rattle.grid_draw.specs.Layout.{bends_on, course_on}

-- a leg by the row and the column of its begin
abbrev pub leg_at : ℕ → ℕ → Direction → ℕ → Leg
leg_at row col d n = record { from = at row col; to = d; long = n }

-- how many legs a wire has before its track
abbrev pub before : Origin → ℕ
before North = 0
before West = 1
before (East b) = 1
before (South b) = 2

-- which leg of the wire that is: from its start to the track in column t, along the track, and on
-- to its end
pub data IsPiece (m : ModuleForm) (t : ℕ) (o : Origin) (e : To) : ℕ → Leg → Type 0 where
  from_west : o ≡ West → IsPiece m t o e 0 (leg_at 2 0 east t)
  from_east : (b : ℕ) → o ≡ East b → IsPiece m t o e 0
      (leg_at (box_row b 4) (east_of m b) east (t - east_of m b))
  out_south : (b : ℕ) → o ≡ South b → IsPiece m t o e 0 (leg_at (box_row b 6) 5 south 1)
  from_south : (b : ℕ) → o ≡ South b → IsPiece m t o e 1 (leg_at (box_row b 7) 5 east (t - 5))
  falls : start_row o < end_row m e → IsPiece m t o e (before o)
      (leg_at (start_row o) t south (end_row m e - start_row o))
  rises : end_row m e ≤ start_row o → IsPiece m t o e (before o)
      (leg_at (start_row o) t north (start_row o - end_row m e))
  to_n : (b : ℕ) → e ≡ N b → IsPiece m t o e (suc (before o)) (leg_at (end_row m e) t west (t - 5))
  to_w : (b : ℕ) → e ≡ W b → IsPiece m t o e (suc (before o)) (leg_at (end_row m e) t west (t - 2))
  to_exit : (i : ℕ) → e ≡ Exit i → IsPiece m t o e (suc (before o))
      (leg_at (end_row m e) t east (columns m + 1 - t))
  into_n : (b : ℕ) → e ≡ N b → IsPiece m t o e (suc (suc (before o)))
      (leg_at (box_row b 1) 5 south 1)
  down_w : (b : ℕ) → e ≡ W b → IsPiece m t o e (suc (suc (before o)))
      (leg_at (box_row b 0) 2 south 4)
  into_w : (b : ℕ) → e ≡ W b → IsPiece m t o e (suc (suc (suc (before o))))
      (leg_at (box_row b 4) 2 east 1)

-- the boxes of a start and an end are among those of the module, and so is the exit
pub record AreThere (m : ModuleForm) (o : Origin) (e : To) : Type 0 where
  pub south_box : (b : ℕ) → o ≡ South b → b < length m.boxes
  pub east_box : (b : ℕ) → o ≡ East b → b < length m.boxes
  pub n_box : (b : ℕ) → e ≡ N b → b < length m.boxes
  pub w_box : (b : ℕ) → e ≡ W b → b < length m.boxes
  pub exit : (i : ℕ) → e ≡ Exit i → i < length m.exits

-- the column is to the right of all boxes
abbrev pub IsPast : ModuleForm → ℕ → Type 0
IsPast m t = (b : ℕ) → b < length m.boxes → east_of m b + 2 ≤ t

module _ (m : ModuleForm) (t : ℕ) (past : IsPast m t) (o : Origin) where
  -- a leg from a place that is known by its row and its column
  there : (e : To) (p : Place) (row col : ℕ) (d : Direction) (n i j : ℕ) (l : Leg) → p.row ≡ row
      → p.col ≡ col → i ≡ j → IsPiece m t o e i (leg_at row col d n)
      → Some (record { from = p; to = d; long = n }) ≡ Some l → IsPiece m t o e j l
  there e p row col d n i j l at_row at_col index piece is =
      subst (λ k. IsPiece m t o e k l) index
      (subst (IsPiece m t o e i)
      (ap (λ q. record { from = q; to = d; long = n })
      (sym (equal_places p (at row col) at_row at_col))
      ∙ same_Some (record { from = p; to = d; long = n }) l is) piece)

  -- from the track on
  last_pieces : (e : To) → AreThere m o e → (p : Place) → p.row ≡ end_row m e → p.col ≡ t
      → (k j : ℕ) (l : Leg) → j ≡ k + suc (before o) → slice_get (legs_from p (last_bends m t e)) k
      ≡ Some l → IsPiece m t o e j l
  last_pieces (N b) known p row col zero j l index is =
      there (N b) p (end_row m (N b)) t west (t - 5) (suc (before o)) j l row col (omega arith)
      (to_n b refl) is
  last_pieces (N b) known p row col (suc zero) j l index is =
      let right = past b (known.n_box b refl) in
      there (N b) (along west (t - 5) p) (box_row b 1) 5 south 1 (suc (suc (before o))) j l row
      (omega arith) (omega arith) (into_n b refl) is
  last_pieces (N b) known p row col (suc (suc k)) j l index is = absurd (cc)
  last_pieces (W b) known p row col zero j l index is =
      there (W b) p (end_row m (W b)) t west (t - 2) (suc (before o)) j l row col (omega arith)
      (to_w b refl) is
  last_pieces (W b) known p row col (suc zero) j l index is =
      let right = past b (known.w_box b refl) in
      there (W b) (along west (t - 2) p) (box_row b 0) 2 south 4 (suc (suc (before o))) j l row
      (omega arith) (omega arith) (down_w b refl) is
  last_pieces (W b) known p row col (suc (suc zero)) j l index is =
      let right = past b (known.w_box b refl) in
      there (W b) (along south 4 (along west (t - 2) p)) (box_row b 4) 2 east 1
      (suc (suc (suc (before o)))) j l (omega arith) (omega arith) (omega arith)
      (into_w b refl) is
  last_pieces (W b) known p row col (suc (suc (suc k))) j l index is = absurd (cc)
  last_pieces (Exit i) known p row col zero j l index is =
      there (Exit i) p (end_row m (Exit i)) t east (columns m + 1 - t) (suc (before o)) j l row col
      (omega arith) (to_exit i refl) is
  last_pieces (Exit i) known p row col (suc k) j l index is = absurd (cc)

  -- along the track and on
  track_pieces : (e : To) → AreThere m o e → (p : Place) → p.row ≡ start_row o → p.col ≡ t
      → (k j : ℕ) (l : Leg) → j ≡ k + before o → slice_get (legs_from p (bends_on m t o e)) k ≡ Some
      l → IsPiece m t o e j l
  track_pieces e known p row col k j l index is =
      by (nat_lt (start_row o) (end_row m e)) refl k index is
    where
      by : (b : Bool) → nat_lt (start_row o) (end_row m e) ≡ b → (k : ℕ) → j ≡ k + before o
          → slice_get (legs_from p ((if b then (south, end_row m e - start_row o)
          else (north, start_row o - end_row m e)) ∷ last_bends m t e)) k ≡ Some l
          → IsPiece m t o e j l
      by true less zero index is =
          let lt = ltb-true (start_row o) (end_row m e) less in
          there e p (start_row o) t south (end_row m e - start_row o) (before o) j l row col
          (omega arith) (falls lt) is
      by true less (suc k) index is =
          let lt = ltb-true (start_row o) (end_row m e) less in
          last_pieces e known (along south (end_row m e - start_row o) p) (omega arith) col k j l
          (omega arith) is
      by false more zero index is =
          let le = ltb-false (start_row o) (end_row m e) more in
          there e p (start_row o) t north (start_row o - end_row m e) (before o) j l row col
          (omega arith) (rises le) is
      by false more (suc k) index is =
          let le = ltb-false (start_row o) (end_row m e) more in
          last_pieces e known (along north (start_row o - end_row m e) p) (omega arith) col k j l
          (omega arith) is

-- each leg of a wire of a drawing is one of these pieces
pub pieces : (m : ModuleForm) (t : ℕ) → IsPast m t → (w : WireForm) (o : Origin) → AreThere m o w.to
    → (k : ℕ) (l : Leg) → slice_get (legs (course_on m t w o)) k ≡ Some l → IsPiece m t o w.to k l
pieces m t past w North known zero l is =
    let fall : start_row North < end_row m w.to = below w.to in
    there m t past North w.to (at 0 t) 0 t south (end_row m w.to) 0 0 l refl refl refl
    (subst (λ n. IsPiece m t North w.to 0 (leg_at 0 t south n)) (omega arith) (falls fall)) is
  where
    below : (e : To) → 0 < end_row m e
    below (N b) = omega arith
    below (W b) = omega arith
    below (Exit i) = omega arith
pieces m t past w North known (suc k) l is =
    last_pieces m t past North w.to known (along south (end_row m w.to) (at 0 t))
    (omega arith) refl k (suc k) l (omega arith) is
pieces m t past w West known zero l is =
    there m t past West w.to (at 2 0) 2 0 east t 0 0 l refl refl refl (from_west refl) is
pieces m t past w West known (suc k) l is =
    track_pieces m t past West w.to known (along east t (at 2 0)) refl (omega arith) k (suc k) l
    (omega arith) is
pieces m t past w (East b) known zero l is =
    there m t past (East b) w.to (at (box_row b 4) (east_of m b)) (box_row b 4) (east_of m b) east
    (t - east_of m b) 0 0 l refl refl refl (from_east b refl) is
pieces m t past w (East b) known (suc k) l is =
    let right = past b (known.east_box b refl) in
    track_pieces m t past (East b) w.to known
    (along east (t - east_of m b) (at (box_row b 4) (east_of m b))) refl (omega arith) k
    (suc k) l (omega arith) is
pieces m t past w (South b) known zero l is =
    there m t past (South b) w.to (at (box_row b 6) 5) (box_row b 6) 5 south 1 0 0 l refl refl refl
    (out_south b refl) is
pieces m t past w (South b) known (suc zero) l is =
    there m t past (South b) w.to (along south 1 (at (box_row b 6) 5)) (box_row b 7) 5 east
    (t - 5) 1 1 l (omega arith) refl refl (from_south b refl) is
pieces m t past w (South b) known (suc (suc k)) l is =
    let right = past b (known.south_box b refl) in
    track_pieces m t past (South b) w.to known
    (along east (t - 5) (along south 1 (at (box_row b 6) 5))) (omega arith) (omega arith) k
    (suc (suc k)) l (omega arith) is
