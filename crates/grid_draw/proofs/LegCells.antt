-- Between its ends a leg of a drawing goes over cells of wires.
use Rattle.std.specs.Prelude.{◌≡◌, ◌+◌, ◌-◌, ◌*◌, ◌<◌, ◌≤◌, ℕ, zero, suc, List, [], ◌∷◌, length}
use Rattle.std.specs.Prelude.{map, slice_get, slice_index_or, Some}
use Rattle.std.proofs.Common.{arith, refl, ap, ◌∙◌, inr}
use Rattle.two_d.specs.Programs.{BoxForm, ModuleForm}
use Rattle.two_d.specs.declared.module.Origin.{Origin}
use Rattle.two_d.specs.declared.module.Origin.TheVariants.{North, West, South, East}
use Rattle.two_d.specs.declared.module.To.{To}
use Rattle.two_d.specs.declared.module.To.TheVariants.{N, W, Exit}
use Rattle.grid_picture.specs.Courses.{along, Leg, wire_byte}
use Rattle.grid_draw.specs.Layout.{width, reach, columns, rows, box_row, east_of, start_row}
use Rattle.grid_draw.specs.Layout.{end_row, courses, byte_at}
use Rattle.grid_draw.proofs.Pieces.{IsPiece, from_west, from_east, out_south, from_south, falls}
use Rattle.grid_draw.proofs.Pieces.{rises, to_n, to_w, to_exit, into_n, down_w, into_w, AreThere}
use Rattle.grid_draw.proofs.Regions.{inside, track_byte, between_boxes, under_boxes, left_of_boxes}
use Rattle.grid_draw.proofs.Regions.{right_of_box, in_box}

-- a box by its number, with the width that the layout has for it
pub box_there : (boxes : List BoxForm) (b : ℕ) → b < length boxes → (one : BoxForm)
    × (slice_get boxes b ≡ Some one) × (slice_index_or (map width boxes) b 0 ≡ width one)
box_there [] b lt = absurd (omega arith)
box_there (row ∷ boxes) zero lt = (row, refl, refl)
box_there (row ∷ boxes) (suc b) lt = box_there boxes b (omega arith)

module _ (m : ModuleForm) (t : ℕ) (right : reach m < t) (left : t ≤ columns m) (o : Origin) (e : To)
    (known : AreThere m o e) where
  -- the row of an end is one below the name's and within the borders
  pub end_within : (e : To) → AreThere m o e → (2 < end_row m e) × (end_row m e ≤ rows m)
  end_within (N b) x = let lt = x.n_box b refl in (omega arith, omega arith)
  end_within (W b) x = let lt = x.w_box b refl in (omega arith, omega arith)
  end_within (Exit i) x = let lt = x.exit i refl in (omega arith, omega arith)

  -- the row of a start is within the borders
  pub start_within : (o : Origin) → AreThere m o e → start_row o ≤ rows m
  start_within North x = omega arith
  start_within West x = omega arith
  start_within (East b) x = let lt = x.east_box b refl in omega arith
  start_within (South b) x = let lt = x.south_box b refl in omega arith

  -- the byte of a cell between the ends of a leg is the one that the wires say
  pub leg_wired : (k : ℕ) (l : Leg) → IsPiece m t o e k l → (j : ℕ) → 0 < j → j < l.long
      → byte_at m (along l.to j l.from).row (along l.to j l.from).col ≡ wire_byte (courses m)
      (along l.to j l.from)
  leg_wired k l (from_west is) j pos lt =
      inside m 2 (0 + j) (omega arith) (omega arith) (omega arith) (omega arith)
      ∙ between_boxes m 2 (0 + j) (λ x. omega arith) (λ x. omega arith) (λ x. omega arith)
      (λ x. omega arith) (λ x. omega arith)
  leg_wired k l (from_east b is) j pos lt =
      let there = known.east_box b is in
      let (one, at_b, wide) = box_there m.boxes b there in
      inside m (box_row b 4) (east_of m b + j) (omega arith) (omega arith) (omega arith)
      (omega arith)
      ∙ right_of_box m (box_row b 4) (east_of m b + j) (λ x. omega arith) one
      (ap (slice_get m.boxes) (in_box b 4 (omega arith)).0 ∙ at_b) (omega arith)
  leg_wired k l (out_south b is) j pos lt = absurd (omega arith)
  leg_wired k l (from_south b is) j pos lt =
      let there = known.south_box b is in
      inside m (box_row b 7) (5 + j) (omega arith) (omega arith) (omega arith) (omega arith)
      ∙ between_boxes m (box_row b 7) (5 + j) (λ x. omega arith) (λ x. omega arith)
      (λ x. omega arith) (λ x. omega arith) (λ x. omega arith)
  leg_wired k l (falls down) j pos lt =
      let (low, high) = end_within e known in
      track_byte m (start_row o + j) t (omega arith) (omega arith) right left
  leg_wired k l (rises up) j pos lt =
      let (low, high) = end_within e known in
      let under = start_within o known in
      track_byte m (start_row o - j) t (omega arith) (omega arith) right left
  leg_wired k l (to_n b is) j pos lt =
      let there = known.n_box b is in
      let row : end_row m e ≡ box_row b 1 = ap (end_row m) is in
      inside m (end_row m e) (t - j) (omega arith) (omega arith) (omega arith) (omega arith)
      ∙ between_boxes m (end_row m e) (t - j) (λ x. omega arith) (λ x. omega arith)
      (λ x. omega arith) (λ x. omega arith) (λ x. omega arith)
  leg_wired k l (to_w b is) j pos lt =
      let there = known.w_box b is in
      let row : end_row m e ≡ box_row b 0 = ap (end_row m) is in
      inside m (end_row m e) (t - j) (omega arith) (omega arith) (omega arith) (omega arith)
      ∙ between_boxes m (end_row m e) (t - j) (λ x. omega arith) (λ x. omega arith)
      (λ x. omega arith) (λ x. omega arith) (λ x. omega arith)
  leg_wired k l (to_exit i is) j pos lt =
      let there = known.exit i is in
      let row : end_row m e ≡ 3 + 8 * length m.boxes + i = ap (end_row m) is in
      inside m (end_row m e) (t + j) (omega arith) (omega arith) (omega arith) (omega arith)
      ∙ under_boxes m (end_row m e) (t + j) (omega arith)
  leg_wired k l (into_n b is) j pos lt = absurd (omega arith)
  leg_wired k l (down_w b is) j pos lt =
      let there = known.w_box b is in
      inside m (box_row b 0 + j) 2 (omega arith) (omega arith) (omega arith) (omega arith)
      ∙ left_of_boxes m (box_row b 0 + j) 2 (λ x. omega arith) (omega arith)
      (inr (λ x. omega arith))
  leg_wired k l (into_w b is) j pos lt = absurd (omega arith)
