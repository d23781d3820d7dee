-- The ways of wires, built from their bends, and how far they go.
use Rattle.std.specs.Prelude.{◌≡◌, ◌+◌, ◌-◌, ◌*◌, ◌<◌, ◌≤◌, ◌^◌, ℕ, Bool, true, false, List, [], ◌∷◌, ◌++◌, length, map, slice_get, slice_index_or, Some, nat_lt, if◌then◌else◌}
use Rattle.std.specs.List.{Contains}
use Rattle.std.proofs.Common.{arith, refl, sym, ap, subst, ◌∙◌}
use Rattle.std.proofs.lemmas.Option.{slice_get_within}
use Rattle.two_d.specs.Clean.{WireForm}
use Rattle.two_d.specs.Programs.{ModuleForm}
use Rattle.two_d.specs.Sound.{IsSound}
use Rattle.two_d.specs.Weights.{part}
use Rattle.two_d.specs.Wires.{Direction, south, north}
use Rattle.two_d.specs.declared.module.Origin.{Origin}
use Rattle.two_d.specs.declared.module.Origin.TheVariants.{North, West, South, East}
use Rattle.two_d.specs.declared.module.To.{To}
use Rattle.two_d.specs.declared.module.To.TheVariants.{N, W, Exit}
use Rattle.grid_draw.specs.Layout.{columns, course_on, east_of, end_row, last_bends, reach, start_row, track, up_or_down, width, wires_in}
use Rattle.grid_draw.specs.inner.Layouts.{IsEndOf, IsStartOf}
use Rattle.grid_draw.specs.inner.Legs.{first_bends, total}
use Rattle.grid_draw.proofs.LayoutNumbers.{module_small}
use Rattle.grid_draw.proofs.Pieces.{AreThere}
use Rattle.grid_draw.proofs.WiresIn.{contains_at, ends_there, text_within}

pub bends_split : (m : ModuleForm) (t : ℕ) (w : WireForm) (o : Origin) → (course_on m t w o).bends ≡ first_bends m t w.to o ++ last_bends m t w.to
bends_split m t w North = refl
bends_split m t w West = refl
bends_split m t w (East b) = refl
bends_split m t w (South b) = refl

total_append : (xs ys : List (Direction × ℕ)) → total (xs ++ ys) ≡ total xs + total ys
total_append [] ys = omega arith
total_append (x ∷ xs) ys = omega (arith, total_append xs ys)

up_total : (a b : ℕ) → (up_or_down a b).1 ≤ a + b
up_total a b = by (nat_lt a b)
  where
    by : (x : Bool) → (if◌then◌else◌ {A = Direction × ℕ} x (south, b - a) (north, a - b)).1 ≤ a + b
    by true = omega arith
    by false = omega arith

last_total : (m : ModuleForm) (t : ℕ) (e : To) → total (last_bends m t e) ≤ t + columns m + 6
last_total m t (N b) = omega arith
last_total m t (W b) = omega arith
last_total m t (Exit i) = omega arith

first_total : (m : ModuleForm) (t : ℕ) (e : To) (o : Origin) → total (first_bends m t e o) ≤ t + start_row o + end_row m e
first_total m t e North = omega arith
first_total m t e West = omega (arith, up_total (start_row West) (end_row m e))
first_total m t e (East b) = omega (arith, up_total (start_row (East b)) (end_row m e))
first_total m t e (South b) = omega (arith, up_total (start_row (South b)) (end_row m e))

start_small : (m : ModuleForm) (o : Origin) → part m ≤ 262144 → IsStartOf m o → start_row o ≤ 262144
start_small m North light is = omega arith
start_small m West light is = omega arith
start_small m (East b) light is = omega (arith, module_small m light)
start_small m (South b) light is = omega (arith, module_small m light)

end_small : (m : ModuleForm) (e : To) → part m ≤ 262144 → IsEndOf m e → end_row m e ≤ 262144
end_small m (N b) light is = omega (arith, module_small m light)
end_small m (W b) light is = omega (arith, module_small m light)
end_small m (Exit i) light is = omega (arith, module_small m light)

-- a wire's start, and how many cells it goes on
record Begins (m : ModuleForm) (t : ℕ) (w : WireForm) (o : Origin) : Type 0 where
  row : (course_on m t w o).start.place.row ≤ 262144
  col : (course_on m t w o).start.place.col ≤ t + columns m
  long : (course_on m t w o).long ≤ t + 262144

begins : (m : ModuleForm) (t : ℕ) (w : WireForm) (o : Origin) → part m ≤ 262144 → IsStartOf m o → IsEndOf m w.to → Begins m t w o
begins m t w North light start end = record { row = omega arith; col = omega arith; long = omega (arith, end_small m w.to light end) }
begins m t w West light start end = record { row = omega arith; col = omega arith; long = omega arith }
begins m t w (East b) light start end = record {
  row = omega (arith, module_small m light);
  col = (let within = text_within (length m.name) b m.boxes start in omega arith);
  long = omega arith;
}
begins m t w (South b) light start end = record {
  row = omega (arith, module_small m light);
  col = (let within = text_within (length m.name) b m.boxes start in omega arith);
  long = omega arith;
}

-- a wire goes no further than numbers reach
pub course_within : (m : ModuleForm) (t : ℕ) (w : WireForm) (o : Origin) → part m ≤ 262144 → columns m ≤ 4094 → t ≤ columns m → IsStartOf m o → IsEndOf m w.to
    → ((course_on m t w o).start.place.row + ((course_on m t w o).long + total (course_on m t w o).bends) < 2 ^ 62)
    × ((course_on m t w o).start.place.col + ((course_on m t w o).long + total (course_on m t w o).bends) < 2 ^ 62)
course_within m t w o light narrow inside start end =
    let it = begins m t w o light start end in
    let bends = ap total (bends_split m t w o) ∙ total_append (first_bends m t w.to o) (last_bends m t w.to) in
    let one = first_total m t w.to o in
    let two = last_total m t w.to in
    let s = start_small m o light start in
    let e = end_small m w.to light end in
    (omega arith, omega arith)

start_of : (m : ModuleForm) (o : Origin) (e : To) → AreThere m o e → IsStartOf m o
start_of m North e known = tt
start_of m West e known = tt
start_of m (East b) e known = known.east_box b refl
start_of m (South b) e known = known.south_box b refl

end_of : (m : ModuleForm) (o : Origin) (e : To) → AreThere m o e → IsEndOf m e
end_of m o (N b) known = known.n_box b refl
end_of m o (W b) known = known.w_box b refl
end_of m o (Exit i) known = known.exit i refl

-- the wire of a track: its ends are there, and its track is between the boxes and the right border
pub record IsWireOn (m : ModuleForm) (j : ℕ) (w : WireForm) : Type 0 where
  pub from : IsStartOf m w.from
  pub to : IsEndOf m w.to
  pub number : j < length (wires_in m)
  pub inside : track m j ≤ columns m

pub wire_on : (m : ModuleForm) (j : ℕ) (w : WireForm) → IsSound m → slice_get (wires_in m) j ≡ Some w → IsWireOn m j w
wire_on m j w sound at_j =
    let known = ends_there m sound w (contains_at (wires_in m) j w at_j) in
    let lt = slice_get_within (wires_in m) j w at_j in
    record {
      from = start_of m w.from w.to known;
      to = end_of m w.from w.to known;
      number = lt;
      inside = omega arith;
    }

-- a box that is there makes the reach at least 5
pub reach_some : (m : ModuleForm) (b : ℕ) → b < length m.boxes → 5 ≤ reach m
reach_some m b lt = let within = text_within (length m.name) b m.boxes lt in omega arith

pub east_inside : (m : ModuleForm) (b : ℕ) → b < length m.boxes → east_of m b ≤ reach m + 1
east_inside m b lt = let within = text_within (length m.name) b m.boxes lt in omega arith
