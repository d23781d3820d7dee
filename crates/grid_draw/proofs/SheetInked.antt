-- A sheet is inked wire by wire.
use Rattle.std.specs.Prelude.{◌≡◌, ◌+◌, ◌*◌, ◌<◌, ◌≤◌, ◌^◌, ℕ, suc, Bool, false, ◌||◌, List, [], ◌∷◌, length, map, slice_get, Some}
use Rattle.std.proofs.Common.{arith, refl, sym, ap, subst, ◌∙◌, drop, get_or}
use Rattle.std.proofs.lemmas.List.{at_drop_more, at_drop_all, length-map, get_or-map}
use Rattle.std.proofs.lemmas.Option.{get_or_from_slice_get, slice_get-get_or}
use Rattle.umix_base.specs.declared.place.Place.{Place}
use Rattle.two_d.specs.Clean.{WireForm}
use Rattle.two_d.specs.Places.{at}
use Rattle.two_d.specs.Programs.{ModuleForm}
use Rattle.two_d.specs.Wires.{Direction, horizontal, vertical}
use Rattle.grid_picture.specs.Courses.{Course, Leg, bends_at, bent_legs, legs, passes}
use Rattle.grid_draw.specs.Layout.{columns, course_on, courses, courses_from, rows, track, wires_in}
use Rattle.grid_draw.specs.declared.cells.CellSet.{CellSet}
use Rattle.grid_draw.specs.declared.course.Course as code
use Rattle.grid_draw.specs.declared.layout.Layout.{Layout}
use Rattle.grid_draw.specs.declared.layout.Wire.{Wire}
use Rattle.grid_draw.specs.declared.sheet.Sheet.{Sheet}
use Rattle.grid_draw.specs.inner.Inks.{AreSized, Inks, IsBlank, IsInked, IsWhole}
use Rattle.grid_draw.specs.inner.Layouts.{IsLayout, IsNarrow, module_in, wire_of}
use Rattle.grid_draw.specs.inner.Legs.{IsCourse, IsWithin, bends_of, bent_of, legs_of, total}
use Rattle.grid_draw.specs.inner.Sets.{IsSized, has}
use Rattle.grid_draw.proofs.CoursesBuilt.{course_within, wire_on}
use Rattle.grid_draw.proofs.InksLaid.{Inking, inking_next, inking_first, same_legs, sized_after, whole_of}
use Rattle.grid_draw.proofs.SetsGain.{or_false}

-- the wire of a track
pub wire_there : (l : Layout) → IsLayout l → (j : ℕ) (w : Wire) → j < length l.wires.items → w ≡ get_or l.wires.items j w
    → slice_get (wires_in (module_in l)) j ≡ Some (wire_of w)
wire_there l is j w lt at_j =
    let ws = l.wires.items in
    ap (λ (xs : List WireForm). slice_get xs j) (sym is.wires)
    ∙ (slice_get-get_or (map wire_of ws) j (wire_of w) (omega (arith, length-map ws wire_of))
    ∙ ap (λ (x : WireForm). Some x) (get_or-map wire_of ws j w (wire_of w) lt ∙ ap wire_of (sym at_j)))

-- its course goes no further than numbers reach
pub within_of : (l : Layout) → IsNarrow l → (j : ℕ) (w : Wire) → j < length l.wires.items → w ≡ get_or l.wires.items j w → (c : code.Course)
    → IsCourse c (course_on (module_in l) (track (module_in l) j) (wire_of w) w.from) → IsWithin c
within_of l is j w lt at_j c course =
    let m = module_in l in
    let on = wire_on m j (wire_of w) is.layout.fit.sound (wire_there l is.layout j w lt at_j) in
    let (low, left) = course_within m (track m j) (wire_of w) w.from is.layout.fit.light is.narrow on.inside on.from on.to in
    let bends = ap total course.bends in
    record {
      row = omega (arith, low, bends, course.long, ap (λ (p : Place). p.row) course.from);
      col = omega (arith, left, bends, course.long, ap (λ (p : Place). p.col) course.from);
    }

inks_as : (old now : Sheet) (c : code.Course) (d : Course) → IsCourse c d → Inks old now (legs_of c) (bent_of c) → Inks old now (legs d) (bent_legs d)
inks_as old now c d is inks =
    let (all, bent) = same_legs c d is in
    subst (λ (ls : List Leg). Inks old now (legs d) ls) bent (subst (λ (ls : List Leg). Inks old now ls (bent_of c)) all inks)

-- one wire more is laid
pub inking_wire : (m : ModuleForm) (blank now next : Sheet) (wires : List Wire) (j : ℕ) (w : Wire) (c : code.Course) → j < length wires
    → w ≡ get_or wires j w → Inking blank now (courses m) (courses_from m j (map wire_of (drop j wires)))
    → IsCourse c (course_on m (track m j) (wire_of w) w.from) → Inks now next (legs_of c) (bent_of c)
    → Inking blank next (courses m) (courses_from m (j + 1) (map wire_of (drop (j + 1) wires)))
inking_wire m blank now next wires j w c lt is before course inks =
    let one = course_on m (track m j) (wire_of w) w.from in
    let rest = courses_from m (j + 1) (map wire_of (drop (j + 1) wires)) in
    let cut : courses_from m j (map wire_of (drop j wires)) ≡ one ∷ rest
    = at_drop_more (λ (ws : List Wire). courses_from m j (map wire_of ws)) wires j w lt
    ∙ (ap (λ (x : Wire). course_on m (track m j) (wire_of x) x.from ∷ courses_from m (suc j) (map wire_of (drop (j + 1) wires))) (sym is)
    ∙ ap (λ (k : ℕ). one ∷ courses_from m k (map wire_of (drop (j + 1) wires))) (omega arith)) in
    inking_next blank now next (courses m) one rest
    (subst (λ (cs : List Course). Inking blank now (courses m) cs) cut before) (inks_as now next c one course inks)

-- no wire is laid yet
pub inking_blank : (l : Layout) → IsLayout l → (blank : Sheet) → AreSized (rows (module_in l) + 2) (columns (module_in l) + 2) blank
    → Inking blank blank (courses (module_in l)) (courses_from (module_in l) 0 (map wire_of l.wires.items))
inking_blank l is blank sized =
    let m = module_in l in
    let cs = courses_from m 0 in
    subst (λ (ws : List WireForm). Inking blank blank (courses m) (cs ws)) (sym is.wires)
    (inking_first blank (courses m) (own (rows m + 2) (columns m + 2) blank.across sized.across) (own (rows m + 2) (columns m + 2) blank.down sized.down)
    (own (rows m + 2) (columns m + 2) blank.turns sized.turns))
  where
    own : (r c : ℕ) (set : CellSet) → IsSized r c set → IsSized set.rows set.columns set
    own r c set sized = record {
      high = refl;
      wide = refl;
      whole = sized.whole ∙ sym (ap (λ (n : ℕ). n * set.columns) sized.high ∙ ap (λ (n : ℕ). r * n) sized.wide);
    }

pub whole_inking : (m : ModuleForm) (blank now : Sheet) (all rest : List Course) → AreSized (rows m + 2) (columns m + 2) blank → Inking blank now all rest
    → IsWhole now
whole_inking m blank now all rest sized inking =
    whole_of (rows m + 2) (columns m + 2) now
    (sized_after (rows m + 2) (columns m + 2) blank now sized inking.across.sized inking.down.sized inking.turns.sized)

-- all wires are laid
pub inking_end : (m : ModuleForm) (blank now : Sheet) (wires : List Wire) (j : ℕ) → length wires ≤ j → AreSized (rows m + 2) (columns m + 2) blank → IsBlank blank
    → Inking blank now (courses m) (courses_from m j (map wire_of (drop j wires))) → IsInked m now
inking_end m blank now wires j le sized blanks before =
    let done = subst (λ (cs : List Course). Inking blank now (courses m) cs) (at_drop_all (λ (ws : List Wire). courses_from m j (map wire_of ws)) wires j le) before in
    record {
      sized = sized_after (rows m + 2) (columns m + 2) blank now sized done.across.sized done.down.sized done.turns.sized;
      across = λ r c in_r in_c. read (has now.across r c) (has blank.across r c) (passes horizontal (courses m) (at r c))
          (done.across.has_both r c (omega (arith, sized.across.high)) (omega (arith, sized.across.wide))) (blanks.across r c);
      down = λ r c in_r in_c. read (has now.down r c) (has blank.down r c) (passes vertical (courses m) (at r c))
          (done.down.has_both r c (omega (arith, sized.down.high)) (omega (arith, sized.down.wide))) (blanks.down r c);
      turns = λ r c in_r in_c. read (has now.turns r c) (has blank.turns r c) (bends_at (courses m) (at r c))
          (done.turns.has_both r c (omega (arith, sized.turns.high)) (omega (arith, sized.turns.wide))) (blanks.turns r c);
    }
  where
    read : (x y z : Bool) → (x || false) ≡ (y || z) → y ≡ false → x ≡ z
    read x y z e was = sym (or_false x) ∙ (e ∙ ap (λ (b : Bool). b || z) was)

other_default : (xs : List Wire) (j : ℕ) (d e : Wire) → j < length xs → get_or xs j d ≡ get_or xs j e
other_default xs j d e lt = get_or_from_slice_get xs j (get_or xs j e) d (slice_get-get_or xs j e lt)

-- the same, of the wires as the code lends them
pub within_at : (l : Layout) → IsNarrow l → (items : List Wire) → items ≡ l.wires.items → (j : ℕ) (d : Wire) → j < length items → (c : code.Course)
    → IsCourse c (course_on (module_in l) (track (module_in l) j) (wire_of (get_or items j d)) (get_or items j d).from) → IsWithin c
within_at l is items same j d lt c course =
    let there : j < length l.wires.items = omega (arith, lt, ap length same) in
    within_of l is j (get_or items j d) there
    (ap (λ (xs : List Wire). get_or xs j d) same ∙ other_default l.wires.items j d (get_or items j d) there) c course

pub inking_at : (l : Layout) (blank now next : Sheet) (items : List Wire) → items ≡ l.wires.items → (j : ℕ) (d : Wire) (c : code.Course) → j < length items
    → Inking blank now (courses (module_in l)) (courses_from (module_in l) j (map wire_of (drop j l.wires.items)))
    → IsCourse c (course_on (module_in l) (track (module_in l) j) (wire_of (get_or items j d)) (get_or items j d).from)
    → Inks now next (legs_of c) (bent_of c)
    → Inking blank next (courses (module_in l)) (courses_from (module_in l) (j + 1) (map wire_of (drop (j + 1) l.wires.items)))
inking_at l blank now next items same j d c lt before course inks =
    let there : j < length l.wires.items = omega (arith, lt, ap length same) in
    inking_wire (module_in l) blank now next l.wires.items j (get_or items j d) c there
    (ap (λ (xs : List Wire). get_or xs j d) same ∙ other_default l.wires.items j d (get_or items j d) there) before course inks
