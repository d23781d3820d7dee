-- The wires of a strip: each is one leg in the row of the texts.
use Rattle.std.specs.Prelude.{◌≡◌, ◌+◌, ◌-◌, ◌<◌, ◌≤◌, ◌⊎◌, ℕ, zero, suc, Bool, true, false, cond, List, [], ◌∷◌, ◌++◌, length, map, slice_get, Some, Any, Ok}
use Rattle.std.specs.List.{Contains}
use Rattle.std.proofs.Common.{arith, refl, sym, ap, subst, ◌∙◌, inl, inr, get_or, append_assoc}
use Rattle.std.proofs.lemmas.Bool.{cases_lt, cases_eq, cases_order}
use Rattle.std.proofs.lemmas.List.{length-append}
use Rattle.std.proofs.lemmas.List.Elements.{Contains-append_cases, Contains-append_left, Contains-append_right}
use Rattle.std.proofs.lemmas.Option.{slice_get_within, slice_get-get_or, get_or_from_slice_get, same_Some}
use Rattle.umix_base.specs.declared.place.Place.{Place}
use Rattle.two_d.specs.Places.{at, Rect, Within, Before}
use Rattle.two_d.specs.Cells.{Grid, cell}
use Rattle.two_d.specs.Names.{IsNameByte}
use Rattle.two_d.specs.Reading.{goes_on, none}
use Rattle.two_d.specs.Ports.{Drawing, IsNPort, IsWPort, IsSPort, IsEPort}
use Rattle.two_d.specs.Wires as wires
use Rattle.two_d.specs.Wires.{Direction, east, south, north, horizontal, vertical, axis_of, Position, StartsAt, at_north, at_west, at_south, at_east, EndsAt, at_n, at_w, at_exit, IsStart, IsTaker}
use Rattle.two_d.specs.Clean.{ports_at, IsStray}
use Rattle.two_d.specs.Program.{drawing}
use Rattle.two_d.specs.declared.module.Origin.{Origin}
use Rattle.two_d.specs.declared.module.Origin.TheVariants as origin
use Rattle.two_d.specs.declared.module.To.{To}
use Rattle.two_d.specs.declared.module.To.TheVariants as to_
use Rattle.two_d.proofs.Equal.{equal_places}
use Rattle.two_d.proofs.MapLists.{contains_map}
use Rattle.grid_picture.specs.Courses.{along, Course, Leg, legs}
use Rattle.grid_picture.proofs.Legs.{Fits, Near, spot}
use Rattle.grid_picture.proofs.Laid.{way}
use Rattle.grid_picture.proofs.Courses.{IsCourse, AreCourses, OnLeg, route, runs, at_length, at_next}
use Rattle.grid_picture.proofs.Pairs.{first_there, later_there}
use Rattle.codex_gen.proofs.BoxRow.{HasBoxes, last, more, Column, inside, leaves, comes, IsInside, column, boxes_from, rect, IsNumbered, numbered, in_a_row}
use Rattle.codex_gen.proofs.Strip.{IsStrip, first, second, third, fourth, inner_row, frame_of, entry_byte, north_none, west_is, exits_are}
use Rattle.codex_gen.proofs.StripBoxes.{numbered_figure, next_box, last_box}

-- from a row and a column straight to the east
abbrev pub eastward : ℕ → ℕ → ℕ → Origin → To → Course
eastward row col n from end = record {
  start = record { place = at row col; to = east };
  long = n;
  bends = [];
  wire = record { from = from; to = end };
}

-- the wires from the boxes, of which the first has the number k: each to the next box, the last to the exit
abbrev pub from_boxes : ℕ → ℕ → List Rect → List Course
from_boxes row k [] = []
from_boxes row k (b ∷ []) = eastward row (b.right + 1) 0 (origin.East k) (to_.Exit 0) ∷ []
from_boxes row k (b ∷ d ∷ ds) = eastward row (b.right + 1) 1 (origin.East k) (to_.W (suc k)) ∷ from_boxes row (suc k) (d ∷ ds)

abbrev pub from_entry : Bool → ℕ → List Course
from_entry w row = cond w (eastward row 1 1 origin.West (to_.W 0) ∷ []) []

abbrev pub strip_courses : Bool → ℕ → List Rect → List Course
strip_courses w row boxes = from_entry w row ++ from_boxes row 0 boxes

-- which course it is
pub data IsCourseOf (w : Bool) (row : ℕ) (boxes : List Rect) (c : Course) : Type 0 where
  entry : w ≡ true → eastward row 1 1 origin.West (to_.W 0) ≡ c → IsCourseOf w row boxes c
  on : (k : ℕ) (b d : Rect) → slice_get boxes k ≡ Some b → slice_get boxes (suc k) ≡ Some d → eastward row (b.right + 1) 1 (origin.East k) (to_.W (suc k)) ≡ c → IsCourseOf w row boxes c
  out : (k : ℕ) (b : Rect) → slice_get boxes k ≡ Some b → length boxes ≡ suc k → eastward row (b.right + 1) 0 (origin.East k) (to_.Exit 0) ≡ c → IsCourseOf w row boxes c

one_there : {A : Type 0} (x y : A) → Contains (x ∷ []) y → x ≡ y
one_there x y (k, lt, is) = ap (λ z. get_or (x ∷ []) z y) (by k lt) ∙ is
  where
    by : (k : ℕ) → k < 1 → 0 ≡ k
    by k lt = omega arith

which_from : (w : Bool) (row : ℕ) (done bs : List Rect) (c : Course) → Contains (from_boxes row (length done) bs) c → IsCourseOf w row (done ++ bs) c
which_from w row done [] c (k, lt, is) = absurd (omega arith)
which_from w row done (b ∷ []) c there = out (length done) b (at_length done b []) (length-append done (b ∷ []) ∙ by (length done)) (one_there _ c there)
  where
    by : (n : ℕ) → n + 1 ≡ suc n
    by n = omega arith
which_from w row done (b ∷ d ∷ ds) c there = elim (Contains-append_cases (eastward row (b.right + 1) 1 (origin.East (length done)) (to_.W (suc (length done))) ∷ []) (from_boxes row (suc (length done)) (d ∷ ds)) c there) [
  | inl here ↦ on (length done) b d (at_length done b (d ∷ ds)) (at_next done b d ds) (one_there _ c here)
  | inr later ↦ subst (λ l. IsCourseOf w row l c) (append_assoc done (b ∷ []) (d ∷ ds))
      (which_from w row (done ++ b ∷ []) (d ∷ ds) c (subst (λ n. Contains (from_boxes row n (d ∷ ds)) c) (sym (length-append done (b ∷ []) ∙ by (length done))) later))
]
  where
    by : (n : ℕ) → n + 1 ≡ suc n
    by n = omega arith

pub which : (w : Bool) (row : ℕ) (boxes : List Rect) (c : Course) → Contains (strip_courses w row boxes) c → IsCourseOf w row boxes c
which w row boxes c there = elim (Contains-append_cases (from_entry w row) (from_boxes row 0 boxes) c there) [
  | inl in_entry ↦ by w in_entry
  | inr later ↦ which_from w row [] boxes c later
]
  where
    by : (v : Bool) → Contains (from_entry v row) c → IsCourseOf v row boxes c
    by true here = entry refl (one_there _ c here)
    by false (k, lt, is) = absurd (omega arith)

there_on : (row k : ℕ) (bs : List Rect) (i n : ℕ) (b d : Rect) → slice_get bs i ≡ Some b → slice_get bs (suc i) ≡ Some d → n ≡ k + i
    → Contains (from_boxes row k bs) (eastward row (b.right + 1) 1 (origin.East n) (to_.W (suc n)))
there_on row k [] i n b d at_i at_more e = absurd (cc)
there_on row k (x ∷ []) i n b d at_i at_more e = absurd (let lt = slice_get_within (x ∷ []) (suc i) d at_more in omega arith)
there_on row k (x ∷ y ∷ ds) zero n b d at_i at_more e =
    let same : x ≡ b = cc in
    let number : k ≡ n = omega arith in
    subst (λ z. Contains (from_boxes row k (x ∷ y ∷ ds)) (eastward row (z.right + 1) 1 (origin.East n) (to_.W (suc n)))) same
    (subst (λ z. Contains (from_boxes row k (x ∷ y ∷ ds)) (eastward row (x.right + 1) 1 (origin.East z) (to_.W (suc z)))) number (first_there _ (from_boxes row (suc k) (y ∷ ds))))
there_on row k (x ∷ y ∷ ds) (suc i) n b d at_i at_more e = later_there _ _ (from_boxes row (suc k) (y ∷ ds)) (there_on row (suc k) (y ∷ ds) i n b d at_i at_more (omega arith))

there_out : (row k : ℕ) (bs : List Rect) (i n : ℕ) (b : Rect) → slice_get bs i ≡ Some b → length bs ≡ suc i → n ≡ k + i → Contains (from_boxes row k bs) (eastward row (b.right + 1) 0 (origin.East n) (to_.Exit 0))
there_out row k [] i n b at_i long e = absurd (cc)
there_out row k (x ∷ []) zero n b at_i long e =
    let same : x ≡ b = cc in
    let number : k ≡ n = omega arith in
    subst (λ z. Contains (from_boxes row k (x ∷ [])) (eastward row (z.right + 1) 0 (origin.East n) (to_.Exit 0))) same
    (subst (λ z. Contains (from_boxes row k (x ∷ [])) (eastward row (x.right + 1) 0 (origin.East z) (to_.Exit 0))) number (first_there _ []))
there_out row k (x ∷ []) (suc i) n b at_i long e = absurd (cc)
there_out row k (x ∷ y ∷ ds) zero n b at_i long e = absurd (omega arith)
there_out row k (x ∷ y ∷ ds) (suc i) n b at_i long e = later_there _ _ (from_boxes row (suc k) (y ∷ ds)) (there_out row (suc k) (y ∷ ds) i n b at_i (omega arith) (omega arith))

pub is_there : (w : Bool) (row : ℕ) (boxes : List Rect) (c : Course) → IsCourseOf w row boxes c → Contains (strip_courses w row boxes) c
is_there w row boxes c (entry with_entry same) = Contains-append_left (from_entry w row) (from_boxes row 0 boxes) c (subst (λ v. Contains (from_entry v row) c) (sym with_entry) (subst (Contains (from_entry true row)) same (first_there _ [])))
is_there w row boxes c (on k b d at_k at_more same) = Contains-append_right (from_entry w row) (from_boxes row 0 boxes) c (subst (Contains (from_boxes row 0 boxes)) same (there_on row 0 boxes k k b d at_k at_more (omega arith)))
is_there w row boxes c (out k b at_k long same) = Contains-append_right (from_entry w row) (from_boxes row 0 boxes) c (subst (Contains (from_boxes row 0 boxes)) same (there_out row 0 boxes k k b at_k long (omega arith)))

module _ (grid : Grid) (t right : ℕ) (name : List ℕ) (west : Bool) (texts : List (List ℕ)) (is : IsStrip grid t right name west texts) where
  abbrev boxes : List Rect
  boxes = boxes_from t 3 texts

  abbrev pub m : Drawing
  m = drawing grid (frame_of t right) name boxes

  abbrev cs : List Course
  cs = strip_courses west (t + 3) boxes

  its : (k : ℕ) (b : Rect) → slice_get boxes k ≡ Some b → IsNumbered grid t right 3 texts k b
  its k b at_k = numbered grid t right 3 texts is.boxes k b at_k

  -- a box's rows and what stands right after it
  record Around (k : ℕ) (b : Rect) : Type 0 where
    top : b.top ≡ t + 2
    bottom : b.bottom ≡ t + 4
    from : 3 ≤ b.left
    wide : b.left + 1 < b.right
    to : b.right < right
    leaves_east : cell grid (at (t + 3) (b.right + 1)) ≡ 45

  around : (k : ℕ) (b : Rect) → slice_get boxes k ≡ Some b → Around k b
  around k b at_k =
      let n = its k b at_k in
      let r = ap (λ (z : Rect). z.right) n.same in
      let c : b.right + 1 ≡ b.left + length n.text + 2 = omega arith in
      let to = n.to in
      record {
        top = sym (ap (λ (z : Rect). z.top) n.same);
        bottom = sym (ap (λ (z : Rect). z.bottom) n.same);
        from = n.from;
        wide = (numbered_figure grid t right name west texts is k b at_k).wide;
        to = omega arith;
        leaves_east = ap (λ q. cell grid (at (t + 3) q)) c ∙ n.east;
      }

  entry_is : west ≡ true → cell grid (at (t + 3) 2) ≡ 62
  entry_is with_entry = is.gap_3 ∙ ap (λ w. entry_byte w 62 32) with_entry

  abbrev leg_of : ℕ → ℕ → Leg
  leg_of col n = record { from = at (t + 3) col; to = east; long = n }

  only_leg : (col n k : ℕ) (l : Leg) → slice_get (leg_of col n ∷ []) k ≡ Some l → (leg_of col n ≡ l) × (k ≡ 0)
  only_leg col n zero l at_l = (same_Some (leg_of col n) l at_l, refl)
  only_leg col n (suc k) l at_l = absurd (cc)

  -- a wire of at most two cells
  short_course : (col n : ℕ) (from : Origin) (end : To) → n ≤ 1 → StartsAt m (record { place = at (t + 3) col; to = east }) from → (0 < n → col < right)
      → EndsAt m (record { place = at (t + 3) (col + n); to = east }) end → IsCourse m (eastward (t + 3) col n from end)
  short_course col n from end short starts before_right ends_at = record {
    starts = starts;
    inner = before_right;
    fits = λ k l at_l. subst (λ (z : Leg). Fits z.to z.from z.long) (only_leg col n k l at_l).0 tt;
    straight = λ k l at_l j pos lt. absurd (let e = ap (λ (z : Leg). z.long) (only_leg col n k l at_l).0 in omega arith);
    joints = λ k l o at_l at_o. absurd (let lt = slice_get_within (leg_of col n ∷ []) (suc k) o at_o in omega arith);
    ends = λ k l at_l long. subst (λ (z : Leg). EndsAt m (spot z z.long) end) (only_leg col n k l at_l).0 ends_at;
  }

  inside_frame : (row col : ℕ) → t < row → row < t + 5 → 1 < col → col < right → Within (frame_of t right) (at row col)
  inside_frame row col a b c d = record { below_top = a; above_bottom = b; after_left = c; before_right = d }

  first_box : (b : Rect) × (slice_get boxes 0 ≡ Some b) × (b.left ≡ 3)
  first_box = by texts is.boxes
    where
      by : (us : List (List ℕ)) → HasBoxes grid t right 3 us → (b : Rect) × (slice_get (boxes_from t 3 us) 0 ≡ Some b) × (b.left ≡ 3)
      by _ (last _ text has exit end) = (rect t 3 text, refl, refl)
      by _ (more _ text other us has top between bottom rest) = (rect t 3 text, refl, refl)

  -- a W port of a box
  w_port : (k : ℕ) (b : Rect) → slice_get boxes k ≡ Some b → (col : ℕ) → col + 1 ≡ b.left → 1 < col → cell grid (at (t + 3) col) ≡ 62 → IsWPort m b (at (t + 3) col)
  w_port k b at_k col before after_left byte =
      let a = around k b at_k in
      let top = a.top in let bottom = a.bottom in let wide = a.wide in let to = a.to in
      ((inside_frame (t + 3) col (omega arith) (omega arith) after_left (omega arith), byte), before, (omega arith, omega arith))

  e_port : (k : ℕ) (b : Rect) → slice_get boxes k ≡ Some b → IsEPort m b (at (t + 3) (b.right + 1))
  e_port k b at_k =
      let a = around k b at_k in
      let top = a.top in let bottom = a.bottom in let wide = a.wide in let to = a.to in let from = a.from in (
        elim (cases_lt (b.right + 1) right) [
          | inl less ↦ inl (inside_frame (t + 3) (b.right + 1) (omega arith) (omega arith) (omega arith) less, a.leaves_east)
          | inr last_col ↦ inr (omega arith, subst (λ l. Contains l (t + 3)) (sym (exits_are grid t right name west texts is)) (first_there (t + 3) []))
        ],
        refl,
        (omega arith, omega arith),
      )

  pub each_course : (c : Course) → IsCourseOf west (t + 3) boxes c → IsCourse m c
  each_course c (entry with_entry same) = subst (IsCourse m) same
      (let (b, at_0, left) = first_box in
      let a = around 0 b at_0 in let wide = a.wide in let to = a.to in
      short_course 1 1 origin.West (to_.W 0) (omega arith)
      (at_west (at (t + 3) 1) (refl, subst (λ l. Contains l (t + 3)) (sym (west_is grid t right name west texts is ∙ ap (λ w. cond w ((t + 3) ∷ []) []) with_entry)) (first_there (t + 3) [])))
      (λ pos. omega arith)
      (at_w (at (t + 3) 2) 0 b at_0 (w_port 0 b at_0 2 (omega arith) (omega arith) (entry_is with_entry))))
  each_course c (on k b d at_k at_more same) = subst (IsCourse m) same
      (let (left, byte) = next_box grid t right 3 texts is.boxes k b d at_k at_more in
      let a = around k b at_k in let from = a.from in let wide = a.wide in
      let next = around (suc k) d at_more in let d_wide = next.wide in let d_to = next.to in
      let col : b.right + 2 ≡ b.right + 1 + 1 = omega arith in
      short_course (b.right + 1) 1 (origin.East k) (to_.W (suc k)) (omega arith)
      (at_east (at (t + 3) (b.right + 1)) k b at_k (e_port k b at_k))
      (λ pos. omega arith)
      (at_w (at (t + 3) (b.right + 1 + 1)) (suc k) d at_more (w_port (suc k) d at_more (b.right + 1 + 1) (omega arith) (omega arith) (ap (λ q. cell grid (at (t + 3) q)) (sym col) ∙ byte))))
  each_course c (out k b at_k long same) = subst (IsCourse m) same
      (let last_col = last_box grid t right 3 texts is.boxes k b at_k long in
      let col : right ≡ b.right + 1 + 0 = omega arith in
      short_course (b.right + 1) 0 (origin.East k) (to_.Exit 0) (omega arith)
      (at_east (at (t + 3) (b.right + 1)) k b at_k (e_port k b at_k))
      (λ pos. absurd (omega arith))
      (subst (λ q. EndsAt m (record { place = at (t + 3) q; to = east }) (to_.Exit 0)) col (at_exit (t + 3) 0 (ap (λ l. slice_get l 0) (exits_are grid t right name west texts is)))))

  near_columns : (a p b q : ℕ) → Near (leg_of a p) (leg_of b q) → (a ≤ b + q + 1) × (b ≤ a + p + 1)
  near_columns a p b q near = let x = near.from_low in let y = near.to_high in (omega arith, omega arith)

  -- a wire from a box, by the columns of its cells
  record FromBox (k : ℕ) (b : Rect) (c : Course) : Type 0 where
    at_k : slice_get boxes k ≡ Some b
    col : b.right + 1 ≡ c.start.place.col
    short : c.long ≤ 1

  from_eastward : (k n : ℕ) (b : Rect) (end : To) (c : Course) → slice_get boxes k ≡ Some b → n ≤ 1 → eastward (t + 3) (b.right + 1) n (origin.East k) end ≡ c → FromBox k b c
  from_eastward k n b end c at_k short same = record {
    at_k = at_k;
    col = ap (λ (z : Course). z.start.place.col) same;
    short = (let l = ap (λ (z : Course). z.long) same in omega arith);
  }

  -- the entry's wire is near none from a box
  entry_off : (c d : Course) (j : ℕ) (e : Rect) → eastward (t + 3) 1 1 origin.West (to_.W 0) ≡ c → FromBox j e d → d.start.place.col ≤ c.start.place.col + c.long + 1 → ⊥
  entry_off c d j e same from high =
      let a = around j e from.at_k in let x = a.from in let y = a.wide in let z = from.col in
      let s = ap (λ (z : Course). z.start.place.col) same in let l = ap (λ (z : Course). z.long) same in omega arith

  -- nor are two from different boxes
  same_box : (c d : Course) (k j : ℕ) (b e : Rect) → FromBox k b c → FromBox j e d → c.start.place.col ≤ d.start.place.col + d.long + 1 → d.start.place.col ≤ c.start.place.col + c.long + 1 → k ≡ j
  same_box c d k j b e one other low high =
      let col = one.col in let col_d = other.col in let short = one.short in let short_d = other.short in
      let wide = (around k b one.at_k).wide in let wide_e = (around j e other.at_k).wide in
      elim (cases_order k j) [
        | inl same ↦ same
        | inr (inl less) ↦ absurd (let row = in_a_row t 3 texts k j b e less one.at_k other.at_k in omega arith)
        | inr (inr above) ↦ absurd (let row = in_a_row t 3 texts j k e b above other.at_k one.at_k in omega arith)
      ]

  same_rect : (k j : ℕ) (b e : Rect) → k ≡ j → slice_get boxes k ≡ Some b → slice_get boxes j ≡ Some e → b ≡ e
  same_rect k j b e number at_k at_j = same_Some b e (sym at_k ∙ (ap (slice_get boxes) number ∙ at_j))

  -- two wires that are near each other are one
  apart : (c d : Course) → IsCourseOf west (t + 3) boxes c → IsCourseOf west (t + 3) boxes d
      → c.start.place.col ≤ d.start.place.col + d.long + 1 → d.start.place.col ≤ c.start.place.col + c.long + 1 → c ≡ d
  apart c d (entry x same) (entry y same_d) low high = sym same ∙ same_d
  apart c d (entry x same) (on j e g at_j at_more same_d) low high = absurd (entry_off c d j e same (from_eastward j 1 e (to_.W (suc j)) d at_j (omega arith) same_d) high)
  apart c d (entry x same) (out j e at_j long same_d) low high = absurd (entry_off c d j e same (from_eastward j 0 e (to_.Exit 0) d at_j (omega arith) same_d) high)
  apart c d (on k b h at_k at_next_k same) (entry y same_d) low high = absurd (entry_off d c k b same_d (from_eastward k 1 b (to_.W (suc k)) c at_k (omega arith) same) low)
  apart c d (out k b at_k long same) (entry y same_d) low high = absurd (entry_off d c k b same_d (from_eastward k 0 b (to_.Exit 0) c at_k (omega arith) same) low)
  apart c d (on k b h at_k at_next_k same) (on j e g at_j at_more same_d) low high =
      let number = same_box c d k j b e (from_eastward k 1 b (to_.W (suc k)) c at_k (omega arith) same) (from_eastward j 1 e (to_.W (suc j)) d at_j (omega arith) same_d) low high in
      let box = same_rect k j b e number at_k at_j in
      sym same ∙ (ap (λ z. eastward (t + 3) (b.right + 1) 1 (origin.East z) (to_.W (suc z))) number ∙ (ap (λ (z : Rect). eastward (t + 3) (z.right + 1) 1 (origin.East j) (to_.W (suc j))) box ∙ same_d))
  apart c d (out k b at_k long same) (out j e at_j long_d same_d) low high =
      let number = same_box c d k j b e (from_eastward k 0 b (to_.Exit 0) c at_k (omega arith) same) (from_eastward j 0 e (to_.Exit 0) d at_j (omega arith) same_d) low high in
      let box = same_rect k j b e number at_k at_j in
      sym same ∙ (ap (λ z. eastward (t + 3) (b.right + 1) 0 (origin.East z) (to_.Exit 0)) number ∙ (ap (λ (z : Rect). eastward (t + 3) (z.right + 1) 0 (origin.East j) (to_.Exit 0)) box ∙ same_d))
  apart c d (on k b h at_k at_next_k same) (out j e at_j long same_d) low high =
      let number = same_box c d k j b e (from_eastward k 1 b (to_.W (suc k)) c at_k (omega arith) same) (from_eastward j 0 e (to_.Exit 0) d at_j (omega arith) same_d) low high in
      absurd (let lt = slice_get_within boxes (suc k) h at_next_k in omega arith)
  apart c d (out k b at_k long same) (on j e g at_j at_more same_d) low high =
      let number = same_box c d k j b e (from_eastward k 0 b (to_.Exit 0) c at_k (omega arith) same) (from_eastward j 1 e (to_.W (suc j)) d at_j (omega arith) same_d) low high in
      absurd (let lt = slice_get_within boxes (suc j) g at_more in omega arith)

  -- the one leg of a wire
  leg_is : (c : Course) → IsCourseOf west (t + 3) boxes c → (k : ℕ) (l : Leg) → slice_get (legs c) k ≡ Some l → (leg_of c.start.place.col c.long ≡ l) × (k ≡ 0)
  leg_is c (entry x same) k l at_l = subst (λ (z : Course). slice_get (legs z) k ≡ Some l → (leg_of z.start.place.col z.long ≡ l) × (k ≡ 0)) same (only_leg 1 1 k l) at_l
  leg_is c (on j b d at_j at_more same) k l at_l = subst (λ (z : Course). slice_get (legs z) k ≡ Some l → (leg_of z.start.place.col z.long ≡ l) × (k ≡ 0)) same (only_leg (b.right + 1) 1 k l) at_l
  leg_is c (out j b at_j long same) k l at_l = subst (λ (z : Course). slice_get (legs z) k ≡ Some l → (leg_of z.start.place.col z.long ≡ l) × (k ≡ 0)) same (only_leg (b.right + 1) 0 k l) at_l

  near_one : (c d : Course) (k j : ℕ) (l n : Leg) → Contains cs c → Contains cs d → slice_get (legs c) k ≡ Some l → slice_get (legs d) j ≡ Some n → Near l n → (c ≡ d) × (k ≡ j)
  near_one c d k j l n there there_d at_l at_m near =
      let whose = which west (t + 3) boxes c there in
      let whose_d = which west (t + 3) boxes d there_d in
      let (l_is, k_is) = leg_is c whose k l at_l in
      let (n_is, j_is) = leg_is d whose_d j n at_m in
      let (low, high) = near_columns c.start.place.col c.long d.start.place.col d.long (subst (λ z. Near z (leg_of d.start.place.col d.long)) (sym l_is) (subst (Near l) (sym n_is) near)) in
      (apart c d whose whose_d low high, k_is ∙ sym j_is)

  -- a sign of a wire
  data IsSign (v : ℕ) : Type 0 where
    hash : v ≡ 35 → IsSign v
    plus : v ≡ 43 → IsSign v
    minus : v ≡ 45 → IsSign v
    bar : v ≡ 124 → IsSign v

  no_sign : (v w : ℕ) → v ≡ w → (w ≡ 35 → ⊥) → (w ≡ 43 → ⊥) → (w ≡ 45 → ⊥) → (w ≡ 124 → ⊥) → IsSign v → ⊥
  no_sign v w e a b c d (hash x) = a (sym e ∙ x)
  no_sign v w e a b c d (plus x) = b (sym e ∙ x)
  no_sign v w e a b c d (minus x) = c (sym e ∙ x)
  no_sign v w e a b c d (bar x) = d (sym e ∙ x)

  no_sign_32 : (v : ℕ) → v ≡ 32 → IsSign v → ⊥
  no_sign_32 v e = no_sign v 32 e (λ x. omega arith) (λ x. omega arith) (λ x. omega arith) (λ x. omega arith)

  no_sign_62 : (v : ℕ) → v ≡ 62 → IsSign v → ⊥
  no_sign_62 v e = no_sign v 62 e (λ x. omega arith) (λ x. omega arith) (λ x. omega arith) (λ x. omega arith)

  no_sign_edge : (v : ℕ) → (v ≡ 42) ⊎ (v ≡ 61) → IsSign v → ⊥
  no_sign_edge v (inl e) = no_sign v 42 e (λ x. omega arith) (λ x. omega arith) (λ x. omega arith) (λ x. omega arith)
  no_sign_edge v (inr e) = no_sign v 61 e (λ x. omega arith) (λ x. omega arith) (λ x. omega arith) (λ x. omega arith)

  no_sign_name : (v : ℕ) → IsNameByte v → IsSign v → ⊥
  no_sign_name v (inl lower) = no_sign v v refl (λ x. omega arith) (λ x. omega arith) (λ x. omega arith) (λ x. omega arith)
  no_sign_name v (inr (inl digit)) = no_sign v v refl (λ x. omega arith) (λ x. omega arith) (λ x. omega arith) (λ x. omega arith)
  no_sign_name v (inr (inr line)) = no_sign v v refl (λ x. omega arith) (λ x. omega arith) (λ x. omega arith) (λ x. omega arith)

  no_sign_entry : (w : Bool) (v : ℕ) → v ≡ entry_byte w 62 32 → IsSign v → ⊥
  no_sign_entry true v e = no_sign_62 v e
  no_sign_entry false v e = no_sign_32 v e

  -- the name's row has the name and spaces
  name_or_space : (c : ℕ) → 1 < c → c < right → ((c ≤ 1 + length name) × IsNameByte (cell grid (at (t + 1) c))) ⊎ (cell grid (at (t + 1) c) ≡ 32)
  name_or_space c after before = elim (cases_lt c (2 + length name)) [
    | inl in_name ↦
        (let i = c - 2 in
        let c_is : 2 + i ≡ c = omega arith in
        inl (omega arith, subst IsNameByte (sym (is.name_row i (omega arith)) ∙ ap (λ q. cell grid (at (t + 1) q)) c_is) (is.valid.letters i 32 (omega arith))))
    | inr past ↦ inr (is.after_name c past before)
  ]

  -- a sign of a wire stands right after a box
  sign_at : (p : Place) → Within (frame_of t right) p → IsSign (cell grid p) → (p.row ≡ t + 3) × (k : ℕ) × (b : Rect) × (slice_get boxes k ≡ Some b) × (p.col ≡ b.right + 1) × (cell grid p ≡ 45)
  sign_at p w sign = elim (inner_row t p.row w.below_top w.above_bottom) [
    | first e ↦ absurd (in_name e (name_or_space p.col w.after_left w.before_right))
    | second e ↦ absurd (in_edge (t + 2) e is.gap_2 (λ b c inside_it. inside_it.top) (λ c v u w x. u))
    | third e ↦ in_text e
    | fourth e ↦ absurd (in_edge (t + 4) e is.gap_4 (λ b c inside_it. inside_it.bottom) (λ c v u w x. x))
  ]
    where
      at_row : (row : ℕ) → p.row ≡ row → IsSign (cell grid (at row p.col))
      at_row row e = subst (λ r. IsSign (cell grid (at r p.col))) e sign

      in_name : p.row ≡ t + 1 → ((p.col ≤ 1 + length name) × IsNameByte (cell grid (at (t + 1) p.col))) ⊎ (cell grid (at (t + 1) p.col) ≡ 32) → ⊥
      in_name e (inl (le, letter)) = no_sign_name _ letter (at_row (t + 1) e)
      in_name e (inr space) = no_sign_32 _ space (at_row (t + 1) e)

      in_edge : (row : ℕ) → p.row ≡ row → cell grid (at row 2) ≡ 32
          → ((b : Rect) (c : ℕ) → IsInside grid t right b c → (cell grid (at row c) ≡ 42) ⊎ (cell grid (at row c) ≡ 61))
          → ((c v : ℕ) → cell grid (at (t + 2) c) ≡ 32 → cell grid (at (t + 3) c) ≡ v → cell grid (at (t + 4) c) ≡ 32 → cell grid (at row c) ≡ 32) → ⊥
      in_edge row e gap edge blank = elim (cases_eq p.col 2) [
        | inl two ↦ no_sign_32 _ (ap (λ q. cell grid (at row q)) two ∙ gap) (at_row row e)
        | inr other ↦ by (column grid t right 3 texts is.plain is.boxes p.col (let a = w.after_left in omega arith) w.before_right)
      ]
        where
          by : Column grid t right boxes p.col → ⊥
          by (inside k b at_k in_it) = no_sign_edge _ (edge b p.col in_it) (at_row row e)
          by (leaves k b at_k col u v x) = no_sign_32 _ (blank p.col 45 u v x) (at_row row e)
          by (comes k b at_k col u v x) = no_sign_32 _ (blank p.col 62 u v x) (at_row row e)

      in_text : p.row ≡ t + 3 → (p.row ≡ t + 3) × (k : ℕ) × (b : Rect) × (slice_get boxes k ≡ Some b) × (p.col ≡ b.right + 1) × (cell grid p ≡ 45)
      in_text e = elim (cases_eq p.col 2) [
        | inl two ↦ absurd (no_sign_entry west _ (ap (λ q. cell grid (at (t + 3) q)) two ∙ is.gap_3) (at_row (t + 3) e))
        | inr other ↦ by (column grid t right 3 texts is.plain is.boxes p.col (let a = w.after_left in omega arith) w.before_right)
      ]
        where
          by : Column grid t right boxes p.col → (p.row ≡ t + 3) × (k : ℕ) × (b : Rect) × (slice_get boxes k ≡ Some b) × (p.col ≡ b.right + 1) × (cell grid p ≡ 45)
          by (inside k b at_k in_it) = absurd (let q = in_it.middle_byte in no_sign _ _ refl q.no_hash q.no_plus q.no_minus q.no_bar (at_row (t + 3) e))
          by (leaves k b at_k col u v x) = (e, k, b, at_k, col, ap (λ r. cell grid (at r p.col)) e ∙ v)
          by (comes k b at_k col u v x) = absurd (no_sign_62 _ v (at_row (t + 3) e))

  -- the course that begins at a box
  box_course : (k : ℕ) (b : Rect) → slice_get boxes k ≡ Some b → (c : Course) × IsCourseOf west (t + 3) boxes c × (c.start ≡ (record { place = at (t + 3) (b.right + 1); to = east }))
  box_course k b at_k = elim (cases_lt (suc k) (length boxes)) [
    | inl less ↦
        (let d = get_or boxes (suc k) b in
        (eastward (t + 3) (b.right + 1) 1 (origin.East k) (to_.W (suc k)), on k b d at_k (slice_get-get_or boxes (suc k) b less) refl, refl))
    | inr past ↦ (eastward (t + 3) (b.right + 1) 0 (origin.East k) (to_.Exit 0), out k b at_k (let lt = slice_get_within boxes k b at_k in omega arith) refl, refl)
  ]

  -- a cell of a course's leg
  on_course : (c : Course) → IsCourseOf west (t + 3) boxes c → (far : ℕ) → far ≤ c.long → (p : Place) → at c.start.place.row (c.start.place.col + far) ≡ p → c.start.to ≡ east → OnLeg cs p horizontal
  on_course c whose far within p place to = record {
    course = c;
    there = is_there west (t + 3) boxes c whose;
    number = 0;
    leg = record { from = c.start.place; to = c.start.to; long = c.long };
    is = refl;
    far = far;
    within = within;
    axis = ap axis_of to;
    place = subst (λ d. along d far c.start.place ≡ p) (sym to) place;
  }

  at_port : (p : Place) (k : ℕ) (b : Rect) → slice_get boxes k ≡ Some b → p.row ≡ t + 3 → p.col ≡ b.right + 1 → OnLeg cs p horizontal
  at_port p k b at_k row col =
      let (c, whose, starts) = box_course k b at_k in
      let r = ap (λ (z : Position). z.place.row) starts in
      let l = ap (λ (z : Position). z.place.col) starts in
      let to = ap (λ (z : Position). z.to) starts in
      let place : at c.start.place.row (c.start.place.col + 0) ≡ p = equal_places (at c.start.place.row (c.start.place.col + 0)) p (omega arith) (omega arith) in
      on_course c whose 0 (omega arith) p place to

  no_n_port : (b : Rect) (k : ℕ) → slice_get boxes k ≡ Some b → (p : Place) → IsNPort m b p → ⊥
  no_n_port b k at_k p ((w, v), above, beside, no_name) =
      let top = (around k b at_k).top in
      let row : p.row ≡ t + 1 = omega arith in
      by row (name_or_space p.col w.after_left w.before_right)
    where
      by : p.row ≡ t + 1 → ((p.col ≤ 1 + length name) × IsNameByte (cell grid (at (t + 1) p.col))) ⊎ (cell grid (at (t + 1) p.col) ≡ 32) → ⊥
      by row (inl (le, letter)) = no_name (row, w.after_left, omega arith)
      by row (inr space) = let e : cell grid (at (t + 1) p.col) ≡ 118 = ap (λ r. cell grid (at r p.col)) (sym row) ∙ v in omega arith

  no_s_port : (b : Rect) (k : ℕ) → slice_get boxes k ≡ Some b → (p : Place) → IsSPort m b p → ⊥
  no_s_port b k at_k p ((w, v), under, beside) = let bottom = (around k b at_k).bottom in let x = w.above_bottom in omega arith

  port_row : (b : Rect) (k : ℕ) → slice_get boxes k ≡ Some b → (row : ℕ) → b.top < row → row < b.bottom → row ≡ t + 3
  port_row b k at_k row above below = let top = (around k b at_k).top in let bottom = (around k b at_k).bottom in omega arith

  -- a W port is where a wire ends
  at_w_port : (b : Rect) (k : ℕ) → slice_get boxes k ≡ Some b → (p : Place) → IsWPort m b p → OnLeg cs p horizontal
  at_w_port b k at_k p ((w, byte), before, along_side) = elim (cases_eq p.col 2) [
    | inl two ↦ from_entry_wire two west refl
    | inr other ↦ by (column grid t right 3 texts is.plain is.boxes p.col (let a = w.after_left in omega arith) w.before_right)
  ]
    where
      row : p.row ≡ t + 3
      row = port_row b k at_k p.row along_side.0 along_side.1

      here : cell grid (at (t + 3) p.col) ≡ 62
      here = ap (λ r. cell grid (at r p.col)) (sym row) ∙ byte

      from_entry_wire : p.col ≡ 2 → (v : Bool) → west ≡ v → OnLeg cs p horizontal
      from_entry_wire two true with_entry = on_course (eastward (t + 3) 1 1 origin.West (to_.W 0)) (entry with_entry refl) 1 (omega arith) p (equal_places (at (t + 3) (1 + 1)) p (sym row) (sym two)) refl
      from_entry_wire two false without = absurd (let e : cell grid (at (t + 3) 2) ≡ 32 = is.gap_3 ∙ ap (λ w. entry_byte w 62 32) without in let h : cell grid (at (t + 3) 2) ≡ 62 = ap (λ q. cell grid (at (t + 3) q)) (sym two) ∙ here in omega arith)

      by : Column grid t right boxes p.col → OnLeg cs p horizontal
      by (inside j d at_j in_it) = absurd (in_it.middle_byte.no_greater here)
      by (leaves j d at_j col u v x) = absurd (let h = here in omega arith)
      by (comes j d at_j col u v x) =
          let lt = slice_get_within boxes (suc j) d at_j in
          let e = get_or boxes j d in
          let at_e : slice_get boxes j ≡ Some e = slice_get-get_or boxes j d (omega arith) in
          let (left, next_byte) = next_box grid t right 3 texts is.boxes j e d at_e at_j in
          on_course (eastward (t + 3) (e.right + 1) 1 (origin.East j) (to_.W (suc j))) (on j e d at_e at_j refl) 1 (omega arith) p (equal_places (at (t + 3) (e.right + 1 + 1)) p (sym row) (omega arith)) refl

  taken : (p : Place) (d : Direction) → p.col < right → IsTaker m (record { place = p; to = d }) → OnLeg cs p (axis_of d)
  taken p east lt (inl (inl (w, e))) = let (row, k, b, at_k, col, byte) = sign_at p w (minus e) in at_port p k b at_k row col
  taken p wires.west lt (inl (inl (w, e))) = let (row, k, b, at_k, col, byte) = sign_at p w (minus e) in at_port p k b at_k row col
  taken p south lt (inl (inl (w, e))) = absurd (let (row, k, b, at_k, col, byte) = sign_at p w (bar e) in omega arith)
  taken p north lt (inl (inl (w, e))) = absurd (let (row, k, b, at_k, col, byte) = sign_at p w (bar e) in omega arith)
  taken p d lt (inl (inr (w, e))) = absurd (let (row, k, b, at_k, col, byte) = sign_at p w (hash e) in omega arith)
  taken p d lt (inr (inl (w, e))) = absurd (let (row, k, b, at_k, col, byte) = sign_at p w (plus e) in omega arith)
  taken p d lt (inr (inr (end, ends))) = by (record { place = p; to = d }) end lt ends
    where
      by : (s : Position) (end : To) → s.place.col < right → EndsAt m s end → OnLeg cs s.place (axis_of s.to)
      by _ _ lt (at_n q k b at_k port) = absurd (no_n_port b k at_k q port)
      by _ _ lt (at_w q k b at_k port) = at_w_port b k at_k q port
      by _ _ lt (at_exit row k at_k) = absurd (omega arith)

  begun : (s : Position) → IsStart m s → (c : Course) × Contains cs c × (c.start ≡ s)
  begun s (o, starts) = by s o starts
    where
      at_entry : (v : Bool) → west ≡ v → (p : Place) → p.col ≡ 1 → Contains (cond v ((t + 3) ∷ []) []) p.row → (c : Course) × Contains cs c × (c.start ≡ (record { place = p; to = east }))
      at_entry true with_entry p col there =
          let c = eastward (t + 3) 1 1 origin.West (to_.W 0) in
          (c, is_there west (t + 3) boxes c (entry with_entry refl), ap (λ q. record { place = q; to = east }) (equal_places (at (t + 3) 1) p (one_there (t + 3) p.row there) (sym col)))
      at_entry false without p col (k, lt, e) = absurd (omega arith)

      by : (s : Position) (o : Origin) → StartsAt m s o → (c : Course) × Contains cs c × (c.start ≡ s)
      by _ _ (at_north p e) = absurd (let (k, lt, x) = subst (λ l. Contains l p.col) (north_none grid t right name west texts is) e.1 in omega arith)
      by _ _ (at_west p e) = at_entry west refl p e.0 (subst (λ l. Contains l p.row) (west_is grid t right name west texts is) e.1)
      by _ _ (at_south p k b at_k port) = absurd (no_s_port b k at_k p port)
      by _ _ (at_east p k b at_k port) =
          let (c, whose, starts_at) = box_course k b at_k in
          (c, is_there west (t + 3) boxes c whose, starts_at ∙ ap (λ q. record { place = q; to = east }) (equal_places (at (t + 3) (b.right + 1)) p (sym (port_row b k at_k p.row port.2.0 port.2.1)) (sym port.1)))

  ports : (b : Rect) → Contains boxes b → ports_at m b (Ok tt)
  ports b (k, lt, is_b) =
      goes_on tt (none (λ p second_one. no_n_port b k at_k p second_one.holds.0))
      (goes_on tt (none (λ p second_one. let (q, before, other) = second_one.holds.1 in no_two p q before (w_place p second_one.holds.0) (w_place q other)))
      (goes_on tt (none (λ p second_one. let (q, before, other) = second_one.holds.1 in no_two p q before (e_place p second_one.holds.0) (e_place q other)))
      (none (λ p second_one. no_s_port b k at_k p second_one.holds.0))))
    where
      at_k : slice_get boxes k ≡ Some b
      at_k = slice_get-get_or boxes k b lt ∙ ap (λ z. Some z) is_b

      w_place : (p : Place) → IsWPort m b p → (p.row ≡ t + 3) × (p.col + 1 ≡ b.left)
      w_place p port = (port_row b k at_k p.row port.2.0 port.2.1, port.1)

      e_place : (p : Place) → IsEPort m b p → (p.row ≡ t + 3) × (p.col + 1 ≡ b.right + 2)
      e_place p port = (port_row b k at_k p.row port.2.0 port.2.1, let e = port.1 in omega arith)

      no_two : {n : ℕ} (p q : Place) → Before q p → (p.row ≡ t + 3) × (p.col + 1 ≡ n) → (q.row ≡ t + 3) × (q.col + 1 ≡ n) → ⊥
      no_two p q (inl above) (r, c) (r_q, c_q) = omega arith
      no_two p q (inr (same, left)) (r, c) (r_q, c_q) = omega arith

  -- a cell that a wire has
  on_wire : (c : Course) → IsCourseOf west (t + 3) boxes c → (p : Place) → Contains (way (route c)) (record { place = p; to = east }) → Any (Any (λ (s : Position). s.place ≡ p)) (map way (map route cs))
  on_wire c whose p (j, less, at_j) =
      let (k, lt, is_way) = contains_map way (map route cs) (route c) (contains_map route cs c (is_there west (t + 3) boxes c whose)) in
      (k, way (route c), lt, is_way, (j, record { place = p; to = east }, less, at_j, refl))

  start_on : (c : Course) → IsCourseOf west (t + 3) boxes c → (p : Place) → c.start ≡ (record { place = p; to = east }) → Any (Any (λ (s : Position). s.place ≡ p)) (map way (map route cs))
  start_on c whose p same = on_wire c whose p (subst (Contains (way (route c))) same (first_there c.start (runs (legs c))))

  end_on : (col : ℕ) (from : Origin) (end : To) → IsCourseOf west (t + 3) boxes (eastward (t + 3) col 1 from end) → (p : Place) → p.row ≡ t + 3 → p.col ≡ col + 1 → Any (Any (λ (s : Position). s.place ≡ p)) (map way (map route cs))
  end_on col from end whose p row c =
      on_wire (eastward (t + 3) col 1 from end) whose p
      (later_there (record { place = at (t + 3) col; to = east }) (record { place = p; to = east }) (runs (legs (eastward (t + 3) col 1 from end))) (subst (λ q. Contains (runs (legs (eastward (t + 3) col 1 from end))) (record { place = q; to = east })) (equal_places (at (t + 3) (col + (0 + 1))) p (sym row) (omega arith))
      (first_there (record { place = at (t + 3) (col + (0 + 1)); to = east }) [])))

  stray : (p : Place) → IsStray m (map way (map route cs)) p → ⊥
  stray p s = elim (inner_row t p.row s.interior.below_top s.interior.above_bottom) [
    | first e ↦ in_name e (name_or_space p.col s.interior.after_left s.interior.before_right)
    | second e ↦ in_edge (t + 2) e is.gap_2 (omega arith) (omega arith) (λ c v u w x. u)
    | third e ↦ in_text e
    | fourth e ↦ in_edge (t + 4) e is.gap_4 (omega arith) (omega arith) (λ c v u w x. x)
  ]
    where
      space_at : (row : ℕ) → p.row ≡ row → cell grid (at row p.col) ≡ 32 → ⊥
      space_at row e blank = s.no_space (ap (λ r. cell grid (at r p.col)) e ∙ blank)

      in_name : p.row ≡ t + 1 → ((p.col ≤ 1 + length name) × IsNameByte (cell grid (at (t + 1) p.col))) ⊎ (cell grid (at (t + 1) p.col) ≡ 32) → ⊥
      in_name e (inl (le, letter)) = s.no_name (e, s.interior.after_left, omega arith)
      in_name e (inr space) = space_at (t + 1) e space

      in_box : (k : ℕ) (b : Rect) → slice_get boxes k ≡ Some b → (row : ℕ) → p.row ≡ row → t + 2 ≤ row → row ≤ t + 4 → IsInside grid t right b p.col → ⊥
      in_box k b at_k row e low high in_it =
          let a = around k b at_k in let top = a.top in let bottom = a.bottom in
          s.no_box (k, b, slice_get_within boxes k b at_k, get_or_from_slice_get boxes k b b at_k, record { from_top = omega arith; to_bottom = omega arith; from_left = in_it.from_left; to_right = in_it.to_right })

      in_edge : (row : ℕ) → p.row ≡ row → cell grid (at row 2) ≡ 32 → t + 2 ≤ row → row ≤ t + 4
          → ((c v : ℕ) → cell grid (at (t + 2) c) ≡ 32 → cell grid (at (t + 3) c) ≡ v → cell grid (at (t + 4) c) ≡ 32 → cell grid (at row c) ≡ 32) → ⊥
      in_edge row e gap low high blank = elim (cases_eq p.col 2) [
        | inl two ↦ space_at row e (ap (λ q. cell grid (at row q)) two ∙ gap)
        | inr other ↦ by (column grid t right 3 texts is.plain is.boxes p.col (let a = s.interior.after_left in omega arith) s.interior.before_right)
      ]
        where
          by : Column grid t right boxes p.col → ⊥
          by (inside k b at_k in_it) = in_box k b at_k row e low high in_it
          by (leaves k b at_k col u v x) = space_at row e (blank p.col 45 u v x)
          by (comes k b at_k col u v x) = space_at row e (blank p.col 62 u v x)

      in_text : p.row ≡ t + 3 → ⊥
      in_text e = elim (cases_eq p.col 2) [
        | inl two ↦ at_gap two west refl
        | inr other ↦ by (column grid t right 3 texts is.plain is.boxes p.col (let a = s.interior.after_left in omega arith) s.interior.before_right)
      ]
        where
          at_gap : p.col ≡ 2 → (v : Bool) → west ≡ v → ⊥
          at_gap two true with_entry = s.no_wire (end_on 1 origin.West (to_.W 0) (entry with_entry refl) p e (omega arith))
          at_gap two false without = space_at (t + 3) e (ap (λ q. cell grid (at (t + 3) q)) two ∙ (is.gap_3 ∙ ap (λ w. entry_byte w 62 32) without))

          by : Column grid t right boxes p.col → ⊥
          by (inside k b at_k in_it) = in_box k b at_k (t + 3) e (omega arith) (omega arith) in_it
          by (leaves k b at_k col u v x) =
              let (c, whose, starts) = box_course k b at_k in
              s.no_wire (start_on c whose p (starts ∙ ap (λ q. record { place = q; to = east }) (equal_places (at (t + 3) (b.right + 1)) p (sym e) (sym col))))
          by (comes j d at_j col u v x) =
              let lt = slice_get_within boxes (suc j) d at_j in
              let b = get_or boxes j d in
              let at_b : slice_get boxes j ≡ Some b = slice_get-get_or boxes j d (omega arith) in
              let (left, next_byte) = next_box grid t right 3 texts is.boxes j b d at_b at_j in
              s.no_wire (end_on (b.right + 1) (origin.East j) (to_.W (suc j)) (on j b d at_b at_j refl) p e (omega arith))

  pub strip_wires : AreCourses m cs
  strip_wires = record {
    each = λ c there. each_course c (which west (t + 3) boxes c there);
    near = near_one;
    taken = taken;
    turned = λ p (w, e). absurd (let (row, k, b, at_k, col, byte) = sign_at p w (plus e) in omega arith);
    begun = begun;
    ports = ports;
    stray = stray;
  }
