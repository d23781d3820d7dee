-- Figures that close, and their breaks.
use Rattle.std.proofs.Common.{◌≡◌, ◌⊎◌, ◌+◌, ◌<◌, ap, ℕ, inl, inr, refl, subst, arith, None}
use Rattle.std.proofs.lemmas.Bool.{cases_lt}
use Rattle.umix_base.specs.declared.place.Place.{Place}
use Rattle.std.specs.Str.{byte}
use Rattle.two_d.specs.Boxes.{IsBox, IsBoxCorner}
use Rattle.two_d.specs.Cells.{Grid, cell}
use Rattle.two_d.specs.Frames.{IsFrame, IsSideByte}
use Rattle.two_d.specs.Places.{Rect, Within, at, corner_of}
use Rattle.border_break.specs.declared.figure.Figure.{Figure}
use Rattle.border_break.specs.declared.figure.Figure.TheVariants.{Frame, Box}
use Rattle.border_break.specs.Borders.{IsOfSide, IsOfTop, lower_corner, upper_corner}
use Rattle.border_break.specs.Breaks.{IsBreak, LeftCloses, TopCloses, no_corner, closed}

same_or_not : (a b : ℕ) → (a ≡ b) ⊎ (a ≡ b → ⊥)
same_or_not a b = elim (cases_lt a b) [
  | inl less ↦ inr (λ same. omega (arith, less, same))
  | inr least ↦ elim (cases_lt b a) [
    | inl more ↦ inr (λ same. omega (arith, more, same))
    | inr most ↦ inl (omega (arith, least, most))
  ]
]

upper_ends : (f : Figure) (b : ℕ) → b ≡ upper_corner f → IsOfTop f b → ⊥
upper_ends Frame b is (inl top) = omega (arith, is, top)
upper_ends Frame b is (inr top) = omega (arith, is, top)
upper_ends Box b is top = omega (arith, is, top)

lower_ends : (f : Figure) (b : ℕ) → b ≡ lower_corner f → IsOfSide f b → ⊥
lower_ends Frame b is (inl side) = omega (arith, is, side)
lower_ends Frame b is (inr side) = omega (arith, is, side)
lower_ends Box b is side = omega (arith, is, side)

frame_at : (grid : Grid) (p : Place) (f : Rect) → IsFrame grid p f → IsBreak grid Frame (corner_of f) None
frame_at grid p f frame = elim (same_or_not (cell grid (corner_of f)) (upper_corner Frame)) [
  | inr lacks ↦ no_corner lacks
  | inl from ↦ closed f.right f.bottom (record {
    before = record {
      before = record {
        from = from;
        top = record { east = frame.wide; goes_on = frame.top; ends = upper_ends Frame _ frame.top_right };
        to = frame.top_right;
      };
      left = record { below = frame.high; goes_on = frame.left; ends = lower_ends Frame _ frame.bottom_left };
      to = frame.bottom_left;
    };
    bottom_is = frame.bottom;
    to = frame.bottom_right;
  }) frame.right
]

pub frame_closes : (grid : Grid) (p : Place) (f : Rect) → IsFrame grid p f → IsBreak grid Frame p None
frame_closes grid p f frame = subst (λ (q : Place). IsBreak grid Frame q None) frame.corner (frame_at grid p f frame)

box_at : (grid : Grid) (f : Rect) (p : Place) (b : Rect) → IsBox grid f p b → IsBreak grid Box (corner_of b) None
box_at grid f p b box = elim (same_or_not (cell grid (corner_of b)) (upper_corner Box)) [
  | inr lacks ↦ no_corner lacks
  | inl from ↦ closed b.right b.bottom (record {
    before = record {
      before = record {
        from = from;
        top = record { east = (let wide = box.wide in omega (arith, wide)); goes_on = box.top; ends = upper_ends Box _ box.top_right };
        to = box.top_right;
      };
      left = record { below = (let high = box.high in omega (arith, high)); goes_on = box.left; ends = lower_ends Box _ box.bottom_left };
      to = box.bottom_left;
    };
    bottom_is = box.bottom;
    to = box.bottom_right;
  }) box.right
]

pub box_closes : (grid : Grid) (f : Rect) (p : Place) (b : Rect) → IsBox grid f p b → IsBreak grid Box p None
box_closes grid f p b box = subst (λ (q : Place). IsBreak grid Box q None) box.corner (box_at grid f p b box)

pub unbroken_frame : (grid : Grid) (p : Place) → cell grid p ≡ upper_corner Frame → IsBreak grid Frame p None →
    (f : Rect) × IsFrame grid p f
unbroken_frame grid p from (no_corner lacks) = absurd (lacks from)
unbroken_frame grid p from (closed right bottom closes side) = (
  record { top = p.row; left = p.col; bottom = bottom; right = right },
  record {
    corner = refl;
    wide = closes.before.before.top.east;
    high = closes.before.left.below;
    top = closes.before.before.top.goes_on;
    top_right = closes.before.before.to;
    left = closes.before.left.goes_on;
    bottom_left = closes.before.to;
    bottom = closes.bottom_is;
    bottom_right = closes.to;
    right = side;
  },
)

-- a cell isn't the next one in its row, and in its column, if these have different bytes
wider : (grid : Grid) (p : Place) (right : ℕ) → p.col < right → cell grid (at p.row (p.col + 1)) ≡ byte "=" →
    cell grid (at p.row right) ≡ byte "*" → p.col + 1 < right
wider grid p right east edge corner = elim (cases_lt (p.col + 1) right) [
  | inl less ↦ less
  | inr most ↦ (let same : right ≡ p.col + 1 = omega (arith, east, most) in
      let cells = ap (λ col. cell grid (at p.row col)) same in
      absurd (omega (arith, cells, edge, corner)))
]

higher : (grid : Grid) (p : Place) (bottom : ℕ) → p.row < bottom → cell grid (at (p.row + 1) p.col) ≡ byte "!" →
    cell grid (at bottom p.col) ≡ byte "*" → p.row + 1 < bottom
higher grid p bottom below edge corner = elim (cases_lt (p.row + 1) bottom) [
  | inl less ↦ less
  | inr most ↦ (let same : bottom ≡ p.row + 1 = omega (arith, below, most) in
      let cells = ap (λ row. cell grid (at row p.col)) same in
      absurd (omega (arith, cells, edge, corner)))
]

-- an edge or a corner of a box is no byte of a frame's side
not_side : (b c : ℕ) → b ≡ c → (c ≡ byte "=") ⊎ (c ≡ byte "*") → IsSideByte b → ⊥
not_side b c is (inl edge) (inl colon) = omega (arith, is, edge, colon)
not_side b c is (inl edge) (inr dash) = omega (arith, is, edge, dash)
not_side b c is (inr corner) (inl colon) = omega (arith, is, corner, colon)
not_side b c is (inr corner) (inr dash) = omega (arith, is, corner, dash)

-- a row within a frame that begins with these edges ends within it too, and so does a column
narrower : (grid : Grid) (q : Place) (f : Rect) (p : Place) (right : ℕ) → IsFrame grid q f → Within f p →
    TopCloses grid Box p right → right < f.right
narrower grid q f p right frame inside closes =
    let border = frame.right p.row inside.below_top inside.above_bottom in
    elim (cases_lt right f.right) [
      | inl less ↦ less
      | inr least ↦ elim (cases_lt f.right right) [
        | inl past ↦ absurd (not_side (cell grid (at p.row f.right)) (byte "=")
            (closes.top.goes_on f.right inside.before_right past) (inl refl) border)
        | inr most ↦ (let same : right ≡ f.right = omega (arith, least, most) in
            absurd (not_side (cell grid (at p.row f.right)) (byte "*")
            (subst (λ (k : ℕ). cell grid (at p.row k) ≡ byte "*") same closes.to) (inr refl) border))
      ]
    ]

lower : (grid : Grid) (q : Place) (f : Rect) (p : Place) (right bottom : ℕ) → IsFrame grid q f → Within f p →
    LeftCloses grid Box p right bottom → bottom < f.bottom
lower grid q f p right bottom frame inside closes =
    let border = frame.bottom p.col inside.after_left inside.before_right in
    elim (cases_lt bottom f.bottom) [
      | inl less ↦ less
      | inr least ↦ elim (cases_lt f.bottom bottom) [
        | inl past ↦ (let edge = closes.left.goes_on f.bottom inside.above_bottom past in
            absurd (omega (arith, edge, border)))
        | inr most ↦ (let same : bottom ≡ f.bottom = omega (arith, least, most) in
            let corner = subst (λ (k : ℕ). cell grid (at k p.col) ≡ byte "*") same closes.to in
            absurd (omega (arith, corner, border)))
      ]
    ]

pub unbroken_box : (grid : Grid) (q : Place) (f : Rect) (p : Place) → IsFrame grid q f → IsBoxCorner grid f p →
    IsBreak grid Box p None → (b : Rect) × IsBox grid f p b
unbroken_box grid q f p frame corner (no_corner lacks) = absurd (lacks corner.here)
unbroken_box grid q f p frame corner (closed right bottom closes side) =
    let within = corner.within in
    let east = closes.before.before.top.east in
    let below = closes.before.left.below in
    let top = within.below_top in
    let left = within.after_left in (
      record { top = p.row; left = p.col; bottom = bottom; right = right },
      record {
        corner = refl;
        within = (
          within,
          record {
            below_top = omega (arith, top, below);
            above_bottom = lower grid q f p right bottom frame within closes.before;
            after_left = omega (arith, left, east);
            before_right = narrower grid q f p right frame within closes.before.before;
          },
        );
        wide = wider grid p right east corner.east closes.before.before.to;
        high = higher grid p bottom below corner.south closes.before.to;
        top = closes.before.before.top.goes_on;
        top_right = closes.before.before.to;
        left = closes.before.left.goes_on;
        bottom_left = closes.before.to;
        bottom = closes.bottom_is;
        bottom_right = closes.to;
        right = side;
      },
    )
