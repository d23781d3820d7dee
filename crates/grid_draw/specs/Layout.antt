-- The one layout in which a program is drawn. Rows and columns of a module's drawing are counted
-- from its top left corner, which is in row 0 and column 0.
use Rattle.std.specs.Prelude.{ℕ, ◌+◌, ◌-◌, ◌*◌, ◌/◌, ◌%◌, suc, List, [], ◌∷◌, ◌++◌, Bool, ◌&&◌}
use Rattle.std.specs.Prelude.{◌||◌, ◌==◌, nat_lt, nat_le, if◌then◌else◌, max, map, length}
use Rattle.std.specs.Prelude.{slice_get, slice_index, slice_index_or, Option, Some, None, is_some}
use Rattle.std.specs.List.{flat_map, range_with_len}
use Rattle.std.specs.Str.{byte}
use Rattle.two_d.specs.Canonical.{canonical}
use Rattle.two_d.specs.Clean.{WireForm}
use Rattle.two_d.specs.Places.{at}
use Rattle.two_d.specs.Programs.{BoxForm, ModuleForm, Program}
use Rattle.two_d.specs.declared.module.Origin.{Origin}
use Rattle.two_d.specs.declared.module.Origin.TheVariants.{North, West, South, East}
use Rattle.two_d.specs.Wires.{Direction, east, west, south, north, horizontal, vertical}
use Rattle.two_d.specs.declared.module.To.{To}
use Rattle.two_d.specs.declared.module.To.TheVariants.{N, W, Exit}
use Rattle.grid_picture.specs.Courses.{Course, passes, wire_byte}
use Rattle.grid_picture.specs.Lined.{lined}

-- the length of a box's text
abbrev pub width : BoxForm → ℕ
width row = length (canonical row.command)

-- the least number that is no less than this one and 5 more than the width of each box
abbrev pub reach_over : ℕ → List BoxForm → ℕ
reach_over n [] = n
reach_over n (row ∷ rows) = max (width row + 5) (reach_over n rows)

-- how far the name and the boxes reach to the right
abbrev pub reach : ModuleForm → ℕ
reach m = reach_over (length m.name) m.boxes

-- the wire to an end, where there is one
abbrev pub wire_to : Option Origin → To → List WireForm
wire_to None end = []
wire_to (Some o) end = record { from = o; to = end } ∷ []

-- the wires to the N and W ports of boxes, of which the first is box b
abbrev pub box_wires : ℕ → List BoxForm → List WireForm
box_wires b [] = []
box_wires b (row ∷ rows) = wire_to row.n (N b) ++ (wire_to row.w (W b) ++ box_wires (suc b) rows)

-- the wires to exits, of which the first is exit i
abbrev pub exit_wires : ℕ → List (Option Origin) → List WireForm
exit_wires i [] = []
exit_wires i (o ∷ os) = wire_to o (Exit i) ++ exit_wires (suc i) os

-- the wires of a module, in the order of their ends: N and W of each box, then the exits
abbrev pub wires_in : ModuleForm → List WireForm
wires_in m = box_wires 0 m.boxes ++ exit_wires 0 m.exits

-- the columns and the rows within the borders
abbrev pub columns : ModuleForm → ℕ
columns m = reach m + 2 + 2 * length (wires_in m)

abbrev pub rows : ModuleForm → ℕ
rows m = 2 + 8 * length m.boxes + length m.exits

-- row q of the eight rows of box b
abbrev pub box_row : ℕ → ℕ → ℕ
box_row b q = 3 + 8 * b + q

-- the row of an exit: the exits lie under the boxes
abbrev pub exit_row : ModuleForm → ℕ → ℕ
exit_row m i = box_row (length m.boxes) i

-- the column in which wire j runs up or down
abbrev pub track : ModuleForm → ℕ → ℕ
track m j = reach m + 3 + 2 * j

-- the column of a box's E port
abbrev pub east_of : ModuleForm → ℕ → ℕ
east_of m b = 6 + slice_index_or (map width m.boxes) b 0

-- the row in which a wire comes to its track
abbrev pub start_row : Origin → ℕ
start_row North = 0
start_row West = 2
start_row (East b) = box_row b 4
start_row (South b) = box_row b 7

-- the row in which a wire leaves its track
abbrev pub end_row : ModuleForm → To → ℕ
end_row m (N b) = box_row b 1
end_row m (W b) = box_row b 0
end_row m (Exit i) = exit_row m i

-- from a row to another in one column
abbrev pub up_or_down : ℕ → ℕ → Direction × ℕ
up_or_down from to = if nat_lt from to then (south, to - from) else (north, from - to)

-- from the track to the end
abbrev pub last_bends : ModuleForm → ℕ → To → List (Direction × ℕ)
last_bends m t (N b) = (west, t - 5) ∷ (south, 1) ∷ []
last_bends m t (W b) = (west, t - 2) ∷ (south, 4) ∷ (east, 1) ∷ []
last_bends m t (Exit i) = (east, columns m + 1 - t) ∷ []

-- from the row in which the wire comes to the track in column t, on to its end
abbrev pub bends_on : ModuleForm → ℕ → Origin → To → List (Direction × ℕ)
bends_on m t from end = up_or_down (start_row from) (end_row m end) ∷ last_bends m t end

-- the wire on the track in column t
abbrev pub course_on : ModuleForm → ℕ → WireForm → Origin → Course
course_on m t w North = record {
  start = record { place = at 0 t; to = south };
  long = end_row m w.to;
  bends = last_bends m t w.to;
  wire = w;
}
course_on m t w West = record {
  start = record { place = at 2 0; to = east };
  long = t;
  bends = bends_on m t West w.to;
  wire = w;
}
course_on m t w (East b) = record {
  start = record { place = at (box_row b 4) (east_of m b); to = east };
  long = t - east_of m b;
  bends = bends_on m t (East b) w.to;
  wire = w;
}
course_on m t w (South b) = record {
  start = record { place = at (box_row b 6) 5; to = south };
  long = 1;
  bends = (east, t - 5) ∷ bends_on m t (South b) w.to;
  wire = w;
}

-- the courses of wires, of which the first is wire j
abbrev pub courses_from : ModuleForm → ℕ → List WireForm → List Course
courses_from m j [] = []
courses_from m j (w ∷ ws) = course_on m (track m j) w w.from ∷ courses_from m (suc j) ws

abbrev pub courses : ModuleForm → List Course
courses m = courses_from m 0 (wires_in m)

-- a box's left or right side is in the column
abbrev pub is_side : BoxForm → ℕ → Bool
is_side row col = (col == 4) || (col == 5 + width row)

-- the byte of a box and of its N and W ports, by the row of its eight rows and the column;
-- elsewhere another
abbrev pub box_byte : BoxForm → ℕ → ℕ → ℕ → ℕ
box_byte row q col other =
    if (q == 2) && (col == 5) && is_some row.n then byte "v" else
    (if (q == 4) && (col == 3) && is_some row.w then byte ">" else
    (if nat_lt col 4 || nat_lt (5 + width row) col then other else
    (if (q == 3) || (q == 5) then (if is_side row col then byte "*" else byte "=") else
    (if q == 4 then
    (if is_side row col then byte "!" else slice_index (canonical row.command) (col - 5)) else
    other))))

-- the byte of the wires in a row and a column
abbrev pub wires_byte : ModuleForm → ℕ → ℕ → ℕ
wires_byte m row col = wire_byte (courses m) (at row col)

-- the byte in a row and a column within the borders: of the name, of a box, or of the wires
abbrev pub inner_byte : ModuleForm → ℕ → ℕ → ℕ
inner_byte m row col =
    if (row == 1) && nat_le col (length m.name) then slice_index m.name (col - 1) else
    (if nat_lt row 3 then wires_byte m row col else
    elim (slice_get m.boxes ((row - 3) / 8)) [
      | None ↦ wires_byte m row col
      | Some one ↦ box_byte one ((row - 3) % 8) col (wires_byte m row col)
    ])

-- a corner, or what stands between the corners of a border
abbrev pub border_byte : ModuleForm → (corner : ℕ) → ℕ → (between : ℕ) → ℕ
border_byte m corner col between =
    if (col == 0) || (col == columns m + 1) then corner else between

-- the byte in a row and a column of a module's drawing: its four borders with its entries and
-- exits, and what lies within
abbrev pub byte_at : ModuleForm → ℕ → ℕ → ℕ
byte_at m row col =
    if row == 0 then border_byte m (byte ",") col
    (if passes vertical (courses m) (at row col) then byte "|" else byte ".") else
    (if row == rows m + 1 then border_byte m (byte "'") col (byte ".") else
    (if col == 0 then
    (if passes horizontal (courses m) (at row col) then byte "-" else byte ":") else
    (if col == columns m + 1 then (if nat_le (exit_row m 0) row then byte "-" else byte ":") else
    inner_byte m row col)))

-- the lines of a module's drawing
abbrev pub drawn_lines : ModuleForm → List (List ℕ)
drawn_lines m =
    map (λ row. map (byte_at m row) (range_with_len 0 (columns m + 2)))
    (range_with_len 0 (rows m + 2))

-- the drawing of a program: its modules under each other
abbrev pub drawing_of : Program → List ℕ
drawing_of P = lined (flat_map drawn_lines P)
