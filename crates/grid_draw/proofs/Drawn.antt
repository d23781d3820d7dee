-- The cells of a module's drawing, whatever lines stand above and below.
use Rattle.std.specs.Prelude.{◌≡◌, ◌+◌, ◌<◌, ℕ, List, [], ◌++◌, length, map}
use Rattle.std.specs.List.{range_with_len}
use Rattle.std.proofs.Common.{arith, sym, ap, subst, ◌∙◌, get_or}
use Rattle.std.proofs.lemmas.List.{length-map}
use Rattle.std.proofs.lemmas.List.FromFn.{length-range_with_len, get_or-map-range_with_len}
use Rattle.two_d.specs.Places.{at}
use Rattle.two_d.specs.Cells.{cell}
use Rattle.two_d.specs.Programs.{ModuleForm}
use Rattle.grid_picture.proofs.Lines.{HasBytes, line_has, byte_in, past_line}
use Rattle.grid_draw.specs.Layout.{columns, rows, byte_at, drawn_lines}

-- the line of a row
abbrev pub line_of : ModuleForm → ℕ → List ℕ
line_of m r = map (byte_at m r) (range_with_len 0 (columns m + 2))

-- each line has two columns more than there are within the borders
pub line_long : (m : ModuleForm) (r : ℕ) → length (line_of m r) ≡ columns m + 2
line_long m r =
    length-map (range_with_len 0 (columns m + 2)) (byte_at m r)
    ∙ length-range_with_len 0 (columns m + 2)

-- there are two lines more than rows within the borders
pub lines_long : (m : ModuleForm) → length (drawn_lines m) ≡ rows m + 2
lines_long m =
    length-map (range_with_len 0 (rows m + 2)) (line_of m) ∙ length-range_with_len 0 (rows m + 2)

-- the lines stand in the order of their rows
pub line_at : (m : ModuleForm) (r : ℕ) → r < rows m + 2 → get_or (drawn_lines m) r [] ≡ line_of m r
line_at m r lt = get_or-map-range_with_len (line_of m) 0 (rows m + 2) r r [] lt (omega arith)

module _ (m : ModuleForm) (above below : List (List ℕ)) where
  -- the byte in a row and a column of the drawing
  pub drawn_cell : (r c : ℕ) → r < rows m + 2 → c < columns m + 2
      → cell (above ++ (drawn_lines m ++ below)) (at (length above + 1 + r) (1 + c)) ≡ byte_at m r c
  drawn_cell r c lt less =
      let rows_are = lines_long m in
      let cols_are = line_long m r in
      byte_in (above ++ (drawn_lines m ++ below)) (length above + 1 + r) 1 (1 + c) (byte_at m r c)
      (line_of m r)
      (subst (HasBytes (above ++ (drawn_lines m ++ below)) (length above + 1 + r) 1)
      (line_at m r lt) (line_has above (drawn_lines m) below r (omega arith)))
      c (omega arith) (omega arith)
      (get_or-map-range_with_len (byte_at m r) 0 (columns m + 2) c c 32 less (omega arith))

  -- to the right of the drawing there are spaces
  pub drawn_past : (r c : ℕ) → r < rows m + 2 → columns m + 2 < c
      → cell (above ++ (drawn_lines m ++ below)) (at (length above + 1 + r) c) ≡ 32
  drawn_past r c lt past =
      let rows_are = lines_long m in
      past_line above (drawn_lines m) below r c (omega arith)
      (subst (λ (n : ℕ). n < c) (sym (ap length (line_at m r lt) ∙ line_long m r)) past)
