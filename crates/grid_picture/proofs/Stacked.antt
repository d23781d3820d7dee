-- Modules that are drawn under each other are the program that is read.
use Rattle.std.specs.Prelude.{◌≡◌, ◌+◌, ◌<◌, ◌≤◌, ◌⊎◌, ℕ, zero, suc, List, [], ◌∷◌, ◌++◌, length, map, Any, All, AllPairs, Ok}
use Rattle.std.specs.List.{flat_map}
use Rattle.std.proofs.Common.{arith, refl, sym, ap, subst, ◌∙◌, inl, inr, append_assoc, append-nil}
use Rattle.std.proofs.lemmas.Bool.{cases_lt}
use Rattle.std.proofs.lemmas.List.{length-append}
use Rattle.umix_base.specs.declared.place.Place.{Place}
use Rattle.two_d.specs.Places.{at, Rect, corner_of, Within}
use Rattle.two_d.specs.Cells.{Grid, cell}
use Rattle.two_d.specs.Reading.{goes_on, gave, went, each}
use Rattle.two_d.specs.Frames.{IsCorner, IsFrame, one_entry_a_side, frame_kind, frames_of}
use Rattle.two_d.specs.Program.{Drawn, module_in, program_of}
use Rattle.two_d.specs.Programs.{ModuleForm, Program}
use Rattle.two_d.specs.Good.{IsGood}
use Rattle.two_d.specs.Table.{table_of}
use Rattle.two_d.proofs.CellsEnd.{within_lines}
use Rattle.two_d.proofs.GoodTable.{table_of_good}
use Rattle.grid_picture.specs.Lined.{lined}
use Rattle.grid_picture.specs.inner.Printable.{IsLine}
use Rattle.grid_picture.proofs.Figured.{frames_proper, figures_read}
use Rattle.grid_picture.proofs.LinesRead.{grid_read}
use Rattle.grid_picture.proofs.Pairs.{all_cons, pairs_cons}

-- In the grid, the lines after these many are taken by a frame, which shows the module; no other corner is in these lines.
pub record Stands (grid : Grid) (above height : ℕ) (s : ModuleForm) : Type 0 where
  pub frame : Rect
  pub boxes : List Rect
  pub top : frame.top ≡ above + 1
  pub bottom : frame.bottom ≡ above + height
  pub framed : IsFrame grid (corner_of frame) frame
  pub entered : one_entry_a_side grid frame (Ok tt)
  pub corner : IsCorner grid (corner_of frame)
  pub alone : (p : Place) → IsCorner grid p → above < p.row → p.row ≤ above + height → (corner_of frame ≡ p) ⊎ Within frame p
  pub read : module_in grid frame (Ok (record { shape = s; frame = frame; boxes = boxes }))

-- A module with lines that show it, whatever lines stand above and below.
pub record Block : Type 0 where
  pub shape : ModuleForm
  pub rows : List (List ℕ)
  pub stands : (above below : List (List ℕ)) → Stands (above ++ (rows ++ below)) (length above) (length rows) shape

abbrev pub shapes : List Block → Program
shapes blocks = map (λ (b : Block). b.shape) blocks

abbrev pub all_rows : List Block → List (List ℕ)
all_rows blocks = flat_map (λ (b : Block). b.rows) blocks

-- the lines of a grid after the first ones are read
record AreRead (grid : Grid) (above : ℕ) (blocks : List Block) : Type 0 where
  frames : List Rect
  drawn : List Drawn
  shown : map (λ (d : Drawn). d.shape) drawn ≡ shapes blocks
  read : each (module_in grid) frames (Ok drawn)
  after : All (λ f. above < f.top) frames
  under : AllPairs (λ f g. f.bottom < g.top) frames
  corners : All (λ f. IsCorner grid (corner_of f)) frames
  figures : All (λ f. IsFrame grid (corner_of f) f) frames
  entered : All (λ f. one_entry_a_side grid f (Ok tt)) frames
  only : (p : Place) → IsCorner grid p → above < p.row → Any (λ f. (corner_of f ≡ p) ⊎ Within f p) frames

rows_read : (grid : Grid) (above : List (List ℕ)) (blocks : List Block) → above ++ all_rows blocks ≡ grid → AreRead grid (length above) blocks
rows_read grid above [] whole = record {
  frames = [];
  drawn = [];
  shown = refl;
  read = gave;
  after = λ k d lt. absurd (omega arith);
  under = λ i j d less lt. absurd (omega arith);
  corners = λ k d lt. absurd (omega arith);
  figures = λ k d lt. absurd (omega arith);
  entered = λ k d lt. absurd (omega arith);
  only = λ p c below.
      let lt = within_lines grid p.row p.col (λ space. let e = c.here in omega arith) in
      let same = ap length (sym (append-nil above) ∙ whole) in
      absurd (omega arith);
}
rows_read grid above (b ∷ blocks) whole =
    let here : Stands grid (length above) (length b.rows) b.shape = subst (λ g. Stands g (length above) (length b.rows) b.shape) whole (b.stands above (all_rows blocks)) in
    let long = length-append above b.rows in
    let rest = rows_read grid (above ++ b.rows) blocks (append_assoc above b.rows (all_rows blocks) ∙ whole) in
    let high = here.top in
    let low = here.bottom in record {
      frames = here.frame ∷ rest.frames;
      drawn = record { shape = b.shape; frame = here.frame; boxes = here.boxes } ∷ rest.drawn;
      shown = ap (λ l. b.shape ∷ l) rest.shown;
      read = goes_on (record { shape = b.shape; frame = here.frame; boxes = here.boxes }) here.read (goes_on rest.drawn rest.read gave);
      after = all_cons (λ f. length above < f.top) here.frame rest.frames (omega arith) (λ k d lt. let x = rest.after k d lt in omega arith);
      under = pairs_cons (λ f g. f.bottom < g.top) here.frame rest.frames (λ k d lt. let x = rest.after k d lt in omega arith) rest.under;
      corners = all_cons (λ f. IsCorner grid (corner_of f)) here.frame rest.frames here.corner rest.corners;
      figures = all_cons (λ f. IsFrame grid (corner_of f) f) here.frame rest.frames here.framed rest.figures;
      entered = all_cons (λ f. one_entry_a_side grid f (Ok tt)) here.frame rest.frames here.entered rest.entered;
      only = λ p c below. elim (cases_lt (length above + length b.rows) p.row) [
        | inl later ↦ (let (k, f, lt, is, how) = rest.only p c (omega arith) in (suc k, f, omega arith, is, how))
        | inr in_rows ↦ (0, here.frame, omega arith, refl, here.alone p c below in_rows)
      ];
    }

frames_read : (grid : Grid) (blocks : List Block) → (are : AreRead grid 0 blocks) → frames_of grid (Ok are.frames)
frames_read grid blocks are = figures_read (frame_kind grid) (frames_proper grid) are.frames (record {
  in_order = λ i j d less lt. let under = are.under i j d less lt in let high = (are.figures i d (omega arith)).high in inl (omega arith);
  apart = λ i j d less lt (p, c, e). let under = are.under i j d less lt in let a = c.from_top in let b = e.to_bottom in omega arith;
  corners = are.corners;
  figures = are.figures;
  more = are.entered;
  only = λ p c. are.only p c (not_zero p c);
})
  where
    not_zero : (p : Place) → IsCorner grid p → 0 < p.row
    not_zero p c = from_first p.row p.col c.here
      where
        from_first : (row col : ℕ) → cell grid (at row col) ≡ 44 → 0 < row
        from_first zero zero e = absurd (omega arith)
        from_first zero (suc col) e = absurd (omega arith)
        from_first (suc row) col e = omega arith

pub program_read : (blocks : List Block) → All IsLine (all_rows blocks) → length (lined (all_rows blocks)) ≤ 262144 → IsGood (shapes blocks)
    → program_of (lined (all_rows blocks)) (Ok (shapes blocks))
program_read blocks are_lines short good =
    let are = rows_read (all_rows blocks) [] blocks refl in
    goes_on (all_rows blocks) (grid_read (all_rows blocks) are_lines short)
    (goes_on are.frames (frames_read (all_rows blocks) blocks are)
    (goes_on are.drawn are.read
    (went (shapes blocks) (subst (λ P. table_of P (Ok (shapes blocks))) (sym are.shown) (table_of_good (shapes blocks) good)))))
