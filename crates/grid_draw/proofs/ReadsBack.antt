-- What is drawn is read back.
use Rattle.std.specs.Prelude.{◌≡◌, ◌+◌, ◌<◌, ◌≤◌, ℕ, suc, List, [], ◌∷◌, ◌++◌, length}
use Rattle.std.specs.Prelude.{map, slice_get, Some, All, Ok}
use Rattle.std.specs.Prelude.{Bool, true, false, if◌then◌else◌}
use Rattle.std.specs.List.{Contains, flat_map}
use Rattle.std.proofs.Common.{arith, refl, sym, ap, subst, ◌∙◌, inl, inr, get_or}
use Rattle.std.proofs.lemmas.Bool.{cases_lt, cases_eq}
use Rattle.std.proofs.lemmas.List.{get_or_default}
use Rattle.std.proofs.lemmas.List.FromFn.{get_or-map-range_with_len}
use Rattle.std.proofs.lemmas.List.Elements.{Contains-append_cases}
use Rattle.std.proofs.lemmas.Option.{slice_get_within, get_or_from_slice_get}
use Rattle.umix_base.specs.declared.place.Place.{Place}
use Rattle.two_d.specs.Good.{IsGood}
use Rattle.two_d.specs.Places.{at}
use Rattle.two_d.specs.Program.{program_of}
use Rattle.two_d.specs.Programs.{ModuleForm, Program}
use Rattle.two_d.specs.Sound.{IsSound, LeadsOn}
use Rattle.two_d.specs.Wires.{vertical}
use Rattle.grid_picture.specs.Courses.{Course, passes}
use Rattle.grid_picture.specs.Lined.{lined}
use Rattle.grid_picture.specs.inner.Printable.{IsLine}
use Rattle.grid_picture.proofs.Courses.{route, courses_laid}
use Rattle.grid_picture.proofs.Laid.{Route}
use Rattle.grid_picture.proofs.Moved.{moved_course}
use Rattle.grid_picture.proofs.Pairs.{all_there, there_all}
use Rattle.grid_picture.proofs.Pictured.{IsPictured, module_read}
use Rattle.grid_picture.proofs.Stacked.{Stands, Block, all_rows, shapes, program_read}
use Rattle.grid_draw.specs.Answers.{NoneTooWide, size}
use Rattle.grid_draw.specs.Layout.{columns, rows, courses, byte_at, inner_byte}
use Rattle.grid_draw.specs.Layout.{drawn_lines, drawing_of}
use Rattle.grid_draw.proofs.BorderBytes as bytes
use Rattle.grid_draw.proofs.Drawn.{line_of, line_long, lines_long, line_at}
use Rattle.grid_draw.proofs.DrawnBoxes.{boxes_of, boxes_figures, commands_read}
use Rattle.grid_draw.proofs.Framed.{sheet, place_of, frame_of, framed, corner, entered, named}
use Rattle.grid_draw.proofs.Framed.{alone, north_shown, west_shown, long_exits}
use Rattle.grid_draw.proofs.InnerCells.{IsPrintable, inner, printable}
use Rattle.grid_draw.proofs.Placed.{placed}
use Rattle.grid_draw.proofs.PlacedWires.{drawn, wires_there}
use Rattle.grid_draw.proofs.Regions.{inside}
use Rattle.grid_draw.proofs.WiresIn.{wires_shown}

-- the wires on the moved courses are the wires
wires_moved : (o : Place) (cs : List Course) → map (λ (r : Route). r.wire)
    (map route (map (moved_course o) cs)) ≡ map (λ (c : Course). c.wire) cs
wires_moved o [] = refl
wires_moved o (c ∷ cs) = ap (λ l. c.wire ∷ l) (wires_moved o cs)

module _ (m : ModuleForm) (sound : IsSound m) (leads : LeadsOn m) where
  -- the frame shows the module
  pictured : (above below : List (List ℕ)) → IsPictured (sheet m above below) (frame_of m above) m
      (boxes_of m above) (map route (placed (place_of above) m))
  pictured above below = record {
    named = named m sound above below;
    figures = boxes_figures m sound above below;
    commands = commands_read m sound above below;
    laid = courses_laid (drawn m above below) (placed (place_of above) m)
        (wires_there m sound leads above below);
    north = north_shown m sound above below leads;
    west = west_shown m sound above below leads;
    exits = sym (long_exits m sound above below);
    wires = λ o end.
        let shown = wires_shown m o end in (
          λ comes. subst (λ ws. Contains ws (record { from = o; to = end }))
              (sym (wires_moved (place_of above) (courses m))) (shown.0 comes),
          λ there. shown.1 (subst (λ ws. Contains ws (record { from = o; to = end }))
              (wires_moved (place_of above) (courses m)) there),
        );
  }

  -- the drawing stands between any lines
  stands : (above below : List (List ℕ)) → Stands (sheet m above below) (length above)
      (length (drawn_lines m)) m
  stands above below =
      let high = lines_long m in record {
        frame = frame_of m above;
        boxes = boxes_of m above;
        top = refl;
        bottom = omega arith;
        framed = framed m sound above below;
        entered = entered m sound above below leads;
        corner = corner m sound above below;
        alone = λ p c under within. alone m sound above below p c under (omega arith);
        read = module_read (sheet m above below) (frame_of m above) m (boxes_of m above)
            (map route (placed (place_of above) m)) (pictured above below);
      }

  -- the module with the lines of its drawing
  block : Block
  block = record { shape = m; rows = drawn_lines m; stands = stands }

  -- each of two bytes is printable
  printable_if : (b : Bool) (x y : ℕ) → IsPrintable x → IsPrintable y
      → IsPrintable (if b then x else y)
  printable_if true x y one other = one
  printable_if false x y one other = other

  -- each byte of the drawing is printable
  byte_printable : (r c : ℕ) → r < rows m + 2 → c < columns m + 2 → IsPrintable (byte_at m r c)
  byte_printable r c lt less = elim (cases_eq r 0) [
    | inl e ↦ subst (λ z. IsPrintable (byte_at m z c)) (sym e) top
    | inr not_top ↦ elim (cases_eq r (rows m + 1)) [
      | inl e ↦ subst (λ z. IsPrintable (byte_at m z c)) (sym e) bottom
      | inr not_bottom ↦ elim (cases_eq c 0) [
        | inl e ↦ subst (λ z. IsPrintable (byte_at m r z)) (sym e)
            (subst IsPrintable (sym (bytes.left_byte m r (omega arith) (omega arith)))
            (printable_if _ 45 58 (omega arith, omega arith) (omega arith, omega arith)))
        | inr not_left ↦ elim (cases_eq c (columns m + 1)) [
          | inl e ↦ subst (λ z. IsPrintable (byte_at m r z)) (sym e)
              (subst IsPrintable (sym (bytes.right_byte m r (omega arith) (omega arith)))
              (printable_if _ 45 58 (omega arith, omega arith) (omega arith, omega arith)))
          | inr not_right ↦ subst IsPrintable
              (sym (inside m r c (omega arith) (omega arith) (omega arith) (omega arith)))
              (printable m sound r c (inner_byte m r c) (inner m sound r c (omega arith)))
        ]
      ]
    ]
  ]
    where
      top : IsPrintable (byte_at m 0 c)
      top = elim (cases_eq c 0) [
        | inl e ↦ subst (λ z. IsPrintable (byte_at m 0 z)) (sym e)
            (subst IsPrintable (sym (bytes.top_left m)) (omega arith, omega arith))
        | inr not_left ↦ elim (cases_eq c (columns m + 1)) [
          | inl e ↦ subst (λ z. IsPrintable (byte_at m 0 z)) (sym e)
              (subst IsPrintable (sym (bytes.top_right m)) (omega arith, omega arith))
          | inr not_right ↦ subst IsPrintable (sym (bytes.top_byte m c (omega arith) (omega arith)))
              (printable_if (passes vertical (courses m) (at 0 c)) 124 46 (omega arith, omega arith)
              (omega arith, omega arith))
        ]
      ]

      bottom : IsPrintable (byte_at m (rows m + 1) c)
      bottom = elim (cases_eq c 0) [
        | inl e ↦ subst (λ z. IsPrintable (byte_at m (rows m + 1) z)) (sym e)
            (subst IsPrintable (sym (bytes.bottom_left m)) (omega arith, omega arith))
        | inr not_left ↦ elim (cases_eq c (columns m + 1)) [
          | inl e ↦ subst (λ z. IsPrintable (byte_at m (rows m + 1) z)) (sym e)
              (subst IsPrintable (sym (bytes.bottom_right m)) (omega arith, omega arith))
          | inr not_right ↦ subst IsPrintable
              (sym (bytes.bottom_byte m c (omega arith) (omega arith))) (omega arith, omega arith)
        ]
      ]

  -- each byte of a line is printable
  line_printable : (r : ℕ) → r < rows m + 2 → All IsPrintable (line_of m r)
  line_printable r lt k d less =
      let long = line_long m r in
      subst IsPrintable (sym (get_or-map-range_with_len (byte_at m r) 0 (columns m + 2) k k d
      (omega arith) (omega arith))) (byte_printable r k lt (omega arith))

  -- the lines are such as a text may have
  are_lines : columns m + 2 ≤ 4096 → All IsLine (drawn_lines m)
  are_lines narrow i d lt =
      let high = lines_long m in
      let here : line_of m i ≡ get_or (drawn_lines m) i d =
      sym (line_at m i (omega arith)) ∙ get_or_default (drawn_lines m) i [] d lt in
      subst IsLine here (record {
        printable = line_printable i (omega arith);
        short = (let long = line_long m i in omega arith);
      })

-- the drawings of modules of which each is sound and leads on
data AreBlocks : List Block → Program → Type 0 where
  no_block : AreBlocks [] []
  blocks_of : {bs : List Block} {P : Program} {b : Block} {m : ModuleForm} → b.shape ≡ m
      → b.rows ≡ drawn_lines m → columns m + 2 ≤ 4096 → All IsLine (drawn_lines m) → AreBlocks bs P
      → AreBlocks (b ∷ bs) (m ∷ P)

-- the modules of a program with their drawings
all_blocks : (P : Program)
    → ((i : ℕ) (m : ModuleForm) → slice_get P i ≡ Some m → IsSound m × LeadsOn m
    × (columns m + 2 ≤ 4096)) → (bs : List Block) × AreBlocks bs P
unfolding block
all_blocks [] each = ([], no_block)
all_blocks (m ∷ P) each =
    let (sound, leads, narrow) = each 0 m refl in
    let (bs, are) = all_blocks P (λ i n at_i. each (suc i) n at_i) in (
      block m sound leads ∷ bs,
      blocks_of {b = block m sound leads} refl refl narrow
          (are_lines m sound leads narrow) are,
    )

-- their modules are those of the program
shapes_are : (bs : List Block) (P : Program) → AreBlocks bs P → shapes bs ≡ P
shapes_are _ _ no_block = refl
shapes_are _ _ (blocks_of {bs = bs} {P = P} {b = b} {m = m} shape rows narrow lines are) =
    ap (λ x. x ∷ shapes bs) shape ∙ ap (λ l. m ∷ l) (shapes_are bs P are)

-- their lines are those of the drawing
rows_are : (bs : List Block) (P : Program) → AreBlocks bs P → all_rows bs ≡ flat_map drawn_lines P
rows_are _ _ no_block = refl
rows_are _ _ (blocks_of {bs = bs} {P = P} {b = b} {m = m} shape rows narrow lines are) =
    ap (λ x. x ++ all_rows bs) rows ∙ ap (λ l. drawn_lines m ++ l) (rows_are bs P are)

-- all of these may stand in a text
all_lines : (bs : List Block) (P : Program) → AreBlocks bs P → All IsLine (flat_map drawn_lines P)
all_lines _ _ no_block = λ k d lt. absurd (omega arith)
all_lines _ _ (blocks_of {bs = bs} {P = P} {b = b} {m = m} shape rows narrow lines are) =
    all_there IsLine (flat_map drawn_lines (m ∷ P))
    (λ row there. elim (Contains-append_cases (drawn_lines m)
    (flat_map drawn_lines P) row there) [
      | inl here ↦ there_all IsLine (drawn_lines m) lines row here
      | inr later ↦ there_all IsLine (flat_map drawn_lines P) (all_lines bs P are) row later
    ])

-- the drawing of a good program is read as the program, where it is no wider and no longer than a
-- grid may be
pub reads_back : (P : Program) → IsGood P → All LeadsOn P
    → ((i : ℕ) (m : ModuleForm) → slice_get P i ≡ Some m → columns m + 2 ≤ 4096)
    → length (drawing_of P) ≤ 262144 → program_of (drawing_of P) (Ok P)
reads_back P good leads narrow short =
    let (bs, are) = all_blocks P (λ i m at_i.
    let lt = slice_get_within P i m at_i in
    let here = get_or_from_slice_get P i m m at_i in
    (subst IsSound here (good.sound i m lt), subst LeadsOn here (leads i m lt), narrow i m at_i)) in
    let rows = rows_are bs P are in
    let shown = shapes_are bs P are in
    subst (λ ls. program_of (lined ls) (Ok P)) rows
    (subst (λ Q. program_of (lined (all_rows bs)) (Ok Q)) shown
    (program_read bs (subst (All IsLine) (sym rows) (all_lines bs P are))
    (subst (λ ls. length (lined ls) ≤ 262144) (sym rows) short)
    (subst IsGood (sym shown) good)))

-- the law, as it is stated
pub law : (P : Program) → IsGood P → All LeadsOn P → NoneTooWide P → size P ≤ 262144
    → program_of (drawing_of P) (Ok P)
law P good leads narrow short =
    reads_back P good leads (λ i m at_i. elim (cases_lt 4096 (columns m + 2)) [
      | inl wide ↦ absurd (narrow i (m, at_i, wide))
      | inr fits ↦ fits
    ]) short
