-- A program that was read weighs no more than its text has bytes.
use Rattle.std.specs.Prelude.{◌≡◌, ◌+◌, ◌-◌, ◌*◌, ◌<◌, ◌≤◌, ◌==◌, ℕ, zero, suc, List, [], ◌∷◌, length, map, slice_get, Some, Ok}
use Rattle.std.proofs.Common.{arith, refl, sym, ap, subst, ◌∙◌, inl, inr, get_or}
use Rattle.std.proofs.lemmas.List.Sums.{length-filter, count_by-le-length}
use Rattle.std.proofs.lemmas.List.FromFn.{length-range_with_len}
use Rattle.two_d.specs.Places.{Rect, at, corner_of, Covers, ShareACell, inner_rows}
use Rattle.two_d.specs.Cells.{Grid, cell}
use Rattle.two_d.specs.Faults.{no_name}
use Rattle.two_d.specs.Frames.{IsFrame, IsNameOf, name_of, exits_of, first_inner}
use Rattle.two_d.specs.Boxes.{IsBox, boxes_of, command_text}
use Rattle.two_d.specs.Clean.{WireForm, wires_of}
use Rattle.two_d.specs.Reading.{Reading, Gave, The, Then, each}
use Rattle.two_d.specs.Program.{CommandOf, command, bad, deep, drawing, Shows, Drawn, module_in}
use Rattle.two_d.specs.Programs.{BoxForm, ModuleForm}
use Rattle.two_d.specs.Trees.{Form}
use Rattle.two_d.specs.Grammar.{IsTextOf}
use Rattle.two_d.specs.Weights.{all_nodes, box_part, boxes_part, part, weight}
use Rattle.two_d.specs.Good.{trees_of}
use Rattle.two_d.proofs.FiguresApart.{boxes_gave}
use Rattle.two_d.proofs.InOrder.{then_ok, gave_is, the_has}
use Rattle.module_table.proofs.Sums.{total, added, total_le, total_added, total_between, between, between_cases}
use Rattle.module_table.proofs.Packing.{cells, covered, covered_cases, cells_area, packed}
use Rattle.module_table.proofs.TextWeight.{text_nodes, text_long}
use Rattle.module_table.proofs.FiguresRead.{found_is, box_corner_cell, AreFrames, line_long, bottom_there, left_some, name_some, name_high, name_wide, name_apart}

-- a command is told by its text
pub command_is : (grid : Grid) (b : Rect) (c : Form) → CommandOf grid b (Ok c) → IsTextOf (command_text grid b) c
command_is grid b c done = by (Ok c) done refl
  where
    by : (r : _) → CommandOf grid b r → r ≡ Ok c → IsTextOf (command_text grid b) c
    by _ (command d is) e = let same : d ≡ c = cc in subst (IsTextOf (command_text grid b)) same is
    by _ (bad k is) e = absurd (cc)
    by _ (deep k is) e = absurd (cc)

-- what one of a list gave, and the others
pub each_first : {F A B : Type 0} (k : A → Reading F B) (x : A) (xs : List A) (ys : List B) → each k (x ∷ xs) (Ok ys) → (y : B) × (rest : List B) × k x (Ok y) × each k xs (Ok rest) × (ys ≡ y ∷ rest)
each_first k x xs ys done =
    let (y, here, more) = then_ok (k x) (λ y. Then (each k xs) (λ ys. Gave (y ∷ ys))) ys done in
    let (rest, there, last) = then_ok (each k xs) (λ ys. Gave (y ∷ ys)) ys more in
    (y, rest, here, there, (let e = gave_is (y ∷ rest) (Ok ys) last in cc))

-- a box weighs no more than it has cells
box_cells : (grid : Grid) (f b : Rect) (row : BoxForm) → IsBox grid f (corner_of b) b → IsTextOf (command_text grid b) row.command → box_part row ≤ cells b
box_cells grid f b row box is =
    let nodes = text_nodes (command_text grid b) row.command is in
    let high = box.high in
    let wide = box.wide in
    let long = text_long grid b high in
    by (b.bottom - b.top - 1) (b.right - b.left - 1) (omega arith) (omega arith) nodes long (omega arith) (omega arith)
  where
    by : (h w : ℕ) → 1 ≤ h → 1 ≤ w → all_nodes (trees_of row.command) ≤ length (command_text grid b) → length (command_text grid b) + 1 ≡ h * (w + 1) → b.bottom + 1 - b.top ≡ h + 2 → b.right + 1 - b.left ≡ w + 2 → 8 + all_nodes (trees_of row.command) ≤ cells b
    by h w some_h some_w nodes long rows columns =
        let all : cells b ≡ (h + 2) * (w + 2) = ap (λ n. n * (b.right + 1 - b.left)) rows ∙ ap (λ n. (h + 2) * n) columns in
        omega arith

boxes_cells : (grid : Grid) (f : Rect) (bs : List Rect) (rows : List BoxForm) (commands : List Form) → ((i : ℕ) (b : Rect) → slice_get bs i ≡ Some b → IsBox grid f (corner_of b) b) → each (CommandOf grid) bs (Ok commands)
    → map (λ (row : BoxForm). row.command) rows ≡ commands → boxes_part rows ≤ added cells bs
boxes_cells grid f [] [] commands boxes told same = omega arith
boxes_cells grid f [] (row ∷ rows) commands boxes told same = absurd (let e = gave_is [] (Ok commands) told in cc)
boxes_cells grid f (b ∷ bs) [] commands boxes told same = absurd (let (c, cs, here, there, is) = each_first (CommandOf grid) b bs commands told in cc)
boxes_cells grid f (b ∷ bs) (row ∷ rows) commands boxes told same =
    let (c, cs, here, there, is) = each_first (CommandOf grid) b bs commands told in
    let first : c ≡ row.command = cc in
    let others : map (λ (row : BoxForm). row.command) rows ≡ cs = cc in
    let one = box_cells grid f b row (boxes 0 b refl) (subst (IsTextOf (command_text grid b)) first (command_is grid b c here)) in
    let rest = boxes_cells grid f bs rows cs (λ i d at_d. boxes (suc i) d at_d) there others in
    omega arith

-- the name and the boxes of a frame have room within its borders
name_rect : Rect → List ℕ → Rect
name_rect f name = record { top = f.top + 1; left = f.left + 1; bottom = f.top + 1; right = f.left + length name }

inner_rect : Rect → Rect
inner_rect f = record { top = f.top + 1; left = f.left + 1; bottom = f.bottom - 1; right = f.right - 1 }

inner_cells : (grid : Grid) (f : Rect) (name : List ℕ) (bs : List Rect) → IsFrame grid (corner_of f) f → IsNameOf grid f name → boxes_of grid f (Ok bs)
    → length name + added cells bs ≤ (f.bottom - f.top - 1) * (f.right - f.left - 1)
unfolding name_rect inner_rect
inner_cells grid f name bs frame is done =
    let some = name_some grid f frame name is in
    let high = name_high grid f frame name is in
    let wide = name_wide grid f frame name is in
    let all = packed f.bottom f.right (name_rect f name ∷ bs) (covered (inner_rect f)) (record { low = low; right = right; apart = apart }) fits in
    let room = cells_area f.bottom f.right (inner_rect f) (omega arith) (omega arith) in
    let name_cells : cells (name_rect f name) ≡ length name = (let row : f.top + 1 + 1 - (f.top + 1) ≡ 1 = omega arith in let col : f.left + length name + 1 - (f.left + 1) ≡ length name = omega arith in
    ap (λ n. n * (f.left + length name + 1 - (f.left + 1))) row ∙ (ap (λ n. 1 * n) col ∙ omega arith)) in
    let inner : cells (inner_rect f) ≡ (f.bottom - f.top - 1) * (f.right - f.left - 1) = (let row : f.bottom - 1 + 1 - (f.top + 1) ≡ f.bottom - f.top - 1 = omega arith in let col : f.right - 1 + 1 - (f.left + 1) ≡ f.right - f.left - 1 = omega arith in
    ap (λ n. n * (f.right - 1 + 1 - (f.left + 1))) row ∙ ap (λ n. (f.bottom - f.top - 1) * n) col) in
    omega arith
  where
    box_at : (i : ℕ) (b : Rect) → slice_get bs i ≡ Some b → IsBox grid f (corner_of b) b
    box_at i b at_b = let (p, box) = (boxes_gave grid f bs done).boxes i b at_b in subst (λ q. IsBox grid f q b) (sym box.corner) box

    low : (i : ℕ) (r : Rect) → slice_get (name_rect f name ∷ bs) i ≡ Some r → r.bottom < f.bottom
    low zero r at_r = let same : name_rect f name ≡ r = cc in let e = ap (λ (q : Rect). q.bottom) same in let high = name_high grid f frame name is in omega arith
    low (suc i) r at_r = let b = (box_at i r at_r).within.1.above_bottom in omega arith

    right : (i : ℕ) (r : Rect) → slice_get (name_rect f name ∷ bs) i ≡ Some r → r.right < f.right
    right zero r at_r = let same : name_rect f name ≡ r = cc in let e = ap (λ (q : Rect). q.right) same in let wide = name_wide grid f frame name is in omega arith
    right (suc i) r at_r = let b = (box_at i r at_r).within.1.before_right in omega arith

    with_name : (i : ℕ) (b : Rect) → slice_get bs i ≡ Some b → ShareACell (name_rect f name) b → ⊥
    with_name i b at_b (p, one, other) =
        let from = one.from_top in let to = one.to_bottom in let left = one.from_left in let last = one.to_right in
        let row : p.row ≡ f.top + 1 = omega arith in
        let col : p.col ≡ f.left + 1 + (p.col - f.left - 1) = omega arith in
        name_apart grid f frame name is b (box_at i b at_b) (box_corner_cell grid f bs done i b at_b) (p.col - f.left - 1) (omega arith)
        (subst (λ c. Covers b (at (f.top + 1) c)) col (subst (λ r. Covers b (at r p.col)) row other))

    apart : (i j : ℕ) (r s : Rect) → slice_get (name_rect f name ∷ bs) i ≡ Some r → slice_get (name_rect f name ∷ bs) j ≡ Some s → ShareACell r s → i ≡ j
    apart zero zero r s at_r at_s share = refl
    apart zero (suc j) r s at_r at_s share = absurd (let same : r ≡ name_rect f name = cc in with_name j s at_s (subst (λ q. ShareACell q s) same share))
    apart (suc i) zero r s at_r at_s share = absurd (let same : s ≡ name_rect f name = cc in with_name i r at_r (let (p, one, other) = subst (λ q. ShareACell r q) same share in (p, other, one)))
    apart (suc i) (suc j) r s at_r at_s share = ap suc ((boxes_gave grid f bs done).apart i j r s at_r at_s share)

    within : (i : ℕ) (r : Rect) → slice_get (name_rect f name ∷ bs) i ≡ Some r → (f.top + 1 ≤ r.top) × (r.bottom + 1 ≤ f.bottom) × (f.left + 1 ≤ r.left) × (r.right + 1 ≤ f.right)
    within i r at_r = (top i r at_r, (let e = low i r at_r in omega arith), left i r at_r, (let e = right i r at_r in omega arith))
      where
        top : (i : ℕ) (r : Rect) → slice_get (name_rect f name ∷ bs) i ≡ Some r → f.top + 1 ≤ r.top
        top zero r at_r = let same : name_rect f name ≡ r = cc in let e = ap (λ (q : Rect). q.top) same in omega arith
        top (suc i) r at_r = let b = (box_at i r at_r).within.0.below_top in omega arith

        left : (i : ℕ) (r : Rect) → slice_get (name_rect f name ∷ bs) i ≡ Some r → f.left + 1 ≤ r.left
        left zero r at_r = let same : name_rect f name ≡ r = cc in let e = ap (λ (q : Rect). q.left) same in omega arith
        left (suc i) r at_r = let b = (box_at i r at_r).within.0.after_left in omega arith

    fits : (i : ℕ) (r : Rect) (row col : ℕ) → slice_get (name_rect f name ∷ bs) i ≡ Some r → Covers r (at row col) → 1 ≤ covered (inner_rect f) row col
    fits i r row col at_r covers = elim (covered_cases (inner_rect f) row col) [
      | inl (inside, one) ↦ omega arith
      | inr (bare, none) ↦ absurd (
          let (top, bottom, left, last) = within i r at_r in
          let from = covers.from_top in let to = covers.to_bottom in let first = covers.from_left in let end = covers.to_right in
          bare (record { from_top = omega arith; to_bottom = omega arith; from_left = omega arith; to_right = omega arith }))
    ]

-- a module weighs no more than its frame has cells
module_cells : (grid : Grid) (f : Rect) (d : Drawn) → IsFrame grid (corner_of f) f → module_in grid f (Ok d) → part d.shape ≤ cells f
module_cells grid f d frame done =
    let (name, named, more) = then_ok (name_of grid f) _ d done in
    let (boxes, read, rest) = then_ok (boxes_of grid f) _ d more in
    let (commands, told, others) = then_ok (each (CommandOf grid) boxes) _ d rest in
    let (wires, traced, last) = then_ok (wires_of (drawing grid f name boxes)) _ d others in
    let (shape, shows, given) = then_ok (The (Shows (drawing grid f name boxes) name commands wires)) (λ shape. Gave (record { shape = shape; frame = f; boxes = boxes })) d last in
    let e = gave_is (record { shape = shape; frame = f; boxes = boxes }) (Ok d) given in
    let same : d ≡ (record { shape = shape; frame = f; boxes = boxes }) = cc in
    subst (λ (s : ModuleForm). part s ≤ cells f) (sym (ap (λ (x : Drawn). x.shape) same))
    (by name (found_is (no_name (first_inner f)) (IsNameOf grid f) name named) boxes read commands told wires shape (the_has (Shows (drawing grid f name boxes) name commands wires) shape shows))
  where
    by : (name : List ℕ) → IsNameOf grid f name → (boxes : List Rect) → boxes_of grid f (Ok boxes) → (commands : List Form) → each (CommandOf grid) boxes (Ok commands) → (wires : List WireForm) (s : ModuleForm)
        → Shows (drawing grid f name boxes) name commands wires s → part s ≤ cells f
    by name is boxes read commands told wires s shown =
        let inner = inner_cells grid f name boxes frame is read in
        let all = boxes_cells grid f boxes s.boxes commands (λ i b at_b. let (p, box) = (boxes_gave grid f boxes read).boxes i b at_b in subst (λ q. IsBox grid f q b) (sym box.corner) box) told shown.commands_are in
        let named = ap length shown.named in
        let exits = shown.exits in
        let few : length (exits_of grid f) ≤ f.bottom - f.top - 1 =
        (let counted = length-filter (λ row. cell grid (at row f.right) == 45) (inner_rows f) in
        let most = count_by-le-length (λ row. cell grid (at row f.right) == 45) (inner_rows f) in
        let rows = length-range_with_len (f.top + 1) (f.bottom - f.top - 1) in
        omega arith) in
        let some = name_some grid f frame name is in
        let high = name_high grid f frame name is in
        let wide = name_wide grid f frame name is in
        sum (f.bottom - f.top - 1) (f.right - f.left - 1) (length s.name) (length s.exits) (boxes_part s.boxes) (omega arith) (omega arith) (omega arith) (omega arith) (omega arith) (omega arith)
      where
        sum : (h w n e b : ℕ) → 1 ≤ h → 1 ≤ w → n + b ≤ h * w → e ≤ h → f.bottom + 1 - f.top ≡ h + 2 → f.right + 1 - f.left ≡ w + 2 → 6 + n + e + b ≤ cells f
        sum h w n e b some_h some_w inner few rows columns =
            let all : cells f ≡ (h + 2) * (w + 2) = ap (λ n. n * (f.right + 1 - f.left)) rows ∙ ap (λ n. (h + 2) * n) columns in
            omega arith

pub modules_cells : (grid : Grid) (fs : List Rect) (ds : List Drawn) → ((i : ℕ) (f : Rect) → slice_get fs i ≡ Some f → IsFrame grid (corner_of f) f) → each (module_in grid) fs (Ok ds) → weight (map (λ (d : Drawn). d.shape) ds) ≤ added cells fs
modules_cells grid [] ds frames done = let e = gave_is [] (Ok ds) done in let same : ds ≡ [] = cc in subst (λ (l : List Drawn). weight (map (λ (d : Drawn). d.shape) l) ≤ 0) (sym same) (omega arith)
modules_cells grid (f ∷ fs) ds frames done =
    let (d, rest, here, there, is) = each_first (module_in grid) f fs ds done in
    let one = module_cells grid f d (frames 0 f refl) here in
    let others = modules_cells grid fs rest (λ i g at_g. frames (suc i) g at_g) there in
    subst (λ (l : List Drawn). weight (map (λ (d : Drawn). d.shape) l) ≤ cells f + added cells fs) (sym is) (omega arith)

-- the frames have room within the lines
line_le : (lines : List (List ℕ)) (i : ℕ) → length (get_or lines i []) ≤ added length lines
line_le [] i = by i
  where
    by : (i : ℕ) → length (get_or {A = List ℕ} [] i []) ≤ 0
    by zero = omega arith
    by (suc i) = omega arith
line_le (l ∷ ls) zero = omega arith
line_le (l ∷ ls) (suc i) = let rest = line_le ls i in omega arith

pub frames_cells : (grid : Grid) (fs : List Rect) → AreFrames grid fs → added cells fs ≤ added length grid
frames_cells grid fs are =
    let all = packed (length ([] ∷ grid)) (added length grid + 1) fs room (record { low = low; right = right; apart = are.apart }) fits in
    let each = total_le (length ([] ∷ grid)) (λ r. total (added length grid + 1) (room r)) (λ r. length (get_or ([] ∷ grid) r [])) (λ r lt. let e = total_between 1 (length (get_or ([] ∷ grid) r [])) (added length grid + 1) in omega arith) in
    let sum = total_added length ([] ∷ grid) [] in
    omega arith
  where
    room : ℕ → ℕ → ℕ
    room r c = between 1 (length (get_or ([] ∷ grid) r [])) c

    low : (i : ℕ) (f : Rect) → slice_get fs i ≡ Some f → f.bottom < length ([] ∷ grid)
    low i f at_f = bottom_there grid f (are.frames i f at_f)

    right : (i : ℕ) (f : Rect) → slice_get fs i ≡ Some f → f.right < added length grid + 1
    right i f at_f =
        let frame = are.frames i f at_f in
        let high = frame.high in
        let long = line_long grid f frame f.top (omega arith) (omega arith) in
        let le = line_le ([] ∷ grid) f.top in
        omega arith

    fits : (i : ℕ) (f : Rect) (r c : ℕ) → slice_get fs i ≡ Some f → Covers f (at r c) → 1 ≤ room r c
    fits i f r c at_f covers =
        let frame = are.frames i f at_f in
        let long = line_long grid f frame r covers.from_top covers.to_bottom in
        let some = left_some grid f frame in
        let from = covers.from_left in
        let to = covers.to_right in
        elim (between_cases 1 (length (get_or ([] ∷ grid) r [])) c) [
          | inl (a, b, one) ↦ omega arith
          | inr (out, none) ↦ absurd (elim out [ inl before ↦ omega arith | inr after ↦ omega arith ])
        ]
