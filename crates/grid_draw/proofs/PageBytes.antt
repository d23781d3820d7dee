-- The bytes of a drawing, read from the module's numbers.
use Rattle.std.specs.Prelude.{◌≡◌, ◌+◌, ◌-◌, ◌/◌, ◌%◌, ◌<◌, ◌≤◌, ℕ, Bool, false, ◌&&◌, ◌==◌, nat_le, nat_lt, if◌then◌else◌, List, [], length, map, slice_get, slice_index, slice_index_or, Option, Some, None, is_some, Vec}
use Rattle.std.specs.Global.{Global}
use Rattle.std.proofs.Common.{arith, sym, ap, ◌∙◌, get_or}
use Rattle.std.proofs.lemmas.Bool.{and_left, le-ltb, ne_eqb}
use Rattle.std.proofs.lemmas.List.{get_or-map, length-map}
use Rattle.std.proofs.lemmas.Option.{slice_get-get_or, slice_get_past}
use Rattle.two_d.specs.Places.{at}
use Rattle.two_d.specs.Programs.{BoxForm, ModuleForm, box_of}
use Rattle.two_d.specs.Wires.{horizontal}
use Rattle.two_d.specs.declared.module.BoxRow.{BoxRow}
use Rattle.grid_picture.specs.Courses.{bends_at, passes}
use Rattle.grid_draw.specs.Layout.{box_byte, columns, courses, inner_byte, rows, wires_byte}
use Rattle.grid_draw.specs.declared.layout.Layout.{Layout}
use Rattle.grid_draw.specs.inner.Layouts.{IsLayout, module_in, text_of, texts_in}
use Rattle.grid_draw.specs.declared.page.Page.{Page}
use Rattle.grid_draw.specs.inner.Inks.{mark_byte}
use Rattle.grid_draw.specs.inner.Pages.{IsPage, figure_of, module_on, no_box}
use Rattle.grid_draw.specs.inner.Sets.{has}
use Rattle.grid_draw.proofs.LayoutNumbers.{counts, text_at}

abbrev pub box_or : List BoxForm → ℕ → ℕ → ℕ → ℕ → ℕ
box_or boxes k q col other = elim (slice_get boxes k) [ None ↦ other | Some one ↦ box_byte one q col other ]

-- the byte of a box that is there
pub box_there : (boxes : List BoxForm) (k q col other : ℕ) → k < length boxes → box_or boxes k q col other ≡ box_byte (slice_index_or boxes k no_box) q col other
box_there boxes k q col other lt =
    let F : Option BoxForm → ℕ = λ o. elim o [ None ↦ other | Some one ↦ box_byte one q col other ] in
    ap F (slice_get-get_or boxes k no_box lt)

-- the byte under the boxes
pub box_past : (boxes : List BoxForm) (k q col other : ℕ) → length boxes ≤ k → box_or boxes k q col other ≡ other
box_past boxes k q col other le =
    let F : Option BoxForm → ℕ = λ o. elim o [ None ↦ other | Some one ↦ box_byte one q col other ] in
    ap F (slice_get_past boxes k le)

-- the box of a row that is there
pub box_is : (l : Layout) (b : ℕ) (row : BoxRow) → b < length (module_in l).boxes → row ≡ slice_index_or l.module.now.boxes.items b row
    → slice_index_or (module_in l).boxes b no_box ≡ box_of row
box_is l b row lt is =
    get_or-map box_of l.module.now.boxes.items b row no_box (omega (arith, length-map l.module.now.boxes.items box_of)) ∙ ap box_of (sym is)

-- its text is that of the layout
pub box_text : (l : Layout) → IsLayout l → (b : ℕ) (text : Vec ℕ Global) → b < length (module_in l).boxes → text ≡ slice_index_or l.texts.items b text
    → text.items ≡ text_of (slice_index_or (module_in l).boxes b no_box)
box_text l is b text lt at_b =
    let n = counts l is in
    text_at l.texts.items b text (omega (arith, n.texts)) at_b
    ∙ (ap (λ (ts : List (List ℕ)). slice_index_or ts b []) is.texts ∙ get_or-map text_of (module_in l).boxes b no_box [] lt)

-- the byte of a box, by its text and its wired sides
pub figure_is : (l : Layout) → IsLayout l → (b : ℕ) (row : BoxRow) (text : Vec ℕ Global) → b < length (module_in l).boxes
    → row ≡ slice_index_or l.module.now.boxes.items b row → text ≡ slice_index_or l.texts.items b text
    → (bytes : List ℕ) (north west : Bool) → bytes ≡ text.items → north ≡ is_some row.n → west ≡ is_some row.w → (q col other : ℕ)
    → figure_of bytes north west q col other ≡ box_byte (slice_index_or (module_in l).boxes b no_box) q col other
figure_is l is b row text lt at_row at_text bytes north west shown n w q col other =
    let one = slice_index_or (module_in l).boxes b no_box in
    let its = sym (box_is l b row lt at_row) in
    ap (λ (t : List ℕ). figure_of t north west q col other) (shown ∙ box_text l is b text lt at_text)
    ∙ (ap (λ (x : Bool). figure_of (text_of one) x west q col other) (n ∙ ap (λ (r : BoxForm). is_some r.n) its)
    ∙ ap (λ (x : Bool). figure_of (text_of one) (is_some one.n) x q col other) (w ∙ ap (λ (r : BoxForm). is_some r.w) its))

-- the byte of a cell of wires is read from the sheet
pub wires_are : (page : Page) → IsPage page → (row col byte : ℕ) → row < rows (module_on page) + 2 → col < columns (module_on page) + 2
    → byte ≡ mark_byte (has page.sheet.now.turns row col) (has page.sheet.now.across row col) (has page.sheet.now.down row col)
    → byte ≡ wires_byte (module_on page) row col
wires_are page is row col byte in_row in_col read =
    let sheet = page.sheet.now in
    let m = module_on page in
    let ink = is.inked in
    read
    ∙ (ap (λ (x : Bool). mark_byte x (has sheet.across row col) (has sheet.down row col)) (ink.turns row col in_row in_col)
    ∙ (ap (λ (x : Bool). mark_byte (bends_at (courses m) (at row col)) x (has sheet.down row col)) (ink.across row col in_row in_col)
    ∙ ap (λ (x : Bool). mark_byte (bends_at (courses m) (at row col)) (passes horizontal (courses m) (at row col)) x) (ink.down row col in_row in_col)))

third : (a b : Bool) (x y z : ℕ) → a ≡ false → b ≡ false → (if a then x else (if b then y else z)) ≡ z
third a b x y z e f = ap (λ (u : Bool). if u then x else (if b then y else z)) e ∙ ap (λ (u : Bool). if u then y else z) f

-- below the first rows: the byte of a box, or that of the wires
inner_below : (m : ModuleForm) (row col : ℕ) → 3 ≤ row → inner_byte m row col ≡ box_or m.boxes ((row - 3) / 8) ((row - 3) % 8) col (wires_byte m row col)
inner_below m row col le =
    third ((row == 1) && nat_le col (length m.name)) (nat_lt row 3) (slice_index m.name (col - 1)) (wires_byte m row col)
    (box_or m.boxes ((row - 3) / 8) ((row - 3) % 8) col (wires_byte m row col))
    (and_left (row == 1) (nat_le col (length m.name)) (ne_eqb row 1 (λ e. omega arith))) (le-ltb row 3 le)

pub inner_at_box : (m : ModuleForm) (row col wires byte : ℕ) → wires ≡ wires_byte m row col → 3 ≤ row → (row - 3) / 8 < length m.boxes
    → byte ≡ box_byte (slice_index_or m.boxes ((row - 3) / 8) no_box) ((row - 3) % 8) col wires → byte ≡ inner_byte m row col
inner_at_box m row col wires byte are le lt is =
    is
    ∙ (ap (λ (x : ℕ). box_byte (slice_index_or m.boxes ((row - 3) / 8) no_box) ((row - 3) % 8) col x) are
    ∙ sym (inner_below m row col le ∙ box_there m.boxes ((row - 3) / 8) ((row - 3) % 8) col (wires_byte m row col) lt))

pub inner_past_boxes : (m : ModuleForm) (row col wires : ℕ) → wires ≡ wires_byte m row col → 3 ≤ row → length m.boxes ≤ (row - 3) / 8 → wires ≡ inner_byte m row col
inner_past_boxes m row col wires are le past =
    are ∙ sym (inner_below m row col le ∙ box_past m.boxes ((row - 3) / 8) ((row - 3) % 8) col (wires_byte m row col) past)
