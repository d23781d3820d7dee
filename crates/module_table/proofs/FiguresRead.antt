-- What is known of the frames and the boxes that were read: each is one, at a corner, and no two share a cell.
use Rattle.std.specs.Prelude.{◌≡◌, ◌⊎◌, ◌+◌, ◌-◌, ◌<◌, ◌≤◌, ℕ, List, [], ◌∷◌, length, take, slice_get, Some, Result, Ok, Any}
use Rattle.std.proofs.Common.{arith, refl, sym, ap, subst, ◌∙◌, inl, inr, get_or}
use Rattle.std.proofs.lemmas.Bool.{cases_order, cases_lt, cases_eq}
use Rattle.std.proofs.lemmas.Option.{slice_get_within, slice_get-get_or, get_or_from_slice_get, same_Some}
use Rattle.umix_base.specs.declared.place.Place.{Place}
use Rattle.two_d.specs.Places.{Rect, at, corner_of, Covers, ShareACell, OnBorder}
use Rattle.two_d.specs.Cells.{Grid, cell}
use Rattle.two_d.specs.Faults.{TextFault, open_frame, frames_meet, open_box, boxes_meet}
use Rattle.two_d.specs.Figures as figures
use Rattle.two_d.specs.Frames.{IsCorner, IsFrame, IsSideByte, IsNameOf, one_entry_a_side, frames_of}
use Rattle.two_d.specs.Boxes.{IsBoxCorner, IsBox, boxes_of}
use Rattle.two_d.specs.Names.{IsNameByte, BeginsWithLetter}
use Rattle.two_d.specs.Reading.{Reading, Gave, The, TheOr, found, missing, Refused, each_after}
use Rattle.two_d.proofs.CellsEnd.{within_line, within_lines}
use Rattle.two_d.proofs.FiguresApart.{figures_gave}
use Rattle.two_d.proofs.InOrder.{then_ok, gave_is, the_has, each_after_gave}

pub found_is : {F A : Type 0} (f : F) (P : A → Type 0) (x : A) → TheOr f P (Ok x) → P x
found_is {F} {A} f P x read = by (Ok x) read refl
  where
    by : (r : Result A F) → TheOr f P r → r ≡ Ok x → P x
    by _ (found y p) e = let same : y ≡ x = cc in subst P same p
    by _ (missing none) e = absurd (cc)

module _ (Corner : Place → Type 0) (Figure : Place → Rect → Type 0) (opens meets : Place → TextFault) (further : Rect → Reading TextFault (Unit {0})) where
  figure_is : (earlier : List Rect) (p : Place) (y : Rect) → figures.figure_at Corner Figure opens meets further earlier p (Ok y) → Figure p y
  figure_is earlier p y done =
      let (f, first, more) = then_ok (TheOr (opens p) (Figure p)) _ y done in
      let (u, free, last) = then_ok (Refused (meets p) (Any (λ e. OnBorder e p ⊎ ShareACell f e) earlier)) _ y more in
      let (v, passed, given) = then_ok (further f) (λ _. Gave f) y last in
      let e : f ≡ y = (let x = gave_is f (Ok y) given in cc) in
      subst (Figure p) e (found_is (opens p) (Figure p) f first)

  -- the figure of a corner
  pub figures_cornered : (fs : List Rect) → figures.figures_of Corner Figure opens meets further (Ok fs) → (i : ℕ) (f : Rect) → slice_get fs i ≡ Some f → (p : Place) × Figure p f × Corner p
  figures_cornered fs done i f at_f =
      let (live, is, all) = then_ok (The (figures.AreLive Corner Figure)) (λ live. each_after (figures.figure_at Corner Figure opens meets further) [] live) fs done in
      let (zs, same, long, each) = each_after_gave (figures.figure_at Corner Figure opens meets further) [] live fs all in
      by live (the_has (figures.AreLive Corner Figure) live is) zs same long each
    where
      by : (live : List Place) → figures.AreLive Corner Figure live → (zs : List Rect) → fs ≡ zs → length zs ≡ length live
          → ((i : ℕ) (x : Place) → slice_get live i ≡ Some x → (z : Rect) × (slice_get zs i ≡ Some z) × figures.figure_at Corner Figure opens meets further (take i zs) x (Ok z)) → (p : Place) × Figure p f × Corner p
      by live are zs same long each =
          let here : slice_get zs i ≡ Some f = subst (λ l. slice_get l i ≡ Some f) same at_f in
          let lt = slice_get_within zs i f here in
          let p = get_or live i (corner_of f) in
          let at_p : slice_get live i ≡ Some p = slice_get-get_or live i (corner_of f) (omega arith) in
          let (z, there, passed) = each i p at_p in
          let e : z ≡ f = same_Some z f (sym there ∙ here) in
          (p, subst (Figure p) e (figure_is (take i zs) p z passed), ((are.each p).0 (i, slice_get_within live i p at_p, get_or_from_slice_get live i p p at_p)).1)

-- the boxes of a frame, each with a `*` at its corner
pub box_corner_cell : (grid : Grid) (f : Rect) (bs : List Rect) → boxes_of grid f (Ok bs) → (i : ℕ) (b : Rect) → slice_get bs i ≡ Some b → cell grid (corner_of b) ≡ 42
box_corner_cell grid f bs done i b at_b =
    let (p, box, corner) = figures_cornered (IsBoxCorner grid f) (IsBox grid f) open_box boxes_meet (λ _. Gave tt) bs done i b at_b in
    ap (cell grid) box.corner ∙ corner.here

-- the frames of a grid
pub record AreFrames (grid : Grid) (fs : List Rect) : Type 0 where
  pub frames : (i : ℕ) (f : Rect) → slice_get fs i ≡ Some f → IsFrame grid (corner_of f) f
  pub apart : (i j : ℕ) (f g : Rect) → slice_get fs i ≡ Some f → slice_get fs j ≡ Some g → ShareACell f g → i ≡ j

pub frames_gave : (grid : Grid) (fs : List Rect) → frames_of grid (Ok fs) → AreFrames grid fs
frames_gave grid fs done =
    let (each, apart) = figures_gave (IsCorner grid) (IsFrame grid) open_frame frames_meet (one_entry_a_side grid) fs done in
    record {
      frames = λ i f at_f. let (p, frame) = each i f at_f in subst (λ q. IsFrame grid q f) (sym frame.corner) frame;
      apart = λ i j f g at_f at_g share. elim (cases_order i j) [
        | inl same ↦ same
        | inr (inl less) ↦ absurd (apart i j f g less at_f at_g (let (p, one, other) = share in (p, other, one)))
        | inr (inr more) ↦ absurd (apart j i g f more at_g at_f share)
      ];
    }

-- bytes of borders stand in no name
not_named : (b c : ℕ) → b ≡ c → ((c ≡ 39) ⊎ (c ≡ 42) ⊎ (c ≡ 45) ⊎ (c ≡ 46) ⊎ (c ≡ 58) ⊎ (c ≡ 61)) → IsNameByte b → ⊥
not_named b c is which named = grind (arith, is, which, named)

side_not_named : (b : ℕ) → IsSideByte b → IsNameByte b → ⊥
side_not_named b (inl is) named = grind (arith, is, named)
side_not_named b (inr is) named = grind (arith, is, named)

module _ (grid : Grid) (f : Rect) (frame : IsFrame grid (corner_of f) f) where
  -- the borders are within the lines
  pub right_filled : (row : ℕ) → f.top ≤ row → row ≤ f.bottom → cell grid (at row f.right) ≡ 32 → ⊥
  right_filled row from to empty = elim (cases_eq row f.top) [
    | inl top ↦ (let e = ap (λ r. cell grid (at r f.right)) top in let c = frame.top_right in omega arith)
    | inr below ↦ elim (cases_eq row f.bottom) [
      | inl bottom ↦ (let e = ap (λ r. cell grid (at r f.right)) bottom in let c = frame.bottom_right in omega arith)
      | inr above ↦ by (frame.right row (omega arith) (omega arith))
    ]
  ]
    where
      by : IsSideByte (cell grid (at row f.right)) → ⊥
      by (inl is) = omega arith
      by (inr is) = omega arith

  pub line_long : (row : ℕ) → f.top ≤ row → row ≤ f.bottom → f.right ≤ length (get_or ([] ∷ grid) row [])
  line_long row from to = let lt = within_line grid row f.right (right_filled row from to) in omega arith

  pub bottom_there : f.bottom < length ([] ∷ grid)
  bottom_there = within_lines grid f.bottom f.right (right_filled f.bottom (let h = frame.high in omega arith) (omega arith))

  pub left_some : 1 ≤ f.left
  left_some = elim (cases_eq f.left 0) [
    | inl none ↦ absurd (let c = frame.bottom_left in let e : cell grid (at f.bottom f.left) ≡ 32 = ap (λ col. cell grid (at f.bottom col)) none in omega arith)
    | inr some ↦ omega arith
  ]

  module _ (name : List ℕ) (is : IsNameOf grid f name) where
    pub name_some : 1 ≤ length name
    name_some = by name is.valid.first
      where
        by : (bytes : List ℕ) → BeginsWithLetter bytes → 1 ≤ length bytes
        by [] begins = absurd begins
        by (b ∷ bs) begins = omega arith

    -- the cells of the name have its bytes
    pub name_cell : (i : ℕ) → i < length name → IsNameByte (cell grid (at (f.top + 1) (f.left + 1 + i)))
    name_cell i lt = subst IsNameByte (sym (is.written i lt)) (is.valid.letters i 0 lt)

    pub name_high : f.top + 1 < f.bottom
    name_high = elim (cases_lt (f.top + 1) f.bottom) [
      | inl lt ↦ lt
      | inr past ↦ absurd (
          let high = frame.high in
          let wide = frame.wide in
          let row : f.top + 1 ≡ f.bottom = omega arith in
          let named = subst (λ r. IsNameByte (cell grid (at r (f.left + 1 + 0)))) row (name_cell 0 (let some = name_some in omega arith)) in
          let named' = subst (λ c. IsNameByte (cell grid (at f.bottom c))) (let e : f.left + 1 + 0 ≡ f.left + 1 = omega arith in e) named in
          elim (cases_eq (f.left + 1) f.right) [
            | inl last ↦ not_named (cell grid (at f.bottom (f.left + 1))) 39 (ap (λ c. cell grid (at f.bottom c)) last ∙ frame.bottom_right) (inl refl) named'
            | inr more ↦ not_named (cell grid (at f.bottom (f.left + 1))) 46 (frame.bottom (f.left + 1) (omega arith) (omega arith)) (inr (inr (inr (inl refl)))) named'
          ])
    ]

    pub name_wide : f.left + length name < f.right
    name_wide = elim (cases_lt (f.left + length name) f.right) [
      | inl lt ↦ lt
      | inr past ↦ absurd (
          let wide = frame.wide in
          let high = name_high in
          let col : f.left + 1 + (f.right - f.left - 1) ≡ f.right = omega arith in
          let named = subst (λ c. IsNameByte (cell grid (at (f.top + 1) c))) col (name_cell (f.right - f.left - 1) (omega arith)) in
          side_not_named (cell grid (at (f.top + 1) f.right)) (frame.right (f.top + 1) (omega arith) high) named)
    ]

    -- no box covers a cell of the name
    pub name_apart : (b : Rect) → IsBox grid f (corner_of b) b → cell grid (corner_of b) ≡ 42 → (i : ℕ) → i < length name → Covers b (at (f.top + 1) (f.left + 1 + i)) → ⊥
    name_apart b box corner i lt covers =
        let named = name_cell i lt in
        let row : b.top ≡ f.top + 1 = (let below = box.within.0.below_top in let from = covers.from_top in omega arith) in
        let named' = subst (λ r. IsNameByte (cell grid (at r (f.left + 1 + i)))) (sym row) named in
        let left = covers.from_left in
        let right = covers.to_right in
        elim (cases_eq (f.left + 1 + i) b.left) [
          | inl first ↦ not_named (cell grid (at b.top (f.left + 1 + i))) 42 (ap (λ c. cell grid (at b.top c)) first ∙ corner) (inr (inl refl)) named'
          | inr after ↦ elim (cases_eq (f.left + 1 + i) b.right) [
            | inl last ↦ not_named (cell grid (at b.top (f.left + 1 + i))) 42 (ap (λ c. cell grid (at b.top c)) last ∙ box.top_right) (inr (inl refl)) named'
            | inr before ↦ not_named (cell grid (at b.top (f.left + 1 + i))) 61 (box.top (f.left + 1 + i) (omega arith) (omega arith)) (inr (inr (inr (inr (inr refl))))) named'
          ]
        ]
