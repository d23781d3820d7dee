-- The boxes of a strip are read, with their commands.
use Rattle.std.specs.Prelude.{◌≡◌, ◌≢◌, ◌+◌, ◌-◌, ◌<◌, ◌≤◌, ℕ, zero, suc, Bool, true, false, List, [], ◌∷◌, length, map, replicate, slice_get, Some, Ok}
use Rattle.std.specs.List.{range_with_len, join_with_byte}
use Rattle.std.proofs.Common.{arith, refl, sym, ap, subst, ◌∙◌, inl, inr, get_or}
use Rattle.std.proofs.lemmas.Bool.{cases_lt, cases_eq, cases_order}
use Rattle.std.proofs.lemmas.List.{same_lists, length-append, length-replicate, get_or_append_left, get_or-append_right, get_or-replicate, get_or_default}
use Rattle.std.proofs.lemmas.List.FromFn.{length-map-range_with_len, get_or-map-range_with_len}
use Rattle.std.proofs.lemmas.Option.{slice_get_within, slice_get-get_or, get_or_from_slice_get}
use Rattle.umix_base.specs.declared.place.Place.{Place}
use Rattle.two_d.specs.Places.{at, Rect, corner_of, inner_rows}
use Rattle.two_d.specs.Cells.{Grid, cell}
use Rattle.two_d.specs.Grammar.{IsTextOf}
use Rattle.two_d.specs.Reading.{goes_on, gave, each}
use Rattle.two_d.specs.Trees.{Form}
use Rattle.two_d.specs.Boxes.{IsBoxCorner, IsBox, box_kind, command_text, row_text}
use Rattle.two_d.specs.Names.{IsNameByte}
use Rattle.two_d.specs.Program.{CommandOf, command}
use Rattle.two_d.proofs.Equal.{equal_places}
use Rattle.grid_picture.proofs.Lines.{HasBytes}
use Rattle.grid_picture.proofs.Figured.{AreFigures}
use Rattle.codex_gen.specs.Generated.{edge, middle}
use Rattle.codex_gen.proofs.BoxRow.{HasBox, HasBoxes, last, more, Column, inside, leaves, comes, column, boxes_from, rect, IsNumbered, numbered, in_a_row}
use Rattle.codex_gen.proofs.Strip.{IsStrip, first, second, third, fourth, inner_row, frame_of, entry_byte}

-- these texts are of these commands
pub data Spell : List (List ℕ) → List Form → Type 0 where
  nothing : Spell [] []
  text_of : {text : List ℕ} {c : Form} {texts : List (List ℕ)} {forms : List Form} → IsTextOf text c → Spell texts forms → Spell (text ∷ texts) (c ∷ forms)

edge_inner : (text : List ℕ) (i : ℕ) → 0 < i → i ≤ length text → get_or (edge text) i 32 ≡ 61
edge_inner text zero pos le = absurd (omega arith)
edge_inner text (suc i) pos le = get_or_append_left (replicate (length text) 61) (42 ∷ []) 32 i (subst (λ n. i < n) (sym (length-replicate (length text) 61)) (omega arith)) ∙ get_or-replicate (length text) i 61 32 (omega arith)

edge_end : (text : List ℕ) (i : ℕ) → i ≡ length text → get_or (edge text) (suc i) 32 ≡ 42
edge_end text i e =
    get_or-append_right (replicate (length text) 61) (42 ∷ []) (length text) i 32 (length-replicate (length text) 61) (omega arith) ∙ ap (λ k. get_or (42 ∷ []) k 32) (by e)
  where
    by : i ≡ length text → i - length text ≡ 0
    by e = omega arith

middle_end : (text : List ℕ) (i : ℕ) → i ≡ length text → get_or (middle text) (suc i) 32 ≡ 33
middle_end text i e = get_or-append_right text (33 ∷ []) (length text) i 32 refl (omega arith) ∙ ap (λ k. get_or (33 ∷ []) k 32) (by e)
  where
    by : i ≡ length text → i - length text ≡ 0
    by e = omega arith

abbrev signs : List ℕ → List ℕ
signs text = replicate (length text) 61

long_edge : (text : List ℕ) → length (edge text) ≡ length text + 2
long_edge text =
    let a : length (edge text) ≡ length (42 ∷ signs text) + 1 = length-append (42 ∷ signs text) (42 ∷ []) in
    let b : length (signs text) ≡ length text = length-replicate (length text) 61 in
    omega arith

long_middle : (text : List ℕ) → length (middle text) ≡ length text + 2
long_middle text =
    let a : length (middle text) ≡ length (33 ∷ text) + 1 = length-append (33 ∷ text) (33 ∷ []) in
    omega arith

module _ (grid : Grid) (t right : ℕ) (name : List ℕ) (west : Bool) (texts : List (List ℕ)) (is : IsStrip grid t right name west texts) where
  abbrev f : Rect
  f = frame_of t right

  abbrev boxes : List Rect
  boxes = boxes_from t 3 texts

  its : (k : ℕ) (b : Rect) → slice_get boxes k ≡ Some b → IsNumbered grid t right 3 texts k b
  its k b at_k = numbered grid t right 3 texts is.boxes k b at_k

  filled : (k : ℕ) (text : List ℕ) → slice_get texts k ≡ Some text → 0 < length text
  filled k text at_k = subst (λ z. 0 < length z) (get_or_from_slice_get texts k text text at_k) (is.filled k text (slice_get_within texts k text at_k))

  -- a box with its cells
  figure : (x : ℕ) (text : List ℕ) → 3 ≤ x → x + length text + 1 < right → 0 < length text → HasBox grid t right x text → IsBox grid f (at (t + 2) x) (rect t x text)
  figure x text from to pos has = record {
    corner = refl;
    within = (
      record { below_top = omega arith; above_bottom = omega arith; after_left = omega arith; before_right = omega arith },
      record { below_top = omega arith; above_bottom = omega arith; after_left = omega arith; before_right = omega arith },
    );
    wide = omega arith;
    high = omega arith;
    top = edge_row (t + 2) has.top;
    top_right = edge_right (t + 2) has.top;
    left = λ row after before. (let r : row ≡ t + 3 = omega arith in let c : x ≡ x + 0 = omega arith in ap (λ q. cell grid (at q x)) r ∙ (ap (λ q. cell grid (at (t + 3) q)) c ∙ has.middle_row 0 (let n = long_middle text in omega arith)));
    bottom_left = edge_left (t + 4) has.bottom;
    bottom = edge_row (t + 4) has.bottom;
    bottom_right = edge_right (t + 4) has.bottom;
    right = λ row after before. (let r : row ≡ t + 3 = omega arith in let c : x + length text + 1 ≡ x + suc (length text) = omega arith in ap (λ q. cell grid (at q (x + length text + 1))) r
        ∙ (ap (λ q. cell grid (at (t + 3) q)) c ∙ (has.middle_row (suc (length text)) (let n = long_middle text in omega arith) ∙ middle_end text (length text) refl)));
  }
    where
      edge_left : (row : ℕ) → HasBytes grid row x (edge text) → cell grid (at row x) ≡ 42
      edge_left row h = let c : x ≡ x + 0 = omega arith in ap (λ q. cell grid (at row q)) c ∙ h 0 (let n = long_edge text in omega arith)

      edge_row : (row : ℕ) → HasBytes grid row x (edge text) → (col : ℕ) → x < col → col < x + length text + 1 → cell grid (at row col) ≡ 61
      edge_row row h col after before =
          let c : col ≡ x + (col - x) = omega arith in
          ap (λ q. cell grid (at row q)) c ∙ (h (col - x) (let n = long_edge text in omega arith) ∙ edge_inner text (col - x) (omega arith) (omega arith))

      edge_right : (row : ℕ) → HasBytes grid row x (edge text) → cell grid (at row (x + length text + 1)) ≡ 42
      edge_right row h =
          let c : x + length text + 1 ≡ x + suc (length text) = omega arith in
          ap (λ q. cell grid (at row q)) c ∙ (h (suc (length text)) (let n = long_edge text in omega arith) ∙ edge_end text (length text) refl)

  pub numbered_figure : (k : ℕ) (b : Rect) → slice_get boxes k ≡ Some b → IsBox grid f (corner_of b) b
  numbered_figure k b at_k =
      let n = its k b at_k in
      subst (λ z. IsBox grid f (corner_of z) z) n.same (figure b.left n.text n.from n.to (filled k n.text n.is_text) n.has)

  -- the column after a box is of no box
  no_box_after : (k j : ℕ) (b d : Rect) → slice_get boxes k ≡ Some b → slice_get boxes j ≡ Some d → d.left ≤ b.right + 1 → b.right + 1 ≤ d.right → ⊥
  no_box_after k j b d at_k at_j low high = elim (cases_order k j) [
    | inl same ↦ (let e : Some b ≡ Some d = sym at_k ∙ (ap (slice_get boxes) same ∙ at_j) in let r : b ≡ d = cc in let w = ap (λ (z : Rect). z.right) r in omega arith)
    | inr (inl less) ↦ (let w = in_a_row t 3 texts k j b d less at_k at_j in omega arith)
    | inr (inr above) ↦ (let w = in_a_row t 3 texts j k d b above at_j at_k in let wide = (numbered_figure k b at_k).wide in omega arith)
  ]

  -- a cell of the two rows of edges holds `=` only where it is of a box
  pub top_is : (c : ℕ) → 1 < c → c < right → cell grid (at (t + 2) c) ≢ 32 → (k : ℕ) × (b : Rect) × (slice_get boxes k ≡ Some b) × (b.left ≤ c) × (c ≤ b.right)
  top_is c after before filled_cell = elim (cases_eq c 2) [
    | inl gap ↦ absurd (filled_cell (ap (λ q. cell grid (at (t + 2) q)) gap ∙ is.gap_2))
    | inr other ↦ by (column grid t right 3 texts is.plain is.boxes c (omega arith) before)
  ]
    where
      by : Column grid t right boxes c → (k : ℕ) × (b : Rect) × (slice_get boxes k ≡ Some b) × (b.left ≤ c) × (c ≤ b.right)
      by (inside k b at_k in_it) = (k, b, at_k, in_it.from_left, in_it.to_right)
      by (leaves k b at_k col u v w) = absurd (filled_cell u)
      by (comes k b at_k col u v w) = absurd (filled_cell u)

  no_name_byte : (b : ℕ) → IsNameByte b → b ≡ 42 → ⊥
  no_name_byte b (inl lower) e = omega arith
  no_name_byte b (inr (inl digit)) e = omega arith
  no_name_byte b (inr (inr line)) e = omega arith

  -- the name's row has no `*`
  name_plain : (c : ℕ) → 1 < c → c < right → cell grid (at (t + 1) c) ≡ 42 → ⊥
  name_plain c after before e = elim (cases_lt c (2 + length name)) [
    | inl in_name ↦
        (let i = c - 2 in
        let c_is : 2 + i ≡ c = omega arith in
        no_name_byte (get_or name i 32) (is.valid.letters i 32 (omega arith)) (sym (is.name_row i (omega arith)) ∙ (ap (λ q. cell grid (at (t + 1) q)) c_is ∙ e)))
    | inr past ↦ (let s = is.after_name c past before in omega arith)
  ]

  -- the text's row has no `*`
  text_plain : (c : ℕ) → 1 < c → c < right → cell grid (at (t + 3) c) ≡ 42 → ⊥
  text_plain c after before e = elim (cases_eq c 2) [
    | inl gap ↦ not_entry west (sym is.gap_3 ∙ (ap (λ q. cell grid (at (t + 3) q)) (sym gap) ∙ e))
    | inr other ↦ by (column grid t right 3 texts is.plain is.boxes c (omega arith) before)
  ]
    where
      not_entry : (w : Bool) → entry_byte w 62 32 ≡ 42 → ⊥
      not_entry true x = omega arith
      not_entry false x = omega arith

      by : Column grid t right boxes c → ⊥
      by (inside k b at_k in_it) = in_it.middle_byte.no_star e
      by (leaves k b at_k col u v w) = omega arith
      by (comes k b at_k col u v w) = omega arith

  only_corner : (p : Place) → IsBoxCorner grid f p → (k : ℕ) × (b : Rect) × (slice_get boxes k ≡ Some b) × (corner_of b ≡ p)
  only_corner p c = elim (inner_row t p.row c.within.below_top c.within.above_bottom) [
    | first e ↦ absurd (name_plain p.col c.within.after_left c.within.before_right (ap (λ r. cell grid (at r p.col)) (sym e) ∙ c.here))
    | third e ↦ absurd (text_plain p.col c.within.after_left c.within.before_right (ap (λ r. cell grid (at r p.col)) (sym e) ∙ c.here))
    | fourth e ↦ absurd (
        let dot = is.bottom p.col c.within.after_left c.within.before_right in
        let r : p.row + 1 ≡ t + 5 = omega arith in
        let s : cell grid (at (t + 5) p.col) ≡ 33 = ap (λ q. cell grid (at q p.col)) (sym r) ∙ c.south in omega arith)
    | second e ↦ on_top e
  ]
    where
      on_top : p.row ≡ t + 2 → (k : ℕ) × (b : Rect) × (slice_get boxes k ≡ Some b) × (corner_of b ≡ p)
      on_top e =
          let here : cell grid (at (t + 2) p.col) ≡ 42 = ap (λ r. cell grid (at r p.col)) (sym e) ∙ c.here in
          let east : cell grid (at (t + 2) (p.col + 1)) ≡ 61 = ap (λ r. cell grid (at r (p.col + 1))) (sym e) ∙ c.east in
          let (k, b, at_k, from, to) = top_is p.col c.within.after_left c.within.before_right (λ s. omega arith) in
          let fig = numbered_figure k b at_k in
          let top_row : b.top ≡ t + 2 = ap (λ (z : Rect). z.top) (sym (its k b at_k).same) in
          elim (cases_eq p.col b.left) [
            | inl at_left ↦ (k, b, at_k, equal_places (corner_of b) p (top_row ∙ sym e) (sym at_left))
            | inr not_left ↦ elim (cases_lt p.col b.right) [
              | inl inner ↦ absurd (let s : cell grid (at (t + 2) p.col) ≡ 61 = ap (λ r. cell grid (at r p.col)) (sym top_row) ∙ fig.top p.col (omega arith) inner in omega arith)
              | inr at_right ↦ absurd (after_box k b at_k (let r : p.col + 1 ≡ b.right + 1 = omega arith in ap (λ q. cell grid (at (t + 2) q)) (sym r) ∙ east))
            ]
          ]
        where
          after_box : (k : ℕ) (b : Rect) → slice_get boxes k ≡ Some b → cell grid (at (t + 2) (b.right + 1)) ≡ 61 → ⊥
          after_box k b at_k e = elim (cases_lt (b.right + 1) right) [
            | inl less ↦
                (let wide = (numbered_figure k b at_k).wide in
                let (j, d, at_j, low, high) = top_is (b.right + 1) (omega arith) less (λ s. omega arith) in
                no_box_after k j b d at_k at_j low high)
            | inr more_than ↦
                (let n = its k b at_k in
                let last_col : b.right + 1 ≡ right = (let w = ap (λ (z : Rect). z.right) n.same in let to = n.to in omega arith) in
                let s = is.right_2 in let h : cell grid (at (t + 2) right) ≡ 61 = ap (λ q. cell grid (at (t + 2) q)) (sym last_col) ∙ e in omega arith)
          ]

  box_of : (k : ℕ) (d : Rect) → k < length boxes → slice_get boxes k ≡ Some (get_or boxes k d)
  box_of k d lt = slice_get-get_or boxes k d lt

  box_corner : (k : ℕ) (b : Rect) → slice_get boxes k ≡ Some b → IsBoxCorner grid f (corner_of b)
  box_corner k b at_k =
      let fig = numbered_figure k b at_k in
      let n = its k b at_k in
      let wide = fig.wide in
      let top_row : b.top ≡ t + 2 = ap (λ (z : Rect). z.top) (sym n.same) in
      let bottom_row : b.bottom ≡ t + 4 = ap (λ (z : Rect). z.bottom) (sym n.same) in
      let c : b.left ≡ b.left + 0 = omega arith in
      record {
        within = fig.within.0;
        here = ap (λ r. cell grid (at r b.left)) top_row ∙ (ap (λ q. cell grid (at (t + 2) q)) c ∙ n.has.top 0 (let l = long_edge n.text in omega arith));
        east = fig.top (b.left + 1) (omega arith) (omega arith);
        south = fig.left (b.top + 1) (omega arith) (omega arith);
      }

  pub boxes_figures : AreFigures (box_kind grid f) boxes
  boxes_figures = record {
    in_order = λ i j d less lt.
        let b = get_or boxes i d in let e = get_or boxes j d in
        let row = in_a_row t 3 texts i j b e less (box_of i d (omega arith)) (box_of j d lt) in
        let wide = (numbered_figure i b (box_of i d (omega arith))).wide in
        let top_i = ap (λ (z : Rect). z.top) (its i b (box_of i d (omega arith))).same in
        let top_j = ap (λ (z : Rect). z.top) (its j e (box_of j d lt)).same in
        inr (sym top_i ∙ top_j, omega arith);
    apart = λ i j d less lt (p, one, other).
        let row = in_a_row t 3 texts i j (get_or boxes i d) (get_or boxes j d) less (box_of i d (omega arith)) (box_of j d lt) in
        let a = one.from_left in let b = other.to_right in omega arith;
    corners = λ k d lt. box_corner k (get_or boxes k d) (box_of k d lt);
    figures = λ k d lt. numbered_figure k (get_or boxes k d) (box_of k d lt);
    more = λ k d lt. gave;
    only = λ p c. let (k, b, at_k, corner) = only_corner p c in (k, b, slice_get_within boxes k b at_k, get_or_from_slice_get boxes k b b at_k, inl corner);
  }

  text_is : (x : ℕ) (text : List ℕ) → HasBox grid t right x text → command_text grid (rect t x text) ≡ text
  text_is x text has =
      ap (λ rows. join_with_byte 32 (map (row_text grid (rect t x text)) rows)) one_row ∙ row_is
    where
      one : t + 4 - (t + 2) - 1 ≡ 1
      one = omega arith

      one_row : inner_rows (rect t x text) ≡ (t + 2 + 1) ∷ []
      one_row = ap (range_with_len (t + 2 + 1)) one

      long : x + length text + 1 - x - 1 ≡ length text
      long = omega arith

      at_row : (j : ℕ) → ℕ
      at_row j = cell grid (at (t + 2 + 1) j)

      row_is : row_text grid (rect t x text) (t + 2 + 1) ≡ text
      row_is = same_lists (row_text grid (rect t x text) (t + 2 + 1)) text (length-map-range_with_len (λ col. cell grid (at (t + 2 + 1) col)) (x + 1) (x + length text + 1 - x - 1) ∙ long)
          (λ i d lt.
          let n = length-map-range_with_len (λ col. cell grid (at (t + 2 + 1) col)) (x + 1) (x + length text + 1 - x - 1) in
          let in_text : i < length text = omega arith in
          let r : t + 2 + 1 ≡ t + 3 = omega arith in
          let c : x + 1 + i ≡ x + suc i = omega arith in
          get_or-map-range_with_len (λ col. cell grid (at (t + 2 + 1) col)) (x + 1) (x + length text + 1 - x - 1) i (x + 1 + i) d (omega arith) refl
          ∙ (ap (λ q. cell grid (at q (x + 1 + i))) r ∙ (ap (λ q. cell grid (at (t + 3) q)) c
          ∙ (has.middle_row (suc i) (let w = long_middle text in omega arith) ∙ (get_or_append_left text (33 ∷ []) 32 i in_text ∙ get_or_default text i 32 d in_text)))))

  commands_from : (x : ℕ) (us : List (List ℕ)) (forms : List Form) → HasBoxes grid t right x us → Spell us forms → each (CommandOf grid) (boxes_from t x us) (Ok forms)
  commands_from _ _ _ (last x text has exit end) (text_of {c = c} spells nothing) =
      goes_on c (command c (subst (λ l. IsTextOf l c) (sym (text_is x text has)) spells)) (goes_on [] gave gave)
  commands_from _ _ _ (more x text other us has top between bottom rest) (text_of {c = c} {forms = forms} spells spell) =
      goes_on c (command c (subst (λ l. IsTextOf l c) (sym (text_is x text has)) spells)) (goes_on forms (commands_from (x + length text + 4) (other ∷ us) forms rest spell) gave)

  pub commands_read : (forms : List Form) → Spell texts forms → each (CommandOf grid) boxes (Ok forms)
  commands_read forms spell = commands_from 3 texts forms is.boxes spell

-- from one box to the next
pub next_box : (grid : Grid) (t right x : ℕ) (us : List (List ℕ)) → HasBoxes grid t right x us → (k : ℕ) (b d : Rect) → slice_get (boxes_from t x us) k ≡ Some b → slice_get (boxes_from t x us) (suc k) ≡ Some d
    → (d.left ≡ b.right + 3) × (cell grid (at (t + 3) (b.right + 2)) ≡ 62)
next_box grid t right _ _ (last x text has exit end) k b d at_k at_next = absurd (let lt = slice_get_within (rect t x text ∷ []) (suc k) d at_next in omega arith)
next_box grid t right _ _ (more x text other us has top between bottom rest) zero b d at_k at_next =
    let e : rect t x text ≡ b = cc in
    let h : rect t (x + length text + 4) other ≡ d = cc in
    let r = ap (λ (z : Rect). z.right) e in
    let l = ap (λ (z : Rect). z.left) h in
    let c : b.right + 2 ≡ x + length text + 2 + 1 = omega arith in
    (omega arith, ap (λ q. cell grid (at (t + 3) q)) c ∙ between 1 (omega arith))
next_box grid t right _ _ (more x text other us has top between bottom rest) (suc k) b d at_k at_next = next_box grid t right (x + length text + 4) (other ∷ us) rest k b d at_k at_next

pub last_box : (grid : Grid) (t right x : ℕ) (us : List (List ℕ)) → HasBoxes grid t right x us → (k : ℕ) (b : Rect) → slice_get (boxes_from t x us) k ≡ Some b → length (boxes_from t x us) ≡ suc k → b.right + 1 ≡ right
last_box grid t right _ _ (last x text has exit end) zero b at_k long = let e : rect t x text ≡ b = cc in let r = ap (λ (z : Rect). z.right) e in omega arith
last_box grid t right _ _ (last x text has exit end) (suc k) b at_k long = absurd (cc)
last_box grid t right _ _ (more x text other us has top between bottom rest) zero b at_k long = absurd (omega arith)
last_box grid t right _ _ (more x text other us has top between bottom rest) (suc k) b at_k long = last_box grid t right (x + length text + 4) (other ∷ us) rest k b at_k (omega arith)
