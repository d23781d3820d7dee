-- Boxes that stand side by side: their cells, and which cell of their rows is what.
use Rattle.std.specs.Prelude.{◌≡◌, ◌≢◌, ◌+◌, ◌-◌, ◌<◌, ◌≤◌, ◌⊎◌, ℕ, zero, suc, List, [], ◌∷◌, length, replicate, slice_get, Some, All, codes}
use Rattle.std.proofs.Common.{arith, refl, sym, ap, subst, ◌∙◌, inl, inr, get_or}
use Rattle.std.proofs.lemmas.Bool.{cases_lt, cases_eq}
use Rattle.std.proofs.lemmas.List.{length-append, length-replicate, get_or-replicate, get_or_append_left, get_or-append_right}
use Rattle.two_d.specs.Places.{at, Rect}
use Rattle.two_d.specs.Cells.{Grid, cell}
use Rattle.grid_picture.proofs.Lines.{HasBytes, byte_here}
use Rattle.codex_gen.specs.Generated.{edge, middle}

-- a byte of a text that is no sign of a box or a wire
pub record IsPlain (b : ℕ) : Type 0 where
  pub low : 32 ≤ b
  pub high : b ≤ 126
  pub no_star : b ≢ 42
  pub no_plus : b ≢ 43
  pub no_hash : b ≢ 35
  pub no_minus : b ≢ 45
  pub no_bar : b ≢ 124
  pub no_greater : b ≢ 62

abbrev pub rect : ℕ → ℕ → List ℕ → Rect
rect t x text = record { top = t + 2; left = x; bottom = t + 4; right = x + length text + 1 }

-- the boxes of these texts from a column on, three columns from one to the next
abbrev pub boxes_from : ℕ → ℕ → List (List ℕ) → List Rect
boxes_from t x [] = []
boxes_from t x (text ∷ texts) = rect t x text ∷ boxes_from t (x + length text + 4) texts

module _ (grid : Grid) (t right : ℕ) where
  -- the rows of one box
  pub record HasBox (x : ℕ) (text : List ℕ) : Type 0 where
    pub top : HasBytes grid (t + 2) x (edge text)
    pub middle_row : HasBytes grid (t + 3) x (middle text)
    pub bottom : HasBytes grid (t + 4) x (edge text)

  -- boxes from a column on, with `->` between two, and `-` in the right border after the last
  pub data HasBoxes : ℕ → List (List ℕ) → Type 0 where
    last : (x : ℕ) (text : List ℕ) → HasBox x text → cell grid (at (t + 3) (x + length text + 2)) ≡ 45 → x + length text + 2 ≡ right → HasBoxes x (text ∷ [])
    more : (x : ℕ) (text other : List ℕ) (texts : List (List ℕ)) → HasBox x text
        → HasBytes grid (t + 2) (x + length text + 2) (codes "  ") → HasBytes grid (t + 3) (x + length text + 2) (codes "->") → HasBytes grid (t + 4) (x + length text + 2) (codes "  ")
        → HasBoxes (x + length text + 4) (other ∷ texts) → HasBoxes x (text ∷ other ∷ texts)

  -- a column of a box: its bytes
  pub record IsInside (b : Rect) (c : ℕ) : Type 0 where
    pub from_left : b.left ≤ c
    pub to_right : c ≤ b.right
    pub top : (cell grid (at (t + 2) c) ≡ 42) ⊎ (cell grid (at (t + 2) c) ≡ 61)
    pub middle_byte : IsPlain (cell grid (at (t + 3) c))
    pub bottom : (cell grid (at (t + 4) c) ≡ 42) ⊎ (cell grid (at (t + 4) c) ≡ 61)

  -- a column before the right border: of a box, right after a box, or right before the next one
  pub data Column (boxes : List Rect) (c : ℕ) : Type 0 where
    inside : (k : ℕ) (b : Rect) → slice_get boxes k ≡ Some b → IsInside b c → Column boxes c
    leaves : (k : ℕ) (b : Rect) → slice_get boxes k ≡ Some b → c ≡ b.right + 1 → cell grid (at (t + 2) c) ≡ 32 → cell grid (at (t + 3) c) ≡ 45 → cell grid (at (t + 4) c) ≡ 32 → Column boxes c
    comes : (k : ℕ) (b : Rect) → slice_get boxes (suc k) ≡ Some b → c + 1 ≡ b.left → cell grid (at (t + 2) c) ≡ 32 → cell grid (at (t + 3) c) ≡ 62 → cell grid (at (t + 4) c) ≡ 32 → Column boxes c

  plain_33 : IsPlain 33
  plain_33 = record { low = omega arith; high = omega arith; no_star = λ e. omega arith; no_plus = λ e. omega arith; no_hash = λ e. omega arith; no_minus = λ e. omega arith; no_bar = λ e. omega arith; no_greater = λ e. omega arith }

  abbrev signs : List ℕ → List ℕ
  signs text = replicate (length text) 61

  length-edge : (text : List ℕ) → length (edge text) ≡ length text + 2
  length-edge text =
      let a : length (edge text) ≡ length (42 ∷ signs text) + 1 = length-append (42 ∷ signs text) (42 ∷ []) in
      let b : length (signs text) ≡ length text = length-replicate (length text) 61 in
      omega arith

  -- the bytes of an edge
  edge_byte : (text : List ℕ) (i : ℕ) → i < length text + 2 → (get_or (edge text) i 32 ≡ 42) ⊎ (get_or (edge text) i 32 ≡ 61)
  edge_byte text zero lt = inl refl
  edge_byte text (suc i) lt = elim (cases_lt i (length text)) [
    | inl in_text ↦ inr (get_or_append_left (replicate (length text) 61) (42 ∷ []) 32 i (subst (λ n. i < n) (sym (length-replicate (length text) 61)) in_text) ∙ get_or-replicate (length text) i 61 32 in_text)
    | inr past ↦ inl (get_or-append_right (replicate (length text) 61) (42 ∷ []) (length text) i 32 (length-replicate (length text) 61) past ∙ ap (λ k. get_or (42 ∷ []) k 32) (by past))
  ]
    where
      by : length text ≤ i → i - length text ≡ 0
      by past = omega arith

  middle_plain : (text : List ℕ) → All IsPlain text → (i : ℕ) → i < length text + 2 → IsPlain (get_or (middle text) i 32)
  middle_plain text plain zero lt = plain_33
  middle_plain text plain (suc i) lt = elim (cases_lt i (length text)) [
    | inl in_text ↦ subst IsPlain (sym (get_or_append_left text (33 ∷ []) 32 i in_text)) (plain i 32 in_text)
    | inr past ↦ subst IsPlain (sym (get_or-append_right text (33 ∷ []) (length text) i 32 refl past ∙ ap (λ k. get_or (33 ∷ []) k 32) (by past))) plain_33
  ]
    where
      by : length text ≤ i → i - length text ≡ 0
      by past = omega arith

  box_column : (x : ℕ) (text : List ℕ) → All IsPlain text → HasBox x text → (c : ℕ) → x ≤ c → c ≤ x + length text + 1 → IsInside (rect t x text) c
  box_column x text plain has c from to =
      let i = c - x in
      let c_is : x + i ≡ c = omega arith in
      let long = length-edge text in
      let wide : length (middle text) ≡ length (33 ∷ text) + 1 = length-append (33 ∷ text) (33 ∷ []) in
      let byte_of : (row : ℕ) → cell grid (at row (x + i)) ≡ cell grid (at row c) = λ row. ap (λ z. cell grid (at row z)) c_is in
      let edge_at : (row : ℕ) → HasBytes grid row x (edge text) → (cell grid (at row c) ≡ 42) ⊎ (cell grid (at row c) ≡ 61) = λ row h.
      subst (λ v. (v ≡ 42) ⊎ (v ≡ 61)) (sym (h i (omega arith)) ∙ byte_of row) (edge_byte text i (omega arith)) in
      record {
        from_left = from;
        to_right = to;
        top = edge_at (t + 2) has.top;
        middle_byte = subst IsPlain (sym (has.middle_row i (omega arith)) ∙ byte_of (t + 3)) (middle_plain text plain i (omega arith));
        bottom = edge_at (t + 4) has.bottom;
      }

  pub column : (x : ℕ) (texts : List (List ℕ)) → All (All IsPlain) texts → HasBoxes x texts → (c : ℕ) → x ≤ c → c < right → Column (boxes_from t x texts) c
  column _ _ plain (last x text has exit end) c from to = inside 0 (rect t x text) refl (box_column x text (plain 0 text (omega arith)) has c from (omega arith))
  column _ _ plain (more x text other texts has top between bottom rest) c from to = elim (cases_lt c (x + length text + 2)) [
    | inl in_box ↦ inside 0 (rect t x text) refl (box_column x text (plain 0 text (omega arith)) has c from (omega arith))
    | inr past ↦ elim (cases_eq c (x + length text + 2)) [
      | inl first ↦ leaves 0 (rect t x text) refl (omega arith)
          (ap (λ z. cell grid (at (t + 2) z)) first ∙ byte_here grid (t + 2) (x + length text + 2) 32 (32 ∷ []) top)
          (ap (λ z. cell grid (at (t + 3) z)) first ∙ byte_here grid (t + 3) (x + length text + 2) 45 (62 ∷ []) between)
          (ap (λ z. cell grid (at (t + 4) z)) first ∙ byte_here grid (t + 4) (x + length text + 2) 32 (32 ∷ []) bottom)
      | inr not_first ↦ elim (cases_eq c (x + length text + 2 + 1)) [
        | inl second ↦ comes 0 (rect t (x + length text + 4) other) refl (omega arith)
            (ap (λ z. cell grid (at (t + 2) z)) second ∙ top 1 (omega arith))
            (ap (λ z. cell grid (at (t + 3) z)) second ∙ between 1 (omega arith))
            (ap (λ z. cell grid (at (t + 4) z)) second ∙ bottom 1 (omega arith))
        | inr later ↦ next (column (x + length text + 4) (other ∷ texts) (λ k d lt. plain (suc k) d (omega arith)) rest c (omega arith) to)
      ]
    ]
  ]
    where
      next : Column (boxes_from t (x + length text + 4) (other ∷ texts)) c → Column (boxes_from t x (text ∷ other ∷ texts)) c
      next (inside k b is in_it) = inside (suc k) b is in_it
      next (leaves k b is col u v w) = leaves (suc k) b is col u v w
      next (comes k b is col u v w) = comes (suc k) b is col u v w

  -- the box of a number
  pub record IsNumbered (x : ℕ) (texts : List (List ℕ)) (k : ℕ) (b : Rect) : Type 0 where
    pub text : List ℕ
    pub is_text : slice_get texts k ≡ Some text
    pub same : rect t b.left text ≡ b
    pub has : HasBox b.left text
    pub from : x ≤ b.left
    pub to : b.left + length text + 1 < right
    pub east : cell grid (at (t + 3) (b.left + length text + 2)) ≡ 45

  pub numbered : (x : ℕ) (texts : List (List ℕ)) → HasBoxes x texts → (k : ℕ) (b : Rect) → slice_get (boxes_from t x texts) k ≡ Some b → IsNumbered x texts k b
  numbered _ _ (last x text has exit end) zero b is =
      let e : rect t x text ≡ b = cc in
      subst (IsNumbered x (text ∷ []) 0) e (record { text = text; is_text = refl; same = refl; has = has; from = omega arith; to = omega arith; east = exit })
  numbered _ _ (last x text has exit end) (suc k) b is = absurd (cc)
  numbered _ _ (more x text other texts has top between bottom rest) zero b is =
      let e : rect t x text ≡ b = cc in
      subst (IsNumbered x (text ∷ other ∷ texts) 0) e (record { text = text; is_text = refl; same = refl; has = has; from = omega arith; to = (let s = short _ _ rest in omega arith); east = byte_here grid (t + 3) (x + length text + 2) 45 (62 ∷ []) between })
    where
      short : (y : ℕ) (us : List (List ℕ)) → HasBoxes y us → y < right
      short _ _ (last y text has exit end) = omega arith
      short _ _ (more y text other texts has top between bottom rest) = let s = short _ _ rest in omega arith
  numbered _ _ (more x text other texts has top between bottom rest) (suc k) b is =
      let n = numbered (x + length text + 4) (other ∷ texts) rest k b is in
      let from = n.from in
      record { text = n.text; is_text = n.is_text; same = n.same; has = n.has; from = omega arith; to = n.to; east = n.east }

-- a later box is further to the right
pub from_left : (t x : ℕ) (texts : List (List ℕ)) (k : ℕ) (b : Rect) → slice_get (boxes_from t x texts) k ≡ Some b → x ≤ b.left
from_left t x [] k b is = absurd (cc)
from_left t x (text ∷ texts) zero b is = let e : rect t x text ≡ b = cc in let l = ap (λ (z : Rect). z.left) e in omega arith
from_left t x (text ∷ texts) (suc k) b is = let rest = from_left t (x + length text + 4) texts k b is in omega arith

pub in_a_row : (t x : ℕ) (texts : List (List ℕ)) (i j : ℕ) (b d : Rect) → i < j → slice_get (boxes_from t x texts) i ≡ Some b → slice_get (boxes_from t x texts) j ≡ Some d → b.right + 3 ≤ d.left
in_a_row t x [] i j b d less is is_d = absurd (cc)
in_a_row t x (text ∷ texts) i zero b d less is is_d = absurd (omega arith)
in_a_row t x (text ∷ texts) zero (suc j) b d less is is_d =
    let e : rect t x text ≡ b = cc in let r = ap (λ (z : Rect). z.right) e in
    let rest = from_left t (x + length text + 4) texts j d is_d in omega arith
in_a_row t x (text ∷ texts) (suc i) (suc j) b d less is is_d = in_a_row t (x + length text + 4) texts i j b d (omega arith) is is_d

pub length-boxes_from : (t x : ℕ) (texts : List (List ℕ)) → length (boxes_from t x texts) ≡ length texts
length-boxes_from t x [] = refl
length-boxes_from t x (text ∷ texts) = ap suc (length-boxes_from t (x + length text + 4) texts)
