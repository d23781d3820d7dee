-- A strip in a grid: its frame, its name, its entries and exits, its boxes.
use Rattle.std.specs.Prelude.{◌≡◌, ◌+◌, ◌-◌, ◌<◌, ◌≤◌, ◌⊎◌, ◌==◌, ℕ, zero, suc, Bool, true, false, if◌then◌else◌, cond, List, [], ◌∷◌, length, slice_get, Some, All, Ok}
use Rattle.std.specs.List.{filter, range_with_len}
use Rattle.std.proofs.Common.{arith, refl, sym, ap, subst, ◌∙◌, inl, inr, get_or}
use Rattle.std.proofs.lemmas.Bool.{cases_lt, cases_eq, ne_eqb, eq-eqb}
use Rattle.std.proofs.lemmas.List.{get_or_default}
use Rattle.std.proofs.lemmas.List.FromFn.{length-range_with_len, get_or-range_with_len}
use Rattle.umix_base.specs.declared.place.Place.{Place}
use Rattle.two_d.specs.Places.{at, Rect, corner_of, Within, inner_rows, inner_columns}
use Rattle.two_d.specs.Cells.{Grid, cell}
use Rattle.two_d.specs.Names.{IsName, IsNameByte}
use Rattle.two_d.specs.Reading.{goes_on, none}
use Rattle.two_d.specs.Frames.{IsCorner, IsFrame, IsTopByte, IsSideByte, IsSecond, IsNameOf, one_entry_a_side, north_entries, west_entries, exits_of}
use Rattle.two_d.proofs.Equal.{equal_places}
use Rattle.grid_picture.proofs.Lines.{HasBytes}
use Rattle.codex_gen.proofs.BoxRow.{IsPlain, HasBoxes}

abbrev pub entry_byte : Bool → ℕ → ℕ → ℕ
entry_byte west there other = if west then there else other

-- the cells of a strip whose top left corner is in column 1 of a row
pub record IsStrip (grid : Grid) (t right : ℕ) (name : List ℕ) (west : Bool) (texts : List (List ℕ)) : Type 0 where
  pub wide : length name + 2 ≤ right
  pub valid : IsName name
  pub plain : All (All IsPlain) texts
  pub filled : All (λ text. 0 < length text) texts
  pub boxes : HasBoxes grid t right 3 texts
  pub top_left : cell grid (at t 1) ≡ 44
  pub top : (c : ℕ) → 1 < c → c < right → cell grid (at t c) ≡ 46
  pub top_right : cell grid (at t right) ≡ 44
  pub left_1 : cell grid (at (t + 1) 1) ≡ 58
  pub left_2 : cell grid (at (t + 2) 1) ≡ 58
  pub left_3 : cell grid (at (t + 3) 1) ≡ entry_byte west 45 58
  pub left_4 : cell grid (at (t + 4) 1) ≡ 58
  pub right_1 : cell grid (at (t + 1) right) ≡ 58
  pub right_2 : cell grid (at (t + 2) right) ≡ 58
  pub right_3 : cell grid (at (t + 3) right) ≡ 45
  pub right_4 : cell grid (at (t + 4) right) ≡ 58
  pub bottom_left : cell grid (at (t + 5) 1) ≡ 39
  pub bottom : (c : ℕ) → 1 < c → c < right → cell grid (at (t + 5) c) ≡ 46
  pub bottom_right : cell grid (at (t + 5) right) ≡ 39
  pub past : (row c : ℕ) → t ≤ row → row ≤ t + 5 → right < c → cell grid (at row c) ≡ 32
  pub name_row : HasBytes grid (t + 1) 2 name
  pub after_name : (c : ℕ) → 2 + length name ≤ c → c < right → cell grid (at (t + 1) c) ≡ 32
  pub gap_2 : cell grid (at (t + 2) 2) ≡ 32
  pub gap_3 : cell grid (at (t + 3) 2) ≡ entry_byte west 62 32
  pub gap_4 : cell grid (at (t + 4) 2) ≡ 32

-- the four rows between the borders
pub data InnerRow (t row : ℕ) : Type 0 where
  first : row ≡ t + 1 → InnerRow t row
  second : row ≡ t + 2 → InnerRow t row
  third : row ≡ t + 3 → InnerRow t row
  fourth : row ≡ t + 4 → InnerRow t row

pub inner_row : (t row : ℕ) → t < row → row < t + 5 → InnerRow t row
inner_row t row after before = elim (cases_eq row (t + 1)) [
  | inl e ↦ first e
  | inr a ↦ elim (cases_eq row (t + 2)) [
    | inl e ↦ second e
    | inr b ↦ elim (cases_eq row (t + 3)) [ inl e ↦ third e | inr d ↦ fourth (omega arith) ]
  ]
]

filter_none : (p : ℕ → Bool) (xs : List ℕ) → All (λ x. p x ≡ false) xs → filter p xs ≡ []
filter_none p [] all = refl
filter_none p (x ∷ xs) all = ap (λ b. cond b (x ∷ filter p xs) (filter p xs)) (all 0 x (omega arith)) ∙ filter_none p xs (λ k d lt. all (suc k) d (omega arith))

filter_third : (p : ℕ → Bool) (a b c d : ℕ) (v : Bool) → p a ≡ false → p b ≡ false → p c ≡ v → p d ≡ false → filter p (a ∷ b ∷ c ∷ d ∷ []) ≡ cond v (c ∷ []) []
filter_third p a b c d v at_a at_b at_c at_d =
    ap (λ x. cond x (a ∷ filter p (b ∷ c ∷ d ∷ [])) (filter p (b ∷ c ∷ d ∷ []))) at_a
    ∙ (ap (λ x. cond x (b ∷ filter p (c ∷ d ∷ [])) (filter p (c ∷ d ∷ []))) at_b
    ∙ (ap (λ x. cond x (c ∷ filter p (d ∷ [])) (filter p (d ∷ []))) at_c
    ∙ ap (λ l. cond v (c ∷ l) l) (ap (λ x. cond x (d ∷ []) []) at_d)))

abbrev pub frame_of : ℕ → ℕ → Rect
frame_of t right = record { top = t; left = 1; bottom = t + 5; right = right }

module _ (grid : Grid) (t right : ℕ) (name : List ℕ) (west : Bool) (texts : List (List ℕ)) (is : IsStrip grid t right name west texts) where
  abbrev f : Rect
  f = frame_of t right

  narrow : 2 < right
  narrow = by name is.valid is.wide
    where
      by : (n : List ℕ) → IsName n → length n + 2 ≤ right → 2 < right
      by [] valid wide = absurd valid.first
      by (b ∷ bs) valid wide = omega arith

  side : (w : Bool) → IsSideByte (entry_byte w 45 58)
  side true = inr refl
  side false = inl refl

  pub framed : IsFrame grid (corner_of f) f
  framed = record {
    corner = refl;
    wide = (let n = narrow in omega arith);
    high = omega arith;
    top = λ c after before. inl (is.top c after before);
    top_right = is.top_right;
    left = λ row after before. elim (inner_row t row after before) [
      | first e ↦ inl (ap (λ r. cell grid (at r 1)) e ∙ is.left_1)
      | second e ↦ inl (ap (λ r. cell grid (at r 1)) e ∙ is.left_2)
      | third e ↦ subst IsSideByte (sym (ap (λ r. cell grid (at r 1)) e ∙ is.left_3)) (side west)
      | fourth e ↦ inl (ap (λ r. cell grid (at r 1)) e ∙ is.left_4)
    ];
    bottom_left = is.bottom_left;
    bottom = is.bottom;
    bottom_right = is.bottom_right;
    right = λ row after before. elim (inner_row t row after before) [
      | first e ↦ inl (ap (λ r. cell grid (at r right)) e ∙ is.right_1)
      | second e ↦ inl (ap (λ r. cell grid (at r right)) e ∙ is.right_2)
      | third e ↦ inr (ap (λ r. cell grid (at r right)) e ∙ is.right_3)
      | fourth e ↦ inl (ap (λ r. cell grid (at r right)) e ∙ is.right_4)
    ];
  }

  pub corner : IsCorner grid (corner_of f)
  corner = record { here = is.top_left; east = inl (is.top 2 (omega arith) narrow); south = inl is.left_1 }

  rows_are : inner_rows f ≡ (t + 1) ∷ (t + 2) ∷ (t + 3) ∷ (t + 4) ∷ []
  rows_are =
      let n : t + 5 - t - 1 ≡ 4 = omega arith in
      let a : t + 1 + 1 ≡ t + 2 = omega arith in
      let b : t + 1 + 1 + 1 ≡ t + 3 = omega arith in
      let c : t + 1 + 1 + 1 + 1 ≡ t + 4 = omega arith in
      ap (range_with_len (t + 1)) n ∙ cc (a, b, c)

  pub north_none : north_entries grid f ≡ []
  north_none = filter_none (λ c. cell grid (at t c) == 124) (inner_columns f) (λ k d lt.
      let long = length-range_with_len 2 (right - 1 - 1) in
      let at_k = get_or-range_with_len 2 (right - 1 - 1) k d (omega arith) in
      let byte = is.top (get_or (inner_columns f) k d) (omega arith) (omega arith) in
      ne_eqb (cell grid (at t (get_or (inner_columns f) k d))) 124 (λ e. omega arith))

  not_minus : (c : ℕ) → c ≡ 58 → (c == 45) ≡ false
  not_minus c e = ne_eqb c 45 (λ x. omega arith)

  is_minus : (w : Bool) (c : ℕ) → c ≡ entry_byte w 45 58 → (c == 45) ≡ w
  is_minus true c e = eq-eqb c 45 e
  is_minus false c e = not_minus c e

  pub west_is : west_entries grid f ≡ cond west ((t + 3) ∷ []) []
  west_is = ap (filter (λ row. cell grid (at row 1) == 45)) rows_are
      ∙ filter_third (λ row. cell grid (at row 1) == 45) (t + 1) (t + 2) (t + 3) (t + 4) west (not_minus _ is.left_1) (not_minus _ is.left_2) (is_minus west _ is.left_3) (not_minus _ is.left_4)

  pub exits_are : exits_of grid f ≡ (t + 3) ∷ []
  exits_are = ap (filter (λ row. cell grid (at row right) == 45)) rows_are
      ∙ filter_third (λ row. cell grid (at row right) == 45) (t + 1) (t + 2) (t + 3) (t + 4) true (not_minus _ is.right_1) (not_minus _ is.right_2) (is_minus true _ is.right_3) (not_minus _ is.right_4)

  pub entered : one_entry_a_side grid f (Ok tt)
  entered = goes_on tt (none (λ c is_second. by_north c is_second)) (none (λ row is_second. by_west west row (ap (λ l. slice_get l 1) (sym west_is) ∙ is_second)))
    where
      by_north : (c : ℕ) → IsSecond (north_entries grid f) c → ⊥
      by_north c is_second = let e : slice_get {X = ℕ} [] 1 ≡ Some c = ap (λ l. slice_get l 1) (sym north_none) ∙ is_second in cc

      by_west : (w : Bool) (row : ℕ) → slice_get (cond w ((t + 3) ∷ []) []) 1 ≡ Some row → ⊥
      by_west true row e = cc
      by_west false row e = cc

  pub named : IsNameOf grid f name
  named = record {
    valid = is.valid;
    written = λ i lt. is.name_row i lt ∙ get_or_default name i 32 0 lt;
    longest = longest;
  }
    where
      no_name_byte : (b : ℕ) → (b ≡ 32) ⊎ (b ≡ 58) → IsNameByte b → ⊥
      no_name_byte b (inl e) (inl lower) = omega arith
      no_name_byte b (inl e) (inr (inl digit)) = omega arith
      no_name_byte b (inl e) (inr (inr line)) = omega arith
      no_name_byte b (inr e) (inl lower) = omega arith
      no_name_byte b (inr e) (inr (inl digit)) = omega arith
      no_name_byte b (inr e) (inr (inr line)) = omega arith

      longest : IsNameByte (cell grid (at (t + 1) (1 + 1 + length name))) → ⊥
      longest n = elim (cases_lt (2 + length name) right) [
        | inl less ↦ no_name_byte _ (inl (is.after_name (2 + length name) (omega arith) less)) n
        | inr more ↦ (let e : 2 + length name ≡ right = (let w = is.wide in omega arith) in no_name_byte _ (inr (ap (λ c. cell grid (at (t + 1) c)) e ∙ is.right_1)) n)
      ]

  -- the frame has the only corner of its rows
  pub alone : (p : Place) → IsCorner grid p → t ≤ p.row → p.row ≤ t + 5 → (corner_of f ≡ p) ⊎ Within f p
  alone p c from to = elim (cases_lt right p.col) [
    | inl beyond ↦ absurd (let e = is.past p.row p.col from to beyond in let h = c.here in omega arith)
    | inr in_row ↦ elim (cases_eq p.row t) [
      | inl on_top ↦ top_row on_top in_row
      | inr under ↦ elim (cases_eq p.row (t + 5)) [
        | inl on_bottom ↦ absurd (bottom_row on_bottom in_row)
        | inr over ↦ between (omega arith) (omega arith) in_row
      ]
    ]
  ]
    where
      byte_is : (row col : ℕ) → p.row ≡ row → p.col ≡ col → cell grid (at row col) ≡ 44
      byte_is row col r k = subst (λ q. cell grid q ≡ 44) (equal_places p (at row col) r k) c.here

      not_zero : (row col : ℕ) → cell grid (at row col) ≡ 44 → 0 < col
      not_zero row zero e = absurd (omega arith)
      not_zero row (suc col) e = omega arith

      after_zero : 0 < p.col
      after_zero = not_zero p.row p.col c.here

      top_row : p.row ≡ t → p.col ≤ right → (corner_of f ≡ p) ⊎ Within f p
      top_row r le = elim (cases_eq p.col 1) [
        | inl first_col ↦ inl (sym (equal_places p (corner_of f) r first_col))
        | inr not_first ↦ elim (cases_eq p.col right) [
          | inl last_col ↦ absurd (no_top (subst (λ q. IsTopByte (cell grid (at q.row (q.col + 1)))) (equal_places p (at t right) r last_col) c.east) (is.past t (right + 1) (omega arith) (omega arith) (omega arith)))
          | inr not_last ↦ absurd (let a = after_zero in let e = is.top p.col (omega arith) (omega arith) in let h = byte_is t p.col r refl in omega arith)
        ]
      ]
        where
          no_top : IsTopByte (cell grid (at t (right + 1))) → cell grid (at t (right + 1)) ≡ 32 → ⊥
          no_top (inl a) e = omega arith
          no_top (inr a) e = omega arith

      bottom_row : p.row ≡ t + 5 → p.col ≤ right → ⊥
      bottom_row r le = elim (cases_eq p.col 1) [
        | inl first_col ↦ (let h = byte_is (t + 5) 1 r first_col in let e = is.bottom_left in omega arith)
        | inr not_first ↦ elim (cases_eq p.col right) [
          | inl last_col ↦ (let h = byte_is (t + 5) right r last_col in let e = is.bottom_right in omega arith)
          | inr not_last ↦ (let a = after_zero in let e = is.bottom p.col (omega arith) (omega arith) in let h = byte_is (t + 5) p.col r refl in omega arith)
        ]
      ]

      no_comma : (b : ℕ) → IsSideByte b → b ≡ 44 → ⊥
      no_comma b (inl x) e = omega arith
      no_comma b (inr x) e = omega arith

      between : t < p.row → p.row < t + 5 → p.col ≤ right → (corner_of f ≡ p) ⊎ Within f p
      between after before le = elim (cases_eq p.col 1) [
        | inl first_col ↦ absurd (no_comma (cell grid (at p.row 1)) (framed.left p.row after before) (byte_is p.row 1 refl first_col))
        | inr not_first ↦ elim (cases_eq p.col right) [
          | inl last_col ↦ absurd (no_comma (cell grid (at p.row right)) (framed.right p.row after before) (byte_is p.row right refl last_col))
          | inr not_last ↦ inr (let a = after_zero in record { below_top = after; above_bottom = before; after_left = omega arith; before_right = omega arith })
        ]
      ]
