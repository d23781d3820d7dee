-- The lines of a strip have the cells of one.
use Rattle.std.specs.Prelude.{◌≡◌, ◌+◌, ◌-◌, ◌<◌, ◌≤◌, ℕ, zero, suc, Bool, true, false, List, [], ◌∷◌, ◌++◌, length, map, replicate, All, codes, if◌then◌else◌}
use Rattle.std.proofs.Common.{arith, refl, sym, ap, subst, ◌∙◌, get_or, append_assoc}
use Rattle.std.proofs.lemmas.List.Sums.{sum_by-cons}
use Rattle.std.proofs.lemmas.List.{length-append, length-replicate, get_or-replicate, get_or_append_left, get_or-append_right}
use Rattle.two_d.specs.Places.{at}
use Rattle.two_d.specs.Cells.{Grid, cell}
use Rattle.two_d.specs.Names.{IsName}
use Rattle.grid_picture.proofs.Lines.{HasBytes, line_has, bytes_left, bytes_right, byte_here, past_line, byte_in}
use Rattle.codex_gen.specs.Generated.{joined_by, strip_columns, edge, middle, strip}
use Rattle.codex_gen.proofs.BoxRow.{IsPlain, HasBoxes, last, more}
use Rattle.codex_gen.proofs.Strip.{IsStrip, entry_byte}

-- the columns of boxes, box by box
abbrev text_columns : List (List ℕ) → ℕ
text_columns [] = 0
text_columns (text ∷ []) = length text + 2
text_columns (text ∷ other ∷ texts) = length text + 4 + text_columns (other ∷ texts)

columns_are : (texts : List (List ℕ)) → strip_columns texts ≡ 1 + text_columns texts
columns_are [] = omega arith
columns_are (text ∷ []) = omega arith
columns_are (text ∷ other ∷ texts) =
    let e = columns_are (other ∷ texts) in
    let first = sum_by-cons (λ (one : List ℕ). length one + 2) text (other ∷ texts) in
    omega arith

-- parts with another between two, and a tail
abbrev chain : (List ℕ → List ℕ) → List ℕ → List ℕ → List (List ℕ) → List ℕ
chain part between tail [] = tail
chain part between tail (text ∷ []) = part text ++ tail
chain part between tail (text ∷ other ∷ texts) = part text ++ (between ++ chain part between tail (other ∷ texts))

chained : (part : List ℕ → List ℕ) (between tail : List ℕ) (texts : List (List ℕ)) → joined_by between (map part texts) ++ tail ≡ chain part between tail texts
chained part between tail [] = refl
chained part between tail (text ∷ []) = refl
chained part between tail (text ∷ other ∷ texts) =
    append_assoc (part text ++ between) (joined_by between (map part (other ∷ texts))) tail
    ∙ (append_assoc (part text) between (joined_by between (map part (other ∷ texts)) ++ tail)
    ∙ ap (λ l. part text ++ (between ++ l)) (chained part between tail (other ∷ texts)))

abbrev signs : ℕ → ℕ → List ℕ
signs n b = replicate n b

long_edge : (text : List ℕ) → length (edge text) ≡ length text + 2
long_edge text =
    let a : length (edge text) ≡ length (42 ∷ signs (length text) 61) + 1 = length-append (42 ∷ signs (length text) 61) (42 ∷ []) in
    let b : length (signs (length text) 61) ≡ length text = length-replicate (length text) 61 in
    omega arith

long_middle : (text : List ℕ) → length (middle text) ≡ length text + 2
long_middle text = let a : length (middle text) ≡ length (33 ∷ text) + 1 = length-append (33 ∷ text) (33 ∷ []) in omega arith

module _ (grid : Grid) (t right : ℕ) where
  moved : (row : ℕ) (x y : ℕ) (bs : List ℕ) → x ≡ y → HasBytes grid row x bs → HasBytes grid row y bs
  moved row x y bs e has = subst (λ z. HasBytes grid row z bs) e has

  has_boxes : (x : ℕ) (texts : List (List ℕ)) → 0 < length texts → x + text_columns texts ≡ right
      → HasBytes grid (t + 2) x (chain edge (codes "  ") (codes ":") texts) → HasBytes grid (t + 3) x (chain middle (codes "->") (codes "-") texts) → HasBytes grid (t + 4) x (chain edge (codes "  ") (codes ":") texts)
      → HasBoxes grid t right x texts
  has_boxes x [] some end top mid bottom = absurd (omega arith)
  has_boxes x (text ∷ []) some end top mid bottom =
      last x text
      (record { top = bytes_left grid (t + 2) x (edge text) (codes ":") top; middle_row = bytes_left grid (t + 3) x (middle text) (codes "-") mid; bottom = bytes_left grid (t + 4) x (edge text) (codes ":") bottom })
      (byte_here grid (t + 3) (x + length text + 2) 45 [] (moved (t + 3) (x + length (middle text)) (x + length text + 2) (codes "-") (let n = long_middle text in omega arith) (bytes_right grid (t + 3) x (middle text) (codes "-") mid)))
      (omega arith)
  has_boxes x (text ∷ other ∷ texts) some end top mid bottom =
      let e = long_edge text in
      let n = long_middle text in
      let rest_edge = chain edge (codes "  ") (codes ":") (other ∷ texts) in
      let rest_mid = chain middle (codes "->") (codes "-") (other ∷ texts) in
      let top_rest = moved (t + 2) (x + length (edge text)) (x + length text + 2) (codes "  " ++ rest_edge) (omega arith) (bytes_right grid (t + 2) x (edge text) (codes "  " ++ rest_edge) top) in
      let mid_rest = moved (t + 3) (x + length (middle text)) (x + length text + 2) (codes "->" ++ rest_mid) (omega arith) (bytes_right grid (t + 3) x (middle text) (codes "->" ++ rest_mid) mid) in
      let bottom_rest = moved (t + 4) (x + length (edge text)) (x + length text + 2) (codes "  " ++ rest_edge) (omega arith) (bytes_right grid (t + 4) x (edge text) (codes "  " ++ rest_edge) bottom) in
      more x text other texts
      (record { top = bytes_left grid (t + 2) x (edge text) (codes "  " ++ rest_edge) top; middle_row = bytes_left grid (t + 3) x (middle text) (codes "->" ++ rest_mid) mid; bottom = bytes_left grid (t + 4) x (edge text) (codes "  " ++ rest_edge) bottom })
      (bytes_left grid (t + 2) (x + length text + 2) (codes "  ") rest_edge top_rest)
      (bytes_left grid (t + 3) (x + length text + 2) (codes "->") rest_mid mid_rest)
      (bytes_left grid (t + 4) (x + length text + 2) (codes "  ") rest_edge bottom_rest)
      (has_boxes (x + length text + 4) (other ∷ texts) (omega arith) (omega arith)
      (moved (t + 2) (x + length text + 2 + 2) (x + length text + 4) rest_edge (omega arith) (bytes_right grid (t + 2) (x + length text + 2) (codes "  ") rest_edge top_rest))
      (moved (t + 3) (x + length text + 2 + 2) (x + length text + 4) rest_mid (omega arith) (bytes_right grid (t + 3) (x + length text + 2) (codes "->") rest_mid mid_rest))
      (moved (t + 4) (x + length text + 2 + 2) (x + length text + 4) rest_edge (omega arith) (bytes_right grid (t + 4) (x + length text + 2) (codes "  ") rest_edge bottom_rest)))

-- a line between two bytes
long_between : (a b d n : ℕ) → length ((a ∷ signs n d) ++ b ∷ []) ≡ n + 2
long_between a b d n =
    let x = length-append (a ∷ signs n d) (b ∷ []) in
    let y : length (signs n d) ≡ n = length-replicate n d in
    omega arith

between_byte : (a b d n i : ℕ) → i < n → get_or ((a ∷ signs n d) ++ b ∷ []) (suc i) 32 ≡ d
between_byte a b d n i lt = get_or_append_left (signs n d) (b ∷ []) 32 i (subst (λ z. i < z) (sym (length-replicate n d)) lt) ∙ get_or-replicate n i d 32 lt

between_last : (a b d n : ℕ) → get_or ((a ∷ signs n d) ++ b ∷ []) (suc n) 32 ≡ b
between_last a b d n = get_or-append_right (signs n d) (b ∷ []) n n 32 (length-replicate n d) (omega arith) ∙ ap (λ k. get_or (b ∷ []) k 32) (by n)
  where
    by : (n : ℕ) → n - n ≡ 0
    by n = omega arith

long_joined : (part : List ℕ → List ℕ) (between : List ℕ) → ((text : List ℕ) → length (part text) ≡ length text + 2) → length between ≡ 2 → (texts : List (List ℕ)) → length (joined_by between (map part texts)) ≡ text_columns texts
long_joined part between each two [] = refl
long_joined part between each two (text ∷ []) = each text
long_joined part between each two (text ∷ other ∷ texts) =
    let a = length-append (part text ++ between) (joined_by between (map part (other ∷ texts))) in
    let b = length-append (part text) between in
    let c = long_joined part between each two (other ∷ texts) in
    let d = each text in
    omega arith

-- what the lines of a strip want
pub record IsFit (name : List ℕ) (texts : List (List ℕ)) : Type 0 where
  pub valid : IsName name
  pub fits : length name ≤ strip_columns texts
  pub some : 0 < length texts
  pub plain : All (All IsPlain) texts
  pub filled : All (λ text. 0 < length text) texts

abbrev pub west_part : Bool → List ℕ
west_part west = if west then codes "->" else codes ": "

module _ (above below : List (List ℕ)) (name : List ℕ) (west : Bool) (texts : List (List ℕ)) (fit : IsFit name texts) where
  abbrev rows : List (List ℕ)
  rows = strip name west texts

  abbrev grid : Grid
  grid = above ++ (rows ++ below)

  abbrev t : ℕ
  t = length above + 1

  abbrev columns : ℕ
  columns = strip_columns texts

  abbrev right : ℕ
  right = columns + 2

  abbrev edge_part : List ℕ
  edge_part = joined_by (codes "  ") (map edge texts)

  abbrev middle_part : List ℕ
  middle_part = joined_by (codes "->") (map middle texts)

  row_0 : HasBytes grid t 1 ((44 ∷ signs columns 46) ++ 44 ∷ [])
  row_0 = subst (λ r. HasBytes grid r 1 ((44 ∷ signs columns 46) ++ 44 ∷ [])) (by (length above)) (line_has above rows below 0 (omega arith))
    where
      by : (n : ℕ) → n + 1 + 0 ≡ n + 1
      by n = omega arith

  row_1 : HasBytes grid (t + 1) 1 (((58 ∷ name) ++ signs (columns - length name) 32) ++ 58 ∷ [])
  row_1 = line_has above rows below 1 (omega arith)

  row_2 : HasBytes grid (t + 2) 1 ((codes ": " ++ edge_part) ++ codes ":")
  row_2 = line_has above rows below 2 (omega arith)

  row_3 : HasBytes grid (t + 3) 1 ((west_part west ++ middle_part) ++ codes "-")
  row_3 = line_has above rows below 3 (omega arith)

  row_4 : HasBytes grid (t + 4) 1 ((codes ": " ++ edge_part) ++ codes ":")
  row_4 = line_has above rows below 4 (omega arith)

  row_5 : HasBytes grid (t + 5) 1 ((39 ∷ signs columns 46) ++ 39 ∷ [])
  row_5 = line_has above rows below 5 (omega arith)

  long_west : (w : Bool) → length (west_part w) ≡ 2
  long_west true = refl
  long_west false = refl

  edge_long : 1 + length edge_part ≡ columns
  edge_long = ap (λ n. 1 + n) (long_joined edge (codes "  ") long_edge refl texts) ∙ sym (columns_are texts)

  middle_long : 1 + length middle_part ≡ columns
  middle_long = ap (λ n. 1 + n) (long_joined middle (codes "->") long_middle refl texts) ∙ sym (columns_are texts)

  border : (row b : ℕ) → HasBytes grid row 1 ((b ∷ signs columns 46) ++ b ∷ []) → (c : ℕ) → 1 < c → c < right → cell grid (at row c) ≡ 46
  border row b has c after before =
      let n = long_between b b 46 columns in
      let i : suc (c - 2) ≡ c - 1 = omega arith in
      byte_in grid row 1 c 46 ((b ∷ signs columns 46) ++ b ∷ []) has (c - 1) (omega arith) (omega arith) (ap (λ k. get_or ((b ∷ signs columns 46) ++ b ∷ []) k 32) (sym i) ∙ between_byte b b 46 columns (c - 2) (omega arith))

  border_right : (row b : ℕ) → HasBytes grid row 1 ((b ∷ signs columns 46) ++ b ∷ []) → cell grid (at row right) ≡ b
  border_right row b has =
      let n = long_between b b 46 columns in
      byte_in grid row 1 right b ((b ∷ signs columns 46) ++ b ∷ []) has (suc columns) (omega arith) (omega arith) (between_last b b 46 columns)

  first_byte : (row b : ℕ) (bs : List ℕ) → HasBytes grid row 1 (b ∷ bs) → cell grid (at row 1) ≡ b
  first_byte row b bs has = byte_here grid row 1 b bs has

  tail_byte : (row b : ℕ) (bs : List ℕ) → length bs ≡ columns + 1 → HasBytes grid row 1 (bs ++ b ∷ []) → cell grid (at row right) ≡ b
  tail_byte row b bs long has = byte_here grid row right b [] (moved grid t right row (1 + length bs) right (b ∷ []) (omega arith) (bytes_right grid row 1 bs (b ∷ []) has))

  edge_chain : (row : ℕ) → HasBytes grid row 1 ((codes ": " ++ edge_part) ++ codes ":") → HasBytes grid row 3 (chain edge (codes "  ") (codes ":") texts)
  edge_chain row has =
      subst (HasBytes grid row 3) (chained edge (codes "  ") (codes ":") texts)
      (bytes_right grid row 1 (codes ": ") (edge_part ++ codes ":") (subst (HasBytes grid row 1) (append_assoc (codes ": ") edge_part (codes ":")) has))

  middle_chain : HasBytes grid (t + 3) 3 (chain middle (codes "->") (codes "-") texts)
  middle_chain =
      subst (HasBytes grid (t + 3) 3) (chained middle (codes "->") (codes "-") texts)
      (moved grid t right (t + 3) (1 + length (west_part west)) 3 (middle_part ++ codes "-") (let n = long_west west in omega arith)
      (bytes_right grid (t + 3) 1 (west_part west) (middle_part ++ codes "-") (subst (HasBytes grid (t + 3) 1) (append_assoc (west_part west) middle_part (codes "-")) row_3)))

  west_bytes : (w : Bool) → HasBytes grid (t + 3) 1 (west_part w) → (cell grid (at (t + 3) 1) ≡ entry_byte w 45 58) × (cell grid (at (t + 3) 2) ≡ entry_byte w 62 32)
  west_bytes true has = (byte_here grid (t + 3) 1 45 (62 ∷ []) has, has 1 (omega arith))
  west_bytes false has = (byte_here grid (t + 3) 1 58 (32 ∷ []) has, has 1 (omega arith))

  west_row : HasBytes grid (t + 3) 1 (west_part west)
  west_row = bytes_left grid (t + 3) 1 (west_part west) middle_part (bytes_left grid (t + 3) 1 (west_part west ++ middle_part) (codes "-") row_3)

  edge_bytes : (row : ℕ) → HasBytes grid row 1 ((codes ": " ++ edge_part) ++ codes ":") → HasBytes grid row 1 (codes ": ")
  edge_bytes row has = bytes_left grid row 1 (codes ": ") edge_part (bytes_left grid row 1 (codes ": " ++ edge_part) (codes ":") has)

  edge_end : (row : ℕ) → HasBytes grid row 1 ((codes ": " ++ edge_part) ++ codes ":") → cell grid (at row right) ≡ 58
  edge_end row has = tail_byte row 58 (codes ": " ++ edge_part) (let n = edge_long in omega arith) has

  named_row : HasBytes grid (t + 1) 1 (58 ∷ name)
  named_row = bytes_left grid (t + 1) 1 (58 ∷ name) (signs (columns - length name) 32) (bytes_left grid (t + 1) 1 ((58 ∷ name) ++ signs (columns - length name) 32) (58 ∷ []) row_1)

  after_name : (c : ℕ) → 2 + length name ≤ c → c < right → cell grid (at (t + 1) c) ≡ 32
  after_name c after before =
      let has = bytes_right grid (t + 1) 1 (58 ∷ name) (signs (columns - length name) 32) (bytes_left grid (t + 1) 1 ((58 ∷ name) ++ signs (columns - length name) 32) (58 ∷ []) row_1) in
      let i = c - (2 + length name) in
      let fits = fit.fits in
      byte_in grid (t + 1) (1 + length (58 ∷ name)) c 32 (signs (columns - length name) 32) has i (subst (λ z. i < z) (sym (length-replicate (columns - length name) 32)) (omega arith)) (omega arith)
      (get_or-replicate (columns - length name) i 32 32 (omega arith))

  long_name_row : length ((58 ∷ name) ++ signs (columns - length name) 32) ≡ columns + 1
  long_name_row =
      let a = length-append (58 ∷ name) (signs (columns - length name) 32) in
      let b : length (signs (columns - length name) 32) ≡ columns - length name = length-replicate (columns - length name) 32 in
      let c = fit.fits in
      omega arith

  pub long_line : (i : ℕ) → i < 6 → length (get_or rows i []) ≡ right
  long_line zero lt = long_between 44 44 46 columns
  long_line (suc zero) lt = length-append ((58 ∷ name) ++ signs (columns - length name) 32) (58 ∷ []) ∙ (let n = long_name_row in omega arith)
  long_line (suc (suc zero)) lt = length-append (codes ": " ++ edge_part) (codes ":") ∙ (let n = edge_long in omega arith)
  long_line (suc (suc (suc zero))) lt = length-append (west_part west ++ middle_part) (codes "-") ∙ (let a = length-append (west_part west) middle_part in let n = middle_long in let w = long_west west in omega arith)
  long_line (suc (suc (suc (suc zero)))) lt = length-append (codes ": " ++ edge_part) (codes ":") ∙ (let n = edge_long in omega arith)
  long_line (suc (suc (suc (suc (suc zero))))) lt = long_between 39 39 46 columns
  long_line (suc (suc (suc (suc (suc (suc i)))))) lt = absurd (omega arith)

  pub is_strip : IsStrip grid t right name west texts
  is_strip = record {
    wide = (let c = fit.fits in omega arith);
    valid = fit.valid;
    plain = fit.plain;
    filled = fit.filled;
    boxes = has_boxes grid t right 3 texts fit.some (let e = columns_are texts in omega arith) (edge_chain (t + 2) row_2) middle_chain (edge_chain (t + 4) row_4);
    top_left = first_byte t 44 (signs columns 46 ++ 44 ∷ []) row_0;
    top = border t 44 row_0;
    top_right = border_right t 44 row_0;
    left_1 = first_byte (t + 1) 58 name named_row;
    left_2 = first_byte (t + 2) 58 (32 ∷ []) (edge_bytes (t + 2) row_2);
    left_3 = (west_bytes west west_row).0;
    left_4 = first_byte (t + 4) 58 (32 ∷ []) (edge_bytes (t + 4) row_4);
    right_1 = tail_byte (t + 1) 58 ((58 ∷ name) ++ signs (columns - length name) 32) long_name_row row_1;
    right_2 = edge_end (t + 2) row_2;
    right_3 = tail_byte (t + 3) 45 (west_part west ++ middle_part) (let a = length-append (west_part west) middle_part in let n = middle_long in let w = long_west west in omega arith) row_3;
    right_4 = edge_end (t + 4) row_4;
    bottom_left = first_byte (t + 5) 39 (signs columns 46 ++ 39 ∷ []) row_5;
    bottom = border (t + 5) 39 row_5;
    bottom_right = border_right (t + 5) 39 row_5;
    past = λ row c from to beyond.
        let i = row - t in
        let r : length above + 1 + i ≡ row = omega arith in
        let n = long_line i (omega arith) in
        ap (λ z. cell grid (at z c)) (sym r) ∙ past_line above rows below i c (omega arith) (omega arith);
    name_row = bytes_right grid (t + 1) 1 (58 ∷ []) name named_row;
    after_name = after_name;
    gap_2 = edge_bytes (t + 2) row_2 1 (omega arith);
    gap_3 = (west_bytes west west_row).1;
    gap_4 = edge_bytes (t + 4) row_4 1 (omega arith);
  }
