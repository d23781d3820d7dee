-- The cells of a grid's lines, read off the lines.
use Rattle.std.specs.Prelude.{◌≡◌, ◌+◌, ◌<◌, ℕ, zero, suc, List, [], ◌∷◌, ◌++◌, length}
use Rattle.std.proofs.Common.{arith, sym, ap, ◌∙◌, get_or}
use Rattle.std.proofs.lemmas.List.{length-append, get_or_append_left, get_or-append-add, get_or_past}
use Rattle.two_d.specs.Places.{at}
use Rattle.two_d.specs.Cells.{Grid, cell}

-- from a column on these bytes stand in a row
abbrev pub HasBytes : Grid → ℕ → ℕ → List ℕ → Type 0
HasBytes grid row col bytes = (i : ℕ) → i < length bytes → cell grid (at row (col + i)) ≡ get_or bytes i 32

-- a line of lines that stand between others
pub line_has : (above rows below : List (List ℕ)) (i : ℕ) → i < length rows → HasBytes (above ++ (rows ++ below)) (length above + 1 + i) 1 (get_or rows i [])
line_has above rows below i lt j less =
    let row_is : length above + 1 + i ≡ suc (length above + i) = omega arith in
    let col_is : 1 + j ≡ suc j = omega arith in
    ap (λ r. cell (above ++ (rows ++ below)) (at r (1 + j))) row_is
    ∙ (ap (λ c. cell (above ++ (rows ++ below)) (at (suc (length above + i)) c)) col_is
    ∙ ap (λ line. get_or line j 32) (get_or-append-add above (rows ++ below) i [] ∙ get_or_append_left rows below [] i lt))

-- the bytes in parts
pub bytes_left : (grid : Grid) (row col : ℕ) (xs ys : List ℕ) → HasBytes grid row col (xs ++ ys) → HasBytes grid row col xs
bytes_left grid row col xs ys has i lt = let n = length-append xs ys in has i (omega arith) ∙ get_or_append_left xs ys 32 i lt

pub bytes_right : (grid : Grid) (row col : ℕ) (xs ys : List ℕ) → HasBytes grid row col (xs ++ ys) → HasBytes grid row (col + length xs) ys
bytes_right grid row col xs ys has i lt =
    let n = length-append xs ys in
    let c : col + length xs + i ≡ col + (length xs + i) = omega arith in
    ap (λ c. cell grid (at row c)) c ∙ (has (length xs + i) (omega arith) ∙ get_or-append-add xs ys i 32)

pub byte_here : (grid : Grid) (row col b : ℕ) (bs : List ℕ) → HasBytes grid row col (b ∷ bs) → cell grid (at row col) ≡ b
byte_here grid row col b bs has = let c : col ≡ col + 0 = omega arith in ap (λ x. cell grid (at row x)) c ∙ has 0 (omega arith)

-- past the end of a line there are spaces
pub past_line : (above rows below : List (List ℕ)) (i c : ℕ) → i < length rows → length (get_or rows i []) < c → cell (above ++ (rows ++ below)) (at (length above + 1 + i) c) ≡ 32
past_line above rows below i zero lt past = absurd (omega arith)
past_line above rows below i (suc c) lt past =
    let row_is : length above + 1 + i ≡ suc (length above + i) = omega arith in
    ap (λ r. cell (above ++ (rows ++ below)) (at r (suc c))) row_is
    ∙ (ap (λ line. get_or line c 32) (get_or-append-add above (rows ++ below) i [] ∙ get_or_append_left rows below [] i lt)
    ∙ get_or_past (get_or rows i []) c 32 (omega arith))

-- a byte of the line, by its column
pub byte_in : (grid : Grid) (row col c b : ℕ) (bs : List ℕ) → HasBytes grid row col bs → (i : ℕ) → i < length bs → col + i ≡ c → get_or bs i 32 ≡ b → cell grid (at row c) ≡ b
byte_in grid row col c b bs has i lt e is = ap (λ x. cell grid (at row x)) (sym e) ∙ (has i lt ∙ is)
