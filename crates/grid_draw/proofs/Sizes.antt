-- The bytes of a drawing, counted.
use Rattle.std.specs.Prelude.{◌≡◌, ◌+◌, ◌*◌, ℕ, zero, suc, List, [], ◌∷◌, ◌++◌, length, map}
use Rattle.std.specs.List.{flat_map, range_with_len}
use Rattle.std.proofs.Common.{arith, refl, sym, ap, ◌∙◌, append_assoc}
use Rattle.std.proofs.lemmas.List.{length-append}
use Rattle.std.proofs.lemmas.List.Sums.{sum_by-cons}
use Rattle.two_d.specs.Programs.{Program}
use Rattle.grid_picture.specs.Lined.{lined}
use Rattle.grid_draw.specs.Layout.{columns, rows, drawn_lines, drawing_of}
use Rattle.grid_draw.specs.inner.Sizes.{size_of, sizes_of}
use Rattle.grid_draw.proofs.Drawn.{line_of, line_long}

-- lines behind lines
pub lined_append : (xs ys : List (List ℕ)) → lined (xs ++ ys) ≡ lined xs ++ lined ys
lined_append [] ys = refl
lined_append (x ∷ xs) ys =
    ap (λ t. (x ++ 10 ∷ []) ++ t) (lined_append xs ys) ∙ sym
    (append_assoc (x ++ 10 ∷ []) (lined xs) (lined ys))

-- lines of one length
lined_even : (f : ℕ → List ℕ) (n : ℕ) → ((r : ℕ) → length (f r) ≡ n) → (a k : ℕ)
    → length (lined (map f (range_with_len a k))) ≡ (n + 1) * k
lined_even f n each a zero = omega arith
lined_even f n each a (suc k) =
    let rest = lined_even f n each (a + 1) k in
    let long = each a in
    let line = length-append (f a) (10 ∷ []) in
    let all = length-append (f a ++ 10 ∷ []) (lined (map f (range_with_len (a + 1) k))) in
    grind (arith, rest, long, line, all)

-- the bytes are as many as the layout counts
pub size_is : (P : Program) → length (drawing_of P) ≡ sizes_of P
size_is [] = refl
size_is (m ∷ P) =
    let here : length (lined (drawn_lines m)) ≡ (columns m + 2 + 1) * (rows m + 2) =
    lined_even (line_of m) (columns m + 2) (line_long m) 0 (rows m + 2) in
    let rest : length (drawing_of P) ≡ sizes_of P = size_is P in
    let whole : length (drawing_of (m ∷ P)) ≡ length (lined (drawn_lines m)) + length (drawing_of P)
    = ap length (lined_append (drawn_lines m) (flat_map drawn_lines P))
    ∙ length-append (lined (drawn_lines m)) (drawing_of P) in
    let same : (columns m + 2 + 1) * (rows m + 2) ≡ (columns m + 3) * (rows m + 2) =
    ap (λ n. n * (rows m + 2)) (omega arith) in
    let sum : sizes_of (m ∷ P) ≡ (columns m + 3) * (rows m + 2) + sizes_of P =
    sum_by-cons size_of m P in
    omega (arith, here, rest, whole, same, sum)
