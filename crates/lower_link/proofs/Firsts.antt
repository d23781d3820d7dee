-- The numbers of the first texts.
use Rattle.std.specs.Prelude.{◌≡◌, ℕ, zero, suc, ◌+◌, ◌<◌, ◌≤◌, List, [], ◌∷◌, ◌++◌, length, take, slice_get, Some}
use Rattle.std.proofs.Common.{ap, arith}
use Rattle.two_d.specs.Programs.{BoxForm, Program, module_at, box_count}
use Rattle.two_d.specs.Weights.{boxes_part, weight}
use Rattle.lower_emit.specs.KnownOutcomes.{first_text}
use Rattle.lower_link.proofs.TextLines.{weight_more}

boxes_few : (rows : List BoxForm) → length rows ≤ boxes_part rows
boxes_few [] = omega arith
boxes_few (row ∷ rows) = omega (arith, boxes_few rows)

first_below : (P : Program) (n : ℕ) → n ≤ length P → first_text P n ≤ weight (take n P)
first_below P zero le = omega arith
first_below P (suc n) le =
    omega (arith, first_below P n (omega (arith, le)), weight_more P n (omega (arith, le)), boxes_few (module_at P n).boxes)

weight_below : (P : Program) (n : ℕ) → weight (take n P) ≤ weight P
weight_below P zero = omega arith
weight_below [] (suc n) = omega arith
weight_below (m ∷ P) (suc n) = omega (arith, weight_below P n)

-- there are no more texts than the weight
pub first_few : (P : Program) (n : ℕ) → n < length P → first_text P n + box_count P n + 2 ≤ weight P
first_few P n lt = omega (arith, first_below P (suc n) (omega (arith, lt)), weight_below P (suc n))

-- one more of what stands in a list at each place
pub one_more : (f : ℕ → ℕ) (xs : List ℕ) (y : ℕ) → ((m : ℕ) → m < length xs → slice_get xs m ≡ Some (f m)) → y ≡ f (length xs) → (m : ℕ) → m < length xs + 1 → slice_get (xs ++ y ∷ []) m ≡ Some (f m)
one_more f [] y h e zero lt = ap Some e
one_more f [] y h e (suc m) lt = absurd (omega (arith, lt))
one_more f (x ∷ xs) y h e zero lt = h 0 (omega arith)
one_more f (x ∷ xs) y h e (suc m) lt = one_more (λ k. f (suc k)) xs y (λ k less. h (suc k) (omega (arith, less))) e m (omega (arith, lt))
