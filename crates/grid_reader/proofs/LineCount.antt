-- A text has at most one line more than it has bytes.
use Rattle.std.proofs.Common.{ℕ, ◌+◌, ◌≤◌, Bool, true, false, cond, eqb, List, [], ◌∷◌, length, arith}
use Rattle.std.proofs.lemmas.List.Splits.{length-slice_split}
use Rattle.std.proofs.lemmas.List.Sums.{count_by-le-length}
use Rattle.std.specs.List.{slice_split}
use Rattle.std.specs.Str.Lines.{lines, lines_of_parts}

few_in_last : (b : Bool) (x : List ℕ) → length (cond b [] (x ∷ [])) ≤ 1
few_in_last true x = omega arith
few_in_last false x = omega arith

length-lines_of_parts-le : (parts : List (List ℕ)) → length (lines_of_parts parts) ≤ length parts
length-lines_of_parts-le [] = omega arith
length-lines_of_parts-le (x ∷ []) = few_in_last _ x
length-lines_of_parts-le (x ∷ y ∷ more) = omega (arith, length-lines_of_parts-le (y ∷ more))

pub length-lines-le : (text : List ℕ) → length (lines text) ≤ length text + 1
length-lines-le text =
    omega (arith, length-lines_of_parts-le (slice_split (λ b. eqb b 10) text), length-slice_split (λ b. eqb b 10) text, count_by-le-length (λ b. eqb b 10) text)
