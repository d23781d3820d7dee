-- Rows that are joined by one byte.
use Rattle.std.proofs.Common.{◌≡◌, ℕ, ◌<◌, List, [], ◌∷◌, ◌++◌, length, refl, sym, ap, ◌∙◌, append_assoc, arith}
use Rattle.std.specs.List.{join_with_byte}

-- one row more
pub join-push : (c : ℕ) (rows : List (List ℕ)) (row : List ℕ) → 0 < length rows → join_with_byte c (rows ++ row ∷ []) ≡ join_with_byte c rows ++ (c ∷ row)
join-push c [] row some = absurd (omega arith)
join-push c (x ∷ []) row some = refl
join-push c (x ∷ y ∷ rows) row some = ap (λ v. x ++ (c ∷ v)) (join-push c (y ∷ rows) row (omega arith)) ∙ sym (append_assoc x (c ∷ join_with_byte c (y ∷ rows)) (c ∷ row))
