-- There is always a new identifier.
use Rattle.std.proofs.Common.{◌≡◌, ◌≢◌, ℕ, ◌+◌, ◌≤◌, max, List, [], ◌∷◌, Some, None, refl, ◌∙◌, arith}
use Rattle.std.specs.Ordering.{nat_cmp}
use Rattle.std.specs.FinMap as map
use Rattle.std.proofs.lemmas.Bool.{cond-false}
use Rattle.um_word.specs.State.{Arrays}
use Rattle.um_word.specs.Leads.{IsNew}
use Rattle.um_word.proofs.Live.{apart}

-- a number above all identifiers of the entries
above : List (ℕ × List ℕ) → ℕ
above [] = 1
above (e ∷ es) = max (e.0 + 1) (above es)

none_above : (es : List (ℕ × List ℕ)) (k : ℕ) → above es ≤ k → map.find nat_cmp k es ≡ None
unfolding above
none_above [] k h = refl
none_above (e ∷ es) k h =
    let far : k ≢ e.0 = λ same. omega (arith, same, h) in
    cond-false _ (Some e.1) (map.find nat_cmp k es) (apart k e.0 far) ∙ none_above es k (omega (arith, h))

one_above : (es : List (ℕ × List ℕ)) → 1 ≤ above es
unfolding above
one_above [] = omega arith
one_above (e ∷ es) = let h = one_above es in omega (arith, h)

pub some_new : (m : Arrays) → (id : ℕ) × IsNew m id
some_new m =
    let k = above (map.entries m) in
    let positive = one_above (map.entries m) in
    (k, record { not_zero = λ e. omega (arith, e, positive); absent = map.get-entries m k ∙ none_above (map.entries m) k (omega arith) })
