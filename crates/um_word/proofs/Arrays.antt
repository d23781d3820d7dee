-- What the arrays hold after a change.
use Rattle.std.proofs.Common.{◌≡◌, ◌≢◌, ℕ, ◌+◌, List, false, cond, Some, None, refl, ap, ◌∙◌, arith}
use Rattle.std.specs.Ordering.{nat_cmp, is_eq}
use Rattle.std.specs.Cmp.{nat_cmp_total}
use Rattle.std.specs.declared.cmp.Ordering.{Ordering}
use Rattle.std.specs.declared.cmp.Ordering.TheVariants.{Less, Equal, Greater}
use Rattle.std.specs.FinMap as map
use Rattle.std.specs.FinMap.{gets}
use Rattle.um_word.specs.State.{Arrays}

pub get-insert_same : (m : Arrays) (k : ℕ) (ws : List ℕ) → map.get (map.insert m k ws) k ≡ Some ws
get-insert_same m k ws = grind (arith, gets)

not_equal : (r : Ordering) → (r ≡ Equal → ⊥) → is_eq r ≡ false
not_equal Less h = refl
not_equal Equal h = absurd (h refl)
not_equal Greater h = refl

pub get-insert_other : (m : Arrays) (k : ℕ) (ws : List ℕ) (q : ℕ) → q ≢ k → map.get (map.insert m k ws) q ≡ map.get m q
get-insert_other m k ws q apart =
    map.get-insert nat_cmp_total m k ws q
    ∙ ap (λ b. cond b (Some ws) (map.get m q)) (not_equal (nat_cmp q k) (λ e. apart (map.nat_cmp-IsAntisymmetric q k e)))

pub len-insert_new : (m : Arrays) (k : ℕ) (ws : List ℕ) → map.get m k ≡ None → map.len (map.insert m k ws) ≡ map.len m + 1
len-insert_new m k ws none = grind (arith, gets)

pub len-insert_old : (m : Arrays) (k : ℕ) (ws vs : List ℕ) → map.get m k ≡ Some vs → map.len (map.insert m k ws) ≡ map.len m
len-insert_old m k ws vs some = grind (arith, gets)
