-- A mark that is set leaves fewer that aren't.
use Rattle.std.proofs.Common.{ℕ, zero, suc, ◌<◌, ◌≤◌, List, [], ◌∷◌, length, get_or, Bool, true, false, IsTrue, refl, arith}
use Rattle.std.proofs.Math.ListN.{set}
use Rattle.wire_trace.specs.inner.Areas.{falses}

pub set_no_more : (bs : List Bool) (i : ℕ) → falses (set bs i true) ≤ falses bs
set_no_more [] i = omega arith
set_no_more (true ∷ bs) zero = omega arith
set_no_more (false ∷ bs) zero = omega arith
set_no_more (true ∷ bs) (suc i) = set_no_more bs i
set_no_more (false ∷ bs) (suc i) = let le = set_no_more bs i in omega arith

pub set_fewer : (bs : List Bool) (i : ℕ) → i < length bs → (IsTrue (get_or bs i false) → ⊥) → falses (set bs i true) < falses bs
set_fewer [] i lt isnt = absurd (omega arith)
set_fewer (true ∷ bs) zero lt isnt = absurd (isnt refl)
set_fewer (false ∷ bs) zero lt isnt = omega arith
set_fewer (true ∷ bs) (suc i) lt isnt = set_fewer bs i (omega arith) isnt
set_fewer (false ∷ bs) (suc i) lt isnt = let less = set_fewer bs i (omega arith) isnt in omega arith
