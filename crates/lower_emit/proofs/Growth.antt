-- A value that stands goes on standing.
use Rattle.std.proofs.Common.{◌≡◌, ◌≢◌, ℕ, ◌<◌, List, length, Option, Some, None, sym, ap, ◌∙◌, arith}
use Rattle.std.specs.FinMap as map
use Rattle.um_word.specs.State.{Arrays}
use Rattle.codex_values.specs.Value.{Value, unit, pair, inl, inr}
use Rattle.lower_emit.specs.Stands.{CellArray, Stands}
use Rattle.lower_emit.specs.inner.Stretches.{KeepsArrays}

size : Option (List ℕ) → ℕ
size None = 0
size (Some ws) = length ws

module _ (frame : ℕ) (slots : List ℕ) (m n : Arrays) (keeps : KeepsArrays frame m n) (there : map.get m frame ≡ Some slots) (long : 4 < length slots) where
  -- a cell is no frame
  pub cell_stays : (k a b c d : ℕ) → CellArray m k a b c d → CellArray n k a b c d
  unfolding size
  cell_stays k a b c d h =
      (h.0, keeps k _ h.0 (λ e. let same : 4 ≡ length slots = ap size (sym h.1 ∙ ap (map.get m) e ∙ there) in omega (arith, same, long)) h.1)

  pub grows : (v : Value) (k : ℕ) → Stands m k v → Stands n k v
  grows unit k h = cell_stays k 0 0 0 0 h
  grows (inl v) k h = (h.0, cell_stays k _ 0 0 0 h.1, grows v h.0 h.2)
  grows (inr v) k h = (h.0, cell_stays k 0 _ 0 0 h.1, grows v h.0 h.2)
  grows (pair v w) k h = (h.0, h.1, cell_stays k 0 0 _ _ h.2, grows v h.0 h.3, grows w h.1 h.4)

-- a value stands where no array but array 0 changed
pub grows_all : (m n : Arrays) → KeepsArrays 0 m n → (v : Value) (k : ℕ) → Stands m k v → Stands n k v
grows_all m n keeps unit k h = (h.0, keeps k _ h.0 h.0 h.1)
grows_all m n keeps (inl v) k h = (h.0, (h.1.0, keeps k _ h.1.0 h.1.0 h.1.1), grows_all m n keeps v h.0 h.2)
grows_all m n keeps (inr v) k h = (h.0, (h.1.0, keeps k _ h.1.0 h.1.0 h.1.1), grows_all m n keeps v h.0 h.2)
grows_all m n keeps (pair v w) k h = (h.0, h.1, (h.2.0, keeps k _ h.2.0 h.2.0 h.2.1), grows_all m n keeps v h.0 h.3, grows_all m n keeps w h.1 h.4)

pub stands_not_zero : (m : Arrays) (v : Value) (k : ℕ) → Stands m k v → k ≢ 0
stands_not_zero m unit k h = h.0
stands_not_zero m (inl v) k h = h.1.0
stands_not_zero m (inr v) k h = h.1.0
stands_not_zero m (pair v w) k h = h.2.0
