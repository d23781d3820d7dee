use Rattle.std.proofs.Common.{◌≡◌, ℕ, ◌≤◌, ◌<◌, ◌⊎◌, get_or, Some, None, vec_len}
use Rattle.grid_reader.proofs.found.lay.Given as goal

abbrev pub invariant-columns : goal.invariant-columns
invariant-columns l = record {
  long : l.to < vec_len l.columns;
  inside : (k : ℕ) → l.from ≤ k → k < l.column → get_or l.columns.items k None ≡ Some l.figure;
  outside : (k : ℕ) → (k < l.from) ⊎ (l.column ≤ k) → get_or l.columns.items k None ≡ get_or l.fn.columns.items k None;
}
