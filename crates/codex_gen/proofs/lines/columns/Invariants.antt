use Rattle.std.proofs.Common.{◌≡◌, ◌+◌, length, take, ℕ, Vec}
use Rattle.std.specs.List.{sum_by}
use Rattle.std.specs.declared.alloc.Global.{Global}
use Rattle.codex_gen.proofs.lines.columns.Given as goal

abbrev pub invariant-loop-one : goal.invariant-loop-one
invariant-loop-one l = l.boxes ≡ sum_by (λ (one : Vec ℕ Global). length one.items + 2) (take l.one-index l.texts)
