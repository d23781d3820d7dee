use Rattle.std.proofs.Common.{◌≡◌, take}
use Rattle.codex_top.specs.TypeCommand as plain
use Rattle.codex_top.proofs.types.count_types.Given as goal

abbrev pub invariant-loop-row : goal.invariant-loop-row
invariant-loop-row l = l.types ≡ plain.types_in (take l.row-index l.rows)
