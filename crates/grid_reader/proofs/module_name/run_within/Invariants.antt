use Rattle.std.proofs.Common.{◌≡◌, ℕ, ◌+◌, ◌<◌, length, get_or}
use Rattle.std.specs.List.{All}
use Rattle.two_d.specs.Cells.{cell}
use Rattle.two_d.specs.Names.{IsNameByte}
use Rattle.two_d.specs.Places.{at}
use Rattle.grid_reader.proofs.module_name.run_within.Given as goal

abbrev pub invariant-loop-col : goal.invariant-loop-col
invariant-loop-col l = record {
  so_far : l.left + 1 + length l.run.items ≡ l.col;
  letters : All IsNameByte l.run.items;
  written : (i : ℕ) → i < length l.run.items → cell l.grid (at l.row (l.left + 1 + i)) ≡ get_or l.run.items i 0;
}
