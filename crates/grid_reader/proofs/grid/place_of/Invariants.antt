use Rattle.std.proofs.Common.{◌≡◌, ◌+◌, ◌≤◌, take, fold}
use Rattle.two_d.specs.Cells.{next_place}
use Rattle.two_d.specs.Places.{at}
use Rattle.grid_reader.proofs.grid.place_of.Given as goal

abbrev pub invariant-loop-byte : goal.invariant-loop-byte
invariant-loop-byte l = (at l.row l.col ≡ fold next_place (at 1 1) (take l.byte-index l.bytes)) × (l.row ≤ l.byte-index + 1) × (l.col ≤ l.byte-index + 1)
