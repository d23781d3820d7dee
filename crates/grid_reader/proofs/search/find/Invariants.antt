use Rattle.std.proofs.Common.{◌≡◌}
use Rattle.two_d.specs.Places.{at}
use Rattle.grid_reader.specs.inner.Search.{IsFoundBefore}
use Rattle.grid_reader.proofs.search.find.Given as goal

abbrev pub invariant-rows : goal.invariant-rows
invariant-rows g l = record {
  first : l.found.first ≡ l.start.col;
  found : IsFoundBefore (g.F.Figures.kind l.figures) (at l.row 0) l.found;
}

abbrev pub invariant-columns : goal.invariant-columns
invariant-columns g l = record {
  first : l.found.first ≡ l.start.col;
  found : IsFoundBefore (g.F.Figures.kind l.figures) (at l.row l.col) l.found;
}
