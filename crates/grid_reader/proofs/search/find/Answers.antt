use Rattle.std.proofs.Common.{arith}
use Rattle.grid_reader.proofs.SearchLemmas.{starts_at, first_column, next_row, ends_at}
use Rattle.grid_reader.proofs.search.find.Goals as goal

pub rows-init : goal.rows-init
rows-init g c = record {
  first = c.new-found.ensures.first;
  found = starts_at (g.F.Figures.kind c.args.figures.now) c.new-found.result c.start-start.result.row c.new-found.ensures.figures c.new-found.ensures.lowest (λ q corner. c.start-start.ensures.row q corner);
}

pub columns-init : goal.columns-init
columns-init g c = record {
  first = c.rows.invariant.first;
  found = first_column (g.F.Figures.kind c.args.figures.now) (g.met.F.Figures.searchable c.args.figures.now) c.rows.found c.rows.row c.start-start.result.col c.rows.invariant.found (λ q corner. c.start-start.ensures.col q corner);
}

pub rows-preserved : goal.rows-preserved
rows-preserved g c = record {
  first = c.columns.invariant.first;
  found = next_row (g.F.Figures.kind c.args.figures.now) (g.met.F.Figures.searchable c.args.figures.now) c.columns.found c.rows.row c.columns.col c.columns.invariant.found (λ q corner same. omega (arith, c.end_col-col-end.ensures q corner same));
}

pub returns-clause-read : goal.returns-clause-read
returns-clause-read g c =
    ends_at (g.F.Figures.kind c.args.figures.now) (g.met.F.Figures.searchable c.args.figures.now) c.rows.found c.rows.row c.rows.invariant.found (λ q corner. omega (arith, c.end_row-row-end.ensures q corner))
