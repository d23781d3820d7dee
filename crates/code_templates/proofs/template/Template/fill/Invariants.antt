use Rattle.std.proofs.Common.{◌≡◌, map, take, length}
use Rattle.code_templates.specs.Rows.{filled}
use Rattle.code_templates.proofs.template.Template.fill.Given as goal

abbrev pub invariant-loop-at : goal.invariant-loop-at
invariant-loop-at g l = record {
  count : length l.self.rows ≡ g.row.N;
  long : length l.words ≡ length l.self.rows;
  so_far : take l.at l.words ≡ map (filled l.holes.values) (take l.at l.self.rows);
}
