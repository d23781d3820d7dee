use Rattle.std.proofs.Common.{◌≡◌, ◌++◌, ◌-◌, ◌%◌, map}
use Rattle.codex_gen.specs.Generated.{module_count, modules_from, grid_of_number, next_words}
use Rattle.grid_picture.specs.Lined.{lined}
use Rattle.codex_gen.proofs.generating.generate.Given as goal

abbrev pub invariant-loop-i : goal.invariant-loop-i
invariant-loop-i l = record {
  counted : l.count ≡ module_count l.number;
  goes_on : l.text.items ++ lined (modules_from l.i (map (λ word. word % 5) (next_words l.words (l.count - l.i)))) ≡ grid_of_number l.number;
}
