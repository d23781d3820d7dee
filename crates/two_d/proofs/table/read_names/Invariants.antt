-- The names so far are held, and none was repeated.
use Rattle.std.specs.Prelude.{◌≡◌, ℕ, ◌<◌, map, take}
use Rattle.two_d.specs.inner.NameLists.{listed}
use Rattle.two_d.specs.Programs.{modules_of}
use Rattle.two_d.specs.Table.{RepeatsName}
use Rattle.two_d.proofs.table.read_names.Given as goal

abbrev pub invariant-loop-number : goal.invariant-loop-number
invariant-loop-number l = record {
  held : listed l.names ≡ map (λ m. m.name) (take l.number (modules_of l.modules));
  apart : (k : ℕ) → k < l.number → RepeatsName (modules_of l.modules) k → ⊥;
}
