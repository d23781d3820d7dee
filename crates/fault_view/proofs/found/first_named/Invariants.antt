-- No module so far has the name.
use Rattle.two_d.specs.Programs.{modules_of}
use Rattle.two_d.proofs.NamesFound.{NotBefore}
use Rattle.fault_view.proofs.found.first_named.Given as goal

abbrev pub invariant-loop-number : goal.invariant-loop-number
invariant-loop-number l = NotBefore (modules_of l.modules) l.name l.number
