-- The modules so far are well.
use Rattle.two_d.specs.Programs.{modules_of}
use Rattle.two_d.specs.inner.TableParts.{boxes_of}
use Rattle.two_d.proofs.TableLemmas.{GoesOnAt}
use Rattle.two_d.proofs.table.check_modules.Given as goal

abbrev pub invariant-loop-number : goal.invariant-loop-number
invariant-loop-number l = GoesOnAt (λ m one. boxes_of (modules_of l.modules) m one.boxes) (modules_of l.modules) l.number
