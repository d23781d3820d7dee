-- The numbers with which the program ends.
use Rattle.std.specs.Prelude.{ℕ}
use Rattle.codex_top.specs.declared.status.Status.{Status}
use Rattle.codex_top.specs.declared.status.Status.TheVariants.{Done, Refused, Usage, Stuck}
use Rattle.codex_top.specs.declared.status.Status.TheVariants.{MachineFault, Limit, Budget}
use Rattle.codex_top.specs.declared.status.Status.TheVariants.{ReadFault, WriteFault, Memory}

-- the number of a status
abbrev pub number_of : Status → ℕ
number_of Done = 0
number_of Refused = 1
number_of Usage = 2
number_of Stuck = 3
number_of MachineFault = 4
number_of Limit = 5
number_of Budget = 6
number_of ReadFault = 7
number_of WriteFault = 8
number_of Memory = 9
