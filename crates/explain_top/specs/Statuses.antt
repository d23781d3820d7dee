-- How the program ended: the numbers and the lines that `codex` has too.
use Rattle.std.specs.Prelude.{ℕ, List, Option, Some, None, codes}
use Rattle.explain_top.specs.declared.status.Status.{Status}
use Rattle.explain_top.specs.declared.status.Status.TheVariants.{Done, Refused, Usage, Stuck, Budget}
use Rattle.explain_top.specs.declared.status.Status.TheVariants.{ReadFault, WriteFault}
use Rattle.explain_top.specs.declared.status.Status.TheVariants.{Memory}

-- the number with which the program ends
abbrev pub number_of : Status → ℕ
number_of Done = 0
number_of Refused = 1
number_of Usage = 2
number_of Stuck = 3
number_of Budget = 6
number_of ReadFault = 7
number_of WriteFault = 8
number_of Memory = 9

-- the line that tells on `err` why there is no whole page, where there is none
abbrev pub line_of : Status → Option (List ℕ)
line_of Done = None
line_of Refused = None
line_of Usage = None
line_of Stuck = None
line_of Budget = None
line_of ReadFault = Some (codes "read fault\n")
line_of WriteFault = Some (codes "write fault\n")
line_of Memory = Some (codes "no memory\n")

-- the line of an assembly text with more bytes than one may have
abbrev pub text_too_long : List ℕ
text_too_long = codes "refused 46 TextTooLong\n"
