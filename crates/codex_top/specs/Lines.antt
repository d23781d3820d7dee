-- The lines that the program prints on `err`, and the status that each goes with.
use Rattle.std.specs.Prelude.{ℕ, List, [], ◌∷◌, codes, decimal}
use Rattle.std.specs.List.{concat}
use Rattle.um_machine.specs.Stops.{stop_name}
use Rattle.codex_top.specs.declared.status.Status.{Status}
use Rattle.codex_top.specs.declared.status.Status.TheVariants as status
use Rattle.codex_top.specs.declared.refusal.After.{After}
use Rattle.codex_top.specs.declared.refusal.After.TheVariants.{Nothing, Number, At, InModule, InBox}
use Rattle.codex_top.specs.declared.refusal.After.TheVariants.{InExit}
use Rattle.codex_top.specs.declared.line.Limit.{Limit}
use Rattle.codex_top.specs.declared.line.Limit.TheVariants.{ArraysFull, WordsFull}
use Rattle.codex_top.specs.declared.line.Counted.{Counted}
use Rattle.codex_top.specs.declared.line.Counted.TheVariants.{Cycles, Events, Lines}
use Rattle.codex_top.specs.declared.line.Line.{Line}
use Rattle.codex_top.specs.declared.line.Line.TheVariants.{Usage, Refused, Fault, Limited, Budget}
use Rattle.codex_top.specs.declared.line.Line.TheVariants.{ReadFault, WriteFault, NoMemory}
use Rattle.codex_top.specs.Limits.{limits}
use Rattle.codex_top.specs.RefusalView.{RefusalView}

-- the name of a limit, what there would be, and the most that there may be
abbrev pub limit_name : Limit → List ℕ
limit_name (ArraysFull count) = codes "ArraysFull"
limit_name (WordsFull count) = codes "WordsFull"

abbrev pub limit_count : Limit → ℕ
limit_count (ArraysFull count) = count
limit_count (WordsFull count) = count

abbrev pub limit_number : Limit → ℕ
limit_number (ArraysFull count) = limits.arrays
limit_number (WordsFull count) = limits.words

-- what a budget counts
abbrev pub counted_name : Counted → List ℕ
counted_name Cycles = codes "cycles"
counted_name Events = codes "events"
counted_name Lines = codes "lines"

-- the line that tells how the program is used
abbrev pub usage_pieces : List (List ℕ)
usage_pieces =
    codes "usage: check F | eval F [PICKS [N]] | trace F PICKS N | compile F OUT | run F [N]"
    ∷ codes " | asm F OUT | dis F | debug F INPUT | selftest N | draw F | type F SHEET"
    ∷ codes " | save F N OUT | resume F N\n" ∷ []

-- the pieces of what comes after the name of a refusal, to the end of the line
abbrev pub after_pieces : After → List (List ℕ)
after_pieces Nothing = codes "\n" ∷ []
after_pieces (Number count) = codes " " ∷ decimal count ∷ codes "\n" ∷ []
after_pieces (At place) =
    codes " at " ∷ decimal place.row ∷ codes ":" ∷ decimal place.col ∷ codes "\n" ∷ []
after_pieces (InModule name) = codes " " ∷ name ∷ codes "\n" ∷ []
after_pieces (InBox name number) =
    codes " " ∷ name ∷ codes " " ∷ decimal number ∷ codes "\n" ∷ []
after_pieces (InExit name number) =
    codes " " ∷ name ∷ codes " exit " ∷ decimal number ∷ codes "\n" ∷ []

-- the pieces of the line of a refusal
abbrev pub refusal_pieces : RefusalView → List (List ℕ)
refusal_pieces r = codes "refused " ∷ decimal r.number ∷ codes " " ∷ r.name ∷ after_pieces r.after

-- the pieces of a line
abbrev pub pieces_of : Line → List (List ℕ)
pieces_of Usage = usage_pieces
pieces_of (Refused refusal) = refusal_pieces refusal
pieces_of (Fault stop cycle) =
    codes "fault " ∷ stop_name stop ∷ codes " at cycle " ∷ decimal cycle ∷ codes "\n" ∷ []
pieces_of (Limited limit cycle) =
    codes "limit " ∷ limit_name limit ∷ codes " at cycle " ∷ decimal cycle ∷ codes ": "
    ∷ decimal (limit_count limit) ∷ codes " over " ∷ decimal (limit_number limit) ∷ codes "\n" ∷ []
pieces_of (Budget count counted) =
    codes "budget " ∷ decimal count ∷ codes " " ∷ counted_name counted ∷ codes "\n" ∷ []
pieces_of ReadFault = codes "read fault\n" ∷ []
pieces_of WriteFault = codes "write fault\n" ∷ []
pieces_of NoMemory = codes "no memory\n" ∷ []

-- the line, which LF ends
abbrev pub line_text : Line → List ℕ
line_text line = concat (pieces_of line)

-- the status that goes with a line
abbrev pub status_of : Line → Status
status_of Usage = status.Usage
status_of (Refused refusal) = status.Refused
status_of (Fault stop cycle) = status.MachineFault
status_of (Limited limit cycle) = status.Limit
status_of (Budget count counted) = status.Budget
status_of ReadFault = status.ReadFault
status_of WriteFault = status.WriteFault
status_of NoMemory = status.Memory
