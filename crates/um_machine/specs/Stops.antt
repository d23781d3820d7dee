-- Why a machine stops, beside its table.
use Rattle.std.specs.Prelude.{ℕ, List, Bool, true, false, Option, Some, codes}
use Rattle.um_word.specs.declared.op.Op.{Op}
use Rattle.um_word.specs.declared.op.Op.TheVariants.{Amend, Alloc, Out, Input}
use Rattle.um_word.specs.Table.{Fault}
use Rattle.um_word.specs.Table as table
use Rattle.um_machine.specs.declared.stop.Turn.{Turn}
use Rattle.um_machine.specs.declared.stop.Turn.TheVariants as turns
use Rattle.um_machine.specs.declared.stop.Stop.{Stop}
use Rattle.um_machine.specs.declared.stop.Stop.TheVariants.{Halted, Budget, FingerOutside}
use Rattle.um_machine.specs.declared.stop.Stop.TheVariants.{BadOperator, IndexInactive}
use Rattle.um_machine.specs.declared.stop.Stop.TheVariants.{IndexOutside, AmendInactive}
use Rattle.um_machine.specs.declared.stop.Stop.TheVariants.{AmendOutside, DivideByZero, AbandonZero}
use Rattle.um_machine.specs.declared.stop.Stop.TheVariants.{AbandonInactive, LoadInactive}
use Rattle.um_machine.specs.declared.stop.Stop.TheVariants.{OutputTooLarge, ArraysFull, WordsFull}
use Rattle.um_machine.specs.declared.stop.Stop.TheVariants.{ReadFault, WriteFault, Memory}

-- the stop of a fault of the table
abbrev pub stop_of : Fault → Stop
stop_of table.FingerOutside = FingerOutside
stop_of table.BadOperator = BadOperator
stop_of table.IndexInactive = IndexInactive
stop_of table.IndexOutside = IndexOutside
stop_of table.AmendInactive = AmendInactive
stop_of table.AmendOutside = AmendOutside
stop_of table.DivideByZero = DivideByZero
stop_of table.AbandonZero = AbandonZero
stop_of table.AbandonInactive = AbandonInactive
stop_of table.LoadInactive = LoadInactive
stop_of table.OutputTooLarge = OutputTooLarge
stop_of (table.ArraysFull count) = ArraysFull count
stop_of (table.WordsFull count) = WordsFull count

-- whether a machine goes on after a cycle
abbrev pub turn_of : Bool → Turn
turn_of true = turns.Halted
turn_of false = turns.Running

-- how a run without a fault ends
abbrev pub unfailed_end : Bool → Stop
unfailed_end true = Halted
unfailed_end false = Budget

-- at these operators alone a cycle may fail for another cause than the table's
abbrev pub MayFail : Option Op → Stop → Type 0
MayFail (Some (Input c)) ReadFault = Unit {0}
MayFail (Some (Out c)) WriteFault = Unit {0}
MayFail (Some (Alloc b c)) Memory = Unit {0}
MayFail (Some (Amend a b c)) Memory = Unit {0}
MayFail op stop = ⊥

-- the name of a stop, as it is printed
abbrev pub stop_name : Stop → List ℕ
stop_name Halted = codes "Halted"
stop_name Budget = codes "Budget"
stop_name FingerOutside = codes "FingerOutside"
stop_name BadOperator = codes "BadOperator"
stop_name IndexInactive = codes "IndexInactive"
stop_name IndexOutside = codes "IndexOutside"
stop_name AmendInactive = codes "AmendInactive"
stop_name AmendOutside = codes "AmendOutside"
stop_name DivideByZero = codes "DivideByZero"
stop_name AbandonZero = codes "AbandonZero"
stop_name AbandonInactive = codes "AbandonInactive"
stop_name LoadInactive = codes "LoadInactive"
stop_name OutputTooLarge = codes "OutputTooLarge"
stop_name (ArraysFull count) = codes "ArraysFull"
stop_name (WordsFull count) = codes "WordsFull"
stop_name ReadFault = codes "ReadFault"
stop_name WriteFault = codes "WriteFault"
stop_name Memory = codes "Memory"

-- the operators at which alone a source and a sink are asked
abbrev pub is_input : Option Op → Bool
is_input (Some (Input c)) = true
is_input op = false

abbrev pub is_output : Option Op → Bool
is_output (Some (Out c)) = true
is_output op = false
