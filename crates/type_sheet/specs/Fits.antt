-- Whether a program fits a sheet, or the first reason why not.
use Rattle.std.specs.Prelude.{ℕ, ◌-◌, ◌<◌, List, length, slice_get, Option, Some, None, Bool, true}
use Rattle.std.specs.Prelude.{false, not, is_some, IsTrue, ◌&&◌, ◌||◌}
use Rattle.std.specs.List.{list_all}
use Rattle.std.specs.Option.{option_map_or}
use Rattle.two_d.specs.declared.module.Origin.{Origin}
use Rattle.two_d.specs.Programs.{BoxForm, ModuleForm, Program, find, is_name, module_at}
use Rattle.two_d.specs.Reading.{Reading, the, refuse, each_from, ◌>>=◌, ◌>>◌}
use Rattle.two_d.specs.Sound.{IsKeptOrder}
use Rattle.two_d.specs.Trees as tree
use Rattle.two_d.specs.Trees.{Tree, Form, send, case, split, call}
use Rattle.two_d.specs.declared.command.Side.{Side}
use Rattle.two_d.specs.declared.command.Side.TheVariants.{S, E}
use Rattle.type_sheet.specs.declared.fault.At.{At}
use Rattle.type_sheet.specs.declared.fault.At.TheVariants.{Module as in_module, Bx, Exit}
use Rattle.type_sheet.specs.declared.fault.SheetFault.{SheetFault}
use Rattle.type_sheet.specs.declared.fault.SheetFault.TheVariants.{NoPlace, NoLine, Mismatch}
use Rattle.type_sheet.specs.declared.line.Line.{Line}
use Rattle.type_sheet.specs.declared.line.Line.TheVariants.{Kind, Module, Wire, Of}
use Rattle.type_sheet.specs.declared.line.SheetRow.{SheetRow}
use Rattle.type_sheet.specs.Said.{is_side, module_line, wire_line, of_line, north_type, west_type, result_type}
use Rattle.type_sheet.specs.Types.{InputTypes, carries, expression_has}
use Rattle.type_sheet.specs.Wires.{WireTypes, is_wired, origin_of, input_types, expression_type}
use Rattle.type_sheet.specs.Wires.{summands_of, components_of, wire_type}

-- the command itself says what the side carries
abbrev pub says_type : Form → Side → Bool
says_type (send outs) side = false
says_type (case x left right) side = is_side left side || is_side right side
says_type (split x) side = true
says_type (call name) S = false
says_type (call name) E = true

-- the expression is a port
abbrev pub is_port : Tree → Bool
is_port tree.n = true
is_port tree.w = true
is_port _ = false

-- the command has an expression whose type has to be declared
abbrev pub needs_type : Form → Bool
needs_type (case x left right) = not (is_port x)
needs_type (split x) = not (is_port x)
needs_type _ = false

-- a `wire` line is needed for the side of box b: the command doesn't say what that wire carries
abbrev pub needs_wire : ModuleForm → ℕ → Side → Bool
needs_wire m b side =
    is_wired m (origin_of b side)
    && option_map_or (λ row. not (says_type row.command side)) (slice_get m.boxes b) false

-- an `of` line is needed for box b
abbrev pub needs_of : ModuleForm → ℕ → Bool
needs_of m b = option_map_or (λ row. needs_type row.command) (slice_get m.boxes b) false

-- both hold, or neither
abbrev pub agree : Bool → Bool → Bool
agree true t = t
agree false t = not t

-- what holds of the module of this name, if it is there
abbrev pub of_module : Program → List ℕ → (ModuleForm → Bool) → Bool
of_module P name holds = option_map_or holds (slice_get P (find P name)) false

-- What the line speaks of is there, and a `wire` or `of` line is needed. (It counts boxes from 1.)
abbrev pub has_place : Program → Line → Bool
has_place P (Kind a form) = true
has_place P (Module name n w e) =
    of_module P name (λ m. agree m.north (is_some n) && agree m.west (is_some w))
has_place P (Wire name k side a) = of_module P name (λ m. needs_wire m (k - 1) side)
has_place P (Of name k a) = of_module P name (λ m. needs_of m (k - 1))

-- the line for the wire from a side of box b is there, if it is needed
abbrev pub has_wire_line : List SheetRow → ModuleForm → ℕ → Side → Bool
has_wire_line rows m b side = not (needs_wire m b side) || is_some (wire_line rows m.name b side)

-- the line for the expression of box b is there, if it is needed
abbrev pub has_of_line : List SheetRow → ModuleForm → ℕ → Bool
has_of_line rows m b = not (needs_of m b) || is_some (of_line rows m.name b)

-- each line that is needed for box b is there
abbrev pub has_lines : List SheetRow → ModuleForm → ℕ → Bool
has_lines rows m b = has_wire_line rows m b S && (has_wire_line rows m b E && has_of_line rows m b)

-- both are there, and are the same type
abbrev pub are_same_type : Option (List ℕ) → Option (List ℕ) → Bool
are_same_type a None = false
are_same_type a (Some b) = carries a b

-- the expression has this type, if it is one
abbrev pub expression_fits : List SheetRow → InputTypes → Tree → Option (List ℕ) → Bool
expression_fits rows ports x None = false
expression_fits rows ports x (Some a) = expression_has rows ports x a

-- an input that is wired has this type
abbrev pub wire_fits : WireTypes → Option Origin → Option (List ℕ) → Bool
wire_fits types None a = true
wire_fits types (Some o) a = are_same_type (types o) a

-- what a `send` sends, where a wire begins, has the wire's type
abbrev pub out_fits : List SheetRow → ModuleForm → ℕ → WireTypes → InputTypes → Tree × Side → Bool
out_fits rows m b types ports out =
    not (is_wired m (origin_of b out.1))
    || expression_fits rows ports out.0 (types (origin_of b out.1))

-- where both outputs of a `case` go to one wire, the types of the sum are the same
abbrev pub sum_fits : ModuleForm → ℕ → Side → Side → Option (List ℕ × List ℕ) → Bool
sum_fits m b left right None = false
sum_fits m b left right (Some (a, c)) =
    not (is_side left right && is_wired m (origin_of b left)) || is_name a c

-- the rule of each command
abbrev pub command_fits : List SheetRow → ModuleForm → ℕ → WireTypes → BoxForm → Form → Bool
command_fits rows m b types row (send outs) =
    list_all (out_fits rows m b types (input_types types row)) outs
command_fits rows m b types row (case x left right) =
    let ports = input_types types row in
    expression_fits rows ports x (expression_type rows m.name b ports x)
    && sum_fits m b left right (summands_of rows m.name b ports x)
command_fits rows m b types row (split x) =
    let ports = input_types types row in
    expression_fits rows ports x (expression_type rows m.name b ports x)
    && is_some (components_of rows m.name b ports x)
command_fits rows m b types row (call name) =
    wire_fits types row.n (north_type rows name) && wire_fits types row.w (west_type rows name)

-- the rule of box b
abbrev pub box_fits : List SheetRow → ModuleForm → ℕ → Bool
box_fits rows m b =
    option_map_or (λ row. command_fits rows m b (wire_type rows m) row row.command)
    (slice_get m.boxes b) true

-- the rule of an exit
abbrev pub exit_fits : List SheetRow → ModuleForm → Option Origin → Bool
exit_fits rows m exit = wire_fits (wire_type rows m) exit (result_type rows m.name)

-- a fault where the test fails
abbrev pub want : SheetFault → Bool → Reading SheetFault (Unit {0})
want fault test = refuse fault (IsTrue (not test))

-- each line that is needed for module number i is there
abbrev pub lines_there : List SheetRow → ℕ → ModuleForm → Reading SheetFault (Unit {0})
lines_there rows i m = do
  want (NoLine (in_module i)) (is_some (module_line rows m.name))
  each_from (λ b _. want (NoLine (Bx i b)) (has_lines rows m b)) 0 m.boxes

-- the rules hold at the boxes of module number i, in this order
abbrev pub boxes_fit : List SheetRow → ℕ → ModuleForm → List ℕ → Reading SheetFault (Unit {0})
boxes_fit rows i m order = each_from (λ _ b. want (Mismatch (Bx i b)) (box_fits rows m b)) 0 order

-- the rules hold at the exits of module number i
abbrev pub exits_fit : List SheetRow → ℕ → ModuleForm → Reading SheetFault (Unit {0})
exits_fit rows i m =
    each_from (λ j exit. want (Mismatch (Exit i j)) (exit_fits rows m exit)) 0 m.exits

-- the rules hold in module number i
abbrev pub module_fits : List SheetRow → ℕ → ModuleForm → Reading SheetFault (Unit {0})
module_fits rows i m = do
  order ← the (IsKeptOrder m)
  boxes_fit rows i m order
  exits_fit rows i m

-- each line has a place in the program
abbrev pub places_there : Program → List SheetRow → Reading SheetFault (Unit {0})
places_there P rows = each_from (λ _ row. want (NoPlace row.at) (has_place P row.line)) 0 rows

-- the program fits, or the first reason why not
abbrev pub fits_of : Program → List SheetRow → Reading SheetFault (Unit {0})
fits_of P rows = do
  places_there P rows
  each_from (lines_there rows) 0 P
  each_from (module_fits rows) 0 P

-- the module is there, and the box or the exit of it
abbrev pub IsThere : Program → At → Type 0
IsThere P (in_module i) = i < length P
IsThere P (Bx i b) = (i < length P) × (b < length (module_at P i).boxes)
IsThere P (Exit i j) = (i < length P) × (j < length (module_at P i).exits)

-- where the fault tells a place, it is there
abbrev pub TellsPlace : Program → SheetFault → Type 0
TellsPlace P (NoLine at) = IsThere P at
TellsPlace P (Mismatch at) = IsThere P at
TellsPlace P fault = Unit {0}
