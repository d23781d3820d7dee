-- What the wires of a module carry.
use Rattle.std.specs.Prelude.{ℕ, zero, suc, ◌==◌, List, length, slice_get, Option, Some, None, Bool}
use Rattle.std.specs.Prelude.{true, false, ◌||◌, if◌then◌else◌}
use Rattle.std.specs.List.{list_any}
use Rattle.std.specs.Option.{option_map, option_and_then}
use Rattle.two_d.specs.Programs.{BoxForm, ModuleForm}
use Rattle.two_d.specs.declared.module.Origin.{Origin}
use Rattle.two_d.specs.declared.module.Origin.TheVariants.{North, West, South, East}
use Rattle.two_d.specs.Trees as tree
use Rattle.two_d.specs.Trees.{Tree, Form, send, case, split, call}
use Rattle.two_d.specs.declared.command.Side.{Side}
use Rattle.two_d.specs.declared.command.Side.TheVariants.{S, E}
use Rattle.type_sheet.specs.declared.line.SheetRow.{SheetRow}
use Rattle.type_sheet.specs.Said.{form_in, is_side, wire_line, of_line, north_type, west_type, result_type}
use Rattle.type_sheet.specs.Types.{InputTypes, summands, components}

-- the two wires begin at the same place
abbrev pub same_origin : Origin → Origin → Bool
same_origin North North = true
same_origin West West = true
same_origin (South b) (South c) = b == c
same_origin (East b) (East c) = b == c
same_origin _ _ = false

-- what ends there comes from here
abbrev pub is_from : Origin → Option Origin → Bool
is_from o None = false
is_from o (Some p) = same_origin o p

-- a wire begins there
abbrev pub is_wired : ModuleForm → Origin → Bool
is_wired m o =
    list_any (λ (row : BoxForm). is_from o row.n || is_from o row.w) m.boxes
    || list_any (is_from o) m.exits

-- where the wire from a side of box b begins
abbrev pub origin_of : ℕ → Side → Origin
origin_of b S = South b
origin_of b E = East b

-- the types that wires carry, by where they begin
abbrev pub WireTypes : Type 0
WireTypes = Origin → Option (List ℕ)

-- the type that is carried to what comes from there
abbrev pub type_to : WireTypes → Option Origin → Option (List ℕ)
type_to types None = None
type_to types (Some o) = types o

-- what is carried to the two ports of a box
abbrev pub input_types : WireTypes → BoxForm → InputTypes
input_types types row = record { north = type_to types row.n; west = type_to types row.w }

-- the type of the expression of box b: that of the wire to the port that it names, or of its line
abbrev pub expression_type : List SheetRow → List ℕ → ℕ → InputTypes → Tree → Option (List ℕ)
expression_type rows m b ports tree.n = ports.north
expression_type rows m b ports tree.w = ports.west
expression_type rows m b ports x = of_line rows m b

-- the two types of the sum that the expression of box b is
abbrev pub summands_of : List SheetRow → List ℕ → ℕ → InputTypes → Tree → Option (List ℕ × List ℕ)
summands_of rows m b ports x =
    option_and_then (λ a. summands (form_in rows a)) (expression_type rows m b ports x)

-- the two types of the pairs that the expression of box b is
abbrev pub components_of : List SheetRow → List ℕ → ℕ → InputTypes → Tree → Option (List ℕ × List ℕ)
components_of rows m b ports x =
    option_and_then (λ a. components (form_in rows a)) (expression_type rows m b ports x)

-- of two types the first for the south, the second for the east
abbrev pub part : Side → Option (List ℕ × List ℕ) → Option (List ℕ)
part S types = option_map (λ (p : List ℕ × List ℕ). p.0) types
part E types = option_map (λ (p : List ℕ × List ℕ). p.1) types

-- what a side of a `case` carries: a part of the sum where it is named, or else what its line says
abbrev pub case_type : (left right side : Side) → Option (List ℕ × List ℕ) →
    Option (List ℕ) → Option (List ℕ)
case_type left right side types line =
    if is_side left side then part S types
    else if is_side right side then part E types
    else line

-- what the side of box b carries, where its ports carry these
abbrev pub side_type : List SheetRow → List ℕ → ℕ → InputTypes → Form → Side → Option (List ℕ)
side_type rows m b ports (send outs) side = wire_line rows m b side
side_type rows m b ports (case x left right) side =
    case_type left right side (summands_of rows m b ports x) (wire_line rows m b side)
side_type rows m b ports (split x) side = part side (components_of rows m b ports x)
side_type rows m b ports (call name) S = wire_line rows m b S
side_type rows m b ports (call name) E = result_type rows name

-- what the side of a box carries, if the box is there
abbrev pub box_type : List SheetRow → ModuleForm → WireTypes → ℕ → Side → Option (List ℕ)
box_type rows m types b side =
    option_and_then (λ row. side_type rows m.name b (input_types types row) row.command side)
    (slice_get m.boxes b)

-- what each wire carries, where the wires to its box carry these
abbrev pub types_from : List SheetRow → ModuleForm → WireTypes → WireTypes
types_from rows m types North = north_type rows m.name
types_from rows m types West = west_type rows m.name
types_from rows m types (South b) = box_type rows m types b S
types_from rows m types (East b) = box_type rows m types b E

-- what the wires carry, as far as k steps tell
unfoldable pub types_within : List SheetRow → ModuleForm → ℕ → WireTypes
types_within rows m zero o = None
types_within rows m (suc k) o = types_from rows m (types_within rows m k) o

-- what the wires carry: a chain of wires passes no box twice, so this is far enough
abbrev pub wire_type : List SheetRow → ModuleForm → WireTypes
wire_type rows m = types_within rows m (suc (length m.boxes))
