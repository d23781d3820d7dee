-- What the code keeps of the wires of a module.
use Rattle.std.specs.Prelude.{◌≡◌, ℕ, ◌<◌, Bool, false, not, ◌||◌, List, length, Option, Some, None}
use Rattle.std.specs.Prelude.{slice_index_or, slice_get, if◌then◌else◌}
use Rattle.std.specs.Borrow.{Bor}
use Rattle.std.specs.Option.{option_copied}
use Rattle.two_d.specs.declared.command.Side.{Side}
use Rattle.two_d.specs.declared.command.Side.TheVariants.{S, E}
use Rattle.two_d.specs.declared.module.BoxRow.{BoxRow}
use Rattle.two_d.specs.declared.module.Origin.{Origin}
use Rattle.two_d.specs.declared.module.Origin.TheVariants.{North, West, South, East}
use Rattle.two_d.specs.Programs.{BoxForm, ModuleForm, Program, is_name}
use Rattle.type_sheet.specs.declared.line.SheetRow.{SheetRow}
use Rattle.type_sheet.specs.declared.typing.WireTypes.{WireTypes as Kept}
use Rattle.type_sheet.specs.declared.typing.InputTypes.{InputTypes as InputTypesKept}
use Rattle.type_sheet.specs.declared.wired.Wired.{Wired}
use Rattle.type_sheet.specs.Types.{InputTypes}
use Rattle.type_sheet.specs.Wires.{WireTypes, is_from, is_wired, origin_of, same_origin, input_types, side_type}

-- whether a wire to the box begins there
abbrev pub leads : Origin → BoxRow → Bool
leads o row = is_from o row.n || is_from o row.w

-- whether a side is marked
abbrev pub mark_of : Wired → ℕ → Side → Bool
mark_of w b S = slice_index_or w.souths.items b false
mark_of w b E = slice_index_or w.easts.items b false

-- there is a mark for each side of each box
pub record HasMarks (w : Wired) (m : ModuleForm) : Type 0 where
  pub souths : length w.souths.items ≡ length m.boxes
  pub easts : length w.easts.items ≡ length m.boxes

-- the marks are where wires begin
pub record IsWiredOf (w : Wired) (m : ModuleForm) : Type 0 where
  pub sized : HasMarks w m
  pub marks : (b : ℕ) (side : Side) → b < length m.boxes →
      mark_of w b side ≡ is_wired m (origin_of b side)

-- for each module its marks
pub record AreWiredOf (ws : List Wired) (P : Program) : Type 0 where
  pub many : length ws ≡ length P
  pub each : (i : ℕ) (w : Wired) (m : ModuleForm) →
      slice_get ws i ≡ Some w → slice_get P i ≡ Some m → IsWiredOf w m

-- what wires carry, as the code keeps it
abbrev pub types_in : Kept → WireTypes
types_in t North = option_copied t.north
types_in t West = option_copied t.west
types_in t (South b) = option_copied (slice_index_or t.souths.items b None)
types_in t (East b) = option_copied (slice_index_or t.easts.items b None)

abbrev pub inputs_read : InputTypesKept → InputTypes
inputs_read p = record { north = option_copied p.north; west = option_copied p.west }

abbrev pub pair_read : Bor (List ℕ) × Bor (List ℕ) → List ℕ × List ℕ
pair_read p = (p.0.now, p.1.now)

-- there is room for what each side of each box carries
pub record HasRoom (t : Kept) (m : ModuleForm) : Type 0 where
  pub souths : length t.souths.items ≡ length m.boxes
  pub easts : length t.easts.items ≡ length m.boxes

-- what wires carry when box b is told
abbrev pub types_with_row : List SheetRow → List ℕ → WireTypes → ℕ → BoxForm → WireTypes
types_with_row rows m types b row o =
    if same_origin o (South b) then side_type rows m b (input_types types row) row.command S
    else if same_origin o (East b) then side_type rows m b (input_types types row) row.command E
    else types o

-- where both outputs go to one wire, both types are the same
abbrev pub joined_fits : Option (List ℕ × List ℕ) → Bool → Bool
joined_fits None joined = false
joined_fits (Some (a, c)) joined = not joined || is_name a c
