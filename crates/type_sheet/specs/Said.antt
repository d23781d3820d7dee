-- What the rows of a sheet say of a type, a module, a wire and an expression.
use Rattle.std.specs.Prelude.{ℕ, ◌+◌, ◌==◌, List, [], ◌∷◌, Option, Some, None, Bool, true, false, ◌&&◌, if◌then◌else◌}
use Rattle.std.specs.Option.{option_map, option_and_then, option_or}
use Rattle.two_d.specs.Programs.{is_name}
use Rattle.two_d.specs.declared.command.Side.{Side}
use Rattle.two_d.specs.declared.command.Side.TheVariants.{S, E}
use Rattle.type_sheet.specs.declared.line.Form.{Form as KindForm}
use Rattle.type_sheet.specs.declared.line.Line.{Line}
use Rattle.type_sheet.specs.declared.line.Line.TheVariants.{Kind, Module, Wire, Of}
use Rattle.type_sheet.specs.declared.line.SheetRow.{SheetRow}

-- what the first row says that says something
abbrev pub first_said : {A : Type 0} → (Line → Option A) → List SheetRow → Option A
first_said says [] = None
first_said says (row ∷ rows) = option_or (says row.line) (first_said says rows)

-- what a line says of the type a
abbrev pub form_said : List ℕ → Line → Option KindForm
form_said a (Kind b form) = if is_name b a then Some form else None
form_said a _ = None

-- the types of a module's entries and of its result
pub record ModuleTypes : Type 0 where
  pub north : Option (List ℕ)
  pub west : Option (List ℕ)
  pub result : List ℕ

-- what a line says of the module m
abbrev pub module_said : List ℕ → Line → Option ModuleTypes
module_said m (Module name n w e) =
    if is_name name m then Some (record { north = n; west = w; result = e }) else None
module_said m _ = None

-- the two sides are the same
abbrev pub is_side : Side → Side → Bool
is_side S S = true
is_side E E = true
is_side S E = false
is_side E S = false

-- what a line says of the wire from a side of box k of module m, where k counts from 1
abbrev pub wire_said : List ℕ → ℕ → Side → Line → Option (List ℕ)
wire_said m k side (Wire name number other a) =
    if is_side other side && (is_name name m && (number == k)) then Some a else None
wire_said m k side _ = None

-- what a line says of the expression of box k of module m
abbrev pub of_said : List ℕ → ℕ → Line → Option (List ℕ)
of_said m k (Of name number a) = if is_name name m && (number == k) then Some a else None
of_said m k _ = None

-- what the values of the type a are
abbrev pub form_in : List SheetRow → List ℕ → Option KindForm
form_in rows a = first_said (form_said a) rows

-- the types of the entries and of the result of the module m
abbrev pub module_line : List SheetRow → List ℕ → Option ModuleTypes
module_line rows m = first_said (module_said m) rows

-- the type of the wire from a side of box b, which counts from 0
abbrev pub wire_line : List SheetRow → List ℕ → ℕ → Side → Option (List ℕ)
wire_line rows m b side = first_said (wire_said m (b + 1) side) rows

-- the type of the expression of box b
abbrev pub of_line : List SheetRow → List ℕ → ℕ → Option (List ℕ)
of_line rows m b = first_said (of_said m (b + 1)) rows

-- the type of a module's entry in the north
abbrev pub north_type : List SheetRow → List ℕ → Option (List ℕ)
north_type rows m = option_and_then (λ types. types.north) (module_line rows m)

-- the type of a module's entry in the west
abbrev pub west_type : List SheetRow → List ℕ → Option (List ℕ)
west_type rows m = option_and_then (λ types. types.west) (module_line rows m)

-- the type of a module's result
abbrev pub result_type : List SheetRow → List ℕ → Option (List ℕ)
result_type rows m = option_map (λ types. types.result) (module_line rows m)
