-- Rows by what they declare.
use Rattle.std.specs.Prelude.{ℕ, suc, Bool, false, ◌&&◌, List, [], ◌∷◌, Option, Some, None, nat_eq}
use Rattle.std.specs.Prelude.{if◌then◌else◌, slice_get, is_some, take, ◌≡◌, ◌<◌, MatchOption}
use Rattle.std.specs.Borrow.{Bor}
use Rattle.std.specs.HashMap.{HashMap, get}
use Rattle.std.specs.Option.{option_map, option_and_then, option_copied}
use Rattle.std.specs.Str.{bytes_eq}
use Rattle.std.specs.declared.hash.FoldHasher.{FoldHasher}
use Rattle.std.specs.declared.hash.BuildHasherDefault.{BuildHasherDefault}
use Rattle.two_d.specs.declared.command.Side.TheVariants.{S, E}
use Rattle.type_sheet.specs.declared.index.Index.{Index}
use Rattle.type_sheet.specs.declared.index.Subject.{Subject as Key}
use Rattle.type_sheet.specs.declared.index.Subject.TheVariants.{Kind, Module, South, East, Expression}
use Rattle.type_sheet.specs.declared.declared.Declared.{Declared}
use Rattle.type_sheet.specs.declared.declared.ModuleTypes.{ModuleTypes as Types}
use Rattle.type_sheet.specs.declared.line.Form.{Form as KindForm}
use Rattle.type_sheet.specs.declared.line.Line.{Line}
use Rattle.type_sheet.specs.declared.line.Line.TheVariants as line
use Rattle.type_sheet.specs.declared.line.SheetRow.{SheetRow}
use Rattle.type_sheet.specs.Said.{ModuleTypes}
use Rattle.type_sheet.specs.Sheets.{Subject, a_type, a_module, port, expression, subject_of}

abbrev pub key_read : Key → Subject
key_read (Kind name) = a_type name.now
key_read (Module name) = a_module name.now
key_read (South name number) = port name.now number S
key_read (East name number) = port name.now number E
key_read (Expression name number) = expression name.now number

abbrev pub borrowed : List ℕ → Bor (List ℕ)
borrowed bytes = record { ref_ptr = (0, 0); now = bytes }

-- a subject as the code keeps it, at any place in memory
abbrev pub key_of : Subject → Key
key_of (a_type name) = Kind (borrowed name)
key_of (a_module name) = Module (borrowed name)
key_of (port name number S) = South (borrowed name) number
key_of (port name number E) = East (borrowed name) number
key_of (expression name number) = Expression (borrowed name) number

abbrev pub same_key : Key → Key → Bool
same_key (Kind a) (Kind b) = bytes_eq a.now b.now
same_key (Module a) (Module b) = bytes_eq a.now b.now
same_key (South a k) (South b l) = bytes_eq a.now b.now && nat_eq k l
same_key (East a k) (East b l) = bytes_eq a.now b.now && nat_eq k l
same_key (Expression a k) (Expression b l) = bytes_eq a.now b.now && nat_eq k l
same_key _ _ = false

abbrev pub Places : Type 0
Places = HashMap Key ℕ (BuildHasherDefault FoldHasher)

-- the place that is kept for a subject
abbrev pub place_in : Places → Subject → Option ℕ
place_in places s = get same_key places (key_of s)

-- a place is kept for the type
abbrev pub has_kind : Index → List ℕ → Bool
has_kind index a = is_some (place_in index.places (a_type a))

-- the row declares the subject
abbrev pub is_declared : SheetRow → Subject → Bool
is_declared row s = same_key (key_of (subject_of row.line)) (key_of s)

-- the place of the first row that declares the subject
abbrev pub place_of : List SheetRow → Subject → Option ℕ
place_of [] s = None
place_of (row ∷ rows) s = if is_declared row s then Some 0 else option_map suc (place_of rows s)

-- the row at place i is the first that declares its subject
abbrev pub IsNew : List SheetRow → ℕ → SheetRow → Type 0
IsNew rows i row = place_of (take i rows) (subject_of row.line) ≡ None

-- the place of the first row that declares what an earlier one declares, if there is one
abbrev pub FindsAgain : List SheetRow → Option ℕ → Type 0
FindsAgain rows found = MatchOption found
    ((i : ℕ) (row : SheetRow) → slice_get rows i ≡ Some row → IsNew rows i row)
    (λ i. (row : SheetRow) × (slice_get rows i ≡ Some row) × (IsNew rows i row → ⊥)
    × ((j : ℕ) (other : SheetRow) → j < i → slice_get rows j ≡ Some other → IsNew rows j other))

-- the line of the first row that declares the subject
abbrev pub line_of : List SheetRow → Subject → Option Line
line_of rows s =
    option_and_then (λ i. option_map (λ (row : SheetRow). row.line) (slice_get rows i))
    (place_of rows s)

-- the index has the place of each subject that the rows declare
abbrev pub IsIndexed : Declared → Type 0
IsIndexed d = (s : Subject) → place_in d.index.places s ≡ place_of d.rows.now s

abbrev pub types_read : Types → ModuleTypes
types_read t =
    record { north = option_copied t.north; west = option_copied t.west; result = t.result.now }

-- what lines of each form say
abbrev pub form_in_line : Option Line → Option KindForm
form_in_line (Some (line.Kind a form)) = Some form
form_in_line _ = None

abbrev pub module_in_line : Option Line → Option ModuleTypes
module_in_line (Some (line.Module m n w e)) = Some (record { north = n; west = w; result = e })
module_in_line _ = None

abbrev pub wire_in_line : Option Line → Option (List ℕ)
wire_in_line (Some (line.Wire m k side a)) = Some a
wire_in_line _ = None

abbrev pub of_in_line : Option Line → Option (List ℕ)
of_in_line (Some (line.Of m k a)) = Some a
of_in_line _ = None
