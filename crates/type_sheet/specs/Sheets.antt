-- The rows of a sheet, or its first fault.
use Rattle.std.specs.Prelude.{◌≡◌, ℕ, ◌+◌, ◌<◌, List, [], ◌∷◌, ◌++◌, length, take, Any, Option, Some, None, Ok}
use Rattle.std.specs.Option.{option_to_list}
use Rattle.std.specs.Str.Lines.{lines}
use Rattle.two_d.specs.Reading.{Reading, give, the_or, refuse, each_from, ◌>>=◌, ◌>>◌}
use Rattle.two_d.specs.declared.command.Side.{Side}
use Rattle.type_sheet.specs.declared.fault.SheetFault.{SheetFault}
use Rattle.type_sheet.specs.declared.fault.SheetFault.TheVariants.{TooLong, BadSheet, SameLine, NoType, Memory}
use Rattle.type_sheet.specs.declared.line.Form.{Form as KindForm}
use Rattle.type_sheet.specs.declared.line.Form.TheVariants.{Unit as UnitForm, Pair, Sum}
use Rattle.type_sheet.specs.declared.line.Line.{Line}
use Rattle.type_sheet.specs.declared.line.Line.TheVariants.{Kind, Module, Wire, Of}
use Rattle.type_sheet.specs.declared.line.SheetRow.{SheetRow}
use Rattle.type_sheet.specs.Lines.{IsTextOf}

-- the most bytes of a sheet
abbrev pub most_sheet_bytes : ℕ
most_sheet_bytes = 262144

-- what a line can declare: a type, a module, the wire from a side of a box, or an expression
pub data Subject : Type 0 where
  a_type a_module : List ℕ → Subject
  port : List ℕ → ℕ → Side → Subject
  expression : List ℕ → ℕ → Subject

-- what a line declares
abbrev pub subject_of : Line → Subject
subject_of (Kind a form) = a_type a
subject_of (Module m n w e) = a_module m
subject_of (Wire m k side a) = port m k side
subject_of (Of m k a) = expression m k

-- the types that a form uses
abbrev pub types_in_form : KindForm → List (List ℕ)
types_in_form UnitForm = []
types_in_form (Pair b c) = b ∷ c ∷ []
types_in_form (Sum b c) = b ∷ c ∷ []

-- the types that a line uses
abbrev pub types_used : Line → List (List ℕ)
types_used (Kind a form) = types_in_form form
types_used (Module m n w e) = option_to_list n ++ option_to_list w ++ e ∷ []
types_used (Wire m k side a) = a ∷ []
types_used (Of m k a) = a ∷ []

-- some row declares this
abbrev pub Declares : List SheetRow → Subject → Type 0
Declares rows subject = Any (λ (row : SheetRow). subject_of row.line ≡ subject) rows

-- the row of a line with its number; an empty line has none
abbrev pub row_of : ℕ → List ℕ → Reading SheetFault (List SheetRow)
row_of number [] = give []
row_of number (b ∷ bs) = do
  line ← the_or (BadSheet number) (IsTextOf (b ∷ bs))
  give (record { at = number; line = line } ∷ [])

-- the rows of lines, of which the first has this number
abbrev pub rows_from : ℕ → List (List ℕ) → Reading SheetFault (List SheetRow)
rows_from number [] = give []
rows_from number (text ∷ texts) = do
  row ← row_of number text
  rows ← rows_from (number + 1) texts
  give (row ++ rows)

-- row number i declares nothing that a row before it declares
abbrev pub declares_anew : List SheetRow → ℕ → SheetRow → Reading SheetFault (Unit {0})
declares_anew rows i row = refuse (SameLine row.at) (Declares (take i rows) (subject_of row.line))

-- the row uses no type that no row declares
abbrev pub uses_declared : List SheetRow → SheetRow → Reading SheetFault (Unit {0})
uses_declared rows row =
    refuse (NoType row.at) (Any (λ a. Declares rows (a_type a) → ⊥) (types_used row.line))

-- the rows of a sheet, or its first fault
abbrev pub sheet_of : List ℕ → Reading SheetFault (List SheetRow)
sheet_of text = do
  refuse TooLong (most_sheet_bytes < length text)
  rows ← rows_from 1 (lines text)
  each_from (declares_anew rows) 0 rows
  each_from (λ _. uses_declared rows) 0 rows
  give rows

-- a text is read as these rows
abbrev pub IsSheet : List SheetRow → Type 0
IsSheet rows = (text : List ℕ) × sheet_of text (Ok rows)

-- the fault that is told; of want of memory nothing is said
abbrev pub fault_of : SheetFault → Option SheetFault
fault_of Memory = None
fault_of fault = Some fault
