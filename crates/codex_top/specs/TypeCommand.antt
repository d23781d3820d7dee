-- What `type` tells of a program and a sheet of types.
use Rattle.std.specs.Prelude.{◌≡◌, ℕ, Bool, true, false, List, [], ◌∷◌, length, count_by, codes}
use Rattle.std.specs.Prelude.{decimal, Ok, Err}
use Rattle.std.specs.List.{concat}
use Rattle.two_d.specs.Programs.{Program}
use Rattle.type_sheet.specs.declared.fault.SheetFault.{SheetFault}
use Rattle.type_sheet.specs.declared.line.Line.{Line}
use Rattle.type_sheet.specs.declared.line.Line.TheVariants.{Kind}
use Rattle.type_sheet.specs.declared.line.SheetRow.{SheetRow}
use Rattle.type_sheet.specs.Fits.{fits_of}
use Rattle.type_sheet.specs.Safety.{IsSafe}
use Rattle.codex_top.specs.Endings.{End}
use Rattle.codex_top.specs.Outside.{Stream}
use Rattle.codex_top.specs.Refusals.{sheet_line}
use Rattle.codex_top.specs.Sending.{TextSent}

-- the line declares a type
abbrev pub is_type : Line → Bool
is_type (Kind name form) = true
is_type _ = false

-- how many types the rows of a sheet declare
abbrev pub types_in : List SheetRow → ℕ
types_in rows = count_by (λ (row : SheetRow). is_type row.line) rows

-- the numbers of the program's modules and of the sheet's types
abbrev pub typed_line : Program → List SheetRow → List ℕ
typed_line P rows =
    concat (codes "typed " ∷ decimal (length P) ∷ codes " modules, " ∷ decimal (types_in rows)
    ∷ codes " types\n" ∷ [])

-- How `type` ends with a program and the rows of a sheet: where the program fits them it is never
-- stuck by the shape of a value, and the output receives `typed` with the numbers; where it
-- doesn't, the first reason why not is told.
pub data FitTold (P : Program) (rows : List SheetRow) (before now : Stream) : End → Type 0 where
  fits : (end : End) → fits_of P rows (Ok tt) → IsSafe P rows →
      TextSent (typed_line P rows) before now end → FitTold P rows before now end
  unfit : (fault : SheetFault) → fits_of P rows (Err fault) → now ≡ before →
      FitTold P rows before now (Err (sheet_line P fault))
