use Rattle.std.specs.Prelude.{◌≡◌, ℕ, ◌<◌, take, None, Some, slice_get}
use Rattle.type_sheet.specs.declared.line.SheetRow.{SheetRow}
use Rattle.type_sheet.specs.Sheets.{Subject, subject_of}
use Rattle.type_sheet.specs.inner.Subjects.{place_in, place_of}
use Rattle.type_sheet.proofs.index.Index.of.Given as goal

-- the places of the rows so far, of which no two declare the same
abbrev pub invariant-loop-place : goal.invariant-loop-place
invariant-loop-place l = record {
  known : (s : Subject) → place_in l.places s ≡ place_of (take l.place l.rows) s;
  apart : (j : ℕ) (other : SheetRow) → j < l.place → slice_get l.rows j ≡ Some other → place_of (take j l.rows) (subject_of other.line) ≡ None;
}
