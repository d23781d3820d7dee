use Rattle.std.specs.Prelude.{Option, MatchOption}
use Rattle.std.proofs.Common.{◌≡◌, ℕ, ◌<◌, List, take, slice_get, Some, None, refl}
use Rattle.type_sheet.specs.declared.line.SheetRow.{SheetRow}
use Rattle.type_sheet.specs.Sheets.{Subject, subject_of, IsSheet}
use Rattle.type_sheet.specs.inner.Subjects.{Places, place_in, place_of}
use Rattle.type_sheet.proofs.Looked.{none_again}
use Rattle.type_sheet.proofs.declared.Declared.of.Goals as goal

-- a sheet has no row that declares again, so each row is in the index
each_row : (rows : List SheetRow) → IsSheet rows → (places : Places) (again : Option ℕ) →
    MatchOption again
    ((i : ℕ) (row : SheetRow) → slice_get rows i ≡ Some row → place_of (take i rows) (subject_of row.line) ≡ None)
    (λ i. (row : SheetRow) × (slice_get rows i ≡ Some row) × (place_of (take i rows) (subject_of row.line) ≡ None → ⊥)
    × ((j : ℕ) (other : SheetRow) → j < i → slice_get rows j ≡ Some other → place_of (take j rows) (subject_of other.line) ≡ None)) →
    MatchOption again ((s : Subject) → place_in places s ≡ place_of rows s) (λ i. (s : Subject) → place_in places s ≡ place_of (take i rows) s) →
    (s : Subject) → place_in places s ≡ place_of rows s
each_row rows sheet places None again known s = known s
each_row rows sheet places (Some i) again known s = absurd (none_again rows sheet i again.0 again.1 again.2)

pub returns : goal.returns
returns c = (refl, each_row c.args.rows.now c.requires c.in_ok-index.index.places c.in_ok-index.field-0-1 c.in_ok-index.ensures.again c.in_ok-index.ensures.places)
