-- Where the rows of instances stand: those of live ones in slots, those of ended ones in a list.
use Rattle.std.specs.Prelude.{◌≡◌, ◌+◌, ◌<◌, ◌≤◌, ℕ, Bool, true, false, Option, Some, None, is_some}
use Rattle.std.specs.Prelude.{IsSomeAnd, List, length, map, count_by, slice_index_or}
use Rattle.fire_core.specs.declared.rows.Place.{Place}
use Rattle.fire_core.specs.declared.rows.Place.TheVariants.{Live, Ended}
use Rattle.fire_core.specs.declared.rows.Row.{Row}
use Rattle.fire_core.specs.inner.Rows.{RowForm, row_of, no_row}

-- the row that stands at a place, if one does
abbrev pub standing : List (Option Row) → List Row → Place → Option Row
standing live ended (Live key) = slice_index_or live key None
standing live ended (Ended at) = slice_index_or (map Some ended) at None

abbrev pub form_of : Option Row → RowForm
form_of None = no_row
form_of (Some row) = row_of row

-- the rows that stand at these places
abbrev pub rows_at : List (Option Row) → List Row → List Place → List RowForm
rows_at live ended places = map (λ place. form_of (standing live ended place)) places

abbrev pub is_of_ended : Place → Bool
is_of_ended (Live key) = false
is_of_ended (Ended at) = true

-- a row stands at the place, and it has an outcome exactly where the place is one of an ended instance
abbrev pub IsThere : List (Option Row) → List Row → Place → Type 0
IsThere live ended place = IsSomeAnd (standing live ended place) (λ row. is_some row.outcome ≡ is_of_ended place)

abbrev pub place_at : List Place → ℕ → Place
place_at places i = slice_index_or places i (Live 0)

-- each place is that of a row, no two are the same, and the list of ended rows has room for every row
pub record AreHeld (live : List (Option Row)) (ended : List Row) (places : List Place) (room : ℕ) : Type 0 where
  pub there : (i : ℕ) → i < length places → IsThere live ended (place_at places i)
  pub apart : (i j : ℕ) → i < length places → j < length places → place_at places i ≡ place_at places j → i ≡ j
  pub all : length ended + count_by is_some live ≡ length places
  pub fits : length places ≤ room
