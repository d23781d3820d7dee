-- How a search goes on at a place, and where it ends.
use Rattle.std.proofs.Common.{◌≡◌, ℕ, ◌+◌, ◌<◌, ◌≤◌, inl, inr, List, [], map, Ok, Err, Option, Some, None, option_map, get_or, ◌-◌, ◌∙◌, subst, sym, ap, arith}
use Rattle.std.specs.Prelude.{MatchOption, ⊤}
use Rattle.umix_base.specs.declared.place.Place.{Place}
use Rattle.two_d.specs.Places.{at, Before, Rect, Within, corner_of}
use Rattle.two_d.specs.Faults.{TextFault}
use Rattle.two_d.specs.Reading.{goes_on, stops, it, found, passed}
use Rattle.two_d.proofs.LiveCorners.{IsSearchable, before_next_row, in_row, live_at_end}
use Rattle.grid_reader.specs.declared.found.Found.{Found}
use Rattle.grid_reader.specs.inner.Found.{lowest, IsScanned}
use Rattle.grid_reader.specs.inner.Rects.{rect_shown, plains}
use Rattle.std.proofs.lemmas.List.{get_or_past}
use Rattle.grid_reader.specs.inner.Search.{reading_at, IsFoundBefore}
use Rattle.two_d.specs.Figures.{Kind, all_of}
use Rattle.grid_reader.proofs.ScanLemmas.{Meets, free_from, scan_starts, scan_stops, scan_widen}

module _ (kind : Kind) (searchable : IsSearchable kind.corner kind.figure) (so_far : Found) where
  -- the figures so far
  abbrev pub figures : List Rect
  figures = plains so_far.figures.items

  -- the first fault of a live corner, or want of memory there, is that of all
  pub stops_at : (p : Place) → IsFoundBefore kind p so_far → so_far.first ≤ p.col → kind.corner p → (MatchOption (lowest so_far p.col) ⊥ (λ g. Within g p) → ⊥) → (o : Option TextFault) → MatchOption o ⊤ (λ e. reading_at kind figures p (Err e)) → MatchOption o ⊤ (λ e. all_of kind (Err e))
  stops_at p h after corner free None here = tt
  stops_at p h after corner free (Some e) here =
      let all = scan_stops kind.corner kind.figure (reading_at kind) searchable so_far.first figures (lowest so_far) p e h corner (free_from kind.corner kind.figure (reading_at kind) searchable so_far.first figures (lowest so_far) p h after free) here in
      goes_on all.0 (it all.0 all.1) all.2

  -- the further fault of a figure that meets none
  pub further_at : (p : Place) (f : Rect) → kind.figure p f → (Meets kind.corner kind.figure (reading_at kind) searchable so_far.first figures (lowest so_far) p f → ⊥) → (o : Option TextFault) → MatchOption o ⊤ (λ e. kind.further f (Err e)) → MatchOption o ⊤ (λ e. reading_at kind figures p (Err e))
  further_at p f figure apart None here = tt
  further_at p f figure apart (Some e) here = goes_on f (found f figure) (goes_on tt (passed apart) (stops e here))

  -- from the end of a row to the next
  pub next_row : (row col : ℕ) → IsFoundBefore kind (at row col) so_far → ((q : Place) → kind.corner q → q.row ≡ row → q.col < col) → IsFoundBefore kind (at (row + 1) 0) so_far
  next_row row col h ends = scan_widen kind.corner kind.figure (reading_at kind) searchable so_far.first figures (lowest so_far) (at row col) (at (row + 1) 0) h (before_next_row row col)
      (λ q before corner. in_row row col q before (ends q corner))

  -- from the start of a row to the first column that can have a corner
  pub first_column : (row col : ℕ) → IsFoundBefore kind (at row 0) so_far → ((q : Place) → kind.corner q → col ≤ q.col) → IsFoundBefore kind (at row col) so_far
  first_column row col h from = scan_widen kind.corner kind.figure (reading_at kind) searchable so_far.first figures (lowest so_far) (at row 0) (at row col) h (λ q before. widen q before)
      (λ q before corner. narrow q before (from q corner))
    where
      widen : (q : Place) → Before q (at row 0) → Before q (at row col)
      widen q (inl above) = inl above
      widen q (inr nothing) = absurd (let none = nothing.1 in omega arith)

      narrow : (q : Place) → Before q (at row col) → col ≤ q.col → Before q (at row 0)
      narrow q (inl above) after = inl above
      narrow q (inr left) after = absurd (let before = left.1 in omega arith)

  -- after the last row that can have a corner
  pub ends_at : (row : ℕ) → IsFoundBefore kind (at row 0) so_far → ((q : Place) → kind.corner q → q.row < row) → all_of kind (Ok figures)
  ends_at row h ends = goes_on (map corner_of figures) (it (map corner_of figures) (live_at_end kind.corner kind.figure searchable row (map corner_of figures) h.live ends)) h.given

not_above : (row : ℕ) (q : Place) → row ≤ q.row → Before q (at row 0) → ⊥
not_above row q under (inl above) = omega arith
not_above row q under (inr nothing) = omega (arith, nothing.1)

-- nothing is found before the first row that can have a corner
pub starts_at : (kind : Kind) (so_far : Found) (row : ℕ) → so_far.figures.items ≡ [] → so_far.lowest.items ≡ [] → ((q : Place) → kind.corner q → row ≤ q.row) → IsFoundBefore kind (at row 0) so_far
starts_at kind so_far row no_figures no_lowest from =
    subst (λ fs. IsScanned kind.corner kind.figure (reading_at kind) (λ q. Before q (at row 0)) so_far.first (plains fs) (lowest so_far)) (sym no_figures)
    (scan_starts kind.corner kind.figure (reading_at kind) (at row 0) so_far.first (lowest so_far) (λ q corner. not_above row q (from q corner))
    (λ col after. ap (λ xs. option_map rect_shown (get_or xs (col - so_far.first) None)) no_lowest ∙ ap (option_map rect_shown) (get_or_past [] (col - so_far.first) None (omega arith))))
