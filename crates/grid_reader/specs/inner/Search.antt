-- What a search for figures has found before a place.
use Rattle.std.specs.Prelude.{◌+◌, List, All}
use Rattle.umix_base.specs.declared.place.Place.{Place}
use Rattle.two_d.specs.Places.{at, Before, Rect, corner_of}
use Rattle.two_d.specs.Faults.{TextFault}
use Rattle.two_d.specs.Figures.{Kind, figure_at}
use Rattle.two_d.specs.Reading.{Reading}
use Rattle.grid_reader.specs.declared.found.Found.{Found}
use Rattle.grid_reader.specs.inner.Found.{figures, lowest, IsScanned}

-- the figure of a corner after the earlier ones, or the first fault there
abbrev pub reading_at : Kind → List Rect → Place → Reading TextFault Rect
reading_at kind = figure_at kind.corner kind.figure kind.opens kind.meets kind.further

-- each has its top left corner at a place that has it for its figure
abbrev pub AreShown : Kind → List Rect → Type 0
AreShown kind fs = All (λ f. kind.figure (corner_of f) f) fs

-- the next place of a row
abbrev pub next_to : Place → Place
next_to p = at p.row (p.col + 1)

-- what was found are the figures of the live corners before a place
abbrev pub IsFoundBefore : Kind → Place → Found → Type 0
IsFoundBefore kind p found =
    IsScanned kind.corner kind.figure (reading_at kind) (λ q. Before q p) found.first (figures found)
    (lowest found)
