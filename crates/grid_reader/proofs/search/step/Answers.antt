use Rattle.std.proofs.Common.{◌+◌, refl, sym, subst, Some, Err}
use Rattle.std.specs.Prelude.{MatchOption, ⊤}
use Rattle.std.proofs.lemmas.Bool.{false≢true}
use Rattle.std.proofs.lemmas.Result.{err_from_is_err_and}
use Rattle.two_d.specs.Reading.{goes_on, stops, gave, found, missing, refused, passed}
use Rattle.grid_reader.specs.Faults.{fault_of}
use Rattle.grid_reader.specs.inner.Found.{lowest, IsScanned}
use Rattle.two_d.specs.Places.{at, Before}
use Rattle.grid_reader.specs.inner.Rects.{rect_shown, plains}
use Rattle.grid_reader.specs.inner.Search.{reading_at}
use Rattle.two_d.specs.Figures.{all_of}
use Rattle.grid_reader.proofs.ScanLemmas.{taken_not_free, free_from, meets_from_low, apart_from_low, scan_same, scan_more}
use Rattle.grid_reader.proofs.SearchLemmas.{stops_at, further_at}
use Rattle.grid_reader.proofs.search.step.Goals as goal
use Rattle.grid_reader.proofs.search.step.Goals.{then-not-is_corner-via-then-not-is_corner, then-not-is_corner-via-else-not-is_corner+then-has_within}

pub returns-then-not-is_corner-clause-ok : goal.returns-then-not-is_corner-clause-ok
returns-then-not-is_corner-clause-ok g c =
    let kind = g.F.Figures.kind c.args.figures.now in
    let searchable = g.met.F.Figures.searchable c.args.figures.now in
    let so_far = c.args.found.now in
    scan_same kind.corner kind.figure (reading_at kind) searchable so_far.first (plains so_far.figures.items) (lowest so_far) c.args.place c.requires.found (λ corner free. elim c.then-not-is_corner.branch [
      | then-not-is_corner-via-then-not-is_corner w ↦ false≢true (w.if-not-is_corner.ensures.1 corner)
      | then-not-is_corner-via-else-not-is_corner+then-has_within w ↦
          taken_not_free kind.corner kind.figure (reading_at kind) searchable so_far.first (plains so_far.figures.items) (lowest so_far) c.args.place c.requires.found c.requires.first (w.if-has_within.ensures.0 refl) free
    ])

pub returns-in_default-clause-err : goal.returns-in_default-clause-err
returns-in_default-clause-err g c =
    let kind = g.F.Figures.kind c.args.figures.now in
    let searchable = g.met.F.Figures.searchable c.args.figures.now in
    subst (λ o. MatchOption o ⊤ (λ e. all_of kind (Err e))) (sym c.open_at.ensures)
    (stops_at kind searchable c.args.found.now c.args.place c.requires.found c.requires.first (c.if-not-is_corner.ensures.0 refl) (λ within. false≢true (c.if-has_within.ensures.1 within))
    (Some (kind.opens c.args.place)) (stops (kind.opens c.args.place) (missing c.in_default.ensures.figure)))

pub returns-then-has_low-clause-err : goal.returns-then-has_low-clause-err
returns-then-has_low-clause-err g c =
    let kind = g.F.Figures.kind c.args.figures.now in
    let searchable = g.met.F.Figures.searchable c.args.figures.now in
    let so_far = c.args.found.now in
    let f = rect_shown c.in-Some.figure in
    subst (λ o. MatchOption o ⊤ (λ e. all_of kind (Err e))) (sym c.meets_at.ensures)
    (stops_at kind searchable so_far c.args.place c.requires.found c.requires.first (c.if-not-is_corner.ensures.0 refl) (λ within. false≢true (c.if-has_within.ensures.1 within))
    (Some (kind.meets c.args.place)) (goes_on f (found f c.in-Some.ensures.figure) (stops (kind.meets c.args.place) (refused
    (meets_from_low kind.corner kind.figure (reading_at kind) searchable so_far.first (plains so_far.figures.items) (lowest so_far) c.args.place f c.requires.found c.requires.first c.in-Some.ensures.figure (c.if-has_low.ensures.0 refl))))))

pub returns-in_err-check-clause-err : goal.returns-in_err-check-clause-err
returns-in_err-check-clause-err g c =
    let kind = g.F.Figures.kind c.args.figures.now in
    let searchable = g.met.F.Figures.searchable c.args.figures.now in
    let so_far = c.args.found.now in
    let f = rect_shown c.in-Some.figure in
    let p = err_from_is_err_and c.from_residual.result c.from_residual.ensures.1 in
    rw (p.1, p.2)
    (stops_at kind searchable so_far c.args.place c.requires.found c.requires.first (c.if-not-is_corner.ensures.0 refl) (λ within. false≢true (c.if-has_within.ensures.1 within))
    (fault_of c.in_err-check.field-0.0) (further_at kind searchable so_far c.args.place f c.in-Some.ensures.figure
    (apart_from_low kind.corner kind.figure (reading_at kind) searchable so_far.first (plains so_far.figures.items) (lowest so_far) c.args.place f c.requires.found c.requires.first c.in-Some.ensures.figure (λ low. false≢true (c.if-has_low.ensures.1 low)))
    (fault_of c.in_err-check.field-0.0) c.in_err-check.ensures))

pub returns-in_err-add-clause-err : goal.returns-in_err-add-clause-err
returns-in_err-add-clause-err g c =
    let p = err_from_is_err_and c.from_residual-in_err-add.result c.from_residual-in_err-add.ensures.1 in
    rw (p.1, p.2) tt

pub returns-clause-ok : goal.returns-clause-ok
returns-clause-ok g c =
    let kind = g.F.Figures.kind c.args.figures.now in
    let searchable = g.met.F.Figures.searchable c.args.figures.now in
    let so_far = c.args.found.now in
    let f = rect_shown c.in-Some.figure in
    let apart = apart_from_low kind.corner kind.figure (reading_at kind) searchable so_far.first (plains so_far.figures.items) (lowest so_far) c.args.place f c.requires.found c.requires.first c.in-Some.ensures.figure (λ low. false≢true (c.if-has_low.ensures.1 low)) in
    let free = free_from kind.corner kind.figure (reading_at kind) searchable so_far.first (plains so_far.figures.items) (lowest so_far) c.args.place c.requires.found c.requires.first (λ within. false≢true (c.if-has_within.ensures.1 within)) in
    let more = scan_more kind.corner kind.figure (reading_at kind) searchable so_far.first (plains so_far.figures.items) (lowest so_far) c.args.place f (lowest c.add.new.self) c.requires.found c.requires.first (c.if-not-is_corner.ensures.0 refl) free c.in-Some.ensures.figure (λ low. false≢true (c.if-has_low.ensures.1 low)) c.in_ok-add.ensures.lowest
    (goes_on f (found f c.in-Some.ensures.figure) (goes_on tt (passed apart) (goes_on tt c.in_ok-check.ensures gave))) in
    subst (λ n. IsScanned kind.corner kind.figure (reading_at kind) (λ q. Before q (at c.args.place.row (c.args.place.col + 1))) n (plains c.add.new.self.figures.items) (lowest c.add.new.self)) (sym c.in_ok-add.ensures.first)
    (subst (λ fs. IsScanned kind.corner kind.figure (reading_at kind) (λ q. Before q (at c.args.place.row (c.args.place.col + 1))) so_far.first fs (lowest c.add.new.self)) (sym c.in_ok-add.ensures.figures) more)
