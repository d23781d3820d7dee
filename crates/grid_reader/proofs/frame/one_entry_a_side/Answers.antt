use Rattle.std.proofs.Common.{◌≡◌, Some, None, sym, ap, ◌∙◌}
use Rattle.std.specs.Prelude.{slice_get}
use Rattle.two_d.specs.Frames.{north_entries, west_entries}
use Rattle.two_d.specs.Reading.{goes_on, stops, refused_at, none}
use Rattle.grid_reader.specs.inner.Rects.{rect_shown}
use Rattle.grid_reader.proofs.frame.one_entry_a_side.Goals as goal

pub returns-in-Some : goal.returns-in-Some
returns-in-Some c =
    let same = c.deref.ensures.value ∙ c.in_ok-norths.ensures in
    let here : slice_get (north_entries c.args.grid.now (rect_shown c.args.frame.now)) 1 ≡ Some c.in-Some.col = ap (λ xs. slice_get xs 1) (sym same) ∙ sym c.second.ensures ∙ c.in-Some.is in
    stops _ (refused_at c.in-Some.col here)

pub returns-in-Some-second : goal.returns-in-Some-second
returns-in-Some-second c =
    let norths = c.deref.ensures.value ∙ c.in_ok-norths.ensures in
    let one : slice_get (north_entries c.args.grid.now (rect_shown c.args.frame.now)) 1 ≡ None = ap (λ xs. slice_get xs 1) (sym norths) ∙ sym c.second.ensures ∙ c.in_default.is in
    let wests = c.deref-2.ensures.value ∙ c.in_ok-wests.ensures in
    let here : slice_get (west_entries c.args.grid.now (rect_shown c.args.frame.now)) 1 ≡ Some c.in-Some-second.row = ap (λ xs. slice_get xs 1) (sym wests) ∙ sym c.second-2.ensures ∙ c.in-Some-second.is in
    goes_on tt (none (λ col two. absurd (let e = sym one ∙ two in cc))) (refused_at c.in-Some-second.row here)

pub returns : goal.returns
returns c =
    let norths = c.deref.ensures.value ∙ c.in_ok-norths.ensures in
    let one : slice_get (north_entries c.args.grid.now (rect_shown c.args.frame.now)) 1 ≡ None = ap (λ xs. slice_get xs 1) (sym norths) ∙ sym c.second.ensures ∙ c.in_default.is in
    let wests = c.deref-2.ensures.value ∙ c.in_ok-wests.ensures in
    let one_west : slice_get (west_entries c.args.grid.now (rect_shown c.args.frame.now)) 1 ≡ None = ap (λ xs. slice_get xs 1) (sym wests) ∙ sym c.second-2.ensures ∙ c.in_default-second.is in
    goes_on tt (none (λ col two. absurd (let e = sym one ∙ two in cc))) (none (λ row two. absurd (let e = sym one_west ∙ two in cc)))
