use Rattle.std.proofs.Common.{◌≡◌, ℕ, ◌+◌, ◌⊎◌, inl, inr, length, sym, subst, ◌∙◌}
use Rattle.two_d.specs.Cells.{Grid, cell}
use Rattle.two_d.specs.Frames.{IsFrame}
use Rattle.two_d.specs.Names.{IsName, IsNameByte}
use Rattle.two_d.specs.Places.{at, Rect, corner_of}
use Rattle.two_d.specs.Reading.{found, missing}
use Rattle.grid_reader.specs.Frames.{rect_of}
use Rattle.grid_reader.proofs.NameLemmas.{border_ends}
use Rattle.two_d.proofs.SomeGrid.{name_is_run}
use Rattle.grid_reader.proofs.module_name.name.Goals as goal

-- the run ends, at the right border if not before
ends : (grid : Grid) (f : Rect) (n : ℕ) → IsFrame grid (corner_of f) f → (f.left + 1 + n ≡ f.right) ⊎ (IsNameByte (cell grid (at (f.top + 1) (f.left + 1 + n))) → ⊥) → IsNameByte (cell grid (at (f.top + 1) (f.left + 1 + n))) → ⊥
ends grid f n h (inr stops) byte = stops byte
ends grid f n h (inl border) byte = border_ends grid f h (subst (λ col. IsNameByte (cell grid (at (f.top + 1) col))) border byte)

pub returns-in-Some : goal.returns-in-Some
returns-in-Some c =
    let f = rect_of c.args.frame.now in
    let run = c.in_ok-run.run'.items in
    let same = c.deref.ensures.value in
    let is = rw c.in-Some.is at c.in_ok-name.ensures.name in
    rw (is.0 ∙ same) (found run (record {
      valid = subst IsName same is.1;
      written = c.in_ok-run.ensures.written;
      longest = ends c.args.grid.now f (length run) c.requires.borders c.in_ok-run.ensures.longest;
    }))

pub returns : goal.returns
returns c =
    let f = rect_of c.args.frame.now in
    let run = c.in_ok-run.run'.items in
    let no = rw c.in-None.is at c.in_ok-name.ensures.name in
    missing (λ x its. no (subst IsName (name_is_run c.args.grid.now f run c.in_ok-run.ensures.letters c.in_ok-run.ensures.written (ends c.args.grid.now f (length run) c.requires.borders c.in_ok-run.ensures.longest) x its ∙ sym c.deref.ensures.value) its.valid))
