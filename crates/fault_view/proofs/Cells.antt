-- The cells of a text, and what is told of a break in them.
use Rattle.std.proofs.Common.{◌≡◌, ◌++◌, List, ℕ, Option, Some, refl, ap, ◌∙◌}
use Rattle.std.proofs.lemmas.List.{append_assoc}
use Rattle.std.specs.Prelude.{Err, Ok}
use Rattle.two_d.specs.Cells.{Grid, grid_of}
use Rattle.border_break.specs.Breaks.{IsBreak}
use Rattle.border_break.specs.declared.figure.Break.{Break}
use Rattle.fault_view.specs.Breaks.{AddsBreak, break_part, breaks}
use Rattle.fault_view.specs.declared.breaks.Border.{Border}
use Rattle.two_d.specs.Faults.{TextFault}
use Rattle.two_d.specs.Reading.{Refuses}
use Rattle.grid_reader.specs.Faults.{fault_of}
use Rattle.grid_reader.specs.declared.fault.GridFault.{GridFault}
use Rattle.grid_reader.specs.declared.fault.GridFault.TheVariants.{TooLong, BadByte, LineTooLong}
use Rattle.grid_reader.specs.declared.fault.GridFault.TheVariants.{OpenFrame, FramesMeet}
use Rattle.grid_reader.specs.declared.fault.GridFault.TheVariants.{TwoEntries, NoName, OpenBox}
use Rattle.grid_reader.specs.declared.fault.GridFault.TheVariants.{BoxesMeet, Memory}

pub refused_cells : (text : List ℕ) (e : GridFault) → (e ≡ Memory → ⊥) →
    Refuses (grid_of text) (fault_of e) → (f : TextFault) × grid_of text (Err f)
refused_cells text TooLong other refused = (_, refused)
refused_cells text (BadByte p) other refused = (_, refused)
refused_cells text (LineTooLong p) other refused = (_, refused)
refused_cells text (OpenFrame p) other refused = (_, refused)
refused_cells text (FramesMeet p) other refused = (_, refused)
refused_cells text (TwoEntries p) other refused = (_, refused)
refused_cells text (NoName p) other refused = (_, refused)
refused_cells text (OpenBox p) other refused = (_, refused)
refused_cells text (BoxesMeet p) other refused = (_, refused)
refused_cells text Memory other refused = absurd (other refl)

-- what was told of a border's break has been added
pub break_added : (text : List ℕ) (given : Option Border) (border : Border) (grid : Grid) (b : Option Break) (old new : List ℕ) →
    given ≡ Some border → grid_of text (Ok grid) → IsBreak grid border.figure border.corner b →
    new ≡ old ++ break_part text b → AddsBreak text given old new
break_added text given border grid b old new is cells broken added =
    rw is (break_part text b, breaks border grid b cells broken, added)

-- a line and a picture have been added
pub two_added : (old line shown between new : List ℕ) → between ≡ old ++ line → new ≡ between ++ shown →
    new ≡ old ++ (line ++ shown)
two_added old line shown between new first second =
    second ∙ ap (λ (items : List ℕ). items ++ shown) first ∙ append_assoc old line shown
