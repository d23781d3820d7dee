-- What a page tells of a border that breaks.
use Rattle.std.specs.Prelude.{◌≡◌, ℕ, List, [], ◌++◌, codes, decimal, Option, Some, None, Err, Ok}
use Rattle.text_picture.specs.Pictures.{lined, picture_lines}
use Rattle.two_d.specs.Cells.{Grid, grid_of}
use Rattle.two_d.specs.Faults.{TextFault, open_frame, open_box}
use Rattle.border_break.specs.Breaks.{IsBreak}
use Rattle.border_break.specs.declared.figure.Break.{Break}
use Rattle.border_break.specs.declared.figure.Figure.TheVariants.{Frame, Box}
use Rattle.border_break.specs.declared.figure.Side.{Side}
use Rattle.border_break.specs.declared.figure.Side.TheVariants.{Top, Left, Bottom, Right}
use Rattle.fault_view.specs.declared.breaks.Border.{Border}

-- the frame or box that a fault says doesn't close, by its upper left corner
abbrev pub border_of : TextFault → Option Border
border_of (open_frame p) = Some (record { figure = Frame; corner = p })
border_of (open_box p) = Some (record { figure = Box; corner = p })
border_of f = None

abbrev pub side_name : Side → List ℕ
side_name Top = codes "top"
side_name Left = codes "left"
side_name Bottom = codes "bottom"
side_name Right = codes "right"

abbrev pub break_line : Break → List ℕ
break_line b =
    codes "The " ++ side_name b.side ++ codes " border breaks at " ++ decimal b.place.row
    ++ codes ":" ++ decimal b.place.col ++ codes ":\n"

-- the line of a break and the picture of its cell, where there is one
abbrev pub break_part : List ℕ → Option Break → List ℕ
break_part text None = []
break_part text (Some b) = break_line b ++ lined (picture_lines text b.place)

-- what is told of a border is where it breaks; of a text that has no cells, and of no border, nothing
pub data IsBorderTold (text : List ℕ) : Option Border → List ℕ → Type 0 where
  breaks : (border : Border) (grid : Grid) (b : Option Break) → grid_of text (Ok grid) →
      IsBreak grid border.figure border.corner b → IsBorderTold text (Some border) (break_part text b)
  no_cells : (border : Border) (f : TextFault) → grid_of text (Err f) → IsBorderTold text (Some border) []
  no_border : IsBorderTold text None []

-- it has been added to a page
abbrev pub AddsBreak : List ℕ → Option Border → (old new : List ℕ) → Type 0
AddsBreak text border old new = (told : List ℕ) × IsBorderTold text border told × (new ≡ old ++ told)
