-- What `draw` tells of a program.
use Rattle.std.specs.Prelude.{◌≡◌, ◌≤◌, Ok, Err}
use Rattle.two_d.specs.Program.{program_of}
use Rattle.two_d.specs.Programs.{Program}
use Rattle.grid_draw.specs.declared.drawing.DrawFault.{DrawFault}
use Rattle.grid_draw.specs.Answers.{HasFault, NoneTooWide, size}
use Rattle.grid_draw.specs.Layout.{drawing_of}
use Rattle.codex_top.specs.Endings.{End}
use Rattle.codex_top.specs.Limits.{most_grid_bytes}
use Rattle.codex_top.specs.Outside.{Stream}
use Rattle.codex_top.specs.Refusals.{drawing_line}
use Rattle.codex_top.specs.Sending.{TextSent}

-- the drawing is no wider and no longer than a grid may be, and it is a grid of the program
pub record IsDrawable (P : Program) : Type 0 where
  pub narrow : NoneTooWide P
  pub short : size P ≤ most_grid_bytes
  pub again : program_of (drawing_of P) (Ok P)

-- How `draw` ends with a program: the output receives its drawing; or the first reason why it has
-- none is told.
pub data DrawingTold (P : Program) (before now : Stream) : End → Type 0 where
  drawn : (end : End) → IsDrawable P → TextSent (drawing_of P) before now end →
      DrawingTold P before now end
  undrawn : (fault : DrawFault) → HasFault P fault → now ≡ before →
      DrawingTold P before now (Err (drawing_line fault))
