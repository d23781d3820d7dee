-- What the code reads a drawing's bytes from.
use Rattle.std.specs.Prelude.{ℕ, ◌+◌, ◌-◌, List, Bool, None, length, slice_index, slice_index_or}
use Rattle.std.specs.Prelude.{◌&&◌, ◌||◌, ◌==◌, nat_lt, if◌then◌else◌}
use Rattle.std.specs.Str.{byte}
use Rattle.two_d.specs.Programs.{BoxForm, ModuleForm}
use Rattle.two_d.specs.Trees.{split, unit}
use Rattle.grid_draw.specs.declared.page.Page.{Page}
use Rattle.grid_draw.specs.inner.Inks.{IsInked}
use Rattle.grid_draw.specs.inner.Layouts.{IsNarrow, module_in}

-- the module that is drawn
abbrev pub module_on : Page → ModuleForm
module_on page = module_in page.layout.now

-- its numbers and its wires are there
pub record IsPage (page : Page) : Type 0 where
  pub layout : IsNarrow page.layout.now
  pub inked : IsInked (module_on page) page.sheet.now

-- what stands where there is no box
abbrev pub no_box : BoxForm
no_box = record { command = split unit; n = None; w = None }

abbrev pub box_on : Page → ℕ → BoxForm
box_on page b = slice_index_or (module_on page).boxes b no_box

-- the byte of a box with this text, from its left side to its right one
abbrev pub framed : List ℕ → ℕ → ℕ → ℕ → ℕ
framed text q col other =
    let side : Bool = (col == 4) || (col == 5 + length text) in
    if (q == 3) || (q == 5) then (if side then byte "*" else byte "=") else
    (if q == 4 then (if side then byte "!" else slice_index text (col - 5)) else other)

-- the byte of a box with this text, to whose sides wires come or not
abbrev pub figure_of : List ℕ → (north west : Bool) → ℕ → ℕ → ℕ → ℕ
figure_of text north west q col other =
    if (q == 2) && (col == 5) && north then byte "v" else
    (if (q == 4) && (col == 3) && west then byte ">" else
    (if nat_lt col 4 || nat_lt (5 + length text) col then other else framed text q col other))
