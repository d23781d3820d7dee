-- The program of a text, or its first fault (docs/GRID.md, "Faults").
use Rattle.std.specs.Prelude.{◌≡◌, ℕ, ◌↔◌, List, [], length, map, slice_get, slice_index_or}
use Rattle.std.specs.Prelude.{is_some, Contains, Result, Ok, Err}
use Rattle.umix_base.specs.declared.place.Place.{Place}
use Rattle.two_d.specs.Places.{Rect, corner_of}
use Rattle.two_d.specs.Faults.{TextFault, bad_command, too_deep}
use Rattle.two_d.specs.Faults as faults
use Rattle.two_d.specs.Reading.{Reading, give, the, each, faults_mapped, ◌>>=◌}
use Rattle.two_d.specs.Cells.{Grid, grid_of}
use Rattle.two_d.specs.Frames.{frames_of, name_of, north_entries, west_entries, exits_of}
use Rattle.two_d.specs.Boxes.{boxes_of, command_text, place_in}
use Rattle.two_d.specs.Grammar.{IsTextOf, IsBad, IsTooDeep}
use Rattle.two_d.specs.Trees.{Form}
use Rattle.two_d.specs.Ports.{Drawing}
use Rattle.two_d.specs.Clean.{WireForm, wires_of}
use Rattle.two_d.specs.Programs.{BoxForm, ModuleForm, Program}
use Rattle.two_d.specs.Sound.{Comes}
use Rattle.two_d.specs.Table as table
use Rattle.two_d.specs.Table.{Wrong, table_of}
use Rattle.two_d.specs.declared.module.Origin.{Origin}
use Rattle.two_d.specs.declared.module.To.{To}

-- the command of a box, or a fault at a byte of its text
pub data CommandOf (grid : Grid) (b : Rect) : Result Form TextFault → Type 0 where
  command : (c : Form) → IsTextOf (command_text grid b) c → CommandOf grid b (Ok c)
  bad : (k : ℕ) → IsBad (command_text grid b) k →
      CommandOf grid b (Err (bad_command (place_in b k)))
  deep : (k : ℕ) → IsTooDeep (command_text grid b) k →
      CommandOf grid b (Err (too_deep (place_in b k)))

-- the drawing of a module with this name and these boxes
abbrev pub drawing : Grid → Rect → List ℕ → List Rect → Drawing
drawing grid f name boxes =
    record { grid = grid; frame = f; name_length = length name; boxes = boxes }

-- the module that a drawing shows, with this name, these commands and these wires
pub record Shows (m : Drawing) (name : List ℕ) (commands : List Form) (wires : List WireForm)
    (s : ModuleForm) : Type 0 where
  pub named : s.name ≡ name
  pub north : s.north ≡ is_some (slice_get (north_entries m.grid m.frame) 0)
  pub west : s.west ≡ is_some (slice_get (west_entries m.grid m.frame) 0)
  pub commands_are : map (λ (row : BoxForm). row.command) s.boxes ≡ commands
  pub exits : length s.exits ≡ length (exits_of m.grid m.frame)
  pub wires_are : (o : Origin) (end : To) →
      Comes s o end ↔ Contains wires (record { from = o; to = end })

-- a module that was read, and where it and its boxes are drawn
pub record Drawn : Type 0 where
  pub shape : ModuleForm
  pub frame : Rect
  pub boxes : List Rect

-- the module in a frame, or its first fault
abbrev pub module_in : Grid → Rect → Reading TextFault Drawn
module_in grid f = do
  name ← name_of grid f
  boxes ← boxes_of grid f
  commands ← each (CommandOf grid) boxes
  wires ← wires_of (drawing grid f name boxes)
  shape ← the (Shows (drawing grid f name boxes) name commands wires)
  give (record { shape = shape; frame = f; boxes = boxes })

-- what stands where a number names no figure
abbrev pub no_figure : Rect
no_figure = record { top = 0; left = 0; bottom = 0; right = 0 }

-- the corner of module i, and of its box b
abbrev pub module_place : List Drawn → ℕ → Place
module_place ms i = corner_of (slice_index_or (map (λ (m : Drawn). m.frame) ms) i no_figure)

abbrev pub box_place : List Drawn → ℕ → ℕ → Place
box_place ms i b =
    corner_of (slice_index_or (slice_index_or (map (λ (m : Drawn). m.boxes) ms) i []) b no_figure)

-- what is wrong with the list of modules, as a fault at a place
abbrev pub placed_fault : List Drawn → Wrong → TextFault
placed_fault ms (table.same_name i) = faults.same_name (module_place ms i)
placed_fault ms table.no_main = faults.no_main
placed_fault ms (table.main_has_input i) = faults.main_has_input (module_place ms i)
placed_fault ms (table.no_module i b) = faults.no_module (box_place ms i b)
placed_fault ms (table.bad_inputs i b) = faults.bad_inputs (box_place ms i b)
placed_fault ms (table.unwired i b) = faults.unwired (box_place ms i b)
placed_fault ms (table.cycle i b) = faults.cycle (box_place ms i b)

-- the program of a text: its modules in reading order; or its first fault
abbrev pub program_of : List ℕ → Reading TextFault Program
program_of text = do
  grid ← grid_of text
  frames ← frames_of grid
  modules ← each (module_in grid) frames
  faults_mapped (placed_fault modules) (table_of (map (λ (m : Drawn). m.shape) modules))
