-- The modules of a grid as the code keeps them, and the places where they are drawn.
use Rattle.std.specs.Prelude.{◌≡◌, ◌↔◌, ◌+◌, ◌-◌, ◌*◌, ◌<◌, ℕ, false, List, [], length, map}
use Rattle.std.specs.Prelude.{slice_get, is_some, Option, Some, None}
use Rattle.std.specs.Prelude.{Contains}
use Rattle.umix_base.specs.declared.place.Place.{Place}
use Rattle.two_d.specs.Places.{Rect, corner_of}
use Rattle.two_d.specs.Clean.{WireForm}
use Rattle.two_d.specs.Faults.{number_and_place}
use Rattle.two_d.specs.Program.{Drawn, placed_fault}
use Rattle.two_d.specs.Programs.{BoxForm, ModuleForm, Program, box_of, module_of}
use Rattle.two_d.specs.declared.module.Origin.{Origin}
use Rattle.two_d.specs.Reading.{Reading, faults_mapped}
use Rattle.two_d.specs.Sound.{Comes}
use Rattle.two_d.specs.Table.{table_of}
use Rattle.two_d.specs.Trees.{Form}
use Rattle.two_d.specs.declared.module.BoxRow.{BoxRow}
use Rattle.two_d.specs.declared.module.Module.{Module}
use Rattle.two_d.specs.declared.module.To.{To}
use Rattle.two_d.specs.declared.module.To.TheVariants.{N, W, Exit}
use Rattle.grid_reader.specs.declared.box_frame.BoxFrame.{BoxFrame}
use Rattle.grid_reader.specs.declared.frame.Frame.{Frame}
use Rattle.module_table.specs.declared.corners.Corners.{Corners}

-- the rectangle with these opposite corners
abbrev pub rect_between : Place → Place → Rect
rect_between corner end = record { top = corner.row; left = corner.col; bottom = end.row; right = end.col }

-- a box has an interior, in which each byte of its text, and its end, has a place
pub record IsRoomy (b : BoxFrame) : Type 0 where
  pub wide : b.left + 1 < b.right
  pub high : b.top + 1 < b.bottom
  pub room : length b.text.items < (b.bottom - b.top - 1) * (b.right - b.left)

-- a box to which no wire leads yet
abbrev pub bare : Form → BoxForm
bare c = record { command = c; n = None; w = None }

-- boxes with these commands, to which no wire leads yet
abbrev pub AreBare : List BoxRow → List Form → Type 0
AreBare rows commands = map box_of rows ≡ map bare commands

-- an end is there in a module of so many boxes and exits
abbrev pub IsThere : ℕ → ℕ → To → Type 0
IsThere boxes exits (N b) = b < boxes
IsThere boxes exits (W b) = b < boxes
IsThere boxes exits (Exit i) = i < exits

-- each end of a wire is there, and no two wires have one end
pub record AreEndsApart (boxes exits : ℕ) (wires : List WireForm) : Type 0 where
  pub there : (k : ℕ) (w : WireForm) → slice_get wires k ≡ Some w → IsThere boxes exits w.to
  pub apart : (k j : ℕ) (w v : WireForm) → k < j → slice_get wires k ≡ Some w → slice_get wires j ≡ Some v
      → w.to ≡ v.to → ⊥

-- boxes and exits with the origins of their wires, as a module without a name
abbrev pub nameless : List BoxForm → List (Option Origin) → ModuleForm
nameless boxes exits = record { name = []; north = false; west = false; boxes = boxes; exits = exits }

-- An origin is written at an end, and nothing else has changed.
pub record Connects (from : Origin) (to : To) (boxes : List BoxForm) (exits : List (Option Origin))
    (boxes' : List BoxForm) (exits' : List (Option Origin)) : Type 0 where
  pub commands :
      map (λ (row : BoxForm). row.command) boxes' ≡ map (λ (row : BoxForm). row.command) boxes
  pub as_many : length exits' ≡ length exits
  pub here : (o : Origin) → Comes (nameless boxes' exits') o to ↔ (o ≡ from)
  pub others : (o : Origin) (end : To) → (end ≡ to → ⊥)
      → Comes (nameless boxes' exits') o end ↔ Comes (nameless boxes exits) o end

-- the module that has a frame's entries and exits, these boxes, and these wires alone
pub record IsBuilt (frame : Frame) (name : List ℕ) (boxes : List BoxForm) (wires : List WireForm)
    (m : ModuleForm) : Type 0 where
  pub named : m.name ≡ name
  pub north : m.north ≡ is_some frame.north
  pub west : m.west ≡ is_some frame.west
  pub commands :
      map (λ (row : BoxForm). row.command) m.boxes ≡ map (λ (row : BoxForm). row.command) boxes
  pub exits : length m.exits ≡ length frame.exits.items
  pub wires_are : (o : Origin) (end : To) → Comes m o end ↔ Contains wires (record { from = o; to = end })

-- a module and its corners are those of what was read
pub record IsModuleRead (x : Module × Corners) (d : Drawn) : Type 0 where
  pub shape : module_of x.0 ≡ d.shape
  pub frame : x.1.frame ≡ corner_of d.frame
  pub boxes : x.1.boxes.items ≡ map corner_of d.boxes

-- the program of modules that were read, or what is wrong with them by number and place
abbrev pub placed_reading : List Drawn → Reading (ℕ × Option Place) Program
placed_reading ds =
    faults_mapped number_and_place (faults_mapped (placed_fault ds) (table_of (map (λ (d : Drawn). d.shape) ds)))
