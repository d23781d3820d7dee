-- Programs as plain trees and lists.
use Rattle.std.specs.Prelude.{Option, ℕ, List, [], ◌∷◌, Bool, true, false, ◌&&◌, ◌==◌, slice_get}
use Rattle.std.specs.Prelude.{slice_index_or, length, map, codes}
use Rattle.std.specs.List.{position_or_len}
use Rattle.two_d.specs.Trees.{Form, form_of}
use Rattle.two_d.specs.declared.module.BoxRow.{BoxRow}
use Rattle.two_d.specs.declared.module.Module.{Module}
pub use Rattle.two_d.specs.declared.module.Origin.{Origin}
pub use Rattle.two_d.specs.declared.module.Origin.TheVariants.{North, West, South, East}

-- a box
pub record BoxForm : Type 0 where
  pub command : Form
  pub n : Option Origin
  pub w : Option Origin

-- a module
pub record ModuleForm : Type 0 where
  pub name : List ℕ
  pub north : Bool
  pub west : Bool
  pub boxes : List BoxForm
  pub exits : List (Option Origin)

-- modules, in the order of their numbers
abbrev pub Program : Type 0
Program = List ModuleForm

-- a box without the places of its parts in memory
abbrev pub box_of : BoxRow → BoxForm
box_of row = record { command = form_of row.command; n = row.n; w = row.w }

-- a module without the places of its parts in memory
abbrev pub module_of : Module → ModuleForm
module_of m = record {
  name = m.name;
  north = m.north;
  west = m.west;
  boxes = map box_of m.boxes.items;
  exits = m.exits.items;
}

-- modules without the places of their parts in memory
abbrev pub modules_of : List Module → Program
modules_of modules = map module_of modules

-- the two names are the same
abbrev pub is_name : List ℕ → List ℕ → Bool
is_name [] [] = true
is_name (x ∷ xs) (y ∷ ys) = (x == y) && is_name xs ys
is_name [] (y ∷ ys) = false
is_name (x ∷ xs) [] = false

-- the number of the first module with this name, or the number of modules
abbrev pub find : Program → List ℕ → ℕ
find P name = position_or_len (λ m. is_name m.name name) P

-- the number of the module in which an evaluation begins
abbrev pub main_of : Program → ℕ
main_of P = find P (codes "main")

-- what stands where a number names no module
abbrev pub no_module : ModuleForm
no_module = record { name = []; north = false; west = false; boxes = []; exits = [] }

abbrev pub module_at : Program → ℕ → ModuleForm
module_at P m = slice_index_or P m no_module

abbrev pub box_at : Program → ℕ → ℕ → Option BoxForm
box_at P m b = slice_get (module_at P m).boxes b

-- how many boxes a module has
abbrev pub box_count : Program → ℕ → ℕ
box_count P m = length (module_at P m).boxes
