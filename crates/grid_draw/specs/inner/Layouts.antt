-- The numbers of a module's drawing, as the code keeps them.
use Rattle.std.specs.Prelude.{◌≡◌, ℕ, ◌+◌, ◌<◌, ◌≤◌, ◌^◌, List, map, length, slice_get, Some, Vec}
use Rattle.std.specs.Global.{Global}
use Rattle.two_d.specs.Canonical.{canonical}
use Rattle.two_d.specs.Clean.{WireForm}
use Rattle.two_d.specs.Programs.{BoxForm, ModuleForm, module_of}
use Rattle.two_d.specs.Sound.{IsSound}
use Rattle.two_d.specs.Weights.{part}
use Rattle.two_d.specs.declared.module.Origin.{Origin}
use Rattle.two_d.specs.declared.module.Origin.TheVariants.{North, West, South, East}
use Rattle.two_d.specs.declared.module.To.{To}
use Rattle.two_d.specs.declared.module.To.TheVariants.{N, W, Exit}
use Rattle.grid_draw.specs.Layout.{columns, reach, wires_in}
use Rattle.grid_draw.specs.declared.layout.Layout.{Layout}
use Rattle.grid_draw.specs.declared.layout.Wire.{Wire}

-- a wire without its place in memory
abbrev pub wire_of : Wire → WireForm
wire_of w = record { from = w.from; to = w.to }

-- the module that is drawn
abbrev pub module_in : Layout → ModuleForm
module_in l = module_of l.module.now

-- the texts of the boxes
abbrev pub texts_in : Layout → List (List ℕ)
texts_in l = map (λ (text : Vec ℕ Global). text.items) l.texts.items

-- the text of a box
abbrev pub text_of : BoxForm → List ℕ
text_of row = canonical row.command

-- the module is one of a good program that is no heavier than a grid may be
pub record IsFit (m : ModuleForm) : Type 0 where
  pub sound : IsSound m
  pub light : part m ≤ 262144

-- the numbers are those of the module
pub record IsLayout (l : Layout) : Type 0 where
  pub fit : IsFit (module_in l)
  pub texts : texts_in l ≡ map text_of (module_in l).boxes
  pub wires : map wire_of l.wires.items ≡ wires_in (module_in l)
  pub reach : l.reach ≡ reach (module_in l)
  pub near : l.reach < 2 ^ 63 + 8

-- and its drawing is no wider than a grid may be
pub record IsNarrow (l : Layout) : Type 0 where
  pub layout : IsLayout l
  pub narrow : columns (module_in l) ≤ 4094

-- the box or the exit is there
abbrev pub IsEndOf : ModuleForm → To → Type 0
IsEndOf m (N b) = b < length m.boxes
IsEndOf m (W b) = b < length m.boxes
IsEndOf m (Exit i) = i < length m.exits

-- the box is there
abbrev pub IsStartOf : ModuleForm → Origin → Type 0
IsStartOf m North = Unit {0}
IsStartOf m West = Unit {0}
IsStartOf m (South b) = b < length m.boxes
IsStartOf m (East b) = b < length m.boxes
