-- What `draw` answers.
use Rattle.std.specs.Prelude.{◌≡◌, ◌+◌, ◌<◌, ◌≤◌, ℕ, length, slice_get, Some, Vec, ⊤}
use Rattle.std.specs.Global.{Global}
use Rattle.two_d.specs.Places.{IsLeast}
use Rattle.two_d.specs.Programs.{ModuleForm, Program}
use Rattle.grid_draw.specs.Layout.{columns, drawing_of}
use Rattle.grid_draw.specs.declared.drawing.DrawFault.{DrawFault}
use Rattle.grid_draw.specs.declared.drawing.DrawFault.TheVariants.{TooWide, TooLong, Memory}

-- the drawing of module i, from 0, has more columns than a line of a grid may have
abbrev pub IsTooWide : Program → ℕ → Type 0
IsTooWide P i = (m : ModuleForm) × (slice_get P i ≡ Some m) × (4096 < columns m + 2)

-- the drawing of no module has
abbrev pub NoneTooWide : Program → Type 0
NoneTooWide P = (i : ℕ) → IsTooWide P i → ⊥

-- how many bytes the drawing has
abbrev pub size : Program → ℕ
size P = length (drawing_of P)

-- the drawing is handed out where neither fault comes
pub record IsDrawn (P : Program) (text : Vec ℕ Global) : Type 0 where
  pub bytes : text.items ≡ drawing_of P
  pub narrow : NoneTooWide P
  pub short : size P ≤ 262144

-- a fault comes just where it is the first
abbrev pub HasFault : Program → DrawFault → Type 0
HasFault P (TooWide n) = (i : ℕ) × (n ≡ i + 1) × IsLeast (IsTooWide P) i
HasFault P (TooLong n) = NoneTooWide P × (n ≡ size P) × (262144 < n)
HasFault P Memory = ⊤
