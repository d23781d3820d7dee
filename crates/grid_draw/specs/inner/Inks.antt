-- The cells over which wires run, as the code marks them.
use Rattle.std.specs.Prelude.{◌≡◌, ℕ, ◌+◌, ◌<◌, List, Bool, false, ◌&&◌, ◌==◌, if◌then◌else◌}
use Rattle.std.specs.List.{list_any}
use Rattle.std.specs.Str.{byte}
use Rattle.umix_base.specs.declared.place.Place.{Place}
use Rattle.two_d.specs.Places.{at}
use Rattle.two_d.specs.Programs.{ModuleForm}
use Rattle.two_d.specs.Wires.{Axis, horizontal, vertical, axis_of}
use Rattle.grid_picture.specs.Courses.{Leg, bends_at, has_cell, passes, same_axis}
use Rattle.grid_draw.specs.Layout.{columns, courses, rows}
use Rattle.grid_draw.specs.declared.sheet.Sheet.{Sheet}
use Rattle.grid_draw.specs.inner.Sets.{Gains, IsSized, has}

-- one of the legs has the cell on the axis
abbrev pub passed : Axis → List Leg → ℕ → ℕ → Bool
passed a ls r c =
    list_any (λ (l : Leg). same_axis a (axis_of l.to) && has_cell l.to l.from l.long (at r c)) ls

-- one of the legs begins at the cell
abbrev pub turned : List Leg → ℕ → ℕ → Bool
turned ls r c = list_any (λ (l : Leg). (l.from.row == r) && (l.from.col == c)) ls

-- the sheet is of so many rows and columns
pub record AreSized (rows columns : ℕ) (sheet : Sheet) : Type 0 where
  pub across : IsSized rows columns sheet.across
  pub down : IsSized rows columns sheet.down
  pub turns : IsSized rows columns sheet.turns

abbrev pub IsWhole : Sheet → Type 0
IsWhole sheet = AreSized sheet.across.rows sheet.across.columns sheet

-- there are no wires on the sheet
pub record IsBlank (sheet : Sheet) : Type 0 where
  pub across : (r c : ℕ) → has sheet.across r c ≡ false
  pub down : (r c : ℕ) → has sheet.down r c ≡ false
  pub turns : (r c : ℕ) → has sheet.turns r c ≡ false

-- the sheet has these legs besides, at the beginnings of some of which a wire turns
pub record Inks (old new : Sheet) (straight bent : List Leg) : Type 0 where
  pub across : Gains old.across new.across (passed horizontal straight)
  pub down : Gains old.down new.down (passed vertical straight)
  pub turns : Gains old.turns new.turns (turned bent)

-- the byte of a cell, by where wires turn and pass
abbrev pub mark_byte : (turns across down : Bool) → ℕ
mark_byte turns across down =
    if turns then byte "+" else
    (if across then (if down then byte "#" else byte "-") else (if down then byte "|" else byte " "))

-- the sheet has the wires of the module
pub record IsInked (m : ModuleForm) (sheet : Sheet) : Type 0 where
  pub sized : AreSized (rows m + 2) (columns m + 2) sheet
  pub across : (r c : ℕ) → r < rows m + 2 → c < columns m + 2
      → has sheet.across r c ≡ passes horizontal (courses m) (at r c)
  pub down : (r c : ℕ) → r < rows m + 2 → c < columns m + 2
      → has sheet.down r c ≡ passes vertical (courses m) (at r c)
  pub turns : (r c : ℕ) → r < rows m + 2 → c < columns m + 2
      → has sheet.turns r c ≡ bends_at (courses m) (at r c)
