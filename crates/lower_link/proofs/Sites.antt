-- Where a program can be stuck, and by which boxes: the kinds of boxes that trails name.
use Rattle.std.specs.Prelude.{◌≡◌, ℕ, ◌<◌, length, Some, All}
use Rattle.two_d.specs.Trees.{Form, send, case, split, call}
use Rattle.two_d.specs.Programs.{BoxForm, Program, box_at}
use Rattle.two_d.specs.declared.trail.Site.{Site}
use Rattle.two_d.specs.declared.trail.Site.TheVariants.{NoSum, NoPair, NoResult, TwoResults}
use Rattle.two_d.specs.Trails.{Trail}
use Rattle.two_d.specs.Meaning.{Outcome, Gives, Stuck}

abbrev pub IsCase : Form → Type 0
IsCase (send outs) = ⊥
IsCase (case x left right) = Unit {0}
IsCase (split x) = ⊥
IsCase (call name) = ⊥

abbrev pub IsSplit : Form → Type 0
IsSplit (send outs) = ⊥
IsSplit (case x left right) = ⊥
IsSplit (split x) = Unit {0}
IsSplit (call name) = ⊥

abbrev pub IsUse : Form → Type 0
IsUse (send outs) = ⊥
IsUse (case x left right) = ⊥
IsUse (split x) = ⊥
IsUse (call name) = Unit {0}

-- the program has this box, with such a command
abbrev pub HasBox : Program → (Form → Type 0) → ℕ × ℕ → Type 0
HasBox P Is box = (box.0 < length P) × (row : BoxForm) × (box_at P box.0 box.1 ≡ Some row) × Is row.command

-- a box that can be stuck so, or a module that can
abbrev pub IsSiteIn : Program → Site → Type 0
IsSiteIn P (NoSum m b) = HasBox P IsCase (m, b)
IsSiteIn P (NoPair m b) = HasBox P IsSplit (m, b)
IsSiteIn P (NoResult m) = m < length P
IsSiteIn P (TwoResults m) = m < length P

abbrev pub IsCallerIn : Program → ℕ × ℕ → Type 0
IsCallerIn P box = HasBox P IsUse box

pub record IsTrailIn (P : Program) (trail : Trail) : Type 0 where
  pub site : IsSiteIn P trail.site
  pub callers : All (IsCallerIn P) trail.callers

abbrev pub IsOutcomeIn : Program → Outcome → Type 0
IsOutcomeIn P (Gives v) = Unit {0}
IsOutcomeIn P (Stuck trail) = IsTrailIn P trail
