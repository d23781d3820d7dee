-- Why the bytes of a drawing aren't counted.
use Rattle.std.specs.Prelude.{◌≡◌, ℕ, ◌+◌, ⊤}
use Rattle.two_d.specs.Places.{IsLeast}
use Rattle.two_d.specs.Programs.{Program}
use Rattle.grid_draw.specs.Answers.{IsTooWide}
use Rattle.grid_draw.specs.declared.drawing.DrawFault.{DrawFault}
use Rattle.grid_draw.specs.declared.drawing.DrawFault.TheVariants.{TooWide, TooLong, Memory}

abbrev pub IsNoSize : Program → DrawFault → Type 0
IsNoSize P (TooWide n) = (i : ℕ) × (n ≡ i + 1) × IsLeast (IsTooWide P) i
IsNoSize P (TooLong n) = ⊥
IsNoSize P Memory = ⊤
