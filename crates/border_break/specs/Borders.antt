-- What the borders of a frame and of a box are made of (docs/GRID.md, "Frames", "Boxes").
use Rattle.std.specs.Prelude.{◌≡◌, ℕ}
use Rattle.std.specs.Str.{byte}
use Rattle.two_d.specs.Frames.{IsTopByte, IsSideByte}
use Rattle.border_break.specs.declared.figure.Figure.{Figure}
use Rattle.border_break.specs.declared.figure.Figure.TheVariants.{Frame, Box}

-- the two upper corners
abbrev pub upper_corner : Figure → ℕ
upper_corner Frame = byte ","
upper_corner Box = byte "*"

-- the two lower corners
abbrev pub lower_corner : Figure → ℕ
lower_corner Frame = byte "'"
lower_corner Box = byte "*"

-- between the upper corners
abbrev pub IsOfTop : Figure → ℕ → Type 0
IsOfTop Frame b = IsTopByte b
IsOfTop Box b = b ≡ byte "="

-- between the lower corners
abbrev pub IsOfBottom : Figure → ℕ → Type 0
IsOfBottom Frame b = b ≡ byte "."
IsOfBottom Box b = b ≡ byte "="

-- between the left corners, and between the right ones
abbrev pub IsOfSide : Figure → ℕ → Type 0
IsOfSide Frame b = IsSideByte b
IsOfSide Box b = b ≡ byte "!"
