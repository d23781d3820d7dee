-- The texts of a program, in the order of their numbers.
use Rattle.std.specs.Prelude.{ℕ, List, suc, ◌∷◌, ◌++◌, zero, length, slice_index_or, []}
use Rattle.two_d.specs.declared.trail.Site.TheVariants.{NoSum, NoPair, NoResult, TwoResults}
use Rattle.two_d.specs.Trees.{Form, send, case, split, call}
use Rattle.two_d.specs.Programs.{Program, BoxForm, module_at}
use Rattle.two_d.specs.Texts.{site_line, caller_line}

-- a box has one text: where it is stuck, or that it is a caller; a `send` has an empty one
abbrev pub box_line : Program → (m b : ℕ) → Form → List ℕ
box_line P m b (send outs) = []
box_line P m b (case x left right) = site_line P (NoSum m b)
box_line P m b (split x) = site_line P (NoPair m b)
box_line P m b (call name) = caller_line P (m, b)

-- from box b on
abbrev pub box_lines : Program → (m b : ℕ) → List BoxForm → List (List ℕ)
box_lines P m b [] = []
box_lines P m b (row ∷ rows) = box_line P m b row.command ∷ box_lines P m (suc b) rows

-- the lines of a module in which no box is at fault
abbrev pub end_lines : Program → ℕ → List (List ℕ)
end_lines P m = site_line P (NoResult m) ∷ site_line P (TwoResults m) ∷ []

-- the lines of a module
abbrev pub module_lines : Program → ℕ → List (List ℕ)
module_lines P m = box_lines P m 0 (module_at P m).boxes ++ end_lines P m

-- those of the first n modules
abbrev pub lines_below : Program → ℕ → List (List ℕ)
lines_below P zero = []
lines_below P (suc n) = lines_below P n ++ module_lines P n

-- the lines of a program
abbrev pub all_lines : Program → List (List ℕ)
all_lines P = lines_below P (length P)

-- the text with a number
abbrev pub line_at : Program → ℕ → List ℕ
line_at P k = slice_index_or (all_lines P) k []
