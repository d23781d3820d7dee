-- The canonical text of a command: one space where the grammar wants one, no needless parentheses,
-- no quotation marks.
use Rattle.std.specs.Prelude.{ℕ, List, [], ◌∷◌, ◌++◌, codes}
use Rattle.two_d.specs.Trees.{Tree, Form, unit, n, w, pair, inl, inr, send, case, split, call}
use Rattle.two_d.specs.declared.command.Side.TheVariants.{S, E}
use Rattle.two_d.specs.declared.command.Side.{Side}

abbrev pub shown : Tree → List ℕ
shown unit = codes "()"
shown n = codes "N"
shown w = codes "W"
shown (pair a b) = codes "(" ++ shown a ++ codes "," ++ shown b ++ codes ")"
shown (inl a) = codes "Inl " ++ shown a
shown (inr a) = codes "Inr " ++ shown a

abbrev pub shown_side : Side → List ℕ
shown_side S = codes "S"
shown_side E = codes "E"

abbrev pub shown_out : Tree × Side → List ℕ
shown_out (x, s) = codes "(" ++ shown x ++ codes "," ++ shown_side s ++ codes ")"

abbrev pub shown_outs : List (Tree × Side) → List ℕ
shown_outs [] = []
shown_outs (o ∷ []) = shown_out o
shown_outs (o ∷ p ∷ more) = shown_out o ++ codes "," ++ shown_outs (p ∷ more)

-- the canonical text
abbrev pub canonical : Form → List ℕ
canonical (send outs) = codes "send [" ++ shown_outs outs ++ codes "]"
canonical (case x s t) = codes "case " ++ shown x ++ codes " of " ++ shown_side s ++ codes "," ++ shown_side t
canonical (split x) = codes "split " ++ shown x
canonical (call name) = codes "use " ++ name
