-- Outs as plain trees, and how those behind the first are written.
use Rattle.std.specs.Prelude.{ℕ, List, [], ◌∷◌, ◌++◌, Vec, codes, map}
use Rattle.std.specs.declared.alloc.Global.{Global}
use Rattle.two_d.specs.Canonical.{shown_out}
use Rattle.two_d.specs.Trees.{Tree, tree_of}
use Rattle.two_d.specs.declared.command.Exp.{Exp}
use Rattle.two_d.specs.declared.command.Side.{Side}

abbrev pub out_of : Exp × Side → Tree × Side
out_of out = (tree_of out.0, out.1)

abbrev pub outs_shown : Vec (Exp × Side) Global → List (Tree × Side)
outs_shown outs = map out_of outs.items

-- the outs, each behind a `,`
abbrev pub more_outs : List (Tree × Side) → List ℕ
more_outs [] = []
more_outs (o ∷ os) = codes "," ++ shown_out o ++ more_outs os
