-- The weight of a program.
use Rattle.std.specs.Prelude.{ℕ, ◌+◌, List, [], ◌∷◌, length}
use Rattle.two_d.specs.Programs.{BoxForm, ModuleForm, Program}
use Rattle.two_d.specs.Trees as tree
use Rattle.two_d.specs.Trees.{Tree}
use Rattle.two_d.specs.Good.{trees_of}

-- the nodes of an expression
abbrev pub nodes : Tree → ℕ
nodes tree.unit = 1
nodes tree.n = 1
nodes tree.w = 1
nodes (tree.pair a b) = 1 + nodes a + nodes b
nodes (tree.inl a) = 1 + nodes a
nodes (tree.inr a) = 1 + nodes a

-- the nodes of several expressions
abbrev pub all_nodes : List Tree → ℕ
all_nodes [] = 0
all_nodes (x ∷ xs) = nodes x + all_nodes xs

abbrev pub box_part : BoxForm → ℕ
box_part row = 8 + all_nodes (trees_of row.command)

abbrev pub boxes_part : List BoxForm → ℕ
boxes_part [] = 0
boxes_part (row ∷ rows) = box_part row + boxes_part rows

-- a module's part of the weight
abbrev pub part : ModuleForm → ℕ
part m = 6 + length m.name + length m.exits + boxes_part m.boxes

abbrev pub weight : Program → ℕ
weight [] = 0
weight (m ∷ ms) = part m + weight ms
