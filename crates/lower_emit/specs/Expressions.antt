-- The code of an expression.
use Rattle.std.specs.Prelude.{ℕ, ◌+◌, List, ◌++◌, []}
use Rattle.two_d.specs.Trees.{Tree, unit, n, w, pair, inl, inr}
use Rattle.um_word.specs.declared.op.Op.{Op}
use Rattle.code_templates.specs.Templates.{make_cell}
use Rattle.lower_emit.specs.Layouts.{zero_slot}

-- the first free slot after those of the expression's nodes
abbrev pub past : Tree → ℕ → ℕ
past n free = free
past w free = free
past unit free = free + 1
past (pair a b) free = past b (past a free) + 1
past (inl a) free = past a free + 1
past (inr a) free = past a free + 1

-- the slot of the expression's value, where N and W have these slots
abbrev pub expression_slot : Tree → (north west free : ℕ) → ℕ
expression_slot n north west free = north
expression_slot w north west free = west
expression_slot unit north west free = free
expression_slot (pair a b) north west free = past b (past a free)
expression_slot (inl a) north west free = past a free
expression_slot (inr a) north west free = past a free

-- the code that makes the value of an expression, from slots of N and W, in slots from `free` on
abbrev pub code_of : Tree → (north west free : ℕ) → List Op
code_of n north west free = []
code_of w north west free = []
code_of unit north west free = make_cell zero_slot zero_slot 0 1 free
code_of (pair a b) north west free =
    code_of a north west free ++ (code_of b north west (past a free)
    ++ make_cell (expression_slot a north west free)
    (expression_slot b north west (past a free)) 2 3 (past b (past a free)))
code_of (inl a) north west free = code_of a north west free
    ++ make_cell (expression_slot a north west free) zero_slot 0 1 (past a free)
code_of (inr a) north west free = code_of a north west free
    ++ make_cell zero_slot (expression_slot a north west free) 0 1 (past a free)
