-- Blocks that follow each other.
use Rattle.std.specs.Prelude.{ℕ, List, Vec, ◌+◌, ◌++◌, ◌∷◌, map, slice_index_or, length, []}
use Rattle.std.specs.Global.{Global}

-- blocks of words, as they are kept
abbrev pub Blocks : Type 0
Blocks = List (Vec ℕ Global)

-- the words of blocks, one after the other
abbrev pub words_of_blocks : Blocks → List ℕ
words_of_blocks [] = []
words_of_blocks (block ∷ blocks) = block.items ++ words_of_blocks blocks

-- the words of the block of a number
abbrev pub words_of_block : Blocks → ℕ → List ℕ
words_of_block blocks i = slice_index_or (map (λ (block : Vec ℕ Global). block.items) blocks) i []

-- the place and the length of each, if the first stands at a place
abbrev pub spans : ℕ → Blocks → List (ℕ × ℕ)
spans place [] = []
spans place (block ∷ blocks) = (place, length block.items) ∷ spans
    (place + length block.items) blocks
