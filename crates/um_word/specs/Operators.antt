-- What a platter says as an operator.
use Rattle.std.specs.Prelude.{ℕ, ◌+◌, ◌*◌, ◌/◌, ◌%◌, ◌^◌, ◌<◌, List, [], ◌∷◌, Option, slice_get}
use Rattle.um_word.specs.declared.op.Op.{Op}
use Rattle.um_word.specs.declared.op.Op.TheVariants.{Move, Index, Amend, Add, Mul, Div, Nand, Halt}
use Rattle.um_word.specs.declared.op.Op.TheVariants.{Alloc, Abandon, Out, Input, Load, Set}

-- the operators with these registers, by number; the last has a register and a value of its own
abbrev pub operators : (a b c high value : ℕ) → List Op
operators a b c high value =
    Move a b c ∷ Index a b c ∷ Amend a b c ∷ Add a b c ∷ Mul a b c ∷ Div a b c ∷ Nand a b c
    ∷ Halt ∷ Alloc b c ∷ Abandon c ∷ Out c ∷ Input c ∷ Load b c ∷ Set high value ∷ []

-- the operator's number is in bits 28 to 31, A in bits 6 to 8, B in 3 to 5 and C in 0 to 2;
-- operator 13 has its register in bits 25 to 27 and its value in 0 to 24
abbrev pub decode_word : ℕ → Option Op
decode_word w =
    slice_get (operators (w / 2 ^ 6 % 8) (w / 2 ^ 3 % 8) (w % 8) (w / 2 ^ 25 % 8) (w % 2 ^ 25))
    (w / 2 ^ 28)

-- the platter with an operator of this number, these registers, and no other bits
abbrev pub platter_of : (number a b c : ℕ) → ℕ
platter_of number a b c = number * 2 ^ 28 + a * 2 ^ 6 + b * 2 ^ 3 + c

-- the platter of an operator, in which unused bits are 0
abbrev pub encode_op : Op → ℕ
encode_op (Move a b c) = platter_of 0 a b c
encode_op (Index a b c) = platter_of 1 a b c
encode_op (Amend a b c) = platter_of 2 a b c
encode_op (Add a b c) = platter_of 3 a b c
encode_op (Mul a b c) = platter_of 4 a b c
encode_op (Div a b c) = platter_of 5 a b c
encode_op (Nand a b c) = platter_of 6 a b c
encode_op Halt = platter_of 7 0 0 0
encode_op (Alloc b c) = platter_of 8 0 b c
encode_op (Abandon c) = platter_of 9 0 0 c
encode_op (Out c) = platter_of 10 0 0 c
encode_op (Input c) = platter_of 11 0 0 c
encode_op (Load b c) = platter_of 12 0 b c
encode_op (Set a value) = 13 * 2 ^ 28 + a * 2 ^ 25 + value

-- registers are below 8, and a value is below 2 ^ 25
abbrev pub IsEncodable : Op → Type 0
IsEncodable (Move a b c) = (a < 8) × (b < 8) × (c < 8)
IsEncodable (Index a b c) = (a < 8) × (b < 8) × (c < 8)
IsEncodable (Amend a b c) = (a < 8) × (b < 8) × (c < 8)
IsEncodable (Add a b c) = (a < 8) × (b < 8) × (c < 8)
IsEncodable (Mul a b c) = (a < 8) × (b < 8) × (c < 8)
IsEncodable (Div a b c) = (a < 8) × (b < 8) × (c < 8)
IsEncodable (Nand a b c) = (a < 8) × (b < 8) × (c < 8)
IsEncodable Halt = Unit {0}
IsEncodable (Alloc b c) = (b < 8) × (c < 8)
IsEncodable (Abandon c) = c < 8
IsEncodable (Out c) = c < 8
IsEncodable (Input c) = c < 8
IsEncodable (Load b c) = (b < 8) × (c < 8)
IsEncodable (Set a value) = (a < 8) × (value < 2 ^ 25)
