-- The templates as operators, each a function of its holes.
use Rattle.std.specs.Prelude.{ℕ, List, [], ◌∷◌, ◌++◌}
use Rattle.um_word.specs.declared.op.Op.{Op}
use Rattle.um_word.specs.declared.op.Op.TheVariants.{Move, Index, Amend, Add, Nand, Halt, Alloc}
use Rattle.um_word.specs.declared.op.Op.TheVariants.{Out, Load, Set}

-- slot d becomes a new cell with word i from slot a and word j from slot b
abbrev pub make_cell : (a b i j d : ℕ) → List Op
make_cell a b i j d =
    Set 7 a ∷ Index 3 2 7
    ∷ Set 7 b ∷ Index 4 2 7
    ∷ Set 7 4 ∷ Alloc 5 7
    ∷ Set 7 i ∷ Amend 5 7 3
    ∷ Set 7 j ∷ Amend 5 7 4
    ∷ Set 7 d ∷ Amend 2 7 5 ∷ []

-- slot d becomes k
abbrev pub set_slot : (k d : ℕ) → List Op
set_slot k d = Set 3 k ∷ Set 7 d ∷ Amend 2 7 3 ∷ []

-- slot d becomes slot a where slot c isn't 0, and else slot b
abbrev pub choose_slot : (c a b d : ℕ) → List Op
choose_slot c a b d =
    Set 7 b ∷ Index 3 2 7
    ∷ Set 7 a ∷ Index 4 2 7
    ∷ Set 7 c ∷ Index 5 2 7
    ∷ Move 3 4 5
    ∷ Set 7 d ∷ Amend 2 7 3 ∷ []

-- slot d becomes word f of the array in slot x
abbrev pub read_part : (x f d : ℕ) → List Op
read_part x f d = Set 7 x ∷ Index 3 2 7 ∷ Set 7 f ∷ Index 3 3 7 ∷ Set 7 d ∷ Amend 2 7 3 ∷ []

-- go to one place where slot x is 0, and else to the other
abbrev pub branch_on_slot : (x none some : ℕ) → List Op
branch_on_slot x none some =
    Set 7 x ∷ Index 4 2 7
    ∷ Set 5 none ∷ Set 6 some ∷ Move 5 6 4
    ∷ Load 0 5 ∷ []

-- call a block with the values of slots n and w, in a new frame of this size, to return to block
-- own at offset back
abbrev pub call_block : (n w callee size own back : ℕ) → List Op
call_block n w callee size own back =
    Set 7 n ∷ Index 3 2 7
    ∷ Set 7 w ∷ Index 4 2 7
    ∷ Set 7 callee ∷ Index 5 1 7
    ∷ Set 7 size ∷ Alloc 6 7
    ∷ Amend 6 0 2
    ∷ Move 2 6 6
    ∷ Set 7 1 ∷ Set 6 own ∷ Amend 2 7 6
    ∷ Set 7 2 ∷ Set 6 back ∷ Amend 2 7 6
    ∷ Set 7 3 ∷ Amend 2 7 3
    ∷ Set 7 4 ∷ Amend 2 7 4
    ∷ Load 5 0 ∷ []

-- slots v and x become the outcome that a block returned
abbrev pub take_outcome : (v x : ℕ) → List Op
take_outcome v x = Set 7 v ∷ Amend 2 7 3 ∷ Set 7 x ∷ Amend 2 7 4 ∷ []

-- return to the caller with the outcome in slots 5 and 6
abbrev pub return_outcome : List Op
return_outcome =
    Set 7 5 ∷ Index 3 2 7
    ∷ Set 7 6 ∷ Index 4 2 7
    ∷ Set 7 1 ∷ Index 5 2 7 ∷ Index 5 1 5
    ∷ Set 7 2 ∷ Index 6 2 7
    ∷ Index 2 2 0
    ∷ Load 5 6 ∷ []

-- the outcome becomes the record: go to one place for a value, to the other for a trail
abbrev pub start_text : (value trail : ℕ) → List Op
start_text value trail =
    Set 5 trail ∷ Set 6 value ∷ Move 5 6 3
    ∷ Move 2 4 4 ∷ Move 2 3 3
    ∷ Load 0 5 ∷ []

-- write a byte
abbrev pub write_byte : (c : ℕ) → List Op
write_byte c = Set 7 c ∷ Out 7 ∷ []

-- put a place and the record on the stack
abbrev pub push_work : (place : ℕ) → List Op
push_work place =
    Set 7 3 ∷ Alloc 4 7
    ∷ Set 7 place ∷ Amend 4 0 7
    ∷ Set 7 1 ∷ Amend 4 7 2
    ∷ Set 7 2 ∷ Amend 4 7 3
    ∷ Move 3 4 4 ∷ []

-- take a place and a record from the stack, and go there
abbrev pub pop_work : List Op
pop_work = Index 5 3 0 ∷ Set 7 1 ∷ Index 2 3 7 ∷ Set 7 2 ∷ Index 3 3 7 ∷ Load 0 5 ∷ []

-- the record becomes its own word f: go to a place
abbrev pub go_to_part : (f place : ℕ) → List Op
go_to_part f place = Set 7 f ∷ Index 2 2 7 ∷ Set 7 place ∷ Load 0 7 ∷ []

-- go to the place that stands in array 0 at j and as many words further as word 0 of the record
-- says
abbrev pub go_to_text : (j : ℕ) → List Op
go_to_text j = Index 5 2 0 ∷ Set 7 j ∷ Add 5 5 7 ∷ Index 5 0 5 ∷ Load 0 5 ∷ []

-- halt
abbrev pub halt : List Op
halt = Halt ∷ []

-- the table becomes a new array of this many words
abbrev pub make_table : (count : ℕ) → List Op
make_table count = Set 7 count ∷ Alloc 1 7 ∷ []

-- the new array of so many words, and all bits set in register 7
abbrev pub copy_begin : (size : ℕ) → List Op
copy_begin size = Set 3 size ∷ Alloc 4 3 ∷ Nand 7 0 0 ∷ []

-- one more word is copied, the last first
abbrev pub copy_word : (place loop done : ℕ) → List Op
copy_word place loop done =
    Add 3 3 7
    ∷ Set 5 place ∷ Add 5 5 3 ∷ Index 5 0 5
    ∷ Amend 4 3 5
    ∷ Set 5 done ∷ Set 6 loop ∷ Move 5 6 3
    ∷ Load 0 5 ∷ []

-- word i of the table becomes the new array
abbrev pub copy_end : (i : ℕ) → List Op
copy_end i = Set 5 i ∷ Amend 1 5 4 ∷ []

-- word i of the table becomes a new array, a copy of so many words of array 0 from a place on
abbrev pub copy_block : (size i place loop done : ℕ) → List Op
copy_block size i place loop done = copy_begin size ++ (copy_word place loop done ++ copy_end i)
