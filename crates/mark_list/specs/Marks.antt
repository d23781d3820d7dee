-- Marks, and how many of them are set.
use Rattle.std.specs.Prelude.{ℕ, zero, suc, ◌+◌, List, Bool, true, false, slice_index_or}

-- the number at a place, 0 where there is none
abbrev pub at : List ℕ → ℕ → ℕ
at xs i = slice_index_or xs i 0

-- the sum of the first n numbers
unfoldable pub sum_before : List ℕ → ℕ → ℕ
sum_before xs zero = 0
sum_before xs (suc n) = sum_before xs n + at xs n

-- the mark at a place is set
abbrev pub is_marked : List Bool → ℕ → Bool
is_marked marks i = slice_index_or marks i false

-- 1 where it holds
abbrev pub one_if : Bool → ℕ
one_if true = 1
one_if false = 0

-- how many of the first n marks are set
unfoldable pub count_before : List Bool → ℕ → ℕ
count_before marks zero = 0
count_before marks (suc n) = count_before marks n + one_if (is_marked marks n)
