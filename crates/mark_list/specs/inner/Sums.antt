-- Sums of 16 at a time, and sums of these.
use Rattle.std.specs.Prelude.{◌≡◌, ℕ, ◌≤◌, ◌*◌, List, Bool, length}
use Rattle.mark_list.specs.Marks.{sum_before, count_before}

-- each number of a list is the sum of 16 of the list below, and each of these is in one
pub record AreSummed (marks : List Bool) (blocks pages books shelves rooms : List ℕ) (count : ℕ) : Type 0 where
  pub blocks_sum : (n : ℕ) → sum_before blocks n ≡ count_before marks (16 * n)
  pub pages_sum : (n : ℕ) → sum_before pages n ≡ sum_before blocks (16 * n)
  pub books_sum : (n : ℕ) → sum_before books n ≡ sum_before pages (16 * n)
  pub shelves_sum : (n : ℕ) → sum_before shelves n ≡ sum_before books (16 * n)
  pub rooms_sum : (n : ℕ) → sum_before rooms n ≡ sum_before shelves (16 * n)
  pub blocks_reach : length marks ≤ 16 * length blocks
  pub pages_reach : length blocks ≤ 16 * length pages
  pub books_reach : length pages ≤ 16 * length books
  pub shelves_reach : length books ≤ 16 * length shelves
  pub rooms_reach : length shelves ≤ 16 * length rooms
  pub counted : count ≡ count_before marks (length marks)
