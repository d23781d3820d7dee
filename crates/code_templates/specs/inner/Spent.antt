-- What a run has spent: its cycles, and the arrays and words that it holds.
use Rattle.std.specs.Prelude.{ℕ, ◌+◌, ◌-◌, ◌*◌, ◌≤◌, length}
use Rattle.um_word.specs.State.{State, Arrays, array_at, live_arrays, live_words}

-- the words of all arrays but array 0
abbrev pub words_beside : Arrays → ℕ
words_beside m = live_words m - length (array_at m 0)

-- 64 for an array and 4 for a word, but for array 0
unfoldable pub held : Arrays → ℕ
held m = 64 * live_arrays m + 4 * words_beside m

-- 64 for an array, 4 for a word and 1 for a cycle
abbrev pub spent : State → ℕ
spent s = s.cycles + 64 * live_arrays s.arrays + 4 * words_beside s.arrays

-- For each word that the finger has moved on from s to t at most 7 more are held: a cell holds 80
-- more, and twelve words make it.
abbrev pub IsCheap : State → State → Type 0
IsCheap s t = held t.arrays + 7 * s.finger ≤ held s.arrays + 7 * t.finger
