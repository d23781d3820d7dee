-- The lines that are commands.
use Rattle.std.specs.Prelude.{ℕ, ◌+◌, ◌^◌, ◌<◌, ◌≤◌, List, ◌++◌, codes, decimal}
use Rattle.um_debug.specs.declared.command.Command.{Command}
use Rattle.um_debug.specs.declared.command.Command.TheVariants.{Step, Go, Breakpoint, Watch}
use Rattle.um_debug.specs.declared.command.Command.TheVariants.{Registers, Words, Finger, Quit}

-- the most cycles that a session may have made
abbrev pub most_cycles : ℕ
most_cycles = 2 ^ 62

-- a number of cycles that a line may ask for
abbrev pub IsCycles : ℕ → Type 0
IsCycles n = (1 ≤ n) × (n ≤ most_cycles)

-- the most words that a line may ask for
abbrev pub most_words : ℕ
most_words = 64

-- The lines that are commands, and no others. Numbers are in decimal, and one space separates words.
pub data IsCommandLine : List ℕ → Command → Type 0 where
  step : (n : ℕ) → IsCycles n → IsCommandLine (codes "s " ++ decimal n) (Step n)
  go : (n : ℕ) → IsCycles n → IsCommandLine (codes "c " ++ decimal n) (Go n)
  breakpoint : (offset : ℕ) → offset < 2 ^ 32 → IsCommandLine (codes "b " ++ decimal offset) (Breakpoint offset)
  watch : (id offset : ℕ) → id < 2 ^ 32 → offset < 2 ^ 32 →
      IsCommandLine (codes "w " ++ decimal id ++ codes " " ++ decimal offset)
      (Watch (record { id = id; offset = offset }))
  registers : IsCommandLine (codes "r") Registers
  words : (id offset n : ℕ) → id < 2 ^ 32 → offset < 2 ^ 32 → 1 ≤ n → n ≤ most_words → offset + n ≤ 2 ^ 32 →
      IsCommandLine (codes "a " ++ decimal id ++ codes " " ++ decimal offset ++ codes " " ++ decimal n)
      (Words (record { id = id; offset = offset }) n)
  finger : IsCommandLine (codes "f") Finger
  quit : IsCommandLine (codes "q") Quit
