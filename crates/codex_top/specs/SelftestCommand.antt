-- What `selftest` finds, and the lines that it writes.
use Rattle.std.specs.Prelude.{◌≡◌, ℕ, List, [], ◌∷◌, length, codes, decimal, Ok, Err}
use Rattle.std.specs.List.{concat}
use Rattle.um_word.specs.State.{start_of}
use Rattle.um_word.specs.Run.{Standing}
use Rattle.um_word.specs.Rule.{Identifiers, none_made, ruled}
use Rattle.um_word.specs.Loads.{state_in}
use Rattle.two_d.specs.Meaning.{Meaning, Gives}
use Rattle.two_d.specs.Program.{program_of}
use Rattle.two_d.specs.Programs.{Program}
use Rattle.two_d.specs.Steps.{HasMeaning}
use Rattle.two_d.specs.Texts.{text_of}
use Rattle.lower_link.specs.Completes.{Completed}
use Rattle.lower_link.specs.Follows.{Follows}
use Rattle.lower_link.specs.Realises.{Realises}
use Rattle.codex_gen.specs.Generated.{grid_of_number, value_of_number}
use Rattle.codex_top.specs.declared.line.Line.TheVariants.{NoMemory}
use Rattle.codex_top.specs.Boxes.{boxes_in}
use Rattle.codex_top.specs.Endings.{End}
use Rattle.codex_top.specs.Limits.{limits, most_made}
use Rattle.codex_top.specs.Outside.{Stream}
use Rattle.codex_top.specs.Sending.{TextSent}

-- how the run of these words stands after so many cycles, on no input, under the limits and by the rule of
-- identifiers
unfoldable pub run_alone : (words : List ℕ) → (cycles : ℕ) → Standing Identifiers
run_alone words cycles = ruled limits cycles none_made (start_of words [])

-- What is found from a number: the program of its grid, which gives its value, with its meaning; words that were
-- compiled from the program, which realise it and follow it within bounds; and that their run
-- halts, with the text of the value written.
pub record Found (number : ℕ) : Type 0 where
  pub program : Program
  pub meaning : Meaning
  pub words : List ℕ
  pub blocks : List (ℕ × ℕ)
  pub read : program_of (grid_of_number number) (Ok program)
  pub means : HasMeaning program meaning
  pub gives : meaning.outcome ≡ Gives (value_of_number number)
  pub realises : Realises program words
  pub follows : Follows program words blocks
  pub halts : Completed (text_of program meaning.outcome) (run_alone words most_made)

-- the bytes of the grid of a number
unfoldable pub grid_bytes : (number : ℕ) → ℕ
grid_bytes number = length (grid_of_number number)

-- the cycles that were made when their run had halted
abbrev pub cycles_of : (words : List ℕ) → ℕ
cycles_of words = (state_in (run_alone words most_made)).cycles

-- the line of an evaluation by some picks
abbrev pub counts_line : (name : List ℕ) → Meaning → List ℕ
counts_line name r =
    concat (name ∷ decimal r.firings ∷ codes " firings, " ∷ decimal r.instances ∷ codes " instances\n" ∷ [])

-- the nine lines that tell what was found
abbrev pub nine_lines : (number : ℕ) → Found number → List ℕ
nine_lines number found = concat (
    concat (codes "selftest " ∷ decimal number ∷ codes "\n" ∷ [])
    ∷ concat (codes "grid " ∷ decimal (grid_bytes number) ∷ codes " bytes, " ∷ decimal (length found.program)
    ∷ codes " modules, " ∷ decimal (boxes_in found.program) ∷ codes " boxes\n" ∷ [])
    ∷ counts_line (codes "first ") found.meaning
    ∷ counts_line (codes "last ") found.meaning
    ∷ counts_line (codes "list ") found.meaning
    ∷ concat (codes "text " ∷ decimal (length (text_of found.program found.meaning.outcome)) ∷ codes " bytes\n" ∷ [])
    ∷ concat (codes "scroll " ∷ decimal (length found.words) ∷ codes " words\n" ∷ [])
    ∷ concat (codes "run " ∷ decimal (cycles_of found.words) ∷ codes " cycles\n" ∷ [])
    ∷ codes "ok\n" ∷ [])

-- How `selftest` ends: the output has received the nine lines, or a beginning of them by a failed write; or there was
-- no memory, and it has received nothing.
pub data SelftestEnds (number : ℕ) (before now : Stream) : End → Type 0 where
  told : (found : Found number) (end : End) → TextSent (nine_lines number found) before now end →
      SelftestEnds number before now end
  no_memory : now ≡ before → SelftestEnds number before now (Err NoMemory)
