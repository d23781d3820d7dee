-- What is read of a text up to its modules is the beginning of what its program is read from.
use Rattle.std.specs.Prelude.{ℕ, List, Result, Ok, Err}
use Rattle.two_d.specs.Faults.{TextFault, number_and_place}
use Rattle.two_d.specs.Program.{Drawn, program_of}
use Rattle.two_d.specs.Programs.{Program}
use Rattle.two_d.specs.Reading.{goes_on, stops, Gives, faults_mapped}
use Rattle.module_table.specs.Answers.{answer_of}
use Rattle.module_table.specs.Drawn.{drawn_of}
use Rattle.module_table.specs.inner.Drawings.{placed_reading}
use Rattle.module_table.specs.declared.fault.CheckFault.{CheckFault}
use Rattle.module_table.proofs.WholeReading.{gives_whole}

-- a fault up to the modules is the text's
pub drawn_refused : (text : List ℕ) (f : TextFault) → drawn_of text (Err f) → program_of text (Err f)
drawn_refused text f (stops _ h) = stops f h
drawn_refused text f (goes_on grid g (stops _ h)) = goes_on grid g (stops f h)
drawn_refused text f (goes_on grid g (goes_on fs h e)) = goes_on grid g (goes_on fs h (stops f e))

-- what the list of the modules gives is what the text gives
pub drawn_gives : (text : List ℕ) (ds : List Drawn) → drawn_of text (Ok ds) → (r : Result Program CheckFault) → Gives (λ program. program) answer_of r (placed_reading ds)
    → Gives (λ program. program) answer_of r (faults_mapped number_and_place (program_of text))
drawn_gives text ds (goes_on grid g (goes_on fs h e)) r gave = gives_whole text grid fs ds g h e r gave
