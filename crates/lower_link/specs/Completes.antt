-- Under limits that are large enough, words that realise and follow a program come to its text.
use Rattle.std.specs.Prelude.{ℕ, ◌+◌, ◌*◌, ◌≤◌, ◌≡◌, true, List, length, None}
use Rattle.umix_base.specs.declared.limits.Limits.{Limits}
use Rattle.um_word.specs.State.{start_of}
use Rattle.um_word.specs.Run.{Standing, run, AreLegal}
use Rattle.um_word.specs.Loads.{fault_in, state_in}
use Rattle.two_d.specs.Programs.{Program}
use Rattle.two_d.specs.Meaning.{Meaning}
use Rattle.two_d.specs.Steps.{HasMeaning}
use Rattle.two_d.specs.Texts.{text_of}
use Rattle.lower_link.specs.Realises.{units, AreEnough, Realises}
use Rattle.lower_link.specs.Follows.{Follows}

-- the run has no fault and has halted with this output
pub record Completed {I : Type 0} (text : List ℕ) (run : Standing I) : Type 0 where
  pub faultless : fault_in run ≡ None
  pub halted : (state_in run).halted ≡ true
  pub writes : (state_in run).out ≡ text

-- the limits allow the arrays and the words of so many entries and bytes
pub record IsAmple (P : Program) (entries bytes : ℕ) (L : Limits) : Type 0 where
  pub arrays : 8 * units P entries bytes ≤ L.arrays
  pub words : 256 * units P entries bytes ≤ L.words

-- Where the program has an outcome, and the limits are ample for its text and for an entry for each
-- instance and one for the printer: after cycles enough the run has halted with the text.
unfoldable pub CompletesLaw : Type 0
CompletesLaw =
    (P : Program) (words : List ℕ) (blocks : List (ℕ × ℕ)) → Realises P words →
    Follows P words blocks →
    (r : Meaning) → HasMeaning P r →
    (L : Limits) → IsAmple P (r.instances + 1) (length (text_of P r.outcome)) L →
    (input : List ℕ) (n : ℕ) (ids : List ℕ) → AreEnough P r n →
    AreLegal L n ids (start_of words input) →
    Completed (text_of P r.outcome) (run L n ids (start_of words input))
