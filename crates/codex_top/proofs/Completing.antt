-- Runs by the rule of compiled words that come to their text.
use Rattle.std.proofs.Common.{◌≡◌, ℕ, ◌+◌, ◌≤◌, List, length, Some, None, refl, sym, subst, arith}
use Rattle.um_word.specs.State.{State, start_of}
use Rattle.um_word.specs.Run.{Standing, Stands, Failed, run}
use Rattle.um_word.specs.Rule.{Identifiers, none_made, handed_out, SameStanding}
use Rattle.um_word.proofs.Orderly.{none_made_is_orderly}
use Rattle.um_word.proofs.Rules.{rules_are_legal}
use Rattle.two_d.specs.Meaning.{Meaning}
use Rattle.two_d.specs.Programs.{Program}
use Rattle.two_d.specs.Steps.{HasMeaning}
use Rattle.two_d.specs.Texts.{text_of}
use Rattle.lower_link.specs.Completes.{Completed, IsAmple, CompletesLaw}
use Rattle.lower_link.specs.Follows.{Follows}
use Rattle.lower_link.specs.Realises.{AreEnough, Realises}
use Rattle.lower_link.proofs.Completed.{completes}
use Rattle.codex_top.specs.Limits.{limits}
use Rattle.codex_top.proofs.Compiled.{run_on}

-- a completed run is so with identifiers by the rule
completed_moved : (text : List ℕ) (x : Standing Identifiers) (y : Standing (List ℕ)) →
    SameStanding x y → Completed text y → Completed text x
completed_moved text (Stands s i) (Stands t j) e h =
    subst (λ u. Completed text (Stands u i)) (sym e) (record {
      faultless = refl;
      halted = h.halted;
      writes = h.writes;
    })
completed_moved text (Stands s i) (Failed t j g) e h = absurd e
completed_moved text (Failed s i f) (Stands t j) e h = absurd e
completed_moved text (Failed s i f) (Failed t j g) e h = let clash : Some g ≡ None = h.faultless in
    absurd (cc)

-- words that realise and follow a program come to its text, for cycles enough and under limits that allow it
pub completed_by_rule : (P : Program) (words input : List ℕ) (blocks : List (ℕ × ℕ)) (n : ℕ)
    (r : Meaning) → Realises P words → Follows P words blocks → length words ≤ limits.words →
    HasMeaning P r → IsAmple P (r.instances + 1) (length (text_of P r.outcome)) limits →
    AreEnough P r n → Completed (text_of P r.outcome) (run_on words input n)
unfolding CompletesLaw
completed_by_rule P words input blocks n r realises follows fits has ample enough =
    let h = rules_are_legal limits n none_made (start_of words input) (omega arith)
    (none_made_is_orderly limits words fits) in
    completed_moved (text_of P r.outcome) (run_on words input n)
    (run limits n (handed_out limits n none_made (start_of words input)) (start_of words input))
    h.same
    (completes P words blocks realises follows r has limits ample input n
    (handed_out limits n none_made (start_of words input)) enough h.legal)
