use Rattle.um_word.proofs.Orderly.{none_made_is_orderly}
use Rattle.um_word.proofs.Rules.{rules_are_legal}
use Rattle.um_word.proofs.laws.rules_are_legal.Goals as goal

pub returns : goal.returns
returns c = record { legal = rules_are_legal; begins = λ L words input fits. none_made_is_orderly L words fits }
