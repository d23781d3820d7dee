use Rattle.std.proofs.Common.{ℕ, List, sym, ◌∙◌, subst}
use Rattle.std.specs.Option.{MatchOption}
use Rattle.std.proofs.lemmas.Str.{IsUtf8-from_ascii}
use Rattle.um_debug.specs.declared.command.Command.{Command}
use Rattle.um_debug.specs.Commands.{IsCommandLine}
use Rattle.um_debug.proofs.Spaces.{whole_word, cut_word}
use Rattle.um_debug.proofs.Naming.{command_ascii}
use Rattle.um_debug.proofs.command.command_of.Goals as goal

pub returns-in_default : goal.returns-in_default
returns-in_default c command is =
    c.in_default.ensures.cases.0 (IsUtf8-from_ascii c.args.line.now (command_ascii c.args.line.now command is))

pub with_numbers-requires : goal.with_numbers-requires
with_numbers-requires c = (cut_word c.in-Ok.line.now c.split_once.result c.in-Some.name c.in-Some.numbers c.in-Some.is c.split_once.ensures.cases).none

pub of_one_word-requires : goal.of_one_word-requires
of_one_word-requires c = whole_word c.in-Ok.line.now c.split_once.result c.in-None.is c.split_once.ensures.cases

pub returns-in-Some : goal.returns-in-Some
returns-in-Some c =
    let cut = cut_word c.in-Ok.line.now c.split_once.result c.in-Some.name c.in-Some.numbers c.in-Some.is c.split_once.ensures.cases in
    subst (λ (line : List ℕ). MatchOption c.with_numbers.result ((command : Command) → IsCommandLine line command → ⊥) (IsCommandLine line))
    (sym cut.is ∙ c.in-Ok.ensures.cases.0) c.with_numbers.ensures
