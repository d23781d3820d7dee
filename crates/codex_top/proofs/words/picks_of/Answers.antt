use Rattle.std.proofs.Common.{rules, ◌≡◌, sym, subst}
use Rattle.std.specs.Prelude.{codes}
use Rattle.two_d.specs.Steps.{First, Last}
use Rattle.codex_top.specs.Words.{IsPicks, first, last, listed}
use Rattle.codex_top.proofs.words.picks_of.Goals as goal

pub returns-then-eq : goal.returns-then-eq
returns-then-eq c =
    let is : c.args.word.now ≡ codes "first" = search rules in
    subst (λ word. IsPicks word First) (sym is) first

pub returns-then-eq-2 : goal.returns-then-eq-2
returns-then-eq-2 c =
    let is : c.args.word.now ≡ codes "last" = search rules in
    subst (λ word. IsPicks word Last) (sym is) last

pub returns-in-Some : goal.returns-in-Some
returns-in-Some c = listed c.args.word.now c.in-Some.numbers.items (rw c.in-Some.is at c.in_ok-numbers.ensures)
