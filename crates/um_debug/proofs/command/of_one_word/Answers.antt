use Rattle.std.proofs.Common.{ℕ, List, sym, subst}
use Rattle.std.specs.Prelude.{codes}
use Rattle.um_debug.specs.Commands.{IsCommandLine, registers, finger, quit}
use Rattle.um_debug.specs.declared.command.Command.TheVariants.{Registers, Finger, Quit}
use Rattle.um_debug.proofs.Spaces.{alike, differ}
use Rattle.um_debug.proofs.Naming.{no_word}
use Rattle.um_debug.proofs.command.of_one_word.Goals as goal

pub returns-then-eq : goal.returns-then-eq
returns-then-eq c =
    let is = alike c.args.line.now (codes "r") c.eq.result c.eq.ensures c.if-eq.true in
    subst (λ (line : List ℕ). IsCommandLine line Registers) (sym is) registers

pub returns-then-eq-2 : goal.returns-then-eq-2
returns-then-eq-2 c =
    let is = alike c.args.line.now (codes "f") c.eq-2.result c.eq-2.ensures c.if-eq-2.true in
    subst (λ (line : List ℕ). IsCommandLine line Finger) (sym is) finger

pub returns-then-eq-3 : goal.returns-then-eq-3
returns-then-eq-3 c =
    let is = alike c.args.line.now (codes "q") c.eq-3.result c.eq-3.ensures c.if-eq-3.true in
    subst (λ (line : List ℕ). IsCommandLine line Quit) (sym is) quit

pub returns : goal.returns
returns c command =
    no_word c.args.line.now command c.requires
    (differ c.args.line.now (codes "r") c.eq.result c.eq.ensures c.if-eq.false)
    (differ c.args.line.now (codes "f") c.eq-2.result c.eq-2.ensures c.if-eq-2.false)
    (differ c.args.line.now (codes "q") c.eq-3.result c.eq-3.ensures c.if-eq-3.false)
