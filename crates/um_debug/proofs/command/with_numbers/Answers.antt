use Rattle.std.specs.Prelude.{codes}
use Rattle.um_debug.proofs.Spaces.{alike, differ}
use Rattle.um_debug.proofs.Naming.{no_step, no_go, no_breakpoint, no_watch, no_name, step_line, go_line, breakpoint_line, watch_line}
use Rattle.um_debug.proofs.command.with_numbers.Goals as goal

pub returns-in_err-cycles_of : goal.returns-in_err-cycles_of
returns-in_err-cycles_of c =
    let is = alike c.args.name.now (codes "s") c.eq.result c.eq.ensures c.if-eq.true in
    rw c.from_residual.ensures
    (λ command. no_step c.args.name.now c.args.numbers.now command c.requires is (c.in_err-cycles_of.ensures))

pub returns-then-eq : goal.returns-then-eq
returns-then-eq c =
    let is = alike c.args.name.now (codes "s") c.eq.result c.eq.ensures c.if-eq.true in
    step_line c.args.name.now c.args.numbers.now c.in_ok-cycles_of.field-0 is c.in_ok-cycles_of.ensures.0 c.in_ok-cycles_of.ensures.1

pub returns-in_err-cycles_of-2 : goal.returns-in_err-cycles_of-2
returns-in_err-cycles_of-2 c =
    let is = alike c.args.name.now (codes "c") c.eq-2.result c.eq-2.ensures c.if-eq-2.true in
    rw c.from_residual-in_err-cycles_of-2.ensures
    (λ command. no_go c.args.name.now c.args.numbers.now command c.requires is (c.in_err-cycles_of-2.ensures))

pub returns-then-eq-2 : goal.returns-then-eq-2
returns-then-eq-2 c =
    let is = alike c.args.name.now (codes "c") c.eq-2.result c.eq-2.ensures c.if-eq-2.true in
    go_line c.args.name.now c.args.numbers.now c.in_ok-cycles_of-2.field-0 is c.in_ok-cycles_of-2.ensures.0 c.in_ok-cycles_of-2.ensures.1

pub returns-in_err-word_of : goal.returns-in_err-word_of
returns-in_err-word_of c =
    let is = alike c.args.name.now (codes "b") c.eq-3.result c.eq-3.ensures c.if-eq-3.true in
    rw c.from_residual-in_err-word_of.ensures
    (λ command. no_breakpoint c.args.name.now c.args.numbers.now command c.requires is (c.in_err-word_of.ensures))

pub returns-then-eq-3 : goal.returns-then-eq-3
returns-then-eq-3 c =
    let is = alike c.args.name.now (codes "b") c.eq-3.result c.eq-3.ensures c.if-eq-3.true in
    breakpoint_line c.args.name.now c.args.numbers.now c.in_ok-word_of.field-0 is c.in_ok-word_of.ensures

pub returns-in_err-place_of : goal.returns-in_err-place_of
returns-in_err-place_of c =
    let is = alike c.args.name.now (codes "w") c.eq-4.result c.eq-4.ensures c.if-eq-4.true in
    rw c.from_residual-in_err-place_of.ensures
    (λ command. no_watch c.args.name.now c.args.numbers.now command c.requires is (c.in_err-place_of.ensures))

pub returns-then-eq-4 : goal.returns-then-eq-4
returns-then-eq-4 c =
    let is = alike c.args.name.now (codes "w") c.eq-4.result c.eq-4.ensures c.if-eq-4.true in
    watch_line c.args.name.now c.args.numbers.now c.in_ok-place_of.field-0 is c.in_ok-place_of.ensures

pub returns : goal.returns
returns c command =
    no_name c.args.name.now c.args.numbers.now command c.requires
    (differ c.args.name.now (codes "s") c.eq.result c.eq.ensures c.if-eq.false)
    (differ c.args.name.now (codes "c") c.eq-2.result c.eq-2.ensures c.if-eq-2.false)
    (differ c.args.name.now (codes "b") c.eq-3.result c.eq-3.ensures c.if-eq-3.false)
    (differ c.args.name.now (codes "w") c.eq-4.result c.eq-4.ensures c.if-eq-4.false)
    (differ c.args.name.now (codes "a") c.eq-5.result c.eq-5.ensures c.if-eq-5.false)
