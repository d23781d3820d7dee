-- All texts.
use Rattle.std.specs.Prelude.{◌≡◌, ◌+◌, suc, length}
use Rattle.std.proofs.Common.{ap, arith}
use Rattle.std.proofs.lemmas.List.{length-map}
use Rattle.two_d.specs.Programs.{module_of}
use Rattle.lower_link.specs.inner.Lines.{lines_below}
use Rattle.lower_link.proofs.TextCode.{texts_as, texts_then}
use Rattle.lower_link.proofs.TextLines.{texts_are}
use Rattle.lower_link.proofs.texts.texts_of.Goals as goal

pub loop-number-preserved : goal.loop-number-preserved
loop-number-preserved c =
    let n = c.loop-number.number in
    let one : suc n ≡ n + 1 = omega arith in
    texts_as (lines_below c.args.program.now (n + 1)) (ap (lines_below c.args.program.now) one) (texts_then c.loop-number.invariant c.in_ok-add_module.ensures)

pub returns : goal.returns
returns c =
    texts_are c.args.program.now c.modules.ensures.good c.loop-number.number
    (omega (arith, ap length c.modules.ensures.modules, length-map c.modules.result.now.items module_of, c.len-number-end.ensures, c.modules.result.now.ok.0, c.loop-number.auto.number-end, c.loop-number-test.false))
    _ c.loop-number.texts c.new.ensures.items c.new-2.ensures c.loop-number.invariant
