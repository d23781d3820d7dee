-- The boxes' texts, and behind them those of the module.
use Rattle.std.specs.Prelude.{◌∷◌, [], ◌≡◌}
use Rattle.std.proofs.Common.{◌∙◌, ap, arith}
use Rattle.std.proofs.lemmas.List.{take_all}
use Rattle.std.proofs.lemmas.Result.{on_ok_weaker}
use Rattle.two_d.specs.Programs.{module_at, box_count}
use Rattle.lower_link.specs.inner.Drafts.{AddsTexts}
use Rattle.lower_link.specs.inner.Lines.{box_lines, end_lines}
use Rattle.lower_link.proofs.TextCode.{texts_as, texts_then}
use Rattle.lower_link.proofs.TextLines.{count_is, lines_next}
use Rattle.lower_link.proofs.texts.Texts.add_module.Goals as goal

pub loop-bx-preserved : goal.loop-bx-preserved
loop-bx-preserved c =
    let P = c.args.program.now in
    let m = c.args.number in
    let count : c.len-bx-end.result ≡ box_count P m =
    count_is _ P c.modules.ensures.modules m c.index.result.now c.requires c.index.ensures c.len-bx-end.result c.len-bx-end.ensures c.index.result.now.boxes.ok.0 in
    texts_as _ (lines_next P m c.loop-bx.bx c.as_slice.result.now (omega (arith, count, c.loop-bx-test.true)) (λ row e. c.as_slice.ensures.value ∙ c.in_ok-line.ensures row e))
    (texts_then c.loop-bx.invariant c.in_ok-add.ensures)

pub returns : goal.returns
returns c =
    let P = c.args.program.now in
    let m = c.args.number in
    let rows = (module_at P m).boxes in
    let count : c.len-bx-end.result ≡ box_count P m =
    count_is _ P c.modules.ensures.modules m c.index.result.now c.requires c.index.ensures c.len-bx-end.result c.len-bx-end.ensures c.index.result.now.boxes.ok.0 in
    let boxes = texts_as (box_lines P m 0 rows) (ap (box_lines P m 0) (take_all c.loop-bx.bx rows (omega (arith, count, c.loop-bx-test.false)))) c.loop-bx.invariant in
    let none = c.as_slice-2.ensures.value ∙ c.in_ok-none.ensures in
    let two = c.as_slice-3.ensures.value ∙ c.in_ok-two.ensures in
    on_ok_weaker c.add-3.result (λ (k : AddsTexts c.add-2.new.self c.add-3.new.self (c.as_slice-3.result.now ∷ [])).
    texts_then boxes (texts_as (end_lines P m) (λ i. none i ∷ two i ∷ []) (texts_then c.in_ok-add-2.ensures k))) c.add-3.ensures
