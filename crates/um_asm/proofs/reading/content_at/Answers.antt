use Rattle.std.proofs.Common.{◌≡◌, true, ap, ◌∙◌, arith}
use Rattle.um_asm.specs.Tokens.{before, trimmed_start, is_label}
use Rattle.um_asm.specs.Lines.{unlabelled_at}
use Rattle.um_asm.proofs.reading.content_at.Goals as goal

pub returns-in-None-clause-line : goal.returns-in-None-clause-line
returns-in-None-clause-line c =
    rw (← c.cut.ensures.back, c.in-None.is) (c.unlabelled_at.ensures.line ∙ ap unlabelled_at c.trim.ensures)

pub returns-else-not-is_label-clause-line : goal.returns-else-not-is_label-clause-line
returns-else-not-is_label-clause-line c =
    let label : c.trim_start-label.result.now ≡ trimmed_start (before 58 c.args.text.now) =
    c.trim_start-label.ensures ∙ ap trimmed_start c.cut.ensures.front in
    let right : is_label c.trim_start-label.result.now ≡ true = grind (arith, c.is_label.ensures, c.if-not-is_label.false) in
    rw (← c.cut.ensures.back, c.in-Some.is, ← label, right, ← c.trim-in-Some.ensures) c.labelled_at.ensures.line
