use Rattle.std.proofs.Common.{arith, refl}
use Rattle.explain_top.specs.Explaining.{listed, too_long, unlisted}
use Rattle.explain_top.proofs.top.list_text.Goals as goal

pub returns-then-text-gt-MOST_TEXT_BYTES : goal.returns-then-text-gt-MOST_TEXT_BYTES
returns-then-text-gt-MOST_TEXT_BYTES g c =
    too_long c.put.result (omega (arith, c.if-text-gt-MOST_TEXT_BYTES.true)) c.put.ensures

pub returns-in-Ok : goal.returns-in-Ok
returns-in-Ok g c =
    listed c.in-Ok.page.answer c.in-Ok.page.bytes.items c.send.result (omega (arith, c.if-text-gt-MOST_TEXT_BYTES.false))
    c.in-Ok.ensures (rw (c.deref.ensures.value, c.status_of.ensures) at c.send.ensures)

pub returns-in-Err : goal.returns-in-Err
returns-in-Err g c = unlisted (omega (arith, c.if-text-gt-MOST_TEXT_BYTES.false)) refl
