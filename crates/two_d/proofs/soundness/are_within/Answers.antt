-- One more command can be written, and in the end all can.
use Rattle.std.specs.Prelude.{All}
use Rattle.std.proofs.Common.{arith, refl, subst}
use Rattle.std.proofs.lemmas.List.{take_all}
use Rattle.std.proofs.lemmas.List.Elements.{All-more}
use Rattle.two_d.specs.Trees.{form_of, IsWithin}
use Rattle.two_d.proofs.soundness.are_within.Goals as goal

pub loop-row-preserved : goal.loop-row-preserved
loop-row-preserved c =
    All-more (λ row. IsWithin (form_of row.command)) c.args.boxes.now c.loop-row.row-index c.row-item.result (omega arith) c.loop-row.invariant
    (subst (λ row. IsWithin (form_of row.command)) c.row-item.is (c.is_within.ensures.0 c.if-not-is_within.false))

pub returns : goal.returns
returns c = (
  λ _. subst (All (λ row. IsWithin (form_of row.command))) (take_all c.loop-row.row-index c.args.boxes.now (omega arith)) c.loop-row.invariant,
  λ _. refl,
)
