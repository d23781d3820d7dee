use Rattle.std.proofs.Common.{◌≡◌, sym, ◌∙◌, inl, inr, arith}
use Rattle.um_machine.specs.declared.stop.Stop.TheVariants.{WordsFull, Memory}
use Rattle.codex_top.proofs.FileLemmas.{length-scroll}
use Rattle.codex_top.proofs.starting.start.Goals as goal

pub unreachable-requires : goal.unreachable-requires
unreachable-requires c =
    elim c.in-Err-WordsFull.ensures.fault [
      | inl e ↦ let clash : WordsFull c.in-Err-WordsFull.field-0-0 ≡ Memory = sym c.in-Err-WordsFull.field-0-is ∙ e in cc
      | inr e ↦ omega (arith, e.1, length-scroll c.args.words.items, c.requires)
    ]
