use Rattle.std.proofs.Common.{◌≡◌, false, sym, ◌∙◌, arith}
use Rattle.um_asm.proofs.Adding.{adds_absent}
use Rattle.um_asm.proofs.labels.add.Goals as goal

pub returns-in_ok-insert-clause-ok : goal.returns-in_ok-insert-clause-ok
returns-in_ok-insert-clause-ok c =
    let absent : c.contains_key.result ≡ false = grind (arith, c.if-not-contains_key.true) in
    adds_absent c.args.definitions.now c.insert.new.self c.args.name c.args.definition (λ q. c.in_ok-insert.ensures.updates.0 q) (sym c.contains_key.ensures ∙ absent)
