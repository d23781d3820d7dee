-- One piece more is written.
use Rattle.std.proofs.Common.{arith, rules}
use Rattle.codex_values.proofs.PieceLemmas.{nearer_end, printing-more, printing-part, printing-stopped, failed-writes}
use Rattle.codex_values.proofs.store.ValueStore.print.Goals as goal

pub returns-in_err-text-clause-written : goal.returns-in_err-text-clause-written
returns-in_err-text-clause-written g c = failed-writes _ _ _ _ (search rules) (printing-stopped _ _ _ _ _ c.loop-piece.invariant.printing)

pub loop-piece-smaller : goal.loop-piece-smaller
loop-piece-smaller g c = nearer_end _ _ _ _ _ _ c.in-Some.ensures.items c.in_ok-text.ensures.ok

pub loop-piece-preserved : goal.loop-piece-preserved
loop-piece-preserved g c = record {
  printing = printing-more _ _ _ _ _ _ _ _ _ _ c.in-Some.ensures.items c.in_ok-text.ensures.ok c.loop-piece.invariant.printing c.in_ok-put.ensures.appended;
  later = omega (arith, c.in_ok-put.ensures.cause);
}

pub returns-in_err-put-clause-written : goal.returns-in_err-put-clause-written
returns-in_err-put-clause-written g c =
    failed-writes _ _ _ _ (search rules) (printing-part _ _ _ _ _ _ _ _ _ _ c.in-Some.ensures.items c.in_ok-text.ensures.ok c.loop-piece.invariant.printing c.in_err-put.ensures.appended)
