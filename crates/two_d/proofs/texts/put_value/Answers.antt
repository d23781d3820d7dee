use Rattle.codex_values.specs.Value.{show}
use Rattle.codex_values.specs.Store.{value_at}
use Rattle.std.proofs.Common.{rules}
use Rattle.codex_values.proofs.PieceLemmas.{failed-writes}
use Rattle.codex_values.proofs.Written.{part_behind}
use Rattle.two_d.proofs.texts.put_value.Goals as goal

pub returns-in_err-put-clause-written : goal.returns-in_err-put-clause-written
returns-in_err-put-clause-written g c =
    failed-writes _ _ _ _ (search rules) (part_behind _ _ _ (show (value_at c.args.values.now c.args.at)) _ c.in_ok-print.ensures.written c.in_err-put.ensures.appended)
