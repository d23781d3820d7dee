use Rattle.std.proofs.lemmas.Result.{err_from_is_err_and}
use Rattle.codex_top.proofs.selftest.in_three_orders.Goals as goal

pub returns-in_err-listed : goal.returns-in_err-listed
returns-in_err-listed c =
    let p = err_from_is_err_and c.from_residual-in_err-listed.result c.from_residual-in_err-listed.ensures.1 in
    rw p.1 tt

pub returns : goal.returns
returns c r means within = record {
  first = c.in_ok-first.ensures r means within;
  last = c.in_ok-last.ensures r means within;
  listed = c.in_ok-listed.ensures r means within;
}
