use Rattle.std.proofs.Common.{refl}
use Rattle.std.specs.Prelude.{Ok, Err}
use Rattle.std.proofs.lemmas.Result.{err_from_is_err_and}
use Rattle.codex_top.specs.SelftestCommand.{no_memory}
use Rattle.codex_top.proofs.Selftesting.{told_lines}
use Rattle.codex_top.proofs.selftest.selftest.Goals as goal

pub returns-in_err-numbers-clause-ends : goal.returns-in_err-numbers-clause-ends
returns-in_err-numbers-clause-ends g c =
    let p = err_from_is_err_and c.from_residual.result c.from_residual.ensures.1 in
    rw (p.1, p.2) (no_memory refl)

pub returns-in_err-head-clause-ends : goal.returns-in_err-head-clause-ends
returns-in_err-head-clause-ends g c =
    let p = err_from_is_err_and c.from_residual-in_err-head.result c.from_residual-in_err-head.ensures.1 in
    rw (p.1, p.2) (no_memory refl)

pub returns-in_err-grid-clause-ends : goal.returns-in_err-grid-clause-ends
returns-in_err-grid-clause-ends g c =
    let p = err_from_is_err_and c.from_residual-in_err-grid.result c.from_residual-in_err-grid.ensures.1 in
    rw (p.1, p.2) (no_memory refl)

pub returns-in_err-first-clause-ends : goal.returns-in_err-first-clause-ends
returns-in_err-first-clause-ends g c =
    let p = err_from_is_err_and c.from_residual-in_err-first.result c.from_residual-in_err-first.ensures.1 in
    rw (p.1, p.2) (no_memory refl)

pub returns-in_err-last-clause-ends : goal.returns-in_err-last-clause-ends
returns-in_err-last-clause-ends g c =
    let p = err_from_is_err_and c.from_residual-in_err-last.result c.from_residual-in_err-last.ensures.1 in
    rw (p.1, p.2) (no_memory refl)

pub returns-in_err-list-clause-ends : goal.returns-in_err-list-clause-ends
returns-in_err-list-clause-ends g c =
    let p = err_from_is_err_and c.from_residual-in_err-list.result c.from_residual-in_err-list.ensures.1 in
    rw (p.1, p.2) (no_memory refl)

pub returns-in_err-text-clause-ends : goal.returns-in_err-text-clause-ends
returns-in_err-text-clause-ends g c =
    let p = err_from_is_err_and c.from_residual-in_err-text.result c.from_residual-in_err-text.ensures.1 in
    rw (p.1, p.2) (no_memory refl)

pub returns-in_err-scroll-clause-ends : goal.returns-in_err-scroll-clause-ends
returns-in_err-scroll-clause-ends g c =
    let p = err_from_is_err_and c.from_residual-in_err-scroll.result c.from_residual-in_err-scroll.ensures.1 in
    rw (p.1, p.2) (no_memory refl)

pub returns-in_err-run-clause-ends : goal.returns-in_err-run-clause-ends
returns-in_err-run-clause-ends g c =
    let p = err_from_is_err_and c.from_residual-in_err-run.result c.from_residual-in_err-run.ensures.1 in
    rw (p.1, p.2) (no_memory refl)

pub returns-in_err-send-clause-ends : goal.returns-in_err-send-clause-ends
returns-in_err-send-clause-ends g c =
    let p = err_from_is_err_and c.from_residual-in_err-send.result c.from_residual-in_err-send.ensures.1 in
    let (found, n) = c.in_ok-numbers.ensures in
    rw (p.1, p.2) (told_lines c.args.number found _ _ (Err c.in_err-send.field-0.0)
    (rw (
      c.as_bytes.ensures.value,
      c.as_bytes-2.ensures.value,
      c.as_bytes-3.ensures.value,
      c.as_bytes-4.ensures.value,
      c.as_bytes-5.ensures.value,
      c.as_bytes-6.ensures.value,
      c.as_bytes-7.ensures.value,
      c.as_bytes-8.ensures.value,
      c.in_ok-head.ensures,
      c.in_ok-grid.ensures,
      c.in_ok-first.ensures,
      c.in_ok-last.ensures,
      c.in_ok-list.ensures,
      c.in_ok-text.ensures,
      c.in_ok-scroll.ensures,
      c.in_ok-run.ensures,
      n.bytes,
      n.modules,
      n.boxes,
      n.orders.first.firings,
      n.orders.first.instances,
      n.orders.last.firings,
      n.orders.last.instances,
      n.orders.listed.firings,
      n.orders.listed.instances,
      n.text,
      n.words,
      n.cycles,
    )
    at c.in_err-send.ensures.sent))

pub returns-clause-ends : goal.returns-clause-ends
returns-clause-ends g c =
    let (found, n) = c.in_ok-numbers.ensures in
    told_lines c.args.number found _ _ (Ok tt)
    (rw (
      c.as_bytes.ensures.value,
      c.as_bytes-2.ensures.value,
      c.as_bytes-3.ensures.value,
      c.as_bytes-4.ensures.value,
      c.as_bytes-5.ensures.value,
      c.as_bytes-6.ensures.value,
      c.as_bytes-7.ensures.value,
      c.as_bytes-8.ensures.value,
      c.in_ok-head.ensures,
      c.in_ok-grid.ensures,
      c.in_ok-first.ensures,
      c.in_ok-last.ensures,
      c.in_ok-list.ensures,
      c.in_ok-text.ensures,
      c.in_ok-scroll.ensures,
      c.in_ok-run.ensures,
      n.bytes,
      n.modules,
      n.boxes,
      n.orders.first.firings,
      n.orders.first.instances,
      n.orders.last.firings,
      n.orders.last.instances,
      n.orders.listed.firings,
      n.orders.listed.instances,
      n.text,
      n.words,
      n.cycles,
    )
    at c.in_ok-send.ensures.sent)
