-- Nothing is wrong, and the orders are there.
use Rattle.std.proofs.Common.{◌≡◌, arith, sym, length, ap, ◌∙◌, subst}
use Rattle.std.proofs.lemmas.List.{length-map}
use Rattle.std.proofs.lemmas.Result.{err_from_is_err_and}
use Rattle.std.specs.Prelude.{Ok, Err}
use Rattle.two_d.specs.Good.{names_in}
use Rattle.two_d.specs.inner.NameLists.{listed}
use Rattle.two_d.specs.inner.Orders.{AreOrdersKept}
use Rattle.two_d.specs.Programs.{modules_of, module_of, main_of}
use Rattle.two_d.specs.Reading.{Refuses, goes_on, stops, gave}
use Rattle.two_d.specs.Table.{table_of}
use Rattle.two_d.specs.inner.TableParts.{uses_of, cycles_of}
use Rattle.two_d.specs.inner.TableFaults.{wrong_of}
use Rattle.two_d.proofs.GoodTable.{kept_from, table_whole}
use Rattle.two_d.proofs.TableLemmas.{refuses_through}
use Rattle.two_d.proofs.table.good_program.Goals as goal

pub returns-in_err-names : goal.returns-in_err-names
returns-in_err-names c =
    let P = modules_of c.args.modules.items in
    let p = err_from_is_err_and c.from_residual.result c.from_residual.ensures.1 in
    rw (p.1, p.2) (refuses_through (wrong_of c.in_err-names.field-0.0) (uses_of P) (table_of P) (λ f h. table_whole P (Err f) (stops f h))
    (subst (λ ms. Refuses (uses_of (modules_of ms)) (wrong_of c.in_err-names.field-0.0)) c.deref.ensures.value c.in_err-names.ensures.read))

pub returns-in_err-orders : goal.returns-in_err-orders
returns-in_err-orders c =
    let P = modules_of c.args.modules.items in
    let p = err_from_is_err_and c.from_residual-in_err-orders.result c.from_residual-in_err-orders.ensures.1 in
    let uses : uses_of P (Ok tt) = subst (λ ms. uses_of (modules_of ms) (Ok tt)) c.deref.ensures.value c.in_ok-names.ensures.read in
    rw (p.1, p.2) (refuses_through (wrong_of c.in_err-orders.field-0.0) (cycles_of P) (table_of P) (λ f h. table_whole P (Err f) (goes_on tt uses (stops f h)))
    (subst (λ ms. Refuses (cycles_of (modules_of ms)) (wrong_of c.in_err-orders.field-0.0)) c.deref-2.ensures.value c.in_err-orders.ensures.read))

pub from_parts-requires : goal.from_parts-requires
from_parts-requires c =
    let P = modules_of c.args.modules.items in
    let uses : uses_of P (Ok tt) = subst (λ ms. uses_of (modules_of ms) (Ok tt)) c.deref.ensures.value c.in_ok-names.ensures.read in
    let main : c.in_ok-names.main ≡ main_of P = c.in_ok-names.ensures.main ∙ ap (λ ms. main_of (modules_of ms)) c.deref.ensures.value in
    let long : length c.args.modules.items ≡ length P = sym (length-map c.args.modules.items module_of) in
    let kept : AreOrdersKept P (length P) c.in_ok-orders.orders.items =
    subst (λ n. AreOrdersKept P n c.in_ok-orders.orders.items) long (subst (λ ms. AreOrdersKept (modules_of ms) (length ms) c.in_ok-orders.orders.items) c.deref-2.ensures.value c.in_ok-orders.ensures.kept) in
    let named : listed c.in_ok-names.names ≡ names_in P = c.in_ok-names.ensures.names ∙ ap (λ ms. names_in (modules_of ms)) c.deref.ensures.value in
    rw main (kept_from P (let few = c.requires.few in omega arith) c.requires.sound uses c.in_ok-orders.orders.items kept (listed c.in_ok-names.names) named)

pub returns : goal.returns
returns c =
    let P = modules_of c.args.modules.items in
    let uses : uses_of P (Ok tt) = subst (λ ms. uses_of (modules_of ms) (Ok tt)) c.deref.ensures.value c.in_ok-names.ensures.read in
    let rings : cycles_of P (Ok tt) = subst (λ ms. cycles_of (modules_of ms) (Ok tt)) c.deref-2.ensures.value c.in_ok-orders.ensures.read in
    rw c.from_parts.ensures (table_whole P (Ok P) (goes_on tt uses (goes_on tt rings gave)))
