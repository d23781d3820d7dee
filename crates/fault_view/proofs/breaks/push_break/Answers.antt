use Rattle.std.proofs.Common.{[], sym}
use Rattle.std.proofs.lemmas.List.{append-nil}
use Rattle.fault_view.specs.Breaks.{no_border, no_cells}
use Rattle.fault_view.proofs.Cells.{break_added}
use Rattle.fault_view.proofs.breaks.push_break.Goals as goal

pub returns-in_default : goal.returns-in_default
returns-in_default c = rw c.in_default.is ([], no_border, sym (append-nil c.args.page.now.items))

pub returns-in_default-2 : goal.returns-in_default-2
returns-in_default-2 c =
    let none = rw c.in_default-2.is at c.in_ok-grid.ensures in
    rw c.in-Some.is ([], no_cells c.in-Some.border none.0 none.1, sym (append-nil c.args.page.now.items))

pub returns : goal.returns
returns c =
    break_added c.args.text.now c.args.border c.in-Some.border c.in-Some-2.grid c.break_of-found.result _ _ c.in-Some.is
    (rw c.in-Some-2.is at c.in_ok-grid.ensures) c.break_of-found.ensures c.in_ok-push_found.ensures
