use Rattle.std.proofs.Common.{[], sym}
use Rattle.std.proofs.lemmas.List.{append-nil}
use Rattle.fault_view.specs.Subjects.{box, box_line, first_part, namesake, no_box, no_namesake, no_waiter, waiter}
use Rattle.fault_view.proofs.Named.{on_ok}
use Rattle.fault_view.proofs.subject.push_told.Goals as goal

pub returns-in-Some : goal.returns-in-Some
returns-in-Some c ds are =
    rw c.in-Namesake.is (on_ok c.push_first.result (λ added. (
      first_part c.args.text.now ds c.in-Some.number,
      namesake c.args.subject.corner c.in-Some.number (c.in-Some.ensures.found ds are),
      added,
    )) (c.push_first.ensures ds are))

pub returns-in-None : goal.returns-in-None
returns-in-None c ds are =
    rw c.in-Namesake.is ([], no_namesake c.args.subject.corner (c.in-None.ensures.found ds are), sym (append-nil c.args.page.now.items))

pub returns-in-Some-find_box : goal.returns-in-Some-find_box
returns-in-Some-find_box c ds are =
    rw c.in-Box.is (on_ok c.push_box_line.result (λ added. (
      box_line ds c.in-Some-find_box.bx,
      box c.args.subject.corner c.in-Some-find_box.bx (c.in-Some-find_box.ensures.found ds are),
      added,
    )) (c.push_box_line.ensures ds are))

pub returns-in-None-find_box : goal.returns-in-None-find_box
returns-in-None-find_box c ds are =
    rw c.in-Box.is ([], no_box c.args.subject.corner (c.in-None-find_box.ensures.found ds are), sym (append-nil c.args.page.now.items))

pub returns-in-Some-find_box-2 : goal.returns-in-Some-find_box-2
returns-in-Some-find_box-2 c ds are =
    rw c.in-Waiter.is (on_ok c.push_waiter.result (λ (told, tells, added). (
      told,
      waiter c.args.subject.corner c.in-Some-find_box-2.bx told (c.in-Some-find_box-2.ensures.found ds are) tells,
      added,
    )) (c.push_waiter.ensures ds are))

pub returns-in-None-find_box-2 : goal.returns-in-None-find_box-2
returns-in-None-find_box-2 c ds are =
    rw c.in-Waiter.is ([], no_waiter c.args.subject.corner (c.in-None-find_box-2.ensures.found ds are), sym (append-nil c.args.page.now.items))
