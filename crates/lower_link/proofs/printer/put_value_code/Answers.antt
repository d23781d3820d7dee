-- The parts one after the other.
use Rattle.lower_link.proofs.Adding.{adds_then, adds_last}
use Rattle.code_templates.specs.Templates.{pop_work}
use Rattle.lower_link.proofs.printer.put_value_code.Goals as goal

pub returns : goal.returns
returns c =
    let shapes = adds_then (adds_then c.in_ok-branch_on_slot.ensures c.in_ok-branch_on_slot-2.ensures) c.in_ok-branch_on_slot-3.ensures in
    let unit = adds_then c.in_ok-write.ensures c.in_ok-pop_work.ensures in
    let left = adds_then c.in_ok-write-2.ensures c.in_ok-go_to_part.ensures in
    let right = adds_then c.in_ok-write-3.ensures c.in_ok-go_to_part-2.ensures in
    let both = adds_then (adds_then (adds_then c.in_ok-write-4.ensures c.in_ok-push_work.ensures) c.in_ok-push_work-2.ensures) c.in_ok-go_to_part-3.ensures in
    let comma = adds_then c.in_ok-write-5.ensures c.in_ok-go_to_part-4.ensures in
    adds_last c.pop_work-2.result c.pop_work-2.new.self pop_work
    (adds_then (adds_then (adds_then (adds_then (adds_then (adds_then shapes unit) left) right) both) comma) c.in_ok-write-6.ensures) c.pop_work-2.ensures
