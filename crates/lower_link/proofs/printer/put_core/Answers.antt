-- The parts one after the other.
use Rattle.code_templates.specs.Templates.{start_text, halt, go_to_text}
use Rattle.lower_link.proofs.Adding.{adds_said, adds_then, adds_last}
use Rattle.lower_link.proofs.printer.put_core.Goals as goal

pub returns : goal.returns
returns c =
    let start = c.in_ok-put.ensures (start_text 6 108) (c.start_text.ensures.operators 6 108 _) in
    let values = adds_then (adds_then start c.in_ok-push_work.ensures) c.in_ok-put_value_code.ensures in
    let end = adds_then (adds_then values c.in_ok-write.ensures) (c.in_ok-put-2.ensures halt (c.halt.ensures.operators _)) in
    let trail = adds_then (adds_then end c.in_ok-push_work-2.ensures) c.in_ok-push_work-3.ensures in
    let more = adds_then (adds_then (adds_then trail c.in_ok-branch_on_slot.ensures) c.in_ok-pop_work.ensures) c.in_ok-go_to_part.ensures in
    adds_last c.put-3.result c.put-3.new.self (go_to_text 147) more
    (adds_said c.put-3.result c.go_to_part.new.self c.put-3.new.self _ _ (go_to_text 147) c.put-3.ensures (c.go_to_text.ensures.operators 147 _))
