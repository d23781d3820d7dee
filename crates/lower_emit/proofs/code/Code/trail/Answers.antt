-- The text's number, and then the cell.
use Rattle.code_templates.specs.Templates.{make_cell, set_slot}
use Rattle.lower_emit.proofs.Adding.{adds_last}
use Rattle.lower_emit.proofs.code.Code.trail.Goals as goal

pub returns : goal.returns
returns c =
    adds_last c.make_cell.result c.args.self.now c.set_slot.new.self c.make_cell.new.self (set_slot c.args.text c.args.to) (make_cell c.args.to c.args.inner 0 1 c.args.to)
    c.in_ok-set_slot.ensures c.make_cell.ensures
