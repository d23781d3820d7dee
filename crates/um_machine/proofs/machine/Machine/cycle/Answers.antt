use Rattle.std.proofs.Common.{[], refl, sym, ◌∙◌, arith}
use Rattle.std.specs.Prelude.{Ok}
use Rattle.um_machine.specs.declared.stop.Stop.TheVariants.{Halted}
use Rattle.um_machine.specs.MachineView.{state_of}
use Rattle.um_machine.specs.inner.OperatorCalls.{op_at, rest_before}
use Rattle.um_machine.proofs.Ends.{sent_by, halted_end}
use Rattle.um_machine.proofs.Placed.{cycle_made, cycle_failed}
use Rattle.um_machine.proofs.machine.Machine.cycle.Goals as goal

pub returns-then-halted-clause-row : goal.returns-then-halted-clause-row
returns-then-halted-clause-row g c left may = record {
  rest = left;
  may = may;
  sends = λ held holds. sent_by 1 _ _ left left held Halted
      (halted_end 0 1 c.args.self.now c.args.self.now (state_of c.args.self.now left held) left _ (omega arith)
      (record { sent = held; holds = holds; stands = refl }) (sym c.halted.ensures ∙ c.if-halted.true));
}

pub returns-in-Ok-clause-row : goal.returns-in-Ok-clause-row
returns-in-Ok-clause-row g c left may = record {
  rest = rest_before (Ok c.in-Ok.turn) (op_at c.args.self.now c.finger-finger.result) (g.I.Source.rest c.args.input.now) c.step.new.self.registers left;
  may = c.in-Ok.ensures.rest left may;
  sends = λ held holds. cycle_made c.args.self.now c.step.new.self c.settle.new.self c.finger-finger.result c.step.new.finger _ _ _ _ _ left held c.in-Ok.turn
      (sym c.halted.ensures ∙ c.if-halted.false) holds c.finger-finger.ensures c.in-Ok.ensures.place.1 c.settle.ensures.placed
      (c.in-Ok.ensures.row c.args.self.now.cycles left may held holds) c.in-Ok.ensures.turn c.in-Ok.ensures.identifiers;
}

pub returns-in-Err-clause-row : goal.returns-in-Err-clause-row
returns-in-Err-clause-row g c left may = record {
  rest = left;
  may = c.in-Err.ensures.rest left may;
  sends = λ held holds. cycle_failed c.args.self.now c.step.new.self c.finger-finger.result c.step.new.finger _ _ _ _ left held c.in-Err.stop
      (sym c.halted.ensures ∙ c.if-halted.false) holds c.finger-finger.ensures c.in-Err.ensures.kept.0
      (c.in-Err.ensures.row c.args.self.now.cycles left may held holds);
}
