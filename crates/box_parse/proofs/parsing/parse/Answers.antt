use Rattle.std.proofs.Common.{sym, subst}
use Rattle.box_parse.proofs.Verdicts.{within_of, command_of, fault_is, command_only, bad_only, deep_only, text_not_bad, text_never_deep, err_either}
use Rattle.box_parse.proofs.parsing.parse.Goals as goal
use Rattle.box_parse.specs.Refusals.{IsFaultOf}
use Rattle.box_parse.specs.declared.fault.BoxFault.TheVariants.{Bad, TooDeep, Memory}
use Rattle.two_d.proofs.Fits.{one_command}
use Rattle.two_d.proofs.Shown.{written_within}
use Rattle.two_d.specs.Trees.{form_of}

pub fault-requires : goal.fault-requires
fault-requires c = within_of c.args.text.now c.in-Err.stop c.in-Err.ensures

pub returns-in-Ok-clause-command : goal.returns-in-Ok-clause-command
returns-in-Ok-clause-command c = command_of c.args.text.now (form_of c.in-Ok.command) c.in-Ok.ensures

pub returns-in-Ok-clause-within : goal.returns-in-Ok-clause-within
returns-in-Ok-clause-within c = written_within c.args.text.now (form_of c.in-Ok.command) (command_of c.args.text.now (form_of c.in-Ok.command) c.in-Ok.ensures)

pub returns-in-Ok-clause-is_command : goal.returns-in-Ok-clause-is_command
returns-in-Ok-clause-is_command c f is = one_command c.args.text.now (form_of c.in-Ok.command) f (command_of c.args.text.now (form_of c.in-Ok.command) c.in-Ok.ensures) is

pub returns-in-Ok-clause-is_bad : goal.returns-in-Ok-clause-is_bad
returns-in-Ok-clause-is_bad c k it = absurd (text_not_bad c.args.text.now (form_of c.in-Ok.command) (command_of c.args.text.now (form_of c.in-Ok.command) c.in-Ok.ensures) k it)

pub returns-in-Ok-clause-is_too_deep : goal.returns-in-Ok-clause-is_too_deep
returns-in-Ok-clause-is_too_deep c k it = absurd (text_never_deep c.args.text.now (form_of c.in-Ok.command) (command_of c.args.text.now (form_of c.in-Ok.command) c.in-Ok.ensures) k it)

pub returns-in-Err-clause-fault : goal.returns-in-Err-clause-fault
returns-in-Err-clause-fault c = subst (λ f. IsFaultOf f c.args.text.now) (sym c.fault.ensures) (fault_is c.args.text.now c.in-Err.stop c.in-Err.ensures)

pub returns-in-Err-clause-is_command : goal.returns-in-Err-clause-is_command
returns-in-Err-clause-is_command c f is =
    command_only c.args.text.now c.fault.result (subst (λ g. IsFaultOf g c.args.text.now) (sym c.fault.ensures) (fault_is c.args.text.now c.in-Err.stop c.in-Err.ensures)) f is

pub returns-in-Err-clause-is_bad : goal.returns-in-Err-clause-is_bad
returns-in-Err-clause-is_bad c k it = err_either c.fault.result (Bad k) Memory
    (bad_only c.args.text.now c.fault.result (subst (λ g. IsFaultOf g c.args.text.now) (sym c.fault.ensures) (fault_is c.args.text.now c.in-Err.stop c.in-Err.ensures)) k it)

pub returns-in-Err-clause-is_too_deep : goal.returns-in-Err-clause-is_too_deep
returns-in-Err-clause-is_too_deep c k it = err_either c.fault.result (TooDeep k) Memory
    (deep_only c.args.text.now c.fault.result (subst (λ g. IsFaultOf g c.args.text.now) (sym c.fault.ensures) (fault_is c.args.text.now c.in-Err.stop c.in-Err.ensures)) k it)
