-- What the reader of commands answers, told by the place in the box.
use Rattle.std.proofs.Common.{refl, subst, ap, ◌∙◌}
use Rattle.std.specs.Prelude.{Some}
use Rattle.grid_reader.specs.Boxes.{box_rect}
use Rattle.two_d.specs.Boxes.{place_in}
use Rattle.two_d.specs.Faults.{bad_command, too_deep}
use Rattle.two_d.specs.Grammar.{IsTextOf, IsBad, IsTooDeep}
use Rattle.two_d.specs.Program.{command, bad, deep}
use Rattle.two_d.specs.Trees.{form_of}
use Rattle.module_table.proofs.ModuleAt.{command_refused}
use Rattle.module_table.proofs.commands.command_in.Goals as goal

pub returns-in-Ok : goal.returns-in-Ok
returns-in-Ok c = λ grid text. (
  form_of c.in-Ok.command,
  command (form_of c.in-Ok.command) (subst (λ t. IsTextOf t (form_of c.in-Ok.command)) (c.deref.ensures.value ∙ text) c.in-Ok.ensures.command),
  refl,
)

pub returns-in-Err-Bad : goal.returns-in-Err-Bad
returns-in-Err-Bad c = λ grid text.
    let b = box_rect c.args.bx.now in
    let k = c.in-Err-Bad.at in
    let is : IsBad c.deref.result.now k = rw c.in-Err-Bad.field-0-is at c.in-Err-Bad.ensures.fault in
    command_refused grid b (bad_command (place_in b k)) _ (c.at.ensures ∙ ap (λ p. Some (10, Some p)) c.place_in.ensures)
    (bad k (subst (λ t. IsBad t k) (c.deref.ensures.value ∙ text) is))

pub returns-in-Err-TooDeep : goal.returns-in-Err-TooDeep
returns-in-Err-TooDeep c = λ grid text.
    let b = box_rect c.args.bx.now in
    let k = c.in-Err-TooDeep.at in
    let is : IsTooDeep c.deref.result.now k = rw c.in-Err-TooDeep.field-0-is at c.in-Err-TooDeep.ensures.fault in
    command_refused grid b (too_deep (place_in b k)) _ (c.at-in-Err-TooDeep.ensures ∙ ap (λ p. Some (24, Some p)) c.place_in-in-Err-TooDeep.ensures)
    (deep k (subst (λ t. IsTooDeep t k) (c.deref.ensures.value ∙ text) is))
