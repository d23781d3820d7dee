use Rattle.std.proofs.Common.{refl}
use Rattle.explain_top.specs.Explaining.{asm, grid, help, stuck, unknown}
use Rattle.explain_top.proofs.top.explain.Goals as goal

pub returns-in-Some-Grid : goal.returns-in-Some-Grid
returns-in-Some-Grid g c =
    grid c.in-Some-Grid.file.now c.show_grid-status.result c.tell.result
    (rw c.in-Some-Grid.field-0-is at c.in-Some-Grid.ensures) c.show_grid-status.ensures c.tell.ensures

pub returns-in-Some-Stuck : goal.returns-in-Some-Stuck
returns-in-Some-Stuck g c =
    stuck c.in-Some-Stuck.file.now c.show_stuck-status.result c.tell-in-Some-Stuck.result
    (rw c.in-Some-Stuck.field-0-is at c.in-Some-Stuck.ensures) c.show_stuck-status.ensures c.tell-in-Some-Stuck.ensures

pub returns-in-Some-Asm : goal.returns-in-Some-Asm
returns-in-Some-Asm g c =
    asm c.in-Some-Asm.file.now c.show_listing-status.result c.tell-in-Some-Asm.result
    (rw c.in-Some-Asm.field-0-is at c.in-Some-Asm.ensures) c.show_listing-status.ensures c.tell-in-Some-Asm.ensures

pub returns-in-Some-Help : goal.returns-in-Some-Help
returns-in-Some-Help g c =
    help c.put.result (rw c.in-Some-Help.field-0-is at c.in-Some-Help.ensures) refl refl
    (rw c.help.ensures at c.put.ensures)

pub returns-in-None : goal.returns-in-None
returns-in-None g c =
    unknown c.put-in-None.result c.in-None.ensures refl refl
    (rw c.help-in-None.ensures at c.put-in-None.ensures)
