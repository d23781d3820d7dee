-- One row, of `main`.
use Rattle.std.specs.Prelude.{◌≡◌, length}
use Rattle.std.proofs.Common.{sym, ◌∙◌, ap, arith}
use Rattle.std.proofs.lemmas.List.{length-map}
use Rattle.two_d.specs.Programs.{ModuleForm, box_of, box_count}
use Rattle.fire_core.proofs.BeginLemmas.{only_none}
use Rattle.fire_core.proofs.FireLemmas.{module-is}
use Rattle.fire_core.proofs.StartLemmas.{start-kept, start-table}
use Rattle.fire_core.proofs.instances.Instances.start.Goals as goal

pub invariant_of-result : goal.invariant_of-result
invariant_of-result c =
    start-kept c.args.program.now _ _ _ _ c.in_ok-cells.cells.items _ c.len-boxes.result c.new.ensures c.new-2.ensures c.new-rows.ensures c.in_ok-push.ensures.ok
    (c.in_ok-cells.ensures.items_if_clones_equal (only_none _ (λ x e. e)))

pub returns-clause-table : goal.returns-clause-table
returns-clause-table c =
    let size : c.len-boxes.result ≡ box_count c.args.program.now c.main.result =
    omega (arith, c.len-boxes.ensures, ap (λ (m : ModuleForm). length m.boxes) (module-is c.args.program.now c.modules.result.now.items c.modules.ensures.modules c.main.result c.index.result.now (rw c.main.ensures.main c.main.ensures.good.main_there) c.index.ensures), length-map c.index.result.now.boxes.items box_of) in
    start-table c.args.program.now _ _ _ _ c.in_ok-cells.cells.items _ c.len-boxes.result c.new.ensures c.new-2.ensures c.new-rows.ensures c.in_ok-push.ensures.ok
    (c.in_ok-cells.ensures.items_if_clones_equal (only_none _ (λ x e. e))) c.main-2.ensures.main (size ∙ ap (box_count c.args.program.now) (c.main.ensures.main ∙ sym c.main-2.ensures.main))
