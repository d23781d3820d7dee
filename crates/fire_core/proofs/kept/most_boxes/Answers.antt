-- Module by module.
use Rattle.std.specs.Prelude.{◌<◌, ◌≤◌, ◌^◌, length}
use Rattle.std.proofs.Common.{ap, arith, inl, inr}
use Rattle.std.proofs.lemmas.Bool.{cases_eq}
use Rattle.std.proofs.lemmas.List.{length-map}
use Rattle.two_d.specs.Programs.{module_of}
use Rattle.fire_core.proofs.FireLemmas.{module-within}
use Rattle.fire_core.proofs.kept.most_boxes.Goals as goal

pub module_size-size-requires : goal.module_size-size-requires
module_size-size-requires c =
    omega (arith, length-map c.modules-modules.result.now.items module_of, ap length c.modules-modules.ensures.modules)

pub loop-kind-init : goal.loop-kind-init
loop-kind-init c = record { all = λ m lt. absurd (omega arith); few = omega arith }

pub loop-kind-preserved : goal.loop-kind-preserved
loop-kind-preserved c = record {
  all = λ m lt. elim (cases_eq m c.loop-kind.kind) [
    | inl is ↦ rw is (omega (arith, c.module_size-size.ensures.boxes, c.larger-most.ensures.second))
    | inr other ↦ omega (arith, c.loop-kind.invariant.all m (omega arith), c.larger-most.ensures.first)
  ];
  few = c.larger-most.ensures.few (2 ^ 32) c.loop-kind.invariant.few c.module_size-size.ensures.small;
}

pub returns : goal.returns
returns c = record {
  all = λ m lt. c.loop-kind.invariant.all m (omega (arith, lt, module-within c.args.program.now c.modules-modules.result.now.items c.modules-modules.ensures.modules m lt));
  few = c.loop-kind.invariant.few;
}
