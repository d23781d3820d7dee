-- Instance by instance.
use Rattle.std.specs.Prelude.{◌≡◌, ◌<◌, map, length}
use Rattle.std.proofs.Common.{sym, ◌∙◌, ap, subst, arith}
use Rattle.std.proofs.lemmas.List.{length-map}
use Rattle.codex_values.specs.Store.{values_of}
use Rattle.two_d.specs.Programs.{ModuleForm, box_of, module_at, no_module}
use Rattle.two_d.specs.Steps.{Instance, IsStateOf, ready}
use Rattle.two_d.specs.Trails.{trails_of}
use Rattle.fire_core.specs.Cores.{CoreView}
use Rattle.fire_core.proofs.FireLemmas.{module-within, module-is}
use Rattle.fire_core.proofs.ReadyLemmas.{ready_below-next, ready_below-whole}
use Rattle.fire_core.proofs.StateLemmas.{kinds_fit}
use Rattle.fire_core.proofs.evaluation.Core.ready.Goals as goal

pub index-module-requires : goal.index-module-requires
index-module-requires c =
    let T = c.self.inside.instances.table in
    let state : IsStateOf c.args.program.now T = subst (λ (h : CoreView). IsStateOf c.args.program.now h.table) (sym c.self.view_is) c.requires.state in
    let lt : c.loop-number.number < length T = omega arith in
    let kind : c.row-row.result.now.kind < length c.args.program.now =
    subst (λ (x : Instance). x.kind < length c.args.program.now) (sym c.row-row.ensures.row) (kinds_fit c.args.program.now T c.modules-modules.ensures.good state c.loop-number.number lt) in
    omega (arith, module-within c.args.program.now c.modules-modules.result.now.items c.modules-modules.ensures.modules c.row-row.result.now.kind kind)

pub add_ready-requires : goal.add_ready-requires
add_ready-requires c =
    let T = c.self.inside.instances.table in
    let state : IsStateOf c.args.program.now T = subst (λ (h : CoreView). IsStateOf c.args.program.now h.table) (sym c.self.view_is) c.requires.state in
    let lt : c.loop-number.number < length T = omega arith in
    let kind : c.row-row.result.now.kind < length c.args.program.now =
    subst (λ (x : Instance). x.kind < length c.args.program.now) (sym c.row-row.ensures.row) (kinds_fit c.args.program.now T c.modules-modules.ensures.good state c.loop-number.number lt) in
    let is = module-is c.args.program.now c.modules-modules.result.now.items c.modules-modules.ensures.modules c.row-row.result.now.kind c.index-module.result.now kind c.index-module.ensures in
    let boxes : (module_at c.args.program.now c.row-row.result.now.kind).boxes ≡ map box_of c.deref.result.now = ap (λ (m : ModuleForm). m.boxes) is ∙ ap (map box_of) (sym c.deref.ensures.value) in
    let few = (c.modules-modules.ensures.good.sound c.row-row.result.now.kind no_module kind).few_boxes in
    omega (arith, few, ap length boxes, length-map c.deref.result.now box_of)

pub loop-number-preserved : goal.loop-number-preserved
loop-number-preserved c =
    let T = c.self.inside.instances.table in
    let state : IsStateOf c.args.program.now T = subst (λ (h : CoreView). IsStateOf c.args.program.now h.table) (sym c.self.view_is) c.requires.state in
    let lt : c.loop-number.number < length T = omega arith in
    let kind : c.row-row.result.now.kind < length c.args.program.now =
    subst (λ (x : Instance). x.kind < length c.args.program.now) (sym c.row-row.ensures.row) (kinds_fit c.args.program.now T c.modules-modules.ensures.good state c.loop-number.number lt) in
    let is = module-is c.args.program.now c.modules-modules.result.now.items c.modules-modules.ensures.modules c.row-row.result.now.kind c.index-module.result.now kind c.index-module.ensures in
    let boxes : (module_at c.args.program.now c.row-row.result.now.kind).boxes ≡ map box_of c.deref.result.now = ap (λ (m : ModuleForm). m.boxes) is ∙ ap (map box_of) (sym c.deref.ensures.value) in
    ready_below-next c.args.program.now T c.loop-number.number _ _ c.loop-number.invariant
    (c.in_ok-add_ready.ensures.added c.args.program.now T (values_of c.self.inside.instances.nodes) (trails_of c.self.inside.instances.trails) (sym c.row-row.ensures.row) boxes c.row-row.ensures.inner)

pub returns : goal.returns
returns c =
    let all : c.loop-number.number ≡ length c.self.inside.instances.table = omega arith in
    record {
      ready = ready_below-whole c.args.program.now c.self.inside.instances.table c.loop-number.number _ all c.loop-number.invariant
          ∙ ap (λ (h : CoreView). ready c.args.program.now h.table) c.self.view_is;
    }
