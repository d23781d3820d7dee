-- The mark is written as the box is looked at.
use Rattle.std.specs.Prelude.{◌≡◌, ◌<◌, ◌&&◌, Some, length}
use Rattle.std.proofs.Common.{sym, ap, subst, ◌∙◌, arith}
use Rattle.codex_values.specs.Store.{values_of}
use Rattle.ready_marks.specs.Slots.{boxes_of, marked_event}
use Rattle.ready_marks.proofs.MarkedReady.{event-box}
use Rattle.two_d.specs.Programs.{box_of, box_at, box_count}
use Rattle.two_d.specs.Steps.{Instance, is_live, can_fire, is_ready}
use Rattle.two_d.specs.Trails.{trails_of}
use Rattle.fire_core.proofs.DueLemmas.{ready-fire}
use Rattle.fire_core.proofs.FireLemmas.{module-within, box-within, box-is}
use Rattle.fire_core.proofs.RightLemmas.{IsPut, before-end, put-right}
use Rattle.fire_core.proofs.StateLemmas.{kinds_fit}
use Rattle.fire_core.proofs.kept.renew_box.Goals as goal

pub put-requires-clause-within : goal.put-requires-clause-within
put-requires-clause-within c =
    let T = c.args.instances.now.table in
    let before = before-end c.args.program.now T (length T) c.args.slots.now c.requires.spread c.args.number c.args.bx c.requires.there (omega arith) in
    omega (arith, before, c.requires.spread.reach)

pub returns : goal.returns
returns c =
    let P = c.args.program.now in
    let T = c.args.instances.now.table in
    let i = c.args.number in
    let b = c.args.bx in
    let row = c.row-row.ensures.row in
    let kind : c.row-row.result.now.kind < length P = subst (λ (x : Instance). x.kind < length P) (sym row) (kinds_fit P T c.modules-modules.ensures.good c.requires.state i c.requires.there) in
    let below : b < box_count P c.row-row.result.now.kind = subst (λ (x : Instance). b < box_count P x.kind) (sym row) c.requires.box_there in
    let here : box_at P c.row-row.result.now.kind b ≡ Some (box_of c.index-form.result.now) =
    box-is P c.modules-modules.result.now.items c.modules-modules.ensures.modules c.row-row.result.now.kind b c.index-module.result.now c.index-form.result.now kind below c.index-module.ensures c.index-form.ensures in
    let is : c.is_box_ready-ready.result ≡ is_ready P T (marked_event (boxes_of P T i) i b) =
    c.is_box_ready-ready.ensures P (values_of c.args.instances.now.nodes) (trails_of c.args.instances.now.trails) here
    ∙ (ap (λ (x : Instance). is_live x && can_fire P x b) row ∙ (sym (ready-fire P T i b) ∙ ap (is_ready P T) (sym (event-box (boxes_of P T i) i b c.requires.box_there)))) in
    let put : IsPut P T c.args.slots.now c.put.new.self i b =
    put-right P T c.args.slots.now c.put.new.self i b c.is_box_ready-ready.result c.requires.spread c.requires.there (omega arith) c.put.ensures.starts c.put.ensures.marks is in
    record { keeps = put.keeps; here = put.here }
