-- The mark is written as the end is looked at.
use Rattle.std.specs.Prelude.{◌≡◌, ◌<◌, ◌≤◌, length}
use Rattle.std.proofs.Common.{sym, ap, subst, ◌∙◌, arith}
use Rattle.codex_values.specs.Store.{values_of}
use Rattle.ready_marks.specs.Slots.{boxes_of, marked_event}
use Rattle.two_d.specs.Programs.{box_count}
use Rattle.two_d.specs.Steps.{Instance, is_ready}
use Rattle.two_d.specs.Trails.{trails_of}
use Rattle.fire_core.specs.inner.Rows.{instance_in, row_of}
use Rattle.fire_core.proofs.DueLemmas.{end-right}
use Rattle.fire_core.proofs.RightLemmas.{IsPut, before-end, put-right}
use Rattle.fire_core.proofs.StateLemmas.{kinds_fit}
use Rattle.fire_core.proofs.kept.renew_end.Goals as goal

pub module_size-boxes-requires : goal.module_size-boxes-requires
module_size-boxes-requires c =
    let P = c.args.program.now in
    subst (λ (x : Instance). x.kind < length P) (sym c.row-row.ensures.row) (kinds_fit P c.args.instances.now.table c.modules-modules.ensures.good c.requires.state c.args.number c.requires.there)

pub can_end-ready-requires-clause-within : goal.can_end-ready-requires-clause-within
can_end-ready-requires-clause-within c =
    let P = c.args.program.now in
    let T = c.args.instances.now.table in
    let size : c.module_size-boxes.result ≡ boxes_of P T c.args.number = c.module_size-boxes.ensures.boxes ∙ ap (λ (x : Instance). box_count P x.kind) c.row-row.ensures.row in
    let before = before-end P T (length T) c.args.slots.now c.requires.spread c.args.number (boxes_of P T c.args.number) c.requires.there (omega arith) in
    omega (arith, size, before, c.requires.spread.reach)

pub put-requires-clause-within : goal.put-requires-clause-within
put-requires-clause-within c =
    let P = c.args.program.now in
    let T = c.args.instances.now.table in
    let size : c.module_size-boxes.result ≡ boxes_of P T c.args.number = c.module_size-boxes.ensures.boxes ∙ ap (λ (x : Instance). box_count P x.kind) c.row-row.ensures.row in
    let before = before-end P T (length T) c.args.slots.now c.requires.spread c.args.number (boxes_of P T c.args.number) c.requires.there (omega arith) in
    omega (arith, size, before, c.requires.spread.reach)

pub returns : goal.returns
returns c =
    let P = c.args.program.now in
    let T = c.args.instances.now.table in
    let i = c.args.number in
    let row = c.row-row.ensures.row in
    let values = values_of c.args.instances.now.nodes in
    let trails = trails_of c.args.instances.now.trails in
    let size : c.module_size-boxes.result ≡ boxes_of P T i = c.module_size-boxes.ensures.boxes ∙ ap (λ (x : Instance). box_count P x.kind) row in
    let is : c.can_end-ready.result ≡ is_ready P T (marked_event (boxes_of P T i) i (boxes_of P T i)) =
    end-right P T c.args.slots.now i c.module_size-boxes.result c.row-row.result.now.inner (instance_in values trails (row_of c.row-row.result.now)) c.can_end-ready.result c.requires.boxes
    row size c.row-row.ensures.inner (c.can_end-ready.ensures values trails) in
    let put : IsPut P T c.args.slots.now c.put.new.self i (boxes_of P T i) =
    put-right P T c.args.slots.now c.put.new.self i (boxes_of P T i) c.can_end-ready.result c.requires.spread c.requires.there (omega arith) c.put.ensures.starts (rw size at c.put.ensures.marks) is in
    record { keeps = put.keeps; here = put.here }
