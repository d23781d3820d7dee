-- The marks of the new instance begin, and each is looked at.
use Rattle.std.specs.Prelude.{◌≡◌, ◌<◌, ◌≤◌, ℕ, length}
use Rattle.std.proofs.Common.{sym, ap, subst, ◌∙◌, arith, inl, inr}
use Rattle.std.proofs.lemmas.Bool.{cases_eq}
use Rattle.ready_marks.specs.Slots.{boxes_of}
use Rattle.two_d.specs.Programs.{box_count}
use Rattle.two_d.specs.Steps.{Instance}
use Rattle.fire_core.specs.inner.Changes.{AreBoxesRight, HasRoom}
use Rattle.fire_core.proofs.RightLemmas.{IsBegun, begin-next, all-right}
use Rattle.fire_core.proofs.StateLemmas.{kinds_fit}
use Rattle.fire_core.proofs.kept.add.Goals as goal

pub module_size-boxes-requires : goal.module_size-boxes-requires
module_size-boxes-requires c =
    let P = c.args.program.now in
    subst (λ (x : Instance). x.kind < length P) (sym c.row-row.ensures.row) (kinds_fit P c.args.instances.now.table c.modules-modules.ensures.good c.requires.state c.args.number (omega arith))

pub begin-requires : goal.begin-requires
begin-requires c =
    let P = c.args.program.now in
    let T = c.args.instances.now.table in
    let size : c.module_size-boxes.result ≡ boxes_of P T c.args.number = c.module_size-boxes.ensures.boxes ∙ ap (λ (x : Instance). box_count P x.kind) c.row-row.ensures.row in
    record { there = c.requires.room.0; within = omega (arith, size, c.requires.room.1) }

pub loop-bx-init : goal.loop-bx-init
loop-bx-init c =
    let P = c.args.program.now in
    let T = c.args.instances.now.table in
    let n = c.args.number in
    let size : c.module_size-boxes.result ≡ boxes_of P T n = c.module_size-boxes.ensures.boxes ∙ ap (λ (x : Instance). box_count P x.kind) c.row-row.ensures.row in
    let room : HasRoom n c.module_size-boxes.result c.args.slots.now = rw size c.requires.room in
    let begun : IsBegun P T n c.args.slots.now c.begin.new.self = begin-next P T n c.module_size-boxes.result c.args.slots.now c.begin.new.self c.requires.spread size room c.begin.ensures.starts c.begin.ensures.marks in
    rw c.requires.last (record { spread = begun.spread; stays = begun.stays; right = λ b lt. absurd (omega arith); rest = begun.rest })

pub loop-bx-preserved : goal.loop-bx-preserved
loop-bx-preserved c =
    let P = c.args.program.now in
    let T = c.args.instances.now.table in
    let size : c.module_size-boxes.result ≡ boxes_of P T c.args.number = c.module_size-boxes.ensures.boxes ∙ ap (λ (x : Instance). box_count P x.kind) c.row-row.ensures.row in
    record {
      spread = c.renew_box.ensures.keeps.spread;
      stays = λ i b lt le right. c.renew_box.ensures.keeps.stays i b (omega (arith, lt, c.requires.last)) le (c.loop-bx.invariant.stays i b lt le right);
      right = λ b lt. elim (cases_eq b c.loop-bx.bx) [
        | inl is ↦ rw is c.renew_box.ensures.here
        | inr other ↦ c.renew_box.ensures.keeps.stays c.args.number b (omega arith) (omega (arith, size)) (c.loop-bx.invariant.right b (omega arith))
      ];
      rest = λ unset. c.renew_box.ensures.keeps.rest (c.loop-bx.invariant.rest unset);
    }

pub returns : goal.returns
returns c =
    let P = c.args.program.now in
    let T = c.args.instances.now.table in
    let n = c.args.number in
    let size : c.module_size-boxes.result ≡ boxes_of P T n = c.module_size-boxes.ensures.boxes ∙ ap (λ (x : Instance). box_count P x.kind) c.row-row.ensures.row in
    let all : boxes_of P T n ≤ c.loop-bx.bx = omega (arith, size) in
    let boxes : AreBoxesRight P T c.loop-bx.slots n = λ b lt. c.loop-bx.invariant.right b (omega arith) in
    record {
      spread = c.renew_end.ensures.keeps.spread;
      stays = λ i b lt le right. c.renew_end.ensures.keeps.stays i b (omega (arith, lt, c.requires.last)) le (c.loop-bx.invariant.stays i b lt le right);
      new = all-right P T c.loop-bx.slots c.renew_end.new.slots n (omega arith) boxes c.renew_end.ensures.keeps c.renew_end.ensures.here;
      rest = λ unset. c.renew_end.ensures.keeps.rest (c.loop-bx.invariant.rest unset);
    }
