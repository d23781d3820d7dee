-- One module more.
use Rattle.std.specs.Prelude.{◌≡◌, ◌+◌, ◌<◌, ◌∷◌, [], suc, length, slice_get}
use Rattle.std.proofs.Common.{ap, sym, ◌∙◌, arith, length-append}
use Rattle.std.proofs.lemmas.List.{length-map}
use Rattle.two_d.specs.Programs.{module_of, modules_of, box_count}
use Rattle.lower_emit.specs.KnownOutcomes.{first_text}
use Rattle.lower_link.proofs.Firsts.{first_few, one_more}
use Rattle.lower_link.proofs.TextLines.{count_is}
use Rattle.lower_link.proofs.table.first_texts.Goals as goal

-- a module is read, with the number of its boxes
read : (c : goal.After-len) → (c.loop-owner.owner-index < length c.args.program.now) × (c.len.result ≡ box_count c.args.program.now c.loop-owner.owner-index)
read c =
    let P = c.args.program.now in
    let i = c.loop-owner.owner-index in
    let modules = c.deref-owner-items.ensures.value in
    let lt : i < length P = omega (arith, c.loop-owner-test.true, ap length modules, ap length c.modules.ensures.modules, length-map c.modules.result.now.items module_of) in
    (lt, count_is _ P (ap modules_of modules ∙ c.modules.ensures.modules) i c.owner-item.result lt c.owner-item.is c.len.result c.len.ensures c.owner-item.result.boxes.ok.0)

pub overflow_cast-next : goal.overflow_cast-next
overflow_cast-next c = let r = read c in omega (arith, r.1, first_few c.args.program.now c.loop-owner.owner-index r.0, c.requires.light)

pub overflow_add-next : goal.overflow_add-next
overflow_add-next c = let r = read c in omega (arith, r.1, first_few c.args.program.now c.loop-owner.owner-index r.0, c.requires.light)

pub overflow_add-next-in-loop-owner : goal.overflow_add-next-in-loop-owner
overflow_add-next-in-loop-owner c = let r = read c in omega (arith, r.1, first_few c.args.program.now c.loop-owner.owner-index r.0, c.requires.light, c.loop-owner.invariant.next)

pub loop-owner-preserved : goal.loop-owner-preserved
loop-owner-preserved c =
    let P = c.args.program.now in
    let i = c.loop-owner.owner-index in
    let numbers = c.loop-owner.numbers.items in
    let so_far = c.loop-owner.invariant.one_each in
    let count = (read c).1 in
    let one : suc i ≡ i + 1 = omega arith in
    record {
      one_each = omega (arith, ap length c.in_ok-push.ensures.items, length-append numbers (c.loop-owner.next ∷ []), so_far);
      are = λ m less. ap (λ ns. slice_get ns m) c.in_ok-push.ensures.items
          ∙ one_more (first_text P) numbers c.loop-owner.next (λ k low. c.loop-owner.invariant.are k (omega (arith, low, so_far))) (c.loop-owner.invariant.next ∙ ap (first_text P) (sym so_far)) m (omega (arith, less, so_far));
      next = omega (arith, c.loop-owner.invariant.next, count, ap (first_text P) one);
    }

pub returns : goal.returns
returns c =
    let P = c.args.program.now in
    let i = c.loop-owner.owner-index in
    let end : i ≡ length P = omega (
      arith,
      c.loop-owner-test.false,
      c.loop-owner.auto.owner-index-end,
      ap length c.deref-owner-items.ensures.value,
      ap length c.modules.ensures.modules,
      length-map c.modules.result.now.items module_of,
    ) in
    record { one_each = c.loop-owner.invariant.one_each ∙ end; are = λ m lt. c.loop-owner.invariant.are m (omega (arith, lt, end)) }
