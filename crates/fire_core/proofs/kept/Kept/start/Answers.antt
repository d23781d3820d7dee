-- The marks of the first instance are the first ones.
use Rattle.std.specs.Prelude.{◌≡◌, ◌<◌, ◌≤◌, ℕ, Bool, List, [], false, length}
use Rattle.std.proofs.Common.{sym, ap, subst, ◌∙◌, arith}
use Rattle.std.proofs.lemmas.List.{get_or_past}
use Rattle.mark_list.specs.Marks.{is_marked}
use Rattle.two_d.specs.Programs.{modules_of}
use Rattle.two_d.specs.Steps.{Instance}
use Rattle.fire_core.specs.inner.Changes.{AreRightOf, IsUnsetPast}
use Rattle.fire_core.proofs.RightLemmas.{ready-from, sound-modules, ways-found}
use Rattle.fire_core.proofs.StateLemmas.{kinds_fit}
use Rattle.fire_core.proofs.kept.Kept.start.Goals as goal

pub module_size-requires : goal.module_size-requires
module_size-requires c =
    let P = c.args.program.now in
    subst (λ (x : Instance). x.kind < length P) (sym c.row-row.ensures.row) (kinds_fit P c.args.instances.now.table c.modules-modules.ensures.good c.requires.state 0 (omega (arith, c.requires.one)))

pub all_ways-requires : goal.all_ways-requires
all_ways-requires c = sound-modules c.args.program.now c.deref.result.now (ap modules_of c.deref.ensures.value ∙ c.modules-modules.ensures.modules) c.modules-modules.ensures.good.sound

pub returns : goal.returns
returns c =
    let P = c.args.program.now in
    let T = c.args.instances.now.table in
    let none : IsUnsetPast 0 c.reserve.new.self = λ s past.
    c.reserve.ensures.marks s ∙ (ap (λ (l : List Bool). is_marked l s) c.in_ok-slots.ensures.marks ∙ get_or_past [] s false (omega arith)) in
    let right : (i : ℕ) → i < length T → AreRightOf P T c.add.new.slots i = λ i lt. let first : i ≡ 0 = omega (arith, lt, c.requires.one) in rw first c.add.ensures.new in
    record {
      slots = ready-from P T c.add.new.slots c.add.ensures.spread right (c.add.ensures.rest none);
      ways = ways-found P c.deref.result.now c.in_ok-ways.ways.items (ap modules_of c.deref.ensures.value ∙ c.modules-modules.ensures.modules) c.in_ok-ways.ensures.sized c.in_ok-ways.ensures.each;
      most = c.most_boxes-most.ensures;
    }
