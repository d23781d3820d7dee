-- A mark that is set counts, and those behind it take nothing away.
use Rattle.std.specs.Prelude.{◌≡◌, ◌==◌, true}
use Rattle.std.proofs.Common.{◌∙◌, ap, sym, arith}
use Rattle.std.proofs.lemmas.Bool.{eq-eqb, ne_eqb}
use Rattle.std.proofs.lemmas.List.{get_or_read}
use Rattle.mark_list.specs.Marks.{is_marked, one_if, count_before}
use Rattle.mark_list.proofs.Below.{count_before-next, count_before-at}
use Rattle.mark_list.proofs.numbers.none_between.Goals as goal

pub returns-then-marks-place : goal.returns-then-marks-place
returns-then-marks-place c =
    let more = count_before-at c.args.marks.now c.loop-place.place c.args.to (omega arith) in
    let set : is_marked c.args.marks.now c.loop-place.place ≡ true = c.if-marks-place.true in
    sym (ne_eqb _ _ (λ same. omega (arith, same, more, ap one_if set, c.loop-place.invariant)))

pub loop-place-preserved : goal.loop-place-preserved
loop-place-preserved c =
    omega (arith, count_before-next c.args.marks.now c.loop-place.place, ap one_if c.if-marks-place.false, c.loop-place.invariant)
