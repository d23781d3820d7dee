use Rattle.std.proofs.Common.{◌≡◌, ◌++◌, ◌<◌, ℕ, List, length, ap, sym, ◌∙◌, arith}
use Rattle.std.specs.List.{flat_map}
use Rattle.std.specs.Prelude.{min, reverse}
use Rattle.std.proofs.lemmas.List.{get_or-reverse, length-reverse}
use Rattle.stuck_view.specs.Pages.{caller_part}
use Rattle.text_picture.proofs.Added.{next_taken, taken_least}
use Rattle.stuck_view.proofs.trail.push_callers.Goals as goal

pub loop-k-preserved : goal.loop-k-preserved
loop-k-preserved c ds are =
    let callers = c.args.callers.now in
    let part = caller_part c.args.text.now ds c.args.program.now in
    let within : c.loop-k.k < length callers = omega (arith, c.loop-k-test.true, c.min-k-end.ensures) in
    let as_long = length-reverse callers in
    next_taken part c.args.page.now.items c.loop-k.page.items c.push_caller.new.page.items (reverse callers) c.loop-k.k _ (omega (arith, within, as_long))
    (c.loop-k.invariant ds are)
    (c.in_ok-push_caller.ensures ds are ∙ ap (λ (x : ℕ × ℕ). c.loop-k.page.items ++ part x) (sym (get_or-reverse callers c.loop-k.k _ within)))

pub returns : goal.returns
returns c ds are =
    let callers = c.args.callers.now in
    let part = caller_part c.args.text.now ds c.args.program.now in
    let as_long = length-reverse callers in
    let at : c.loop-k.k ≡ min (length (reverse callers)) 9 = omega (arith, c.loop-k-test.false, c.loop-k.auto.k-end, c.min-k-end.ensures, as_long) in
    c.loop-k.invariant ds are
    ∙ ap (λ (t : List (ℕ × ℕ)). c.args.page.now.items ++ flat_map part t) (taken_least (reverse callers) 9 c.loop-k.k at)
