use Rattle.std.proofs.Common.{◌≡◌, Bool, cond, length, get_or, Some, None, sym, ap, ◌∙◌, arith, refl}
use Rattle.um_debug.specs.declared.course.Came.TheVariants as came
use Rattle.um_debug.specs.Course.{Points, broke}
use Rattle.um_debug.proofs.Watching.{goes_on, change_seen, none_changed}
use Rattle.um_debug.proofs.points.Points.look.Goals as goal

pub loop-k-init : goal.loop-k-init
loop-k-init c before are = refl

pub returns-then-ne : goal.returns-then-ne
returns-then-ne c before are =
    change_seen before c.args.machine.now.arrays c.args.self.now.watches c.args.words.now c.loop-k.k c.index-place.result.now c.word-word.result c.ne.result
    (let e : length c.args.self.now.watches ≡ length c.self.inside.watches.items = ap (λ (p : Points). length p.watches) (sym c.self.view_is) in omega (arith, e, c.loop-k-test.true, c.len-k-end.ensures))
    (c.index-place.ensures ∙ ap (λ (p : Points). get_or p.watches c.loop-k.k c.index-place.result.now) c.self.view_is)
    are c.word-word.ensures.value c.ne.ensures (c.loop-k.invariant before are)
    (broke c.args.self.now c.args.machine.now.finger) c.if-ne.true

pub loop-k-preserved : goal.loop-k-preserved
loop-k-preserved c before are =
    goes_on before c.args.machine.now.arrays c.args.self.now.watches c.args.words.now c.loop-k.k c.index-place.result.now c.word-word.result c.ne.result
    (let e : length c.args.self.now.watches ≡ length c.self.inside.watches.items = ap (λ (p : Points). length p.watches) (sym c.self.view_is) in omega (arith, e, c.loop-k-test.true, c.len-k-end.ensures))
    (c.index-place.ensures ∙ ap (λ (p : Points). get_or p.watches c.loop-k.k c.index-place.result.now) c.self.view_is)
    are c.word-word.ensures.value c.ne.ensures (c.loop-k.invariant before are)
    c.if-ne.false

pub returns-then-contains : goal.returns-then-contains
returns-then-contains c before are =
    sym (ap (λ (b : Bool). cond b (Some (came.Broke c.finger-finger.result)) None) c.if-contains.true)
    ∙ none_changed c.args.self.now before c.args.machine.now.arrays c.args.machine.now.finger c.loop-k.k c.finger-finger.result c.deref.result.now c.contains.result
    (let e : length c.args.self.now.watches ≡ length c.self.inside.watches.items = ap (λ (p : Points). length p.watches) (sym c.self.view_is) in omega (arith, e, c.loop-k-test.false, c.len-k-end.ensures))
    (c.loop-k.invariant before are) c.finger-finger.ensures
    (c.deref.ensures.value ∙ ap (λ (p : Points). p.breakpoints) c.self.view_is) c.contains.ensures.value

pub returns : goal.returns
returns c before are =
    sym (ap (λ (b : Bool). cond b (Some (came.Broke c.finger-finger.result)) None) c.if-contains.false)
    ∙ none_changed c.args.self.now before c.args.machine.now.arrays c.args.machine.now.finger c.loop-k.k c.finger-finger.result c.deref.result.now c.contains.result
    (let e : length c.args.self.now.watches ≡ length c.self.inside.watches.items = ap (λ (p : Points). length p.watches) (sym c.self.view_is) in omega (arith, e, c.loop-k-test.false, c.len-k-end.ensures))
    (c.loop-k.invariant before are) c.finger-finger.ensures
    (c.deref.ensures.value ∙ ap (λ (p : Points). p.breakpoints) c.self.view_is) c.contains.ensures.value
