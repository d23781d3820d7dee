-- The marks are those of the ready events, and a box that is ready is one of few.
use Rattle.std.specs.Prelude.{◌≡◌, ◌<◌, ℕ, Option, Some, true, length, slice_get}
use Rattle.std.proofs.Common.{refl, sym, ap, subst, ◌∙◌, arith}
use Rattle.ready_marks.specs.Slots.{spot_event}
use Rattle.two_d.specs.Programs.{no_module}
use Rattle.two_d.specs.Steps.{Fire, instance_at, is_ready, ready}
use Rattle.fire_core.specs.Kept.{IsKeptOf, kept_view}
use Rattle.fire_core.proofs.ChangeLemmas.{fires-box, live-there}
use Rattle.fire_core.proofs.PlainLemmas.{ready-at}
use Rattle.fire_core.proofs.StateLemmas.{kinds_fit}
use Rattle.fire_core.proofs.kept.Kept.event.Goals as goal

pub event-requires : goal.event-requires
event-requires c =
    let P = c.args.program.now in
    let T = c.args.instances.now.table in
    let kept : IsKeptOf P T (kept_view c.self.inside.slots c.self.inside.ways.items c.self.inside.most) = subst (IsKeptOf P T) (sym c.self.view_is) c.requires.kept in
    (P, T, kept.slots, sym c.len.ensures, c.requires.there)

spot-box : (spot : ℕ × Option ℕ) (b : ℕ) → spot.1 ≡ Some b → spot_event spot ≡ Fire spot.0 b
spot-box (i, o) b is = rw is refl

pub overflow_cast-result : goal.overflow_cast-result
overflow_cast-result c =
    let P = c.args.program.now in
    let T = c.args.instances.now.table in
    let i = c.event.result.0 in
    let b = c.in_default-Some.bx in
    let kept : IsKeptOf P T (kept_view c.self.inside.slots c.self.inside.ways.items c.self.inside.most) = subst (IsKeptOf P T) (sym c.self.view_is) c.requires.kept in
    let there : slice_get (ready P T) c.args.k ≡ Some (Fire i b) =
    c.event.ensures P T kept.slots (sym c.len.ensures) c.requires.there ∙ ap Some (spot-box c.event.result b c.in_default-Some.is-1) in
    let can : is_ready P T (Fire i b) ≡ true = ready-at P T c.args.k (Fire i b) there in
    let below = fires-box P T i b can in
    let kind : (instance_at T i).kind < length P = kinds_fit P T c.modules-modules.ensures.good c.requires.state i (live-there P T i b can) in
    let few = (c.modules-modules.ensures.good.sound (instance_at T i).kind no_module kind).few_boxes in
    omega (arith, below, few)
