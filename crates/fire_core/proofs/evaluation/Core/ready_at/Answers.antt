use Rattle.std.specs.Prelude.{◌≡◌, ◌<◌, Some, length, slice_get}
use Rattle.std.proofs.Common.{sym, ap, subst, ◌∙◌}
use Rattle.two_d.specs.Steps.{ready}
use Rattle.fire_core.specs.Cores.{CoreView, IsCoreOf}
use Rattle.fire_core.specs.Events.{event_of}
use Rattle.fire_core.specs.inner.Instances.{core_view}
use Rattle.fire_core.proofs.evaluation.Core.ready_at.Goals as goal

pub event-requires : goal.event-requires
event-requires c =
    let P = c.args.program.now in
    let core : IsCoreOf P (core_view c.self.inside.instances c.self.inside.kept) = subst (IsCoreOf P) (sym c.self.view_is) c.requires.core in
    record {
      state = core.state;
      kept = core.kept;
      there = subst (λ (h : CoreView). c.args.k < length (ready P h.table)) (sym c.self.view_is) c.requires.there;
    }

pub returns : goal.returns
returns c = subst (λ (h : CoreView). slice_get (ready c.args.program.now h.table) c.args.k ≡ Some (event_of c.event.result)) c.self.view_is c.event.ensures
