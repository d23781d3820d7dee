use Rattle.std.specs.Prelude.{length}
use Rattle.std.proofs.Common.{sym, ap, subst, ◌∙◌}
use Rattle.two_d.specs.Steps.{ready}
use Rattle.fire_core.specs.Cores.{CoreView, IsCoreOf}
use Rattle.fire_core.specs.inner.Instances.{core_view}
use Rattle.fire_core.proofs.evaluation.Core.ready_len.Goals as goal

pub returns : goal.returns
returns c =
    let P = c.args.program.now in
    let core : IsCoreOf P (core_view c.self.inside.instances c.self.inside.kept) = subst (IsCoreOf P) (sym c.self.view_is) c.requires in
    c.len.ensures P c.self.inside.instances.table core.kept ∙ ap (λ (h : CoreView). length (ready P h.table)) c.self.view_is
