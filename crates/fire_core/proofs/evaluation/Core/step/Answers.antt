-- The table is that after the event, and what is due is looked at again.
use Rattle.std.specs.Prelude.{◌≡◌, ◌<◌, ◌+◌, true, length}
use Rattle.std.proofs.Common.{sym, ap, subst, ◌∙◌, arith}
use Rattle.two_d.specs.Steps.{IsStateOf, is_ready, step}
use Rattle.fire_core.specs.Cores.{CoreView, IsCoreOf}
use Rattle.fire_core.specs.Events.{event_of}
use Rattle.fire_core.specs.Kept.{IsKeptOf}
use Rattle.fire_core.specs.inner.Changes.{IsDue}
use Rattle.fire_core.specs.inner.Instances.{core_view}
use Rattle.fire_core.proofs.DueLemmas.{maker-there, due-step}
use Rattle.fire_core.proofs.StateLemmas.{state_there, state-step}
use Rattle.fire_core.proofs.evaluation.Core.step.Goals as goal

pub told_by-told-requires : goal.told_by-told-requires
told_by-told-requires c =
    let P = c.args.program.now in
    let e = event_of c.args.event in
    let T = c.self.inside.instances.table in
    let core : IsCoreOf P (core_view c.self.inside.instances c.self.inside.kept) = subst (IsCoreOf P) (sym c.self.view_is) c.requires.core in
    let ready : is_ready P T e ≡ true = ap (λ (h : CoreView). is_ready P h.table e) c.self.view_is ∙ c.requires.ready in
    maker-there P T e c.modules-modules.ensures.good core.state ready

pub reserve-requires-clause-there : goal.reserve-requires-clause-there
reserve-requires-clause-there c =
    let P = c.args.program.now in
    let core : IsCoreOf P (core_view c.self.inside.instances c.self.inside.kept) = subst (IsCoreOf P) (sym c.self.view_is) c.requires.core in
    (P, c.self.inside.instances.table, core.kept, sym c.len-before.ensures)

pub renew-requires-clause-state : goal.renew-requires-clause-state
renew-requires-clause-state c =
    let P = c.args.program.now in
    let e = event_of c.args.event in
    let T = c.self.inside.instances.table in
    let core : IsCoreOf P (core_view c.self.inside.instances c.self.inside.kept) = subst (IsCoreOf P) (sym c.self.view_is) c.requires.core in
    let ready : is_ready P T e ≡ true = ap (λ (h : CoreView). is_ready P h.table e) c.self.view_is ∙ c.requires.ready in
    subst (IsStateOf P) (sym c.in_ok-step.ensures.ok) (state-step P T e core.state ready)

pub renew-requires-clause-due : goal.renew-requires-clause-due
renew-requires-clause-due c =
    let P = c.args.program.now in
    let e = event_of c.args.event in
    let T = c.self.inside.instances.table in
    let core : IsCoreOf P (core_view c.self.inside.instances c.self.inside.kept) = subst (IsCoreOf P) (sym c.self.view_is) c.requires.core in
    let ready : is_ready P T e ≡ true = ap (λ (h : CoreView). is_ready P h.table e) c.self.view_is ∙ c.requires.ready in
    let kept : IsKeptOf P T c.reserve.new.self = c.reserve.ensures.kept P T (sym c.len-before.ensures) core.kept in
    due-step P T c.step.new.self.table c.reserve.new.self e c.told_by-told.result c.len-before.result c.modules-modules.ensures.good core.state ready kept
    c.in_ok-step.ensures.ok c.told_by-told.ensures c.len-before.ensures c.in_ok-reserve.ensures.ok

pub invariant_of-self-2 : goal.invariant_of-self-2
invariant_of-self-2 c =
    let P = c.args.program.now in
    let e = event_of c.args.event in
    let T = c.self.inside.instances.table in
    let core : IsCoreOf P (core_view c.self.inside.instances c.self.inside.kept) = subst (IsCoreOf P) (sym c.self.view_is) c.requires.core in
    let ready : is_ready P T e ≡ true = ap (λ (h : CoreView). is_ready P h.table e) c.self.view_is ∙ c.requires.ready in
    state_there P c.step.new.self.table (subst (IsStateOf P) (sym c.in_ok-step.ensures.ok) (state-step P T e core.state ready))

pub returns-clause-core : goal.returns-clause-core
returns-clause-core c =
    let P = c.args.program.now in
    let e = event_of c.args.event in
    let T = c.self.inside.instances.table in
    let core : IsCoreOf P (core_view c.self.inside.instances c.self.inside.kept) = subst (IsCoreOf P) (sym c.self.view_is) c.requires.core in
    let ready : is_ready P T e ≡ true = ap (λ (h : CoreView). is_ready P h.table e) c.self.view_is ∙ c.requires.ready in
    record {
      state = subst (IsStateOf P) (sym c.in_ok-step.ensures.ok) (state-step P T e core.state ready);
      kept = c.renew.ensures;
    }
