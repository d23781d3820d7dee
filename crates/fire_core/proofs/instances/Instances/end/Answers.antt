-- The instance ends as in the table.
use Rattle.std.specs.Prelude.{◌≡◌, Some, None, slice_set}
use Rattle.std.proofs.Common.{sym, ◌∙◌, ap}
use Rattle.codex_values.specs.Store.{values_of}
use Rattle.two_d.specs.Meaning.{Outcome, returned}
use Rattle.two_d.specs.Steps.{Table, instance_at, set_cell, ended}
use Rattle.two_d.specs.Texts.{outcome_in}
use Rattle.two_d.specs.Trails.{trails_of}
use Rattle.fire_core.proofs.ActLemmas.{OnOk-same}
use Rattle.fire_core.proofs.EndLemmas.{can_end}
use Rattle.fire_core.proofs.MarkLemmas.{step-orphan, step-inner}
use Rattle.fire_core.proofs.instances.Instances.end.Goals as goal

pub parent-requires : goal.parent-requires
parent-requires c = rw c.in_ok-outcome.ensures.table (can_end c.args.program.now c.args.self.now.table c.args.number c.modules-modules.ensures.good c.requires.state c.requires.ready).within

pub finish-requires-clause-there : goal.finish-requires-clause-there
finish-requires-clause-there c = rw c.in_ok-outcome.ensures.table (can_end c.args.program.now c.args.self.now.table c.args.number c.modules-modules.ensures.good c.requires.state c.requires.ready).within

pub deliver-requires-clause-live : goal.deliver-requires-clause-live
deliver-requires-clause-live c = rw c.in_ok-outcome.ensures.table (can_end c.args.program.now c.args.self.now.table c.args.number c.modules-modules.ensures.good c.requires.state c.requires.ready).live

pub deliver-requires-clause-earlier : goal.deliver-requires-clause-earlier
deliver-requires-clause-earlier c =
    let parent : (instance_at c.args.self.now.table c.args.number).parent ≡ Some (c.in-Some.above, c.in-Some.bx) =
    ap (λ (U : Table). (instance_at U c.args.number).parent) (sym c.in_ok-outcome.ensures.table) ∙ (sym c.parent.ensures ∙ c.in-Some.is) in
    ((can_end c.args.program.now c.args.self.now.table c.args.number c.modules-modules.ensures.good c.requires.state c.requires.ready).parent (c.in-Some.above, c.in-Some.bx) parent).earlier

pub deliver-requires-clause-has : goal.deliver-requires-clause-has
deliver-requires-clause-has c =
    let parent : (instance_at c.args.self.now.table c.args.number).parent ≡ Some (c.in-Some.above, c.in-Some.bx) =
    ap (λ (U : Table). (instance_at U c.args.number).parent) (sym c.in_ok-outcome.ensures.table) ∙ (sym c.parent.ensures ∙ c.in-Some.is) in
    rw c.in_ok-outcome.ensures.table ((can_end c.args.program.now c.args.self.now.table c.args.number c.modules-modules.ensures.good c.requires.state c.requires.ready).parent (c.in-Some.above, c.in-Some.bx) parent).has

pub returns-in-None-clause-ok : goal.returns-in-None-clause-ok
returns-in-None-clause-ok c =
    let parent : (instance_at c.args.self.now.table c.args.number).parent ≡ None =
    ap (λ (U : Table). (instance_at U c.args.number).parent) (sym c.in_ok-outcome.ensures.table) ∙ (sym c.parent.ensures ∙ c.in-None.is) in
    c.finish.ensures.table
    ∙ (ap (λ (U : Table). slice_set U c.args.number (ended (instance_at U c.args.number) (outcome_in (values_of c.outcome.new.self.nodes) (trails_of c.outcome.new.self.trails) c.in_ok-outcome.outcome))) c.in_ok-outcome.ensures.table
    ∙ (ap (λ (o : Outcome). slice_set c.args.self.now.table c.args.number (ended (instance_at c.args.self.now.table c.args.number) o)) c.in_ok-outcome.ensures.outcome
    ∙ step-orphan c.args.program.now c.args.self.now.table c.args.number parent))

pub returns-in-Some-clause-ok : goal.returns-in-Some-clause-ok
returns-in-Some-clause-ok c =
    let parent : (instance_at c.args.self.now.table c.args.number).parent ≡ Some (c.in-Some.above, c.in-Some.bx) =
    ap (λ (U : Table). (instance_at U c.args.number).parent) (sym c.in_ok-outcome.ensures.table) ∙ (sym c.parent.ensures ∙ c.in-Some.is) in
    let earlier = ((can_end c.args.program.now c.args.self.now.table c.args.number c.modules-modules.ensures.good c.requires.state c.requires.ready).parent (c.in-Some.above, c.in-Some.bx) parent).earlier in
    OnOk-same c.deliver.result _ _ _ c.deliver.ensures.ok
    (ap (λ (U : Table). set_cell (slice_set U c.args.number (ended (instance_at U c.args.number) (outcome_in (values_of c.outcome.new.self.nodes) (trails_of c.outcome.new.self.trails) c.in_ok-outcome.outcome))) c.in-Some.above c.in-Some.bx
    (returned (instance_at U c.in-Some.above).kind c.in-Some.bx (outcome_in (values_of c.outcome.new.self.nodes) (trails_of c.outcome.new.self.trails) c.in_ok-outcome.outcome))) c.in_ok-outcome.ensures.table
    ∙ (ap (λ (o : Outcome). set_cell (slice_set c.args.self.now.table c.args.number (ended (instance_at c.args.self.now.table c.args.number) o)) c.in-Some.above c.in-Some.bx
    (returned (instance_at c.args.self.now.table c.in-Some.above).kind c.in-Some.bx o)) c.in_ok-outcome.ensures.outcome
    ∙ step-inner c.args.program.now c.args.self.now.table c.args.number c.in-Some.above c.in-Some.bx parent earlier))
