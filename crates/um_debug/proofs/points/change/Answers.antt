use Rattle.std.proofs.Common.{rules, not}
use Rattle.std.proofs.lemmas.Fn.{filter_same}
use Rattle.um_debug.proofs.Toggles.{became_off}
use Rattle.um_debug.proofs.points.change.Goals as goal

pub returns-then-contains-clause-ok : goal.returns-then-contains-clause-ok
returns-then-contains-clause-ok g c =
    let kept = filter_same _ (λ other. not (g.T.PartialEq.eq other c.args.thing)) _ (λ x b q called. search rules) c.args.list.now.items c.retain.new.self.items c.retain.ensures.filtered in
    became_off (λ other. g.T.PartialEq.eq other c.args.thing) c.args.most c.args.thing c.args.list.now.items c.deref.result.now c.retain.new.self.items c.contains.result
    c.deref.ensures.value c.contains.ensures.value c.if-contains.true kept
