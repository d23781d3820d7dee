-- The new node is made of the trails that stand.
use Rattle.std.specs.Prelude.{◌≡◌, ◌++◌, ◌∷◌, [], length}
use Rattle.std.proofs.Common.{◌∙◌, ap, rules}
use Rattle.two_d.proofs.TrailLemmas.{trail_at-pushed, keeps-pushed}
use Rattle.two_d.proofs.trail_store.TrailStore.add.Goals as goal

pub returns-clause-trail : goal.returns-clause-trail
returns-clause-trail c =
    let size : c.len-at.result ≡ length c.args.self.now = search rules in
    trail_at-pushed c.args.self.now _ c.args.node c.len-at.result (c.in_ok-push.ensures.items ∙ ap (λ l. l ++ c.args.node ∷ []) c.self.view_is) size

pub returns-clause-keeps : goal.returns-clause-keeps
returns-clause-keeps c = keeps-pushed c.args.self.now _ c.args.node (c.in_ok-push.ensures.items ∙ ap (λ l. l ++ c.args.node ∷ []) c.self.view_is)
