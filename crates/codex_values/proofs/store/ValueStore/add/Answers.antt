-- The set holds the node once, and the new place stands for what the node makes of its parts.
use Rattle.std.proofs.Common.{subst, rules}
use Rattle.codex_values.specs.Store.{IsStore}
use Rattle.codex_values.proofs.NodeLemmas.{into, store_after, keeps_after, added_after, value_after}
use Rattle.codex_values.proofs.store.ValueStore.add.Goals as goal

pub invariant_of-self-2 : goal.invariant_of-self-2
invariant_of-self-2 c =
    store_after c.args.shape c.args.self.now _ (into c.args.shape _ _ _ c.self.view_is c.in_ok-at.ensures.keys) (subst IsStore c.self.view_is c.self.invariant) c.requires

pub returns-clause-added : goal.returns-clause-added
returns-clause-added c = added_after c.args.shape c.args.self.now _ (into c.args.shape _ _ _ c.self.view_is c.in_ok-at.ensures.keys)

pub returns-clause-value : goal.returns-clause-value
returns-clause-value c = value_after c.args.shape c.args.self.now _ c.in_ok-at.at (into c.args.shape _ _ _ c.self.view_is c.in_ok-at.ensures.keys) (subst IsStore c.self.view_is c.self.invariant) c.requires (search rules) (search rules)

pub returns-clause-keeps : goal.returns-clause-keeps
returns-clause-keeps c = keeps_after c.args.shape c.args.self.now _ (into c.args.shape _ _ _ c.self.view_is c.in_ok-at.ensures.keys)
