-- A place has one value, and a value one place.
use Rattle.std.proofs.Common.{ap, subst}
use Rattle.std.proofs.lemmas.Bool.{eqb-true, eq-eqb}
use Rattle.codex_values.specs.Store.{value_at, IsStore}
use Rattle.codex_values.proofs.NodeLemmas.{one_place}
use Rattle.codex_values.proofs.store.ValueStore.same.Goals as goal

pub returns-clause-values : goal.returns-clause-values
returns-clause-values c =
    let store : IsStore c.args.self.now = subst IsStore c.self.view_is c.self.invariant in (
      λ same. ap (value_at c.args.self.now) (eqb-true c.args.a c.args.b same),
      λ e. eq-eqb c.args.a c.args.b (one_place c.args.self.now store c.args.a c.args.b c.requires.0 c.requires.1 e),
    )
