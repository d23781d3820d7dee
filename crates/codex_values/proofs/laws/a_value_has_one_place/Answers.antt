-- A place has one value, and a value one place.
use Rattle.std.proofs.Common.{ap}
use Rattle.codex_values.specs.Store.{value_at}
use Rattle.codex_values.proofs.NodeLemmas.{one_place}
use Rattle.codex_values.proofs.laws.a_value_has_one_place.Goals as goal

pub returns : goal.returns
returns c = λ nodes a b store lt lt'. (λ e. one_place nodes store a b lt lt' e, λ e. ap (value_at nodes) e)
