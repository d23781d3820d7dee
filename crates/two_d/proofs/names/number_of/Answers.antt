-- The place of a key is the number of its name.
use Rattle.std.proofs.Common.{ap, ◌∙◌, length}
use Rattle.std.specs.Option.{unwrap_or}
use Rattle.two_d.specs.inner.NameLists.{listed}
use Rattle.two_d.proofs.Listed.{number_of_key}
use Rattle.two_d.proofs.names.number_of.Goals as goal

pub returns-clause-number : goal.returns-clause-number
returns-clause-number c =
    ap (λ o. unwrap_or o (length (listed c.args.names.now))) c.get_index_of.ensures.index ∙ number_of_key c.args.name.now c.args.names.now.keys
