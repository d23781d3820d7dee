-- An expression that is sent names the input.
use Rattle.std.specs.Prelude.{Any}
use Rattle.std.proofs.Common.{subst, sym}
use Rattle.two_d.specs.Good.{NamesW}
use Rattle.two_d.specs.Trees.{tree_of}
use Rattle.two_d.proofs.Alls.{any_sent, any_of_sent}
use Rattle.two_d.proofs.table.names_w.Goals as goal

pub returns-in-Send : goal.returns-in-Send
returns-in-Send c = rw c.in-Send.is (
  λ is. any_sent NamesW c.in-Send.outs.items (subst (Any (λ out. NamesW (tree_of out.0))) c.deref.ensures.value (c.outs_name_w.ensures.0 is)),
  λ any. c.outs_name_w.ensures.1 (subst (Any (λ out. NamesW (tree_of out.0))) (sym c.deref.ensures.value) (any_of_sent NamesW c.in-Send.outs.items any)),
)
