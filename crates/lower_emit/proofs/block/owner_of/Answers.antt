-- The wires of the plan have their places.
use Rattle.std.proofs.Common.{refl, arith}
use Rattle.std.proofs.lemmas.Grind.{common_steps}
use Rattle.lower_emit.proofs.Owned.{has_plan}
use Rattle.lower_emit.proofs.block.owner_of.Goals as goal

pub returns-clause-places : goal.returns-clause-places
returns-clause-places c = has_plan c.args.program.now _ (grind (arith, common_steps)) c.args.plan.now c.requires.plan refl
