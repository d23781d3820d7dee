use Rattle.lower_emit.proofs.code.+build.Given as goal

abbrev pub decreases-build : goal.decreases-build
decreases-build l = goal.size-build l
