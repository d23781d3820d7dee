use Rattle.std.proofs.Common.{◌≡◌, length}
use Rattle.um_asm.specs.Tokens.{trimmed_start}
use Rattle.um_asm.proofs.token.trim_start.Given as goal

abbrev pub invariant-loop-rest : goal.invariant-loop-rest
invariant-loop-rest l = trimmed_start l.rest ≡ trimmed_start l.fn.text

abbrev pub decreases-loop-rest : goal.decreases-loop-rest
decreases-loop-rest l = length l.rest
