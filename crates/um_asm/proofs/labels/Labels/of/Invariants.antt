use Rattle.std.proofs.Common.{◌≡◌, ℕ, ◌+◌, ◌≤◌, length, List, Option, None}
use Rattle.std.specs.Option.{option_or}
use Rattle.um_asm.specs.Scopes.{all_standing, definitions, lookup}
use Rattle.um_asm.specs.Assembly.{said_by}
use Rattle.um_asm.specs.inner.Parts.{block_read_at, unended_from, IsBehind}
use Rattle.um_asm.specs.inner.Definitions.{meaning_in}
use Rattle.um_asm.proofs.Scoping.{coming}
use Rattle.um_asm.proofs.labels.Labels.of.Given as goal

-- what is known and what comes are all that the text defines
abbrev pub invariant-loop-line : goal.invariant-loop-line
invariant-loop-line l =
    let block = block_read_at l.position in
    record {
      known : (scope : Option ℕ) (name : List ℕ) → option_or (meaning_in l.definitions scope name) (lookup (coming l.position.number block l.position.place (said_by l.rest)) scope name) ≡ lookup (definitions (all_standing (said_by l.text))) scope name;
      unended : unended_from l.position.number block l.position.place (said_by l.rest) ≡ unended_from 1 None 0 (said_by l.text);
      behind : IsBehind l.position.place block;
      number : l.position.number + length l.rest ≤ length l.text + 1;
      place : l.position.place + length l.rest ≤ length l.text;
    }

abbrev pub decreases-loop-line : goal.decreases-loop-line
decreases-loop-line l = length l.rest
