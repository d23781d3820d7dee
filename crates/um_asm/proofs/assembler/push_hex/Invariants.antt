use Rattle.std.proofs.Common.{◌≡◌, ◌++◌, true, length}
use Rattle.std.specs.Char.{is_digit}
use Rattle.std.specs.List.{list_all}
use Rattle.um_asm.specs.Assembly.{hex_words}
use Rattle.um_asm.proofs.assembler.push_hex.Given as goal

abbrev pub invariant-loop-rest : goal.invariant-loop-rest
invariant-loop-rest l = record {
  words : l.words.items ++ hex_words l.rest ≡ l.fn.words.items ++ hex_words l.digits;
  digits : list_all (λ b. is_digit b 16) l.rest ≡ true;
}

abbrev pub decreases-loop-rest : goal.decreases-loop-rest
decreases-loop-rest l = length l.rest
