use Rattle.std.proofs.Common.{◌≡◌, ◌≤◌, drop}
use Rattle.std.specs.Str.Parse.{digits_value, digits_value_after}
use Rattle.um_asm.proofs.number.number_up_to.Given as goal

abbrev pub invariant-loop-byte : goal.invariant-loop-byte
invariant-loop-byte l = record {
  so_far : digits_value_after l.radix l.number (drop l.byte-index l.digits) ≡ digits_value l.radix l.digits;
  small : l.number ≤ l.greatest;
}
