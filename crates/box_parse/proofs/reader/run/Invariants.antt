use Rattle.std.proofs.Common.{◌≡◌, ◌+◌, ◌-◌, ◌≤◌, drop, length}
use Rattle.box_parse.specs.inner.ReaderOnLists.{run}
use Rattle.box_parse.proofs.reader.run.Given as goal

abbrev pub invariant-loop-len : goal.invariant-loop-len
invariant-loop-len l = record {
  within : l.len ≤ length l.text;
  most : l.len ≤ 32;
  counted : l.len + run (32 - l.len) (drop l.len l.text) ≡ run 32 l.text;
}

abbrev pub decreases-loop-len : goal.decreases-loop-len
decreases-loop-len l = length l.text - l.len
