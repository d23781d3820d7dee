use Rattle.std.proofs.Common.{◌≡◌, ◌≤◌, drop, length, map, max}
use Rattle.box_parse.specs.inner.ReaderOnLists.{head_of}
use Rattle.two_d.proofs.Choices.{best}
use Rattle.two_d.proofs.Heads.{spelt}
use Rattle.box_parse.proofs.reader.longest.Given as goal

abbrev pub invariant-loop-token : goal.invariant-loop-token
invariant-loop-token l = record {
  within : l.most ≤ length l.text;
  most : max l.most (best (spelt (map head_of (drop l.token-index l.tokens))) l.text) ≡ best (spelt (map head_of l.tokens)) l.text;
}
