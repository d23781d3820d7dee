use Rattle.std.proofs.Common.{◌≡◌, length}
use Rattle.um_debug.proofs.Watching.{AreFirstWords}
use Rattle.um_debug.proofs.points.Points.words.Given as goal

abbrev pub invariant-loop-k : goal.invariant-loop-k
invariant-loop-k l = record {
  same : AreFirstWords l.machine.arrays l.self.watches l.words l.k;
  many : length l.words ≡ 16;
}
