use Rattle.std.proofs.Common.{◌≡◌, ◌<◌, ◌^◌, All, map}
use Rattle.std.specs.Prelude.{decimal}
use Rattle.codex_top.proofs.words.numbers_of.Given as goal

abbrev pub invariant-loop-part : goal.invariant-loop-part
invariant-loop-part l = record {
  same : map (λ part. part.now) l.yielded ≡ map decimal l.numbers.items;
  small : All (λ n. n < 2 ^ 32) l.numbers.items;
}
