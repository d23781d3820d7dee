use Rattle.std.proofs.Common.{◌≡◌, ℕ, ◌+◌, ◌*◌, ◌≤◌, ◌∷◌, length, take}
use Rattle.std.specs.Prelude.{slice_index}
use Rattle.um_word.specs.Scroll.{scroll}
use Rattle.um_image.specs.Image.{image_mark}
use Rattle.um_image.specs.inner.Head.{HeadFits, AreWords}
use Rattle.um_image.proofs.reading.read_head.Given as goal

abbrev pub invariant-loop-k : goal.invariant-loop-k
invariant-loop-k l = record {
  size : length l.head ≡ 16;
  words : AreWords l.head;
  fits : HeadFits l.head;
  read : take (4 + 4 * l.k) l.bytes ≡ scroll (image_mark ∷ take l.k l.head);
  within : 4 + 4 * l.k ≤ length l.bytes;
  zeros : (i : ℕ) → l.k ≤ i → slice_index l.head i ≡ 0;
}
