use Rattle.std.proofs.Common.{◌≡◌, ℕ, ◌+◌, ◌*◌, ◌≤◌, ◌∷◌, ◌++◌, length, take, false}
use Rattle.std.specs.Prelude.{All, nat_eq, slice_index_or, vec_len}
use Rattle.std.specs.List.{IsDistinct}
use Rattle.um_word.specs.Scroll.{scroll}
use Rattle.array_store.specs.Parts.{is_among}
use Rattle.um_image.specs.Image.{image_mark}
use Rattle.um_image.proofs.reading.read_abandoned.Given as goal

abbrev pub invariant-loop-k : goal.invariant-loop-k
invariant-loop-k l = record {
  size : vec_len l.seen ≡ l.made + 1;
  many : length l.ids.items ≡ l.k;
  known : All (λ id. (1 ≤ id) × (id ≤ l.made)) l.ids.items;
  once : IsDistinct nat_eq l.ids.items;
  told : (id : ℕ) → id ≤ l.made → slice_index_or l.seen.items id false ≡ is_among l.ids.items id;
  read : take (68 + 4 * l.k) l.bytes ≡ scroll (image_mark ∷ (l.head ++ l.ids.items));
  within : 68 + 4 * l.k ≤ length l.bytes;
}
