use Rattle.std.proofs.Common.{◌≡◌, ◌+◌, length}
use Rattle.um_word.specs.State.{words_in}
use Rattle.array_store.specs.StoreView.{most_live_words}
use Rattle.array_store.specs.Parts.{listed}
use Rattle.um_image.specs.inner.Reading.{ArraysRead}
use Rattle.um_image.proofs.reading.read_arrays.Given as goal

abbrev pub invariant-loop-before : goal.invariant-loop-before
invariant-loop-before l = record {
  read : ArraysRead l.bytes l.head l.ids l.zero (listed l.arrays.items) l.before l.at;
  counted : l.room + length l.zero + words_in (listed l.arrays.items) ≡ most_live_words;
}
