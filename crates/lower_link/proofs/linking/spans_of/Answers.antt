-- One block more.
use Rattle.std.specs.Prelude.{◌≡◌, length, take}
use Rattle.std.proofs.Common.{ap, arith, length-append}
use Rattle.lower_link.specs.inner.Linking.{Blocks, words_of_blocks, words_of_block}
use Rattle.lower_link.proofs.Joining.{item_at, words_upto, words_next, spans_step}
use Rattle.lower_link.proofs.linking.spans_of.Goals as goal

pub overflow_cast-place : goal.overflow_cast-place
overflow_cast-place c =
    omega (
      arith,
      c.loop-block.invariant.place,
      c.requires.small,
      words_upto c.deref-block-items.result.now c.loop-block.block-index c.loop-block-test.true,
      ap (λ (bs : Blocks). length (words_of_blocks bs)) c.deref-block-items.ensures.value,
    )

pub overflow_cast-len : goal.overflow_cast-len
overflow_cast-len c =
    let blocks = c.deref-block-items.result.now in
    let i = c.loop-block.block-index in
    omega (
      arith,
      c.requires.small,
      c.len.ensures,
      c.block-item.result.ok.0,
      ap length (item_at blocks i c.block-item.result c.loop-block-test.true c.block-item.is),
      words_upto blocks i c.loop-block-test.true,
      ap (λ (bs : Blocks). length (words_of_blocks bs)) c.deref-block-items.ensures.value,
    )

pub overflow_add-place : goal.overflow_add-place
overflow_add-place c =
    let blocks = c.deref-block-items.result.now in
    let i = c.loop-block.block-index in
    omega (
      arith,
      c.loop-block.invariant.place,
      c.requires.small,
      c.len-place.ensures,
      c.block-item.result.ok.0,
      ap length (item_at blocks i c.block-item.result c.loop-block-test.true c.block-item.is),
      words_upto blocks i c.loop-block-test.true,
      ap (λ (bs : Blocks). length (words_of_blocks bs)) c.deref-block-items.ensures.value,
    )

pub loop-block-preserved : goal.loop-block-preserved
loop-block-preserved c =
    let blocks = c.deref-block-items.result.now in
    let i = c.loop-block.block-index in
    let item = item_at blocks i c.block-item.result c.loop-block-test.true c.block-item.is in
    let size : c.len.result ≡ length (words_of_block blocks i) = omega (arith, c.len.ensures, c.block-item.result.ok.0, ap length item) in
    record {
      places = spans_step c.args.first blocks i c.loop-block.place c.len.result c.loop-block.places.items c.push.new.self.items c.loop-block-test.true
          c.loop-block.invariant.places c.loop-block.invariant.place size c.in_ok-push.ensures.items;
      place = omega (
        arith,
        c.loop-block.invariant.place,
        c.len-place.ensures,
        c.block-item.result.ok.0,
        ap length item,
        ap length (words_next blocks i c.loop-block-test.true),
        length-append (words_of_blocks (take i blocks)) (words_of_block blocks i),
      );
    }
