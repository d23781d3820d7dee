-- The blocks behind the boot.
use Rattle.std.specs.Prelude.{◌≡◌, ◌+◌, ◌-◌, ◌*◌, ◌++◌, length, map, Some}
use Rattle.std.proofs.Common.{◌∙◌, sym, ap, arith}
use Rattle.std.proofs.lemmas.List.{take_all}
use Rattle.um_word.specs.Operators.{decode_word}
use Rattle.lower_link.specs.inner.Boot.{boot_code}
use Rattle.lower_link.specs.inner.Linking.{Blocks, words_of_blocks, spans}
use Rattle.lower_link.specs.inner.Made.{places_of}
use Rattle.lower_link.proofs.Adding.{adds_length}
use Rattle.lower_link.proofs.Fitting.{boot_words}
use Rattle.lower_link.proofs.Joining.{item_at, words_step, spans_small, spans_length, linked, apart, size_is}
use Rattle.lower_link.proofs.linking.link.Goals as goal

pub put_boot-requires-clause-small : goal.put_boot-requires-clause-small
put_boot-requires-clause-small c =
    spans_small c.args.blocks.now.items (23 + 14 * c.len.result) (omega (arith, c.requires.small, c.len.ensures, c.args.blocks.now.ok.0)) c.in_ok-places.places.items c.in_ok-places.ensures

pub put_boot-requires-clause-many : goal.put_boot-requires-clause-many
put_boot-requires-clause-many c =
    omega (arith, c.requires.small, ap length c.in_ok-places.ensures, spans_length (23 + 14 * c.len.result) c.args.blocks.now.items)

pub loop-block-preserved : goal.loop-block-preserved
loop-block-preserved c =
    let blocks = c.deref-block-items.result.now in
    let i = c.loop-block.block-index in
    words_step c.put_boot.new.draft.words.items blocks i c.as_slice.result.now c.loop-block.draft.words.items c.extend_from_slice.new.self.items c.loop-block-test.true
    c.loop-block.invariant (c.as_slice.ensures.value ∙ item_at blocks i c.block-item.result c.loop-block-test.true c.block-item.is) c.in_ok-extend_from_slice.ensures.items

pub returns : goal.returns
returns c =
    let blocks = c.args.blocks.now.items in
    let spots = c.in_ok-places.places.items in
    let boot = c.put_boot.new.draft.words.items in
    let words = c.loop-block.draft.words.items in
    let some = c.requires.some in
    let many = c.requires.many in
    let small = c.requires.small in
    let first : 23 + 14 * c.len.result ≡ 23 + 14 * length blocks = omega (arith, c.len.ensures, c.args.blocks.now.ok.0) in
    let spots_are = c.in_ok-places.ensures ∙ ap (λ place. spans place blocks) first in
    let count : length spots ≡ length blocks = ap length spots_are ∙ spans_length (23 + 14 * length blocks) blocks in
    let all = take_all c.loop-block.block-index c.deref-block-items.result.now c.loop-block-test.false ∙ c.deref-block-items.ensures.value in
    let is : words ≡ boot ++ words_of_blocks blocks = c.loop-block.invariant ∙ ap (λ (bs : Blocks). boot ++ words_of_blocks bs) all in
    let last = length blocks - 1 in
    let boot_size : length boot ≡ 23 + 14 * length blocks =
    omega (arith, many, adds_length (c.in_ok-put_boot.ensures last (omega (arith, many, count))), ap length c.new-draft.ensures, boot_words (places_of spots) last c.args.main c.args.frame) in
    record {
      linked = λ modules e. (let say = (c.in_ok-put_boot.ensures modules (e ∙ sym count)).say ∙ ap (λ ws. map decode_word ws ++ map Some (boot_code (places_of spots) modules c.args.main c.args.frame)) c.new-draft.ensures in
          linked blocks some many small spots spots_are boot words is boot_size modules c.args.main c.args.frame e say);
      apart = apart blocks some many small spots spots_are boot words is boot_size;
      size = size_is blocks some many small spots spots_are boot words is boot_size;
    }
