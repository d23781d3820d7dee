use Rattle.std.proofs.Common.{◌+◌, [], ◌∷◌, ◌++◌, length, sym, ap, ◌∙◌}
use Rattle.std.proofs.lemmas.List.{append_assoc}
use Rattle.std.specs.FinMap as map
use Rattle.um_word.specs.State.{array_at}
use Rattle.um_word.specs.Scroll.{scroll}
use Rattle.um_image.specs.Image.{array_words, arrays_up_to}
use Rattle.um_image.proofs.Put.{put_more, there_by_size, arrays_next}
use Rattle.um_image.proofs.writing.put_arrays.Goals as goal

pub put_array-requires-clause-there : goal.put_array-requires-clause-there
put_array-requires-clause-there c =
    there_by_size (map.get c.args.machine.now.arrays (c.loop-before.before + 1)) _ c.in-Some.ensures

pub loop-before-preserved : goal.loop-before-preserved
loop-before-preserved c =
    let m = c.args.machine.now.arrays in
    let first = c.args.bytes.now.items in
    let n = c.loop-before.before in
    let words = array_at m (n + 1) in
    let there = there_by_size (map.get m (n + 1)) _ c.in-Some.ensures in
    let a = put_more first c.loop-before.bytes.items c.put.new.bytes.items (array_words (arrays_up_to m n)) ((n + 1) ∷ []) c.loop-before.invariant c.in_ok-put.ensures in
    let b = put_more first c.put.new.bytes.items c.put_array.new.bytes.items (array_words (arrays_up_to m n) ++ (n + 1) ∷ []) (length words ∷ words) a c.in_ok-put_array.ensures in
    b ∙ ap (λ xs. first ++ scroll xs) (append_assoc (array_words (arrays_up_to m n)) ((n + 1) ∷ []) (length words ∷ words) ∙ sym (arrays_next m n there))
