use Rattle.std.proofs.Common.{◌≡◌, ℕ, List, [], ◌∷◌, ◌++◌, length, ap, ◌∙◌, arith}
use Rattle.std.proofs.lemmas.List.{append_assoc}
use Rattle.um_word.specs.State.{array_at}
use Rattle.um_word.specs.Scroll.{scroll}
use Rattle.array_store.proofs.HeldLemmas.{at_most_live}
use Rattle.um_image.specs.Image.{head_words, array_words, arrays_up_to, parts_of_machine}
use Rattle.um_image.proofs.Put.{put_more}
use Rattle.um_image.proofs.writing.image.Goals as goal

pub put_head-requires-clause-registers : goal.put_head-requires-clause-registers
put_head-requires-clause-registers c = (c.live-arrays.ensures.whole.well_formed [] []).eight

pub put_array-requires-clause-short : goal.put_array-requires-clause-short
put_array-requires-clause-short c =
    let a = at_most_live c.args.machine.now.arrays 0 in
    let b = c.live-arrays.ensures.whole.orderly.words in
    let d = c.live-arrays.ensures.whole.words_limit in
    omega (arith, a, b, d)

pub put_arrays-requires : goal.put_arrays-requires
put_arrays-requires c id =
    let a = at_most_live c.args.machine.now.arrays id in
    let b = c.live-arrays.ensures.whole.orderly.words in
    let d = c.live-arrays.ensures.whole.words_limit in
    omega (arith, a, b, d)

pub returns-clause-image : goal.returns-clause-image
returns-clause-image c =
    let m = c.args.machine.now in
    let p = parts_of_machine m in
    let first = c.in_ok-bytes.bytes.items in
    let zero = length (array_at m.arrays 0) ∷ array_at m.arrays 0 in
    let arrays = array_words (arrays_up_to m.arrays m.identifiers.made) in
    let a = put_more first _ _ (head_words p c.args.taken) m.identifiers.abandoned c.in_ok-put_head.ensures c.in_ok-put_abandoned.ensures in
    let b = put_more first _ _ (head_words p c.args.taken ++ m.identifiers.abandoned) zero a c.in_ok-put_array.ensures in
    let d = put_more first c.put_array.new.bytes.items c.put_arrays.new.bytes.items (head_words p c.args.taken ++ m.identifiers.abandoned ++ zero) arrays b c.in_ok-put_arrays.ensures in
    d ∙ ap (λ xs. xs ++ scroll (head_words p c.args.taken ++ m.identifiers.abandoned ++ zero ++ arrays)) c.in_ok-bytes.ensures.items
    ∙ ap scroll (group (head_words p c.args.taken) m.identifiers.abandoned (array_at m.arrays 0) arrays)
  where
    group : (h ids zeros arrays : List ℕ) → h ++ ids ++ (length zeros ∷ zeros) ++ arrays ≡ h ++ (ids ++ (length zeros ∷ (zeros ++ arrays)))
    group h ids zeros arrays = simp append_assoc

pub returns-clause-has : goal.returns-clause-has
returns-clause-has c = record { saved = c.requires; whole = c.live-arrays.ensures.whole }
