-- How long images are.
use Rattle.std.proofs.Common.{◌≡◌, ℕ, ◌+◌, ◌*◌, List, [], ◌∷◌, ◌++◌, length, refl, ap, ◌∙◌, arith}
use Rattle.std.proofs.lemmas.List.{length-append, length-map}
use Rattle.um_word.specs.State.{words_in}
use Rattle.array_store.specs.Parts.{Listed}
use Rattle.array_store.proofs.PartLemmas.{none_counted}
use Rattle.um_image.specs.Image.{array_words, image_words}
use Rattle.um_image.specs.Laws.{ImagesAreShort}
use Rattle.um_image.proofs.Points.{length-scroll}
use Rattle.um_image.proofs.Heads.{head_of, rest_of, length-head}
use Rattle.um_image.proofs.Both.{image_keeps}

length-array_words : (xs : Listed) → length (array_words xs) ≡ 2 * length xs + words_in xs
length-array_words [] = refl
length-array_words (x ∷ xs) = let a = length-append x.1 (array_words xs) in let b = length-array_words xs in omega (arith, a, b)

pub images_are_short : ImagesAreShort
images_are_short bytes image =
    let is = image_keeps bytes image in
    let t = is.0 in
    let p = t.parts in
    let s = t.rules.machine.store in
    let ids = p.store.abandoned in
    let zeros = p.store.zero in
    let xs = p.store.arrays in
    let bytes_are = ap length is.1 ∙ length-scroll (image_words p t.taken) in
    let a = length-append (head_of p t.taken) (rest_of ids zeros xs) in
    let b = length-head p t.taken t.rules.registers in
    let c = length-append ids (length zeros ∷ (zeros ++ array_words xs)) in
    let d = length-append zeros (array_words xs) in
    let e = length-array_words xs in
    let f = none_counted ids p.store.made s.known s.once in
    let g = ap length s.active in
    let h = length-map xs (λ (a : ℕ × List ℕ). a.0) in
    let made = s.made in
    let live = s.words in
    omega (arith, bytes_are, a, b, c, d, e, f, g, h, made, live)
