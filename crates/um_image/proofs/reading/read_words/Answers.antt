use Rattle.std.proofs.Common.{◌≡◌, ◌+◌, ◌*◌, [], ◌∷◌, ◌++◌, length, take, sym, ap, subst, ◌∙◌, arith}
use Rattle.std.proofs.lemmas.List.{append_assoc, length_push}
use Rattle.um_word.specs.Scroll.{scroll}
use Rattle.um_word.proofs.Scrolls.{scroll-more}
use Rattle.um_image.specs.inner.Head.{AreWords}
use Rattle.um_image.proofs.Points.{bytes_of_word}
use Rattle.um_image.proofs.Filled.{append_fit}
use Rattle.um_image.proofs.reading.read_words.Goals as goal

pub loop-k-preserved : goal.loop-k-preserved
loop-k-preserved c =
    let ws = c.loop-k.words.items in
    let w = c.in-Some.word in
    let bytes = c.args.bytes.now in
    let pushed : c.push.new.self.items ≡ ws ++ w ∷ [] = c.in_ok-push.ensures.items in
    let place : c.args.start + 4 * (c.loop-k.k + 1) ≡ c.args.start + 4 * c.loop-k.k + 4 = omega arith in
    record {
      count = (let l = length_push ws w in let e = ap length pushed in let n = c.loop-k.invariant.count in omega (arith, l, e, n));
      each = subst AreWords (sym pushed) (append_fit ws (w ∷ []) c.loop-k.invariant.each (c.in-Some.ensures.2, tt));
      read = ap (λ n. take n bytes) place ∙ c.in-Some.ensures.1 ∙ ap (λ xs. xs ++ bytes_of_word w) c.loop-k.invariant.read
          ∙ append_assoc (take c.args.start bytes) (scroll ws) (bytes_of_word w)
          ∙ ap (λ xs. take c.args.start bytes ++ xs) (sym (scroll-more ws w) ∙ ap scroll (sym pushed));
    }
