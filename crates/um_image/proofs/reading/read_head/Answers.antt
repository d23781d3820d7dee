use Rattle.std.proofs.Common.{◌≡◌, ◌+◌, ◌*◌, ◌<◌, [], ◌∷◌, ◌++◌, length, take, set, refl, sym, ap, ◌∙◌, arith}
use Rattle.std.proofs.lemmas.List.{take_more, take-set-le, get_or-set_same, get_or-set_other, length-set, take_all}
use Rattle.std.proofs.lemmas.Bool.{true≢false}
use Rattle.um_word.specs.Scroll.{scroll}
use Rattle.um_image.specs.Image.{image_mark}
use Rattle.um_image.proofs.Points.{none_by_end, none_by_word, one_more, set_fit}
use Rattle.um_image.proofs.Places.{bad}
use Rattle.um_image.proofs.Stops.{GoesInHead, head_goes_on, zero_words, zero_fits, zeros_at}
use Rattle.um_image.proofs.reading.read_head.Goals as goal

pub returns-in_default-clause-fault : goal.returns-in_default-clause-fault
returns-in_default-clause-fault c =
    let i = c.loop-k.invariant in
    bad (image_mark ∷ take c.loop-k.k c.loop-k.head) (GoesInHead c.loop-k.head c.loop-k.k)
    (head_goes_on c.loop-k.head c.loop-k.k c.loop-k-test.true i.size i.words i.fits i.zeros) c.args.bytes.now (4 + 4 * c.loop-k.k) i.read i.within
    (none_by_end c.args.bytes.now (4 + 4 * c.loop-k.k) (GoesInHead c.loop-k.head c.loop-k.k) c.in_default.ensures)

pub returns-then-not-head_fits-clause-fault : goal.returns-then-not-head_fits-clause-fault
returns-then-not-head_fits-clause-fault c =
    let i = c.loop-k.invariant in
    bad (image_mark ∷ take c.loop-k.k c.loop-k.head) (GoesInHead c.loop-k.head c.loop-k.k)
    (head_goes_on c.loop-k.head c.loop-k.k c.loop-k-test.true i.size i.words i.fits i.zeros) c.args.bytes.now (4 + 4 * c.loop-k.k) i.read i.within
    (none_by_word c.args.bytes.now (4 + 4 * c.loop-k.k) c.in-Some.word (GoesInHead c.loop-k.head c.loop-k.k) c.in-Some.ensures
    (λ fits. true≢false (sym (c.if-not-head_fits.ensures.1 fits))))

pub loop-k-init : goal.loop-k-init
loop-k-init c = record {
  size = refl;
  words = zero_words;
  fits = zero_fits;
  read = c.requires.1;
  within = (let h = c.requires.0 in omega (arith, h));
  zeros = λ i le. zeros_at 16 i;
}

pub loop-k-preserved : goal.loop-k-preserved
loop-k-preserved c =
    let i = c.loop-k.invariant in
    let k = c.loop-k.k in
    let new = set c.loop-k.head k c.in-Some.word in
    let lt : k < 16 = c.loop-k-test.true in
    let size : length new ≡ 16 = length-set c.loop-k.head k c.in-Some.word ∙ i.size in
    let old = i.size in
    let taken : take (k + 1) new ≡ take k c.loop-k.head ++ c.in-Some.word ∷ [] =
    take_more new k 0 (omega (arith, size, lt)) ∙ (λ j. take-set-le k c.loop-k.head k c.in-Some.word (omega arith) j ++ get_or-set_same c.loop-k.head k c.in-Some.word 0 (omega (arith, old, lt)) j ∷ []) in
    let next : 4 + 4 * (k + 1) ≡ 4 + 4 * k + 4 = omega arith in
    record {
      size = size;
      words = set_fit c.loop-k.head k c.in-Some.word i.words c.in-Some.ensures.2;
      fits = c.if-not-head_fits.ensures.0 refl;
      read = ap (λ n. take n c.args.bytes.now) next
          ∙ one_more c.args.bytes.now (image_mark ∷ take k c.loop-k.head) (4 + 4 * k) c.in-Some.word i.read c.in-Some.ensures
          ∙ ap (λ xs. scroll (image_mark ∷ xs)) (sym taken);
      within = (let w = c.in-Some.ensures.0 in omega (arith, w));
      zeros = λ j le. get_or-set_other c.loop-k.head k j c.in-Some.word 0 (λ e. omega (arith, e, le)) ∙ i.zeros j (omega (arith, le));
    }

pub returns-clause-read : goal.returns-clause-read
returns-clause-read c =
    let i = c.loop-k.invariant in
    let size = i.size in
    let end : c.loop-k.k ≡ 16 = (let a = c.loop-k-test.false in let b = c.loop-k.auto.k-end in omega (arith, a, b)) in
    let n : 4 + 4 * c.loop-k.k ≡ 68 = omega (arith, end) in
    let within = i.within in
    record {
      size = i.size;
      words = i.words;
      fits = i.fits;
      read = ap (λ m. take m c.args.bytes.now) (sym n) ∙ i.read
          ∙ ap (λ xs. scroll (image_mark ∷ xs)) (take_all c.loop-k.k c.loop-k.head (omega (arith, end, size)));
      within = omega (arith, within, end);
    }
