-- The machine of an image that was read.
use Rattle.std.proofs.Common.{◌≡◌, ℕ, ◌<◌, List, [], ◌∷◌, ◌++◌, length, take, refl, sym, ap, ◌∙◌, arith}
use Rattle.std.specs.Prelude.{slice_index}
use Rattle.std.proofs.lemmas.List.{append-nil, drop_more, take_all}
use Rattle.um_word.specs.Scroll.{scroll}
use Rattle.array_store.specs.Parts.{Listed}
use Rattle.um_machine.specs.MachineView.{MachineView, IsWhole}
use Rattle.um_machine.specs.MachineParts.{MachineParts, AreMachineParts, machine_of_parts}
use Rattle.um_image.specs.Image.{image_mark, array_words, image_words, image_of, HasImage, IsBadAt}
use Rattle.array_store.specs.StoreView.{most_limits}
use Rattle.um_image.specs.inner.Reading.{so_far, IdsRead, ArraysRead}
use Rattle.um_image.proofs.Places.{bad_end}
use Rattle.um_image.specs.inner.Head.{AreWords}
use Rattle.um_image.proofs.Heads.{parts_by, taken_by, head_back}
use Rattle.um_image.proofs.Stops.{IsSoFar}
use Rattle.um_image.proofs.Goes.{IsHead, image_ends}
use Rattle.um_image.proofs.Told.{parts_back}

-- the first eight words of sixteen
pub eight_front : (xs : List ℕ) → length xs ≡ 16 → take 8 xs ≡ slice_index xs 0 ∷ slice_index xs 1 ∷ slice_index xs 2 ∷ slice_index xs 3
    ∷ slice_index xs 4 ∷ slice_index xs 5 ∷ slice_index xs 6 ∷ slice_index xs 7 ∷ []
eight_front xs h = ap (take 8) (
    drop_more xs 0 0 (omega (arith, h)) ∙ ap (λ ys. slice_index xs 0 ∷ ys) (
    drop_more xs 1 0 (omega (arith, h)) ∙ ap (λ ys. slice_index xs 1 ∷ ys) (
    drop_more xs 2 0 (omega (arith, h)) ∙ ap (λ ys. slice_index xs 2 ∷ ys) (
    drop_more xs 3 0 (omega (arith, h)) ∙ ap (λ ys. slice_index xs 3 ∷ ys) (
    drop_more xs 4 0 (omega (arith, h)) ∙ ap (λ ys. slice_index xs 4 ∷ ys) (
    drop_more xs 5 0 (omega (arith, h)) ∙ ap (λ ys. slice_index xs 5 ∷ ys) (
    drop_more xs 6 0 (omega (arith, h)) ∙ ap (λ ys. slice_index xs 6 ∷ ys) (
    drop_more xs 7 0 (omega (arith, h))))))))))

module _ (bytes head ids zeros : List ℕ) (arrays : Listed) (end : ℕ) (h : IsHead head) (i : IdsRead bytes head ids) (platters : AreWords zeros)
    (a : ArraysRead bytes head ids zeros arrays (slice_index head 14) end) where
  all_read : IsSoFar head ids zeros arrays (slice_index head 14)
  all_read = record {
    size = h.size;
    words = h.words;
    fits = h.fits;
    many = i.many;
    known = i.known;
    once = i.once;
    zero_words = platters;
    within = omega arith;
    active = a.active;
    listed = a.words;
    live = a.live;
  }

  -- there are more bytes
  pub end_stops : end < length bytes → IsBadAt bytes end
  end_stops lt = bad_end (so_far head ids zeros arrays []) (image_ends head ids zeros arrays (slice_index head 14) all_read refl) bytes end a.read lt

  parts : MachineParts
  parts = parts_by head ids zeros arrays

  pub rules_read : AreMachineParts (parts_by head ids zeros arrays)
  rules_read =
      let many = i.many in let count = h.fits.count in
      record {
        cycles = h.fits.cycles;
        store = record {
          made = h.fits.made;
          fewer = omega (arith, many, count);
          known = i.known;
          once = i.once;
          active = a.active;
          words = a.live;
        };
      }

  -- there are no more
  pub machine_read : end ≡ length bytes → (m : MachineView) → m ≡ machine_of_parts (parts_by head ids zeros arrays) most_limits → IsWhole m →
      HasImage m (taken_by head) × (image_of m (taken_by head) ≡ bytes)
  machine_read whole m e w =
      let p = parts_by head ids zeros arrays in
      let back = head_back head ids zeros arrays h.size h.words h.fits i.many in
      let words : image_words p (taken_by head) ≡ so_far head ids zeros arrays [] =
      λ j. image_mark ∷ (back j ++ (ids ++ (length zeros ∷ (zeros ++ sym (append-nil (array_words arrays)) j)))) in
      let cycles = h.fits.cycles in
      let taken = h.fits.taken in
      let same = ap (λ (n : MachineView). n.cycles) e in (
        record {
          saved = record {
            limits = ap (λ (n : MachineView). n.limits) e;
            cycles = omega (arith, cycles, same);
            counted = omega (arith, taken, same);
          };
          whole = w;
        },
        ap (λ n. image_of n (taken_by head)) e ∙ ap (λ q. scroll (image_words q (taken_by head))) (parts_back p most_limits rules_read)
            ∙ ap scroll words ∙ sym a.read ∙ take_all end bytes (omega (arith, whole)),
      )
