-- Where bytes stop being a prefix of an image.
use Rattle.std.proofs.Common.{◌≡◌, ℕ, ◌+◌, ◌*◌, ◌%◌, ◌<◌, ◌≤◌, List, [], ◌∷◌, ◌++◌, length, take, drop, sym, ap, subst, ◌∙◌, inl, inr, arith}
use Rattle.std.proofs.lemmas.Bool.{cases_lt}
use Rattle.std.proofs.lemmas.List.{append_assoc, append-nil, length-append, length-take-le, take-append-drop, take_at, take-take, take-append-le}
use Rattle.um_word.specs.Scroll.{scroll}
use Rattle.um_word.proofs.Scrolls.{scroll-append}
use Rattle.um_image.specs.Image.{image_words, IsImage, IsBadAt}
use Rattle.um_image.specs.Rules.{bytes_of_parts}
use Rattle.um_image.specs.inner.Head.{AreWords}
use Rattle.um_image.specs.inner.Reading.{HasWordAt, HasNone}
use Rattle.um_image.proofs.Both.{image_keeps, kept_image}
use Rattle.um_image.proofs.Points.{Ends, GoesOn, back_words, behind, bytes_of_word, four, front_words, length-scroll, words_told}

record Met (bytes : List ℕ) (k : ℕ) (R : ℕ → Type 0) : Type 0 where
  word : ℕ
  there : HasWordAt bytes k word
  rule : R word

module _ (ws : List ℕ) (R : ℕ → Type 0) (g : GoesOn ws R) where
  fit : AreWords ws
  fit = front_words ws g.more (subst AreWords g.begins (words_told g.image))

  met : (bytes : List ℕ) (k : ℕ) → take k bytes ≡ scroll ws → k ≤ length bytes → IsImage bytes → Met bytes k R
  met bytes k so_far le is =
      let kept = image_keeps bytes is in
      let t = kept.0 in
      let split : scroll ws ++ drop k bytes ≡ bytes_of_parts t =
      ap (λ xs. xs ++ drop k bytes) (sym so_far) ∙ take-append-drop k bytes ∙ kept.1 in
      let b = behind ws (image_words t.parts t.taken) (drop k bytes) fit (words_told t) split in
      let n = g.next t b.more b.is in
      let all : AreWords (n.0 ∷ n.1) =
      subst AreWords n.2 (back_words ws b.more (subst AreWords b.is (words_told t))) in
      let size : length (take k bytes) ≡ k = length-take-le k bytes le in
      let whole : bytes ≡ (take k bytes ++ bytes_of_word n.0) ++ scroll n.1 =
      sym (take-append-drop k bytes) ∙ ap (λ xs. take k bytes ++ xs) (b.bytes ∙ ap scroll n.2)
      ∙ sym (append_assoc (take k bytes) (bytes_of_word n.0) (scroll n.1)) in
      let front : length (take k bytes ++ bytes_of_word n.0) ≡ k + 4 =
      (let l = length-append (take k bytes) (bytes_of_word n.0) in let f = four n.0 in omega (arith, l, f, size)) in
      record {
        word = n.0;
        there = (
          (let l = ap length whole in let m = length-append (take k bytes ++ bytes_of_word n.0) (scroll n.1) in omega (arith, l, m, front)),
          ap (take (k + 4)) whole ∙ take_at (take k bytes ++ bytes_of_word n.0) (scroll n.1) (k + 4) front,
          all.0,
        );
        rule = n.3;
      }

  pub bad : (bytes : List ℕ) (k : ℕ) → take k bytes ≡ scroll ws → k ≤ length bytes → HasNone bytes k R → IsBadAt bytes k
  bad bytes k so_far le none = record {
    no_image = λ is. let m = met bytes k so_far le is in none m.word m.there m.rule;
    of_words = whole;
    within = le;
    begins = (
      scroll g.more,
      kept_image (take k bytes ++ scroll g.more)
          (g.image, sym (ap scroll g.begins ∙ scroll-append ws g.more ∙ ap (λ xs. xs ++ scroll g.more) (sym so_far))),
    );
    longest = λ j parts within b. longest j parts within b.0 b.1;
  }
    where
      size : k ≡ 4 * length ws
      size = let a = length-take-le k bytes le in let b = ap length so_far in let d = length-scroll ws in omega (arith, a, b, d)

      whole : k % 4 ≡ 0
      whole = omega (arith, size)

      longest : (j : ℕ) → j % 4 ≡ 0 → j ≤ length bytes → (more : List ℕ) → IsImage (take j bytes ++ more) → j ≤ k
      longest j parts within more is = elim (cases_lt k j) as (λ _. j ≤ k) [
        | inl lt ↦
            let far : k + 4 ≤ j = omega (arith, parts, whole, lt) in
            let long : length (take j bytes) ≡ j = length-take-le j bytes within in
            let there : take k (take j bytes ++ more) ≡ take k bytes =
            take-append-le k (take j bytes) more (omega (arith, long, lt)) ∙ take-take k j bytes (omega (arith, lt)) in
            let all : k ≤ length (take j bytes ++ more) =
            (let l = length-append (take j bytes) more in omega (arith, l, long, lt)) in
            let m = met (take j bytes ++ more) k (there ∙ so_far) all is in
            let next : take (k + 4) (take j bytes ++ more) ≡ take (k + 4) bytes =
            take-append-le (k + 4) (take j bytes) more (omega (arith, long, far)) ∙ take-take (k + 4) j bytes far in
            absurd (none m.word ((omega (arith, far, within)), sym next ∙ m.there.1 ∙ ap (λ xs. xs ++ bytes_of_word m.word) there, m.there.2) m.rule)
        | inr ge ↦ ge
      ]

module _ (ws : List ℕ) (g : Ends ws) where
  same_length : (bytes : List ℕ) (k : ℕ) → take k bytes ≡ scroll ws → k ≤ length bytes → IsImage bytes → length bytes ≡ k
  same_length bytes k so_far le is =
      let kept = image_keeps bytes is in
      let t = kept.0 in
      let fit : AreWords ws = subst AreWords g.begins (words_told g.image) in
      let split : scroll ws ++ drop k bytes ≡ bytes_of_parts t =
      ap (λ xs. xs ++ drop k bytes) (sym so_far) ∙ take-append-drop k bytes ∙ kept.1 in
      let b = behind ws (image_words t.parts t.taken) (drop k bytes) fit (words_told t) split in
      let none : drop k bytes ≡ [] = b.bytes ∙ ap scroll (g.only t b.more b.is) in
      let whole : bytes ≡ take k bytes = sym (take-append-drop k bytes) ∙ ap (λ xs. take k bytes ++ xs) none ∙ append-nil (take k bytes) in
      ap length whole ∙ length-take-le k bytes le

  pub bad_end : (bytes : List ℕ) (k : ℕ) → take k bytes ≡ scroll ws → k < length bytes → IsBadAt bytes k
  bad_end bytes k so_far lt = record {
    no_image = λ is. (let e = same_length bytes k so_far (omega (arith, lt)) is in omega (arith, e, lt));
    of_words = whole;
    within = omega (arith, lt);
    begins = (
      [],
      kept_image (take k bytes ++ []) (g.image, append-nil (take k bytes) ∙ so_far ∙ ap scroll (sym g.begins)),
    );
    longest = λ j parts within b. longest j within b.0 b.1;
  }
    where
      whole : k % 4 ≡ 0
      whole = let a = length-take-le k bytes (omega (arith, lt)) in let b = ap length so_far in let d = length-scroll ws in omega (arith, a, b, d)

      longest : (j : ℕ) → j ≤ length bytes → (more : List ℕ) → IsImage (take j bytes ++ more) → j ≤ k
      longest j within more is = elim (cases_lt k j) as (λ _. j ≤ k) [
        | inl far ↦
            let long : length (take j bytes) ≡ j = length-take-le j bytes within in
            let there : take k (take j bytes ++ more) ≡ take k bytes =
            take-append-le k (take j bytes) more (omega (arith, long, far)) ∙ take-take k j bytes (omega (arith, far)) in
            let l = length-append (take j bytes) more in
            let e = same_length (take j bytes ++ more) k (there ∙ so_far) (omega (arith, l, long, far)) is in
            absurd (omega (arith, e, l, long, far))
        | inr ge ↦ ge
      ]
