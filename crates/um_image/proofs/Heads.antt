-- The parts of an image's words, and the words of its parts.
use Rattle.std.proofs.Common.{◌≡◌, ℕ, zero, suc, ◌+◌, ◌-◌, ◌*◌, ◌/◌, ◌%◌, ◌^◌, ◌<◌, ◌≤◌, List, [], ◌∷◌, ◌++◌, length, take, drop, Bool, true, false, refl, sym, ap, ◌∙◌, arith}
use Rattle.std.specs.Prelude.{◌==◌, slice_index}
use Rattle.std.proofs.lemmas.List.{length-append, length-drop, take-append-drop, drop_more, get_or-append_right}
use Rattle.array_store.specs.Parts.{Listed}
use Rattle.um_machine.specs.MachineParts.{MachineParts}
use Rattle.um_image.specs.Image.{image_mark, two_words, flag, array_words, image_words}
use Rattle.um_image.specs.Rules.{AreImageParts}
use Rattle.um_image.specs.inner.Head.{long, HeadFits, AreWords}

-- the words between the first one and the abandoned identifiers
abbrev pub head_of : MachineParts → ℕ → List ℕ
head_of p taken =
    p.registers ++ (p.finger ∷ (two_words p.cycles ++ (two_words taken
    ++ (flag p.halted ∷ p.store.made ∷ length p.store.abandoned ∷ []))))

-- the words behind them
abbrev pub rest_of : List ℕ → List ℕ → Listed → List ℕ
rest_of ids zeros arrays = ids ++ (length zeros ∷ (zeros ++ array_words arrays))

-- the parts that words tell
abbrev pub parts_by : List ℕ → List ℕ → List ℕ → Listed → MachineParts
parts_by head ids zeros arrays = record {
  registers = take 8 head;
  finger = slice_index head 8;
  cycles = long (slice_index head 9) (slice_index head 10);
  halted = slice_index head 13 == 1;
  store = record { made = slice_index head 14; abandoned = ids; zero = zeros; arrays = arrays };
}

abbrev pub taken_by : List ℕ → ℕ
taken_by head = long (slice_index head 11) (slice_index head 12)

two_back : (high low : ℕ) → low < 2 ^ 32 → two_words (long high low) ≡ high ∷ low ∷ []
two_back high low h =
    let a : (high * 2 ^ 32 + low) / 2 ^ 32 ≡ high = omega (arith, h) in
    let b : (high * 2 ^ 32 + low) % 2 ^ 32 ≡ low = omega (arith, h) in
    λ i. a i ∷ b i ∷ []

flag_back : (x : ℕ) → x ≤ 1 → flag (x == 1) ≡ x
flag_back zero h = refl
flag_back (suc zero) h = refl
flag_back (suc (suc x)) h = absurd (omega (arith, h))

pub at_fits : (ws : List ℕ) → AreWords ws → (k : ℕ) → slice_index ws k < 2 ^ 32
at_fits [] a k = omega arith
at_fits (w ∷ ws) a zero = a.0
at_fits (w ∷ ws) a (suc k) = at_fits ws a.1 k

none : (xs : List ℕ) → length xs ≡ 0 → xs ≡ []
none [] h = refl
none (x ∷ xs) h = absurd (omega (arith, h))

eight : (xs : List ℕ) → length xs ≡ 16 → drop 8 xs ≡ slice_index xs 8 ∷ slice_index xs 9 ∷ slice_index xs 10 ∷ slice_index xs 11
    ∷ slice_index xs 12 ∷ slice_index xs 13 ∷ slice_index xs 14 ∷ slice_index xs 15 ∷ []
eight xs h =
    drop_more xs 8 0 (omega (arith, h)) ∙ ap (λ ys. slice_index xs 8 ∷ ys) (
    drop_more xs 9 0 (omega (arith, h)) ∙ ap (λ ys. slice_index xs 9 ∷ ys) (
    drop_more xs 10 0 (omega (arith, h)) ∙ ap (λ ys. slice_index xs 10 ∷ ys) (
    drop_more xs 11 0 (omega (arith, h)) ∙ ap (λ ys. slice_index xs 11 ∷ ys) (
    drop_more xs 12 0 (omega (arith, h)) ∙ ap (λ ys. slice_index xs 12 ∷ ys) (
    drop_more xs 13 0 (omega (arith, h)) ∙ ap (λ ys. slice_index xs 13 ∷ ys) (
    drop_more xs 14 0 (omega (arith, h)) ∙ ap (λ ys. slice_index xs 14 ∷ ys) (
    drop_more xs 15 0 (omega (arith, h)) ∙ ap (λ ys. slice_index xs 15 ∷ ys) (
    none (drop 16 xs) (let l = length-drop 16 xs in omega (arith, l, h))))))))))

pub head_back : (head ids zeros : List ℕ) (arrays : Listed) → length head ≡ 16 → AreWords head → HeadFits head →
    length ids ≡ slice_index head 15 → head_of (parts_by head ids zeros arrays) (taken_by head) ≡ head
head_back head ids zeros arrays size fit fits many =
    (λ i. take 8 head ++ (slice_index head 8
    ∷ (two_back (slice_index head 9) (slice_index head 10) (at_fits head fit 10) i
    ++ (two_back (slice_index head 11) (slice_index head 12) (at_fits head fit 12) i
    ++ (flag_back (slice_index head 13) fits.halted i ∷ slice_index head 14 ∷ many i ∷ [])))))
    ∙ ap (λ ys. take 8 head ++ ys) (sym (eight head size))
    ∙ take-append-drop 8 head

-- the words of parts are those of the head and the rest
pub image_words-split : (p : MachineParts) (taken : ℕ) →
    image_words p taken ≡ image_mark ∷ (head_of p taken ++ rest_of p.store.abandoned p.store.zero p.store.arrays)
image_words-split p taken = refl

pub length-head : (p : MachineParts) (taken : ℕ) → length p.registers ≡ 8 → length (head_of p taken) ≡ 16
length-head p taken h =
    let l = length-append p.registers (p.finger ∷ (two_words p.cycles ++ (two_words taken
    ++ (flag p.halted ∷ p.store.made ∷ length p.store.abandoned ∷ [])))) in
    omega (arith, l, h)

pub long_back : (n : ℕ) → long (n / 2 ^ 32) (n % 2 ^ 32) ≡ n
long_back n = omega arith

flag_small : (b : Bool) → flag b ≤ 1
flag_small true = omega arith
flag_small false = omega arith

module _ (p : MachineParts) (taken : ℕ) (rules : AreImageParts p taken) where
  behind : List ℕ
  behind = p.finger ∷ (two_words p.cycles ++ (two_words taken ++ (flag p.halted ∷ p.store.made ∷ length p.store.abandoned ∷ [])))

  pub at_head : (i : ℕ) → 8 ≤ i → slice_index (head_of p taken) i ≡ slice_index (p.finger ∷ (two_words p.cycles ++ (two_words taken ++ (flag p.halted ∷ p.store.made ∷ length p.store.abandoned ∷ [])))) (i - 8)
  at_head i h = get_or-append_right p.registers (p.finger ∷ (two_words p.cycles ++ (two_words taken ++ (flag p.halted ∷ p.store.made ∷ length p.store.abandoned ∷ [])))) 8 i 0 rules.registers h

  pub head_fits : HeadFits (head_of p taken)
  head_fits =
      let c : long (slice_index (head_of p taken) 9) (slice_index (head_of p taken) 10) ≡ p.cycles =
      (λ i. long (at_head 9 (omega arith) i) (at_head 10 (omega arith) i)) ∙ long_back p.cycles in
      let t : long (slice_index (head_of p taken) 11) (slice_index (head_of p taken) 12) ≡ taken =
      (λ i. long (at_head 11 (omega arith) i) (at_head 12 (omega arith) i)) ∙ long_back taken in
      let halted : slice_index (head_of p taken) 13 ≡ flag p.halted = at_head 13 (omega arith) in
      let made : slice_index (head_of p taken) 14 ≡ p.store.made = at_head 14 (omega arith) in
      let count : slice_index (head_of p taken) 15 ≡ length p.store.abandoned = at_head 15 (omega arith) in
      let a = rules.machine.cycles in let b = rules.counted in let s = flag_small p.halted in
      let m = rules.machine.store.made in let f = rules.machine.store.fewer in
      record {
        cycles = omega (arith, c, a);
        taken = omega (arith, c, t, b);
        halted = omega (arith, halted, s);
        made = omega (arith, made, m);
        count = omega (arith, made, count, f);
      }
