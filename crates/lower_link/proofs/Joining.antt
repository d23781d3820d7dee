-- Blocks that follow each other, and the boot before them.
use Rattle.std.specs.Prelude.{◌≡◌, ℕ, zero, suc, ◌+◌, ◌*◌, ◌<◌, ◌≤◌, ◌^◌, ◌++◌, List, [], ◌∷◌, length, map, take, All, Some, slice_index_or, Vec}
use Rattle.std.specs.Global.{Global}
use Rattle.std.proofs.Common.{refl, sym, ◌∙◌, ap, subst, arith, length-append}
use Rattle.std.proofs.lemmas.List.{append_assoc, append-nil, take_at, drop_at}
use Rattle.um_word.specs.Operators.{decode_word}
use Rattle.code_templates.specs.Lines.{StandsAt}
use Rattle.code_templates.specs.Laws.{piece}
use Rattle.code_templates.specs.Templates.{copy_block}
use Rattle.code_templates.proofs.Words.{words_stand}
use Rattle.lower_link.specs.inner.Boot.{Places, copies, boot_code, IsLinked}
use Rattle.lower_link.specs.inner.Linking.{Blocks, words_of_blocks, words_of_block, spans}
use Rattle.lower_link.specs.Follows.{AreBlocks}
use Rattle.lower_link.specs.inner.Made.{places_of}
use Rattle.two_d.specs.Programs.{Program}

-- one copy more
pub copies_next : (p : Places) (i n at : ℕ) → copies p i (suc n) at ≡ copies p i n at ++ copy_block (p.size (i + n)) (i + n) (p.place (i + n)) (at + 14 * n + 3) (at + 14 * n + 12)
copies_next p i zero at =
    let here : i ≡ i + 0 = omega arith in
    let three : at + 3 ≡ at + 14 * 0 + 3 = omega arith in
    let twelve : at + 12 ≡ at + 14 * 0 + 12 = omega arith in
    append-nil (copy_block (p.size i) i (p.place i) (at + 3) (at + 12)) ∙ (λ j. copy_block (p.size (here j)) (here j) (p.place (here j)) (three j) (twelve j))
copies_next p i (suc n) at =
    let there : suc i + n ≡ i + suc n = omega arith in
    let three : at + 14 + 14 * n + 3 ≡ at + 14 * suc n + 3 = omega arith in
    let twelve : at + 14 + 14 * n + 12 ≡ at + 14 * suc n + 12 = omega arith in
    let first = copy_block (p.size i) i (p.place i) (at + 3) (at + 12) in
    let k = suc i + n in
    ap (λ ops. first ++ ops) (copies_next p (suc i) n (at + 14))
    ∙ (sym (append_assoc first (copies p (suc i) n (at + 14)) (copy_block (p.size k) k (p.place k) (at + 14 + 14 * n + 3) (at + 14 + 14 * n + 12)))
    ∙ (λ j. copies p i (suc n) at ++ copy_block (p.size (there j)) (there j) (p.place (there j)) (three j) (twelve j)))

-- the block that is read
pub item_is : (blocks : Blocks) (i : ℕ) (d : Vec ℕ Global) → i < length blocks → (slice_index_or blocks i d).items ≡ words_of_block blocks i
item_is [] i d lt = absurd (omega (arith, lt))
item_is (block ∷ blocks) zero d lt = refl
item_is (block ∷ blocks) (suc i) d lt = item_is blocks i d (omega (arith, lt))

words_suc : (blocks : Blocks) (i : ℕ) → i < length blocks → words_of_blocks (take (suc i) blocks) ≡ words_of_blocks (take i blocks) ++ words_of_block blocks i
words_suc [] i lt = absurd (omega (arith, lt))
words_suc (block ∷ blocks) zero lt = append-nil block.items
words_suc (block ∷ blocks) (suc i) lt = ap (λ ws. block.items ++ ws) (words_suc blocks i (omega (arith, lt))) ∙ sym (append_assoc block.items (words_of_blocks (take i blocks)) (words_of_block blocks i))

pub words_next : (blocks : Blocks) (i : ℕ) → i < length blocks → words_of_blocks (take (i + 1) blocks) ≡ words_of_blocks (take i blocks) ++ words_of_block blocks i
words_next blocks i lt = let one : suc i ≡ i + 1 = omega arith in subst (λ k. words_of_blocks (take k blocks) ≡ words_of_blocks (take i blocks) ++ words_of_block blocks i) one (words_suc blocks i lt)

-- so far there are no more words than in all, also with the next block
pub words_upto : (blocks : Blocks) (i : ℕ) → i < length blocks → length (words_of_blocks (take i blocks)) + length (words_of_block blocks i) ≤ length (words_of_blocks blocks)
words_upto [] i lt = absurd (omega (arith, lt))
words_upto (block ∷ blocks) zero lt = omega (arith, length-append block.items (words_of_blocks blocks))
words_upto (block ∷ blocks) (suc i) lt =
    omega (arith, words_upto blocks i (omega (arith, lt)), length-append block.items (words_of_blocks blocks), length-append block.items (words_of_blocks (take i blocks)))

-- what stands behind a block begins behind it
words_behind : (blocks : Blocks) (i j : ℕ) → i < j → j < length blocks → length (words_of_blocks (take i blocks)) + length (words_of_block blocks i) ≤ length (words_of_blocks (take j blocks))
words_behind [] i j lt within = absurd (omega (arith, within))
words_behind (block ∷ blocks) i zero lt within = absurd (omega (arith, lt))
words_behind (block ∷ blocks) zero (suc j) lt within = omega (arith, length-append block.items (words_of_blocks (take j blocks)))
words_behind (block ∷ blocks) (suc i) (suc j) lt within =
    omega (
      arith,
      words_behind blocks i j (omega (arith, lt)) (omega (arith, within)),
      length-append block.items (words_of_blocks (take i blocks)),
      length-append block.items (words_of_blocks (take j blocks)),
    )

spans_suc : (place : ℕ) (blocks : Blocks) (i : ℕ) → i < length blocks → spans place (take (suc i) blocks) ≡ spans place (take i blocks) ++ (place + length (words_of_blocks (take i blocks)), length (words_of_block blocks i)) ∷ []
spans_suc place [] i lt = absurd (omega (arith, lt))
spans_suc place (block ∷ blocks) zero lt = let e : place ≡ place + 0 = omega arith in λ j. (e j, length block.items) ∷ []
spans_suc place (block ∷ blocks) (suc i) lt =
    let far : place + length block.items + length (words_of_blocks (take i blocks)) ≡ place + length (words_of_blocks (take (suc i) (block ∷ blocks))) =
    omega (arith, length-append block.items (words_of_blocks (take i blocks))) in
    ap (λ ss. (place, length block.items) ∷ ss) (spans_suc (place + length block.items) blocks i (omega (arith, lt))
    ∙ ap (λ p. spans (place + length block.items) (take i blocks) ++ (p, length (words_of_block blocks i)) ∷ []) far)

spans_next : (place : ℕ) (blocks : Blocks) (i : ℕ) → i < length blocks → spans place (take (i + 1) blocks) ≡ spans place (take i blocks) ++ (place + length (words_of_blocks (take i blocks)), length (words_of_block blocks i)) ∷ []
spans_next place blocks i lt =
    let one : suc i ≡ i + 1 = omega arith in
    subst (λ k. spans place (take k blocks) ≡ spans place (take i blocks) ++ (place + length (words_of_blocks (take i blocks)), length (words_of_block blocks i)) ∷ []) one (spans_suc place blocks i lt)

pub spans_length : (place : ℕ) (blocks : Blocks) → length (spans place blocks) ≡ length blocks
spans_length place [] = refl
spans_length place (block ∷ blocks) = ap suc (spans_length (place + length block.items) blocks)

span_at : (place : ℕ) (blocks : Blocks) (i : ℕ) (d : ℕ × ℕ) → i < length blocks → slice_index_or (spans place blocks) i d ≡ (place + length (words_of_blocks (take i blocks)), length (words_of_block blocks i))
span_at place [] i d lt = absurd (omega (arith, lt))
span_at place (block ∷ blocks) zero d lt = let e : place ≡ place + 0 = omega arith in λ j. (e j, length block.items)
span_at place (block ∷ blocks) (suc i) d lt =
    let far : place + length block.items + length (words_of_blocks (take i blocks)) ≡ place + length (words_of_blocks (take (suc i) (block ∷ blocks))) =
    omega (arith, length-append block.items (words_of_blocks (take i blocks))) in
    span_at (place + length block.items) blocks i d (omega (arith, lt)) ∙ ap (λ p. (p, length (words_of_block blocks i))) far

-- a block stands where it is said to
piece_is : (front : List ℕ) (blocks : Blocks) (i : ℕ) → i < length blocks → piece (length front + length (words_of_blocks (take i blocks))) (length (words_of_block blocks i)) (front ++ words_of_blocks blocks) ≡ words_of_block blocks i
piece_is front [] i lt = absurd (omega (arith, lt))
piece_is front (block ∷ blocks) zero lt =
    ap (take (length block.items)) (drop_at front (block.items ++ words_of_blocks blocks) (length front + 0) (omega arith)) ∙ take_at block.items (words_of_blocks blocks) (length block.items) refl
piece_is front (block ∷ blocks) (suc i) lt =
    let far : length (front ++ block.items) + length (words_of_blocks (take i blocks)) ≡ length front + length (block.items ++ words_of_blocks (take i blocks)) =
    omega (arith, length-append front block.items, length-append block.items (words_of_blocks (take i blocks))) in
    subst (λ n. piece n (length (words_of_block blocks i)) (front ++ (block.items ++ words_of_blocks blocks)) ≡ words_of_block blocks i) far
    (subst (λ ws. piece (length (front ++ block.items) + length (words_of_blocks (take i blocks))) (length (words_of_block blocks i)) ws ≡ words_of_block blocks i) (append_assoc front block.items (words_of_blocks blocks))
    (piece_is (front ++ block.items) blocks i (omega (arith, lt))))

some_at : (blocks : Blocks) → All (λ (block : Vec ℕ Global). 1 ≤ length block.items) blocks → (i : ℕ) → i < length blocks → 1 ≤ length (words_of_block blocks i)
some_at [] h i lt = absurd (omega (arith, lt))
some_at (block ∷ blocks) h zero lt = h 0 block (omega arith)
some_at (block ∷ blocks) h (suc i) lt = some_at blocks (λ k d less. h (suc k) d (omega (arith, less))) i (omega (arith, lt))

-- The boot and the blocks behind it are linked.
module _ (blocks : Blocks) (some : All (λ (block : Vec ℕ Global). 1 ≤ length block.items) blocks) (few : 1 ≤ length blocks)
    (small : 23 + 14 * length blocks + length (words_of_blocks blocks) < 2 ^ 25) (spots : List (ℕ × ℕ)) (spots_are : spots ≡ spans (23 + 14 * length blocks) blocks)
    (boot words : List ℕ) (is : words ≡ boot ++ words_of_blocks blocks) where
  abbrev first : ℕ
  first = 23 + 14 * length blocks

  spot_at : (i : ℕ) (d : ℕ × ℕ) → i < length blocks → slice_index_or spots i d ≡ (first + length (words_of_blocks (take i blocks)), length (words_of_block blocks i))
  spot_at i d lt = ap (λ ss. slice_index_or ss i d) spots_are ∙ span_at first blocks i d lt

  place_at : (i : ℕ) (d : ℕ × ℕ) → i < length blocks → (slice_index_or spots i d).0 ≡ first + length (words_of_blocks (take i blocks))
  place_at i d lt = ap (λ (s : ℕ × ℕ). s.0) (spot_at i d lt)

  size_at : (i : ℕ) (d : ℕ × ℕ) → i < length blocks → (slice_index_or spots i d).1 ≡ length (words_of_block blocks i)
  size_at i d lt = ap (λ (s : ℕ × ℕ). s.1) (spot_at i d lt)

  module _ (boot_size : length boot ≡ first) where
    pub size_is : length words ≡ first + length (words_of_blocks blocks)
    size_is = omega (arith, ap length is, length-append boot (words_of_blocks blocks), boot_size)

    pub linked : (modules main size : ℕ) → modules + 1 ≡ length blocks → map decode_word boot ≡ map Some (boot_code (places_of spots) modules main size) → IsLinked (words_of_block blocks) (places_of spots) modules main size words
    linked modules main size count say = record {
      boot = subst (λ ws. StandsAt ws 0 (boot_code (places_of spots) modules main size)) (sym is) (words_stand [] boot (words_of_blocks blocks) (boot_code (places_of spots) modules main size) say);
      small = omega (arith, size_is, small);
      some = λ i lt. omega (arith, size_at i (0, 0) (omega (arith, lt, count)), some_at blocks some i (omega (arith, lt, count)));
      within = λ i lt. omega (arith, size_is, place_at i (0, 0) (omega (arith, lt, count)), size_at i (0, 0) (omega (arith, lt, count)), words_upto blocks i (omega (arith, lt, count)));
      are = λ i lt. (let inside : i < length blocks = omega (arith, lt, count) in
          let at : (slice_index_or spots i (0, 0)).0 ≡ length boot + length (words_of_blocks (take i blocks)) = omega (arith, place_at i (0, 0) inside, boot_size) in
          (λ j. piece (at j) (size_at i (0, 0) inside j) (is j)) ∙ piece_is boot blocks i inside);
    }

    pub apart : (P : Program) → length P + 1 ≡ length blocks → AreBlocks P words spots
    apart P count = record {
      one_each = ap length spots_are ∙ (spans_length first blocks ∙ sym count);
      not_empty = λ i d lt. (let inside : i < length blocks = omega (arith, lt, ap length spots_are, spans_length first blocks) in omega (arith, size_at i d inside, some_at blocks some i inside));
      within = λ i d lt. (let inside : i < length blocks = omega (arith, lt, ap length spots_are, spans_length first blocks) in
          omega (arith, size_is, place_at i d inside, size_at i d inside, words_upto blocks i inside));
      apart = λ i j d less lt. (let inside : j < length blocks = omega (arith, lt, ap length spots_are, spans_length first blocks) in
          let before : i < length blocks = omega (arith, inside, less) in
          omega (arith, place_at i d before, size_at i d before, place_at j d inside, words_behind blocks i j less inside));
    }

-- blocks of few words have small places and lengths
pub spans_small : (blocks : Blocks) (first : ℕ) → first + length (words_of_blocks blocks) < 2 ^ 25 → (spots : List (ℕ × ℕ)) → spots ≡ spans first blocks → All (λ (b : ℕ × ℕ). (b.0 < 2 ^ 25) × (b.1 < 2 ^ 25)) spots
spans_small blocks first small spots are i d lt =
    let inside : i < length blocks = omega (arith, lt, ap length are, spans_length first blocks) in
    let at = ap (λ ss. slice_index_or ss i d) are ∙ span_at first blocks i d inside in
    (omega (arith, ap (λ (s : ℕ × ℕ). s.0) at, words_upto blocks i inside, small), omega (arith, ap (λ (s : ℕ × ℕ). s.1) at, words_upto blocks i inside, small))

-- the block that a loop is at
pub item_at : (blocks : Blocks) (i : ℕ) (item : Vec ℕ Global) → i < length blocks → item ≡ slice_index_or blocks i item → item.items ≡ words_of_block blocks i
item_at blocks i item lt is = ap (λ (block : Vec ℕ Global). block.items) is ∙ item_is blocks i item lt

-- the copy of the block that a loop is at
pub copy_next : (p : Places) (i number at : ℕ) → number ≡ i → at ≡ 2 + 14 * i → copies p 0 i 2 ++ copy_block (p.size i) number (p.place i) (at + 3) (at + 12) ≡ copies p 0 (i + 1) 2
copy_next p i number at is far =
    let low : i ≡ 0 + i = omega arith in
    let one : suc i ≡ i + 1 = omega arith in
    let three : at + 3 ≡ 2 + 14 * i + 3 = omega (arith, far) in
    let twelve : at + 12 ≡ 2 + 14 * i + 12 = omega (arith, far) in
    (λ j. copies p 0 i 2 ++ copy_block (p.size (low j)) ((is ∙ low) j) (p.place (low j)) (three j) (twelve j))
    ∙ (sym (copies_next p 0 i 2) ∙ ap (λ n. copies p 0 n 2) one)

-- the place and the length of the block that a loop is at are added
pub spans_step : (first : ℕ) (blocks : Blocks) (i place size : ℕ) (spots new : List (ℕ × ℕ)) → i < length blocks → spots ≡ spans first (take i blocks) →
    place ≡ first + length (words_of_blocks (take i blocks)) → size ≡ length (words_of_block blocks i) → new ≡ spots ++ (place, size) ∷ [] → new ≡ spans first (take (i + 1) blocks)
spans_step first blocks i place size spots new lt so_far place_is size_is is =
    is ∙ ((λ j. so_far j ++ (place_is j, size_is j) ∷ []) ∙ sym (spans_next first blocks i lt))

-- the words of the block that a loop is at are added
pub words_step : (boot : List ℕ) (blocks : Blocks) (i : ℕ) (item words new : List ℕ) → i < length blocks → words ≡ boot ++ words_of_blocks (take i blocks) → item ≡ words_of_block blocks i →
    new ≡ words ++ item → new ≡ boot ++ words_of_blocks (take (i + 1) blocks)
words_step boot blocks i item words new lt so_far item_is is =
    is ∙ ((λ j. so_far j ++ item_is j) ∙ (append_assoc boot (words_of_blocks (take i blocks)) (words_of_block blocks i) ∙ ap (λ ws. boot ++ ws) (sym (words_next blocks i lt))))
