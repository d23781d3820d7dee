-- The law of the template that copies a block.
use Rattle.std.proofs.Common.{◌≡◌, ℕ, zero, suc, ◌+◌, ◌-◌, ◌*◌, ◌%◌, ◌^◌, ◌<◌, ◌≤◌, false, List, [], ◌∷◌, ◌++◌, length, replicate, Some, refl, sym, ap, subst, ◌∙◌, arith}
use Rattle.std.specs.Prelude.{slice_get, slice_set, slice_index, unwrap_or}
use Rattle.std.specs.FinMap as map
use Rattle.std.proofs.lemmas.List.{append-nil}
use Rattle.um_word.specs.State.{State, reg}
use Rattle.um_word.proofs.Arrays.{get-insert_other}
use Rattle.um_word.specs.Loads.{Loads}
use Rattle.um_word.specs.Leads.{IsNew, Leads}
use Rattle.code_templates.specs.Lines.{StandsAt, StandStill}
use Rattle.code_templates.specs.Templates.{copy_begin, copy_word, copy_end, copy_block}
use Rattle.code_templates.specs.Laws.{Quietly, Leaves, HasWords, piece, CopyBlockLaw}
use Rattle.code_templates.specs.inner.Freely.{freely, ArrivesAt}
use Rattle.um_word.proofs.Leading.{weaken, weaken_along, join}
use Rattle.code_templates.proofs.Still.{Covers, covers_same, covers_none, covers_new, still, still_allocated, named}
use Rattle.code_templates.proofs.Lines.{end, set, index, amend, amend_last, add_to, nand, alloc, move, move_not, jump}
use Rattle.code_templates.proofs.Straight.{within_wider, eight, straight, stands_front, stands_back, there, apart}

-- the first j words 0, and the others as they are
blank : ℕ → List ℕ → List ℕ
blank zero xs = xs
blank (suc j) [] = []
blank (suc j) (x ∷ xs) = 0 ∷ blank j xs

blank-all : (xs : List ℕ) → blank (length xs) xs ≡ replicate (length xs) 0
unfolding blank
blank-all [] = refl
blank-all (x ∷ xs) = ap (λ ys. 0 ∷ ys) (blank-all xs)

-- one word less is blank
get-blank : (j : ℕ) (xs : List ℕ) → j < length xs → slice_get (blank (suc j) xs) j ≡ Some 0
unfolding blank
get-blank j [] lt = absurd (omega (arith, lt))
get-blank zero (x ∷ xs) lt = refl
get-blank (suc j) (x ∷ xs) lt = get-blank j xs (omega (arith, lt))

set-blank : (j : ℕ) (xs : List ℕ) → j < length xs → slice_set (blank (suc j) xs) j (slice_index xs j) ≡ blank j xs
unfolding blank
set-blank j [] lt = absurd (omega (arith, lt))
set-blank zero (x ∷ xs) lt = refl
set-blank (suc j) (x ∷ xs) lt = ap (λ ys. 0 ∷ ys) (set-blank j xs (omega (arith, lt)))

-- words of a piece
pub length-piece : (place size : ℕ) (words : List ℕ) → place + size ≤ length words → length (piece place size words) ≡ size
length-piece zero zero words h = refl
length-piece zero (suc size) [] h = absurd (omega (arith, h))
length-piece zero (suc size) (w ∷ words) h = ap (λ n. suc n) (length-piece zero size words (omega (arith, h)))
length-piece (suc place) size [] h = absurd (omega (arith, h))
length-piece (suc place) size (w ∷ words) h = length-piece place size words (omega (arith, h))

index-piece : (place size j : ℕ) (words : List ℕ) → j < size → place + size ≤ length words → slice_index (piece place size words) j ≡ slice_index words (place + j)
index-piece zero zero j words lt h = absurd (omega (arith, lt))
index-piece zero (suc size) j [] lt h = absurd (omega (arith, h))
index-piece zero (suc size) zero (w ∷ words) lt h = refl
index-piece zero (suc size) (suc j) (w ∷ words) lt h =
    let e : 0 + suc j ≡ suc (0 + j) = omega arith in
    index-piece zero size j words (omega (arith, lt)) (omega (arith, h)) ∙ ap (slice_index (w ∷ words)) (sym e)
index-piece (suc place) size j [] lt h = absurd (omega (arith, h, lt))
index-piece (suc place) size j (w ∷ words) lt h =
    let e : suc place + j ≡ suc (place + j) = omega arith in
    index-piece place size j words lt (omega (arith, h)) ∙ ap (slice_index (w ∷ words)) (sym e)

module _ (size i place table current : ℕ) (blocks code : List ℕ) (came : State) (l : Loads)
    (comes : ArrivesAt (copy_block size i place (came.finger + 3) (came.finger + 12)) table current came)
    (blocks_are : HasWords came.arrays table blocks) (inside : i < length blocks)
    (code_is : map.get came.arrays 0 ≡ Some code) (some : 1 ≤ size) (whole : place + size ≤ length code) (small : length code ≤ 2 ^ 32) where
  abbrev words : List ℕ
  words = piece place size code

  abbrev loop : ℕ
  loop = came.finger + 3

  abbrev done : ℕ
  done = came.finger + 12

  abbrev Along : State → Loads → Type 0
  Along = Quietly came.finger 14 (table ∷ []) came l

  -- the machine stands at a place of the template, with the first j words of the new array still 0
  record Copies (new finger j : ℕ) (t : State) : Type 0 where
    running : t.halted ≡ false
    place_is : t.finger ≡ finger
    x : ℕ
    y : ℕ
    registers_are : t.registers ≡ 0 ∷ table ∷ current ∷ j ∷ new ∷ x ∷ y ∷ 4294967295 ∷ []
    arrays_are : t.arrays ≡ map.insert came.arrays new (blank j words)
    out_is : t.out ≡ came.out
    rest_is : t.rest ≡ came.rest

  -- what stands within a part of the template, stands within it
  part : (from n : ℕ) (but : List ℕ) (s : State) → came.finger ≤ from → from + n ≤ came.finger + 14 → map.get s.arrays 0 ≡ Some code →
      Covers (table ∷ []) came.arrays but → StandStill (table ∷ []) came.arrays s.arrays → reg s 1 ≡ reg came 1 → s.out ≡ came.out → s.rest ≡ came.rest →
      (t : State) (k : Loads) → Quietly from n but s l t k → Along t k
  part from n but s low high there_is covers stays table_is out rest t k w =
      (within_wider from n came.finger 14 (table ∷ []) but s came low high (there_is ∙ sym code_is) covers stays table_is out rest t w.0, w.1)

  zero_there : (new finger j : ℕ) (t : State) → IsNew came.arrays new → Copies new finger j t → map.get t.arrays 0 ≡ Some code
  zero_there new finger j t is_new c =
      ap (λ m. map.get m 0) c.arrays_are ∙ get-insert_other came.arrays new (blank j words) 0 (apart came.arrays new 0 code is_new code_is) ∙ code_is

  stays : (new finger j : ℕ) (t : State) → IsNew came.arrays new → Copies new finger j t → StandStill (table ∷ []) came.arrays t.arrays
  stays new finger j t is_new c =
      subst (λ m. StandStill (table ∷ []) came.arrays m) (sym c.arrays_are)
      (still_allocated (table ∷ []) came.arrays came.arrays new (blank j words) is_new (still (table ∷ []) came.arrays))

  table_stays : {new finger j : ℕ} {t : State} → Copies new finger j t → reg t 1 ≡ reg came 1
  table_stays c = ap (λ rs. slice_index rs 1) c.registers_are ∙ sym comes.table_is

  same_code : comes.code ≡ code
  same_code = ap (λ o. unwrap_or o []) (sym comes.code_is ∙ code_is)

  stand : StandsAt code came.finger (copy_block size i place loop done)
  stand = subst (λ c. StandsAt c came.finger (copy_block size i place loop done)) same_code comes.operators

  stand_loop : StandsAt code loop (copy_word place loop done ++ copy_end i)
  stand_loop = stands_back code came.finger (copy_begin size) (copy_word place loop done ++ copy_end i) stand

  long : length words ≡ size
  long = length-piece place size code whole

  first : Leads Along 3 (λ t k. ((new : ℕ) × IsNew came.arrays new × Copies new loop size t) × (k ≡ l)) came l
  unfolding blank
  first =
      let e = eight came.registers 0 table current comes.eight comes.zero_is comes.table_is comes.current_is in
      let all = blank-all words ∙ ap (λ n. replicate n 0) long in
      let full : blank size words ≡ replicate size 0 = subst (λ n. blank n words ≡ replicate size 0) long all in
      weaken_along (Quietly came.finger 3 [] came l) Along 3 _ (part came.finger 3 [] came (omega arith) (omega arith) code_is (covers_none (table ∷ []) came.arrays) (still (table ∷ []) came.arrays) refl refl refl) came l
      (straight [] (copy_begin size) (λ t k. ((new : ℕ) × IsNew came.arrays new × Copies new loop size t) × (k ≡ l)) _ code came l comes.running code_is
      (stands_front code came.finger (copy_begin size) (copy_word place loop done ++ copy_end i) stand) refl e
      (set (alloc (λ id new. nand (end (
        (
          id,
          new,
          record {
            running = refl;
            place_is = refl;
            x = reg came 5;
            y = reg came 6;
            registers_are = refl;
            arrays_are = ap (map.insert came.arrays id) (sym full);
            out_is = refl;
            rest_is = refl;
          },
        ),
        append-nil l,
      ))))))

  module _ (new : ℕ) (is_new : IsNew came.arrays new) where
    abbrev covered : Covers (table ∷ []) came.arrays (new ∷ [])
    covered = covers_new (table ∷ []) came.arrays new [] is_new (covers_none (table ∷ []) came.arrays)

    -- after one word more, the loop goes on or is done
    abbrev After : ℕ → State → Type 0
    After zero t = Copies new done 0 t
    After (suc j) t = Copies new loop (suc j) t

    copied : (j : ℕ) → j < size → map.insert came.arrays new (slice_set (blank (suc j) words) j (slice_index code (place + j))) ≡ map.insert came.arrays new (blank j words)
    copied j lt = ap (map.insert came.arrays new)
        (ap (slice_set (blank (suc j) words) j) (sym (index-piece place size j code lt whole)) ∙ set-blank j words (omega (arith, lt, long)))

    round : (j : ℕ) → j < size → (t : State) → Copies new loop (suc j) t → Leads Along 9 (λ u k. After j u × (k ≡ l)) t l
    round zero lt t c =
        let code_there = zero_there new loop 1 t is_new c in
        let sum : (1 + 4294967295) % 2 ^ 32 ≡ 0 = refl in
        let sum2 : (place + 0) % 2 ^ 32 ≡ place + 0 = omega (arith, whole, small, lt) in
        weaken_along (Quietly t.finger 9 (new ∷ []) t l) Along 9 _ (part t.finger 9 (new ∷ []) t (omega (arith, c.place_is)) (omega (arith, c.place_is)) code_there covered (stays new loop 1 t is_new c) (table_stays c) c.out_is c.rest_is) t l
        (straight (new ∷ []) (copy_word place loop done) (λ u k. After 0 u × (k ≡ l)) _ code t l c.running code_there
        (subst (λ f. StandsAt code f (copy_word place loop done)) (sym c.place_is) (stands_front code loop (copy_word place loop done) (copy_end i) stand_loop)) refl c.registers_are
        (add_to 0 sum (set (add_to (place + 0) sum2 (index code_there (there code (place + 0) (omega (arith, whole, lt)))
        (amend_last came.arrays (blank 1 words) c.arrays_are refl (named is_new.not_zero) (get-blank 0 words (omega (arith, lt, long)))
        (set (set (move_not refl (jump refl (
          record {
            running = refl;
            place_is = refl;
            x = done;
            y = loop;
            registers_are = refl;
            arrays_are = copied 0 lt;
            out_is = c.out_is;
            rest_is = c.rest_is;
          },
          append-nil l,
        )))))))))))
    round (suc j) lt t c =
        let code_there = zero_there new loop (suc (suc j)) t is_new c in
        let sum : (suc (suc j) + 4294967295) % 2 ^ 32 ≡ suc j = omega (arith, whole, small, lt) in
        let sum2 : (place + suc j) % 2 ^ 32 ≡ place + suc j = omega (arith, whole, small, lt) in
        weaken_along (Quietly t.finger 9 (new ∷ []) t l) Along 9 _ (part t.finger 9 (new ∷ []) t (omega (arith, c.place_is)) (omega (arith, c.place_is)) code_there covered (stays new loop (suc (suc j)) t is_new c) (table_stays c) c.out_is c.rest_is) t l
        (straight (new ∷ []) (copy_word place loop done) (λ u k. After (suc j) u × (k ≡ l)) _ code t l c.running code_there
        (subst (λ f. StandsAt code f (copy_word place loop done)) (sym c.place_is) (stands_front code loop (copy_word place loop done) (copy_end i) stand_loop)) refl c.registers_are
        (add_to (suc j) sum (set (add_to (place + suc j) sum2 (index code_there (there code (place + suc j) (omega (arith, whole, lt)))
        (amend_last came.arrays (blank (suc (suc j)) words) c.arrays_are refl (named is_new.not_zero) (get-blank (suc j) words (omega (arith, lt, long)))
        (set (set (move (λ h. omega (arith, h)) (jump refl (
          record {
            running = refl;
            place_is = refl;
            x = loop;
            y = loop;
            registers_are = refl;
            arrays_are = copied (suc j) lt;
            out_is = c.out_is;
            rest_is = c.rest_is;
          },
          append-nil l,
        )))))))))))

    rounds : (j : ℕ) → j < size → (t : State) → Copies new loop (suc j) t → Leads Along (9 + 9 * j) (λ u k. Copies new done 0 u × (k ≡ l)) t l
    rounds zero lt t c = round zero lt t c
    rounds (suc j) lt t c =
        let e : 9 + (9 + 9 * j) ≡ 9 + 9 * suc j = omega arith in
        subst (λ n. Leads Along n (λ u k. Copies new done 0 u × (k ≡ l)) t l) e
        (join Along 9 (9 + 9 * j) (λ u k. Copies new done 0 u × (k ≡ l)) t l
        (weaken Along 9 (λ u k. Copies new loop (suc j) u × (k ≡ l)) (Leads Along (9 + 9 * j) (λ u k. Copies new done 0 u × (k ≡ l)))
        (λ u k h. subst (λ x. Leads Along (9 + 9 * j) (λ u k. Copies new done 0 u × (k ≡ l)) u x) (sym h.1) (rounds j (omega (arith, lt)) u h.0)) t l
        (round (suc j) lt t c)))

  abbrev Done : State → Type 0
  Done t = (new : ℕ) × IsNew came.arrays new ×
      Leaves (came.finger + 14) table current (map.insert (map.insert came.arrays new words) table (slice_set blocks i new)) came.out came t

  last : (new : ℕ) → IsNew came.arrays new → (t : State) → Copies new done 0 t → Leads Along 2 (λ u k. Done u × (k ≡ l)) t l
  unfolding blank
  last new is_new t c =
      let code_there = zero_there new done 0 t is_new c in
      let at_end : came.finger + 3 + 9 ≡ came.finger + 12 = omega arith in
      let table_there : map.get t.arrays table ≡ Some blocks =
      ap (λ m. map.get m table) c.arrays_are ∙ get-insert_other came.arrays new words table (apart came.arrays new table blocks is_new blocks_are.there) ∙ blocks_are.there in
      weaken_along (Quietly t.finger 2 (table ∷ []) t l) Along 2 _ (part t.finger 2 (table ∷ []) t (omega (arith, c.place_is)) (omega (arith, c.place_is)) code_there (covers_same (table ∷ []) came.arrays) (stays new done 0 t is_new c) (table_stays c) c.out_is c.rest_is) t l
      (straight (table ∷ []) (copy_end i) (λ u k. Done u × (k ≡ l)) _ code t l c.running code_there
      (subst (λ f. StandsAt code f (copy_end i)) (at_end ∙ sym c.place_is) (stands_back code loop (copy_word place loop done) (copy_end i) stand_loop)) refl c.registers_are
      (set (amend (named blocks_are.not_zero) table_there (there blocks i inside)
      (end (
        (
          new,
          is_new,
          record {
            running = refl;
            finger = omega (arith, c.place_is);
            eight = refl;
            zero_is = refl;
            table_is = refl;
            current_is = refl;
            arrays_are = ap (λ m. map.insert m table (slice_set blocks i new)) c.arrays_are;
            out_is = c.out_is;
            rest_is = c.rest_is;
          },
        ),
        append-nil l,
      )))))

  pub all : Leads Along (5 + 9 * size) (λ u k. Done u × (k ≡ l)) came l
  all =
      let one : 3 + (9 + 9 * (size - 1) + 2) ≡ 5 + 9 * size = omega (arith, some) in
      let s : size ≡ suc (size - 1) = omega (arith, some) in
      let Q : State → Loads → Type 0 = λ u k. Done u × (k ≡ l) in
      let rest : (t : State) (k : Loads) → ((new : ℕ) × IsNew came.arrays new × Copies new loop size t) × (k ≡ l) → Leads Along (9 + 9 * (size - 1) + 2) Q t k =
      λ t k h. subst (λ x. Leads Along (9 + 9 * (size - 1) + 2) Q t x) (sym h.1)
      (join Along (9 + 9 * (size - 1)) 2 Q t l
      (weaken Along (9 + 9 * (size - 1)) (λ u k. Copies h.0.0 done 0 u × (k ≡ l)) (Leads Along 2 Q)
      (λ u k g. subst (λ x. Leads Along 2 Q u x) (sym g.1) (last h.0.0 h.0.1 u g.0)) t l
      (rounds h.0.0 h.0.1 (size - 1) (omega (arith, some)) t (subst (λ n. Copies h.0.0 loop n t) s h.0.2)))) in
      subst (λ n. Leads Along n Q came l) one
      (join Along 3 (9 + 9 * (size - 1) + 2) Q came l
      (weaken Along 3 (λ t k. ((new : ℕ) × IsNew came.arrays new × Copies new loop size t) × (k ≡ l)) (Leads Along (9 + 9 * (size - 1) + 2) Q) rest came l first))

pub copy_block_law : CopyBlockLaw freely
unfolding CopyBlockLaw
copy_block_law size i place table current blocks code s comes blocks_are inside code_is some whole small l =
    weaken (Quietly s.finger 14 (table ∷ []) s l) (5 + 9 * size) _ _ (λ t k h. (h.0, h.1 ∙ sym (append-nil l))) s l
    (all size i place table current blocks code s l comes blocks_are inside code_is some whole small)
