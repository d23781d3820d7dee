-- Sums of 16 at a time: what they add up to, and what a mark that is set or taken away changes.
use Rattle.std.specs.Prelude.{◌≡◌, ◌≢◌, ℕ, suc, ◌+◌, ◌*◌, ◌<◌, ◌≤◌, List, [], Bool, true, false, not, length, slice_index_or, slice_set}
use Rattle.std.proofs.Common.{refl, sym, ◌∙◌, ap, arith, inl, inr}
use Rattle.std.proofs.lemmas.Bool.{cases_lt}
use Rattle.std.proofs.lemmas.List.{length-set, get_or_read}
use mathlib.Core.Bool.{beq}
use Rattle.mark_list.specs.Marks.{at, sum_before, is_marked, one_if, count_before}
use Rattle.mark_list.specs.inner.Sums.{AreSummed}
use Rattle.mark_list.proofs.Below.{sum_before-nil, sum_before-next, sum_before-none, sum_before-same, sum_before-set_early, sum_before-set_past, sum_before-more, sum_before-past, count_before-nil, count_before-at, count_before-le, count_before-lt, count_before-more, count_before-past, count_before-same, count_before-set_early, count_before-set_past}

pub summed-none : (ms : List Bool) (bs ps ks hs rs : List ℕ) → ms ≡ [] → bs ≡ [] → ps ≡ [] → ks ≡ [] → hs ≡ [] → rs ≡ [] → AreSummed ms bs ps ks hs rs 0
summed-none ms bs ps ks hs rs m b p k h r = rw (m, b, p, k, h, r) (record {
  blocks_sum = λ n. sum_before-nil n ∙ sym (count_before-nil (16 * n));
  pages_sum = λ n. sum_before-nil n ∙ sym (sum_before-nil (16 * n));
  books_sum = λ n. sum_before-nil n ∙ sym (sum_before-nil (16 * n));
  shelves_sum = λ n. sum_before-nil n ∙ sym (sum_before-nil (16 * n));
  rooms_sum = λ n. sum_before-nil n ∙ sym (sum_before-nil (16 * n));
  blocks_reach = omega arith;
  pages_reach = omega arith;
  books_reach = omega arith;
  shelves_reach = omega arith;
  rooms_reach = omega arith;
  counted = sym (count_before-nil 0);
})

-- a number is no less than any that it sums
number-at : (xs ys : List ℕ) → ((n : ℕ) → sum_before ys n ≡ sum_before xs (16 * n)) → (i j : ℕ) → 16 * j ≤ i → i < 16 * (j + 1) → at xs i ≤ at ys j
number-at xs ys sums i j low high =
    omega (arith, sum_before-next ys j, sums j, sums (j + 1), sum_before-next xs i, sum_before-more xs (16 * j) i low, sum_before-more xs (i + 1) (16 * (j + 1)) (omega arith))

module _ (ms : List Bool) (bs ps ks hs rs : List ℕ) (count : ℕ) (s : AreSummed ms bs ps ks hs rs count) where
  pub blocks-le : (n : ℕ) → sum_before bs n ≤ length ms
  blocks-le n = omega (arith, s.blocks_sum n, count_before-le ms (16 * n))

  pub pages-le : (n : ℕ) → sum_before ps n ≤ length ms
  pages-le n = omega (arith, s.pages_sum n, blocks-le (16 * n))

  pub books-le : (n : ℕ) → sum_before ks n ≤ length ms
  books-le n = omega (arith, s.books_sum n, pages-le (16 * n))

  pub shelves-le : (n : ℕ) → sum_before hs n ≤ length ms
  shelves-le n = omega (arith, s.shelves_sum n, books-le (16 * n))

  pub rooms-le : (n : ℕ) → sum_before rs n ≤ length ms
  rooms-le n = omega (arith, s.rooms_sum n, shelves-le (16 * n))

  -- how many are set before a place, by the sums that stand before it
  pub rank : (place block page book shelf room s1 s2 s3 s4 s5 s6 : ℕ) → sum_before rs 0 + s1 ≡ sum_before rs room → sum_before hs (16 * room) + s2 ≡ sum_before hs shelf →
      sum_before ks (16 * shelf) + s3 ≡ sum_before ks book → sum_before ps (16 * book) + s4 ≡ sum_before ps page →
      sum_before bs (16 * page) + s5 ≡ sum_before bs block → count_before ms (16 * block) + s6 ≡ count_before ms place → s1 + s2 + s3 + s4 + s5 + s6 ≡ count_before ms place
  rank place block page book shelf room s1 s2 s3 s4 s5 s6 e1 e2 e3 e4 e5 e6 =
      omega (arith, e1, e2, e3, e4, e5, e6, sum_before-none rs, s.rooms_sum room, s.shelves_sum shelf, s.books_sum book, s.pages_sum page, s.blocks_sum block)

  -- each list adds up to the number of marks that are set
  pub blocks-all : sum_before bs (length bs) ≡ count_before ms (length ms)
  blocks-all = s.blocks_sum (length bs) ∙ count_before-past ms (16 * length bs) s.blocks_reach

  pub pages-all : sum_before ps (length ps) ≡ count_before ms (length ms)
  pages-all = s.pages_sum (length ps) ∙ (sum_before-past bs (16 * length ps) s.pages_reach ∙ blocks-all)

  pub books-all : sum_before ks (length ks) ≡ count_before ms (length ms)
  books-all = s.books_sum (length ks) ∙ (sum_before-past ps (16 * length ks) s.books_reach ∙ pages-all)

  pub shelves-all : sum_before hs (length hs) ≡ count_before ms (length ms)
  shelves-all = s.shelves_sum (length hs) ∙ (sum_before-past ks (16 * length hs) s.shelves_reach ∙ books-all)

  pub rooms-all : sum_before rs (length rs) ≡ count_before ms (length ms)
  rooms-all = s.rooms_sum (length rs) ∙ (sum_before-past hs (16 * length rs) s.rooms_reach ∙ shelves-all)

  -- where the sums before a place are fewer than all, the place below is there
  pub shelves-there : (k b : ℕ) → sum_before rs b ≤ k → k < count_before ms (length ms) → 16 * b < length hs
  shelves-there k b le lt = elim (cases_lt (16 * b) (length hs)) [
    | inl there ↦ there
    | inr past ↦ absurd (omega (arith, s.rooms_sum b, sum_before-past hs (16 * b) past, shelves-all))
  ]

  pub books-there : (k b : ℕ) → sum_before hs b ≤ k → k < count_before ms (length ms) → 16 * b < length ks
  books-there k b le lt = elim (cases_lt (16 * b) (length ks)) [
    | inl there ↦ there
    | inr past ↦ absurd (omega (arith, s.shelves_sum b, sum_before-past ks (16 * b) past, books-all))
  ]

  pub pages-there : (k b : ℕ) → sum_before ks b ≤ k → k < count_before ms (length ms) → 16 * b < length ps
  pages-there k b le lt = elim (cases_lt (16 * b) (length ps)) [
    | inl there ↦ there
    | inr past ↦ absurd (omega (arith, s.books_sum b, sum_before-past ps (16 * b) past, pages-all))
  ]

  pub blocks-there : (k b : ℕ) → sum_before ps b ≤ k → k < count_before ms (length ms) → 16 * b < length bs
  blocks-there k b le lt = elim (cases_lt (16 * b) (length bs)) [
    | inl there ↦ there
    | inr past ↦ absurd (omega (arith, s.pages_sum b, sum_before-past bs (16 * b) past, blocks-all))
  ]

  pub marks-there : (k b : ℕ) → sum_before bs b ≤ k → k < count_before ms (length ms) → 16 * b < length ms
  marks-there k b le lt = elim (cases_lt (16 * b) (length ms)) [
    | inl there ↦ there
    | inr past ↦ absurd (omega (arith, s.blocks_sum b, count_before-past ms (16 * b) past))
  ]

  -- a number is no less than any that it sums, and no more than there are marks
  pub block-at : (i b : ℕ) → 16 * b ≤ i → i < 16 * (b + 1) → one_if (is_marked ms i) ≤ at bs b
  block-at i b low high =
      omega (arith, sum_before-next bs b, s.blocks_sum b, s.blocks_sum (b + 1), count_before-more ms (16 * b) i low, count_before-at ms i (16 * (b + 1)) high)

  pub page-at : (i j : ℕ) → 16 * j ≤ i → i < 16 * (j + 1) → at bs i ≤ at ps j
  page-at i j low high = number-at bs ps s.pages_sum i j low high

  pub book-at : (i j : ℕ) → 16 * j ≤ i → i < 16 * (j + 1) → at ps i ≤ at ks j
  book-at i j low high = number-at ps ks s.books_sum i j low high

  pub shelf-at : (i j : ℕ) → 16 * j ≤ i → i < 16 * (j + 1) → at ks i ≤ at hs j
  shelf-at i j low high = number-at ks hs s.shelves_sum i j low high

  pub room-at : (i j : ℕ) → 16 * j ≤ i → i < 16 * (j + 1) → at hs i ≤ at rs j
  room-at i j low high = number-at hs rs s.rooms_sum i j low high

  -- there is room in a number for one more mark
  more : (set : Bool) (i n sum number : ℕ) → i < length ms → is_marked ms i ≡ not set → sum ≡ count_before ms n → number ≤ sum → number + one_if set ≤ length ms
  more true i n sum number lt is e le = omega (arith, e, le, count_before-lt ms i n lt is)
  more false i n sum number lt is e le = omega (arith, e, le, count_before-le ms n)

  pub block-high : (set : Bool) (i k : ℕ) → i < length ms → is_marked ms i ≡ not set → at bs k + one_if set ≤ length ms
  block-high set i k lt is = more set i (16 * (k + 1)) (sum_before bs (k + 1)) (at bs k) lt is
      (s.blocks_sum (k + 1)) (omega (arith, sum_before-next bs k))

  pub page-high : (set : Bool) (i k : ℕ) → i < length ms → is_marked ms i ≡ not set → at ps k + one_if set ≤ length ms
  page-high set i k lt is = more set i (16 * (16 * (k + 1))) (sum_before ps (k + 1)) (at ps k) lt is
      (s.pages_sum (k + 1) ∙ (s.blocks_sum (16 * (k + 1)))) (omega (arith, sum_before-next ps k))

  pub book-high : (set : Bool) (i k : ℕ) → i < length ms → is_marked ms i ≡ not set → at ks k + one_if set ≤ length ms
  book-high set i k lt is = more set i (16 * (16 * (16 * (k + 1)))) (sum_before ks (k + 1)) (at ks k) lt is
      (s.books_sum (k + 1) ∙ (s.pages_sum (16 * (k + 1)) ∙ (s.blocks_sum (16 * (16 * (k + 1)))))) (omega (arith, sum_before-next ks k))

  pub shelf-high : (set : Bool) (i k : ℕ) → i < length ms → is_marked ms i ≡ not set → at hs k + one_if set ≤ length ms
  shelf-high set i k lt is = more set i (16 * (16 * (16 * (16 * (k + 1))))) (sum_before hs (k + 1)) (at hs k) lt is
      (s.shelves_sum (k + 1) ∙ (s.books_sum (16 * (k + 1)) ∙ (s.pages_sum (16 * (16 * (k + 1))) ∙ (s.blocks_sum (16 * (16 * (16 * (k + 1)))))))) (omega (arith, sum_before-next hs k))

  pub room-high : (set : Bool) (i k : ℕ) → i < length ms → is_marked ms i ≡ not set → at rs k + one_if set ≤ length ms
  room-high set i k lt is = more set i (16 * (16 * (16 * (16 * (16 * (k + 1)))))) (sum_before rs (k + 1)) (at rs k) lt is
      (s.rooms_sum (k + 1) ∙ (s.shelves_sum (16 * (k + 1)) ∙ (s.books_sum (16 * (16 * (k + 1))) ∙ (s.pages_sum (16 * (16 * (16 * (k + 1)))) ∙ (s.blocks_sum (16 * (16 * (16 * (16 * (k + 1)))))))))) (omega (arith, sum_before-next rs k))

  pub count-high : (set : Bool) (i : ℕ) → i < length ms → is_marked ms i ≡ not set → count + one_if set ≤ length ms
  count-high set i lt is = more set i (length ms) count count lt is s.counted (omega arith)

  pub count-low : (i : ℕ) → i < length ms → one_if (is_marked ms i) ≤ count
  count-low i lt = omega (arith, s.counted, count_before-at ms i (length ms) lt)

  -- longer lists with the same numbers
  pub summed-same : (ms' : List Bool) (bs' ps' ks' hs' rs' : List ℕ) → ((i : ℕ) → is_marked ms' i ≡ is_marked ms i) →
      ((i : ℕ) → at bs' i ≡ at bs i) →
      ((i : ℕ) → at ps' i ≡ at ps i) →
      ((i : ℕ) → at ks' i ≡ at ks i) →
      ((i : ℕ) → at hs' i ≡ at hs i) →
      ((i : ℕ) → at rs' i ≡ at rs i) →
      length ms ≤ length ms' → length ms' ≤ 16 * length bs' → length bs' ≤ 16 * length ps' → length ps' ≤ 16 * length ks' → length ks' ≤ 16 * length hs' → length hs' ≤ 16 * length rs' → AreSummed ms' bs' ps' ks' hs' rs' count
  summed-same ms' bs' ps' ks' hs' rs' m b p k h r longer r1 r2 r3 r4 r5 = record {
    blocks_sum = λ n. sum_before-same bs bs' b n ∙ (s.blocks_sum n ∙ sym (count_before-same ms ms' m (16 * n)));
    pages_sum = λ n. sum_before-same ps ps' p n ∙ (s.pages_sum n ∙ sym (sum_before-same bs bs' b (16 * n)));
    books_sum = λ n. sum_before-same ks ks' k n ∙ (s.books_sum n ∙ sym (sum_before-same ps ps' p (16 * n)));
    shelves_sum = λ n. sum_before-same hs hs' h n ∙ (s.shelves_sum n ∙ sym (sum_before-same ks ks' k (16 * n)));
    rooms_sum = λ n. sum_before-same rs rs' r n ∙ (s.rooms_sum n ∙ sym (sum_before-same hs hs' h (16 * n)));
    blocks_reach = r1;
    pages_reach = r2;
    books_reach = r3;
    shelves_reach = r4;
    rooms_reach = r5;
    counted = s.counted ∙ sym (count_before-same ms ms' m (length ms') ∙ count_before-past ms (length ms') longer);
  }

-- what changes by the same on both sides stays the same
change : (a b c d low high x y : ℕ) → a + x ≡ b + y → c + low ≡ d + high → b ≡ d → x + high ≡ y + low → a ≡ c
change a b c d low high x y e f g h = omega (arith, e, f, g, h)

sum-numbers : (xs ys : List ℕ) (i j v w low high : ℕ) → ((n : ℕ) → sum_before ys n ≡ sum_before xs (16 * n)) → i < length xs → j < length ys → 16 * j ≤ i → i < 16 * (j + 1) →
    v + low ≡ at xs i + high → w + low ≡ at ys j + high → (n : ℕ) → sum_before (slice_set ys j w) n ≡ sum_before (slice_set xs i v) (16 * n)
sum-numbers xs ys i j v w low high sums there there' le lt e f n = elim (cases_lt j n) [
  | inl past ↦ omega (arith, e, f, sums n, sum_before-set_past ys j w n there' past, sum_before-set_past xs i v (16 * n) there (omega arith))
  | inr early ↦ omega (arith, sums n, sum_before-set_early ys j w n early, sum_before-set_early xs i v (16 * n) (omega arith))
]

sum-marks : (ms : List Bool) (ys : List ℕ) (i j : ℕ) (set : Bool) (w low high : ℕ) → ((n : ℕ) → sum_before ys n ≡ count_before ms (16 * n)) → i < length ms → j < length ys → 16 * j ≤ i → i < 16 * (j + 1) →
    one_if set + low ≡ one_if (is_marked ms i) + high → w + low ≡ at ys j + high → (n : ℕ) → sum_before (slice_set ys j w) n ≡ count_before (slice_set ms i set) (16 * n)
sum-marks ms ys i j set w low high sums there there' le lt e f n = elim (cases_lt j n) [
  | inl past ↦ omega (arith, e, f, sums n, sum_before-set_past ys j w n there' past, count_before-set_past ms i set (16 * n) there (omega arith))
  | inr early ↦ omega (arith, sums n, sum_before-set_early ys j w n early, count_before-set_early ms i set (16 * n) (omega arith))
]

both : (set mark : Bool) → mark ≡ not set → one_if set + one_if (not set) ≡ one_if mark + one_if set
both true mark is = rw is refl
both false mark is = rw is refl

-- a mark is set or taken away, and so are the sums in which it stands
pub summed-put : (ms : List Bool) (bs ps ks hs rs : List ℕ) (count : ℕ) → AreSummed ms bs ps ks hs rs count → (i b p k h r : ℕ) (set : Bool) (u v w x y count' : ℕ) →
    i < length ms → b < length bs → p < length ps → k < length ks → h < length hs → r < length rs → is_marked ms i ≡ not set →
    16 * b ≤ i → i < 16 * (b + 1) →
    16 * p ≤ b → b < 16 * (p + 1) →
    16 * k ≤ p → p < 16 * (k + 1) →
    16 * h ≤ k → k < 16 * (h + 1) →
    16 * r ≤ h → h < 16 * (r + 1) →
    u + one_if (not set) ≡ at bs b + one_if set →
    v + one_if (not set) ≡ at ps p + one_if set →
    w + one_if (not set) ≡ at ks k + one_if set →
    x + one_if (not set) ≡ at hs h + one_if set →
    y + one_if (not set) ≡ at rs r + one_if set → count' + one_if (not set) ≡ count + one_if set →
    AreSummed (slice_set ms i set) (slice_set bs b u) (slice_set ps p v) (slice_set ks k w) (slice_set hs h x) (slice_set rs r y) count'
summed-put ms bs ps ks hs rs count s i b p k h r set u v w x y count' i_in b_in p_in k_in h_in r_in is l1 h1 l2 h2 l3 h3 l4 h4 l5 h5 e1 e2 e3 e4 e5 e6 =
    let all = both set (is_marked ms i) is in
    record {
      blocks_sum = sum-marks ms bs i b set u (one_if (not set)) (one_if set) s.blocks_sum i_in b_in l1 h1 all e1;
      pages_sum = sum-numbers bs ps b p u v (one_if (not set)) (one_if set) s.pages_sum b_in p_in l2 h2 e1 e2;
      books_sum = sum-numbers ps ks p k v w (one_if (not set)) (one_if set) s.books_sum p_in k_in l3 h3 e2 e3;
      shelves_sum = sum-numbers ks hs k h w x (one_if (not set)) (one_if set) s.shelves_sum k_in h_in l4 h4 e3 e4;
      rooms_sum = sum-numbers hs rs h r x y (one_if (not set)) (one_if set) s.rooms_sum h_in r_in l5 h5 e4 e5;
      blocks_reach = omega (arith, s.blocks_reach, length-set ms i set, length-set bs b u);
      pages_reach = omega (arith, s.pages_reach, length-set bs b u, length-set ps p v);
      books_reach = omega (arith, s.books_reach, length-set ps p v, length-set ks k w);
      shelves_reach = omega (arith, s.shelves_reach, length-set ks k w, length-set hs h x);
      rooms_reach = omega (arith, s.rooms_reach, length-set hs h x, length-set rs r y);
      counted = rw (length-set ms i set) (let change = count_before-set_past ms i set (length ms) i_in i_in in omega (arith, change, all, e6, s.counted));
    }

differs : (mark set : Bool) → beq mark set ≡ false → mark ≡ not set
differs true true same = absurd (cc)
differs true false other = refl
differs false true other = refl
differs false false same = absurd (cc)

-- a mark that was read isn't as it is to be
pub mark-differs : (ms : List Bool) (i : ℕ) (mark set : Bool) → mark ≡ slice_index_or ms i mark → i < length ms → beq mark set ≡ false → is_marked ms i ≡ not set
mark-differs ms i mark set read lt other = sym (get_or_read ms i mark lt read false) ∙ differs mark set other
