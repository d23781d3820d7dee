-- Marks that are set where an event is ready: how many there are, and which comes after so many.
use Rattle.std.specs.Prelude.{◌≡◌, ℕ, zero, suc, ◌+◌, ◌-◌, ◌<◌, ◌≤◌, ◌==◌, Some, List, [], ◌∷◌, ◌++◌, Bool, true, false, if◌then◌else◌, length, nat_eq, slice_get, slice_index_or}
use Rattle.std.specs.List.{filter}
use Rattle.std.proofs.Common.{refl, sym, ◌∙◌, ap, arith, inl, inr}
use Rattle.std.proofs.lemmas.Bool.{cases_eq, cases_lt, eq-eqb, ne_eqb}
use Rattle.std.proofs.lemmas.List.{get_or_append_left, get_or_at, get_or-append-add, length-append, length_push}
use Rattle.std.proofs.lemmas.Option.{slice_get-get_or}
use Rattle.mark_list.specs.Marks.{at, is_marked, one_if, count_before}
use Rattle.mark_list.proofs.Below.{count_before-none, count_before-next, count_before-more}
use Rattle.two_d.specs.Programs.{Program, box_count}
use Rattle.two_d.specs.Steps.{Table, Instance, Event, Fire, End, instance_at, is_ready, fires_below, events_from, ready}
use Rattle.ready_marks.specs.Slots.{SlotsView, AreReady, AreStarts, boxes_of, marked_event}

-- from place o on, the marks are set just where the events of the list pass
abbrev pub Marks : List Bool → (Event → Bool) → ℕ → List Event → Type 0
Marks ms p o [] = Unit {0}
Marks ms p o (e ∷ events) = (is_marked ms o ≡ p e) × Marks ms p (suc o) events

marks-append : (ms : List Bool) (p : Event → Bool) (o : ℕ) (xs ys : List Event) → Marks ms p o xs → Marks ms p (o + length xs) ys → Marks ms p o (xs ++ ys)
marks-append ms p o [] ys h k = let same : o + 0 ≡ o = omega arith in rw same at k
marks-append ms p o (x ∷ xs) ys h k = let same : o + suc (length xs) ≡ suc o + length xs = omega arith in (h.0, marks-append ms p (suc o) xs ys h.1 (rw same at k))

module _ (ms : List Bool) (p : Event → Bool) where
  -- so many are set as events pass
  pub marks-count : (o : ℕ) (events : List Event) → Marks ms p o events → count_before ms (o + length events) ≡ count_before ms o + length (filter p events)
  marks-count o [] h = let same : o + 0 ≡ o = omega arith in rw same (omega arith)
  marks-count o (e ∷ events) h =
      let same : o + suc (length events) ≡ suc o + length events = omega arith in
      let next : suc o ≡ o + 1 = omega arith in
      let more : count_before ms (suc o) ≡ count_before ms o + one_if (is_marked ms o) = rw next (count_before-next ms o) in
      let rest = marks-count (suc o) events h.1 in
      rw same (by (p e) h.0 more rest)
    where
      by : (t : Bool) → is_marked ms o ≡ t → count_before ms (suc o) ≡ count_before ms o + one_if (is_marked ms o) →
          count_before ms (suc o + length events) ≡ count_before ms (suc o) + length (filter p events) →
          count_before ms (suc o + length events) ≡ count_before ms o + length (if t then e ∷ filter p events else filter p events)
      by true is more rest = omega (arith, ap one_if is, more, rest)
      by false is more rest = omega (arith, ap one_if is, more, rest)

  -- the mark that comes after d that are set is that of the event that comes after d that pass
  pub marks-get : (o : ℕ) (events : List Event) → Marks ms p o events → (n d : ℕ) (e : Event) → slice_get events n ≡ Some e → is_marked ms (o + n) ≡ true →
      count_before ms (o + n) ≡ count_before ms o + d → slice_get (filter p events) d ≡ Some e
  marks-get o [] h n d e there set is = absurd (cc)
  marks-get o (x ∷ events) h zero d e there set is =
      let same : o + 0 ≡ o = omega arith in
      let none : d ≡ 0 = omega (arith, is, ap (count_before ms) same) in
      let passes : p x ≡ true = sym h.0 ∙ (sym (ap (is_marked ms) same) ∙ set) in
      rw (none, passes) there
  marks-get o (x ∷ events) h (suc n) d e there set is =
      let same : o + suc n ≡ suc o + n = omega arith in
      let next : suc o ≡ o + 1 = omega arith in
      let more : count_before ms (suc o) ≡ count_before ms o + one_if (is_marked ms o) = rw next (count_before-next ms o) in
      let low : count_before ms (suc o) ≤ count_before ms (suc o + n) = count_before-more ms (suc o) (suc o + n) (omega arith) in
      let set' : is_marked ms (suc o + n) ≡ true = rw same at set in
      let is' : count_before ms (suc o + n) ≡ count_before ms o + d = rw same at is in
      by (p x) h.0 d (λ d' e'. marks-get (suc o) events h.1 n d' e there set' e') more low is'
    where
      by : (t : Bool) → is_marked ms o ≡ t → (d : ℕ) → ((d' : ℕ) → count_before ms (suc o + n) ≡ count_before ms (suc o) + d' → slice_get (filter p events) d' ≡ Some e) →
          count_before ms (suc o) ≡ count_before ms o + one_if (is_marked ms o) → count_before ms (suc o) ≤ count_before ms (suc o + n) →
          count_before ms (suc o + n) ≡ count_before ms o + d → slice_get (if t then x ∷ filter p events else filter p events) d ≡ Some e
      by true here zero again more low is' = absurd (omega (arith, ap one_if here, more, low, is'))
      by true here (suc d') again more low is' = again d' (omega (arith, ap one_if here, more, is'))
      by false here d' again more low is' = again d' (omega (arith, ap one_if here, more, is'))

pub length-fires_below : (i n : ℕ) → length (fires_below i n) ≡ n
length-fires_below i zero = refl
length-fires_below i (suc n) = omega (arith, length_push (fires_below i n) (Fire i n), length-fires_below i n)

fires-at : (i n b : ℕ) (d : Event) → b < n → slice_index_or (fires_below i n) b d ≡ Fire i b
fires-at i zero b d lt = absurd (omega arith)
fires-at i (suc n) b d lt = elim (cases_eq b n) [
  | inl is ↦ rw is (get_or_at (fires_below i n) (Fire i n) [] d n (length-fires_below i n))
  | inr other ↦ get_or_append_left (fires_below i n) (Fire i n ∷ []) d b (omega (arith, length-fires_below i n)) ∙ fires-at i n b d (omega arith)
]

marks-fires : (ms : List Bool) (p : Event → Bool) (o i n : ℕ) → ((b : ℕ) → b < n → is_marked ms (o + b) ≡ p (Fire i b)) → Marks ms p o (fires_below i n)
marks-fires ms p o i zero h = tt
marks-fires ms p o i (suc n) h =
    marks-append ms p o (fires_below i n) (Fire i n ∷ []) (marks-fires ms p o i n (λ b lt. h b (omega arith)))
    (rw (length-fires_below i n) (h n (omega arith), tt))

pub event-box : (n i b : ℕ) → b < n → marked_event n i b ≡ Fire i b
event-box n i b lt = rw (ne_eqb b n (λ e. omega arith)) refl

pub event-end : (n i : ℕ) → marked_event n i n ≡ End i
event-end n i = rw (eq-eqb n n refl) refl

-- a place that isn't that of the end is that of a box
pub box-before : (place start b boxes next : ℕ) → place ≡ start + b → next ≡ start + boxes + 1 → place < next → (place ≡ start + boxes → ⊥) → b < boxes
box-before place start b boxes next is ends lt other = elim (cases_eq b boxes) [
  | inl same ↦ absurd (other (omega (arith, is, same)))
  | inr apart ↦ omega arith
]

module _ (P : Program) (starts : List ℕ) where
  -- where the marks of the instances of a list begin, of which the first has number i
  abbrev pub Begin : ℕ → Table → Type 0
  Begin i T = (k : ℕ) → k < length T → at starts (i + k + 1) ≡ at starts (i + k) + boxes_of P T k + 1

  begin-rest : (i : ℕ) (x : Instance) (T : Table) → Begin i (x ∷ T) → Begin (suc i) T
  begin-rest i x T h k lt = let same : i + suc k ≡ suc i + k = omega arith in rw (← same) (h (suc k) (omega arith))

  begin-first : (i : ℕ) (x : Instance) (T : Table) → Begin i (x ∷ T) → at starts (suc i) ≡ at starts i + box_count P x.kind + 1
  begin-first i x T h =
      let same : i + 0 + 1 ≡ suc i = omega arith in
      let same' : i + 0 ≡ i = omega arith in
      rw (same, same') at (h 0 (omega arith))

  pub events-length : (i : ℕ) (T : Table) → Begin i T → at starts i + length (events_from P i T) ≡ at starts (i + length T)
  events-length i [] h = let same : i + 0 ≡ i = omega arith in rw same (omega arith)
  events-length i (x ∷ T) h =
      let rest = events-length (suc i) T (begin-rest i x T h) in
      let here = begin-first i x T h in
      let same : i + suc (length T) ≡ suc i + length T = omega arith in
      rw same (omega (arith, rest, here, length-append (fires_below i (box_count P x.kind)) (End i ∷ events_from P (suc i) T), length-fires_below i (box_count P x.kind)))

  pub events-at : (i : ℕ) (T : Table) → Begin i T → (k b d : ℕ) → k < length T → b ≤ boxes_of P T k → at starts i + d ≡ at starts (i + k) + b →
      slice_index_or (events_from P i T) d (End 0) ≡ marked_event (boxes_of P T k) (i + k) b
  events-at i [] h k b d lt le is = absurd (omega arith)
  events-at i (x ∷ T) h zero b d lt le is =
      let same : i + 0 ≡ i = omega arith in
      let here : d ≡ b = omega (arith, is, ap (at starts) same) in
      rw (here, same) (elim (cases_lt b (box_count P x.kind)) [
        | inl box ↦ get_or_append_left (fires_below i (box_count P x.kind)) (End i ∷ events_from P (suc i) T) (End 0) b (omega (arith, length-fires_below i (box_count P x.kind)))
            ∙ (fires-at i (box_count P x.kind) b (End 0) box ∙ sym (event-box (box_count P x.kind) i b box))
        | inr end ↦ let all : b ≡ box_count P x.kind = omega arith in
            rw all (get_or_at (fires_below i (box_count P x.kind)) (End i) (events_from P (suc i) T) (End 0) (box_count P x.kind) (length-fires_below i (box_count P x.kind)) ∙ sym (event-end (box_count P x.kind) i))
      ])
  events-at i (x ∷ T) h (suc k) b d lt le is =
      let same : i + suc k ≡ suc i + k = omega arith in
      let here = begin-first i x T h in
      let after = starts-more (suc i) T (begin-rest i x T h) k (omega arith) in
      let n = box_count P x.kind in
      let (d', split) = less d (n + 1) (omega (arith, is, here, after, ap (at starts) same)) in
      let split' : d ≡ length (fires_below i n) + suc d' = omega (arith, split, length-fires_below i n) in
      rw (split', same) (get_or-append-add (fires_below i n) (End i ∷ events_from P (suc i) T) (suc d') (End 0)
      ∙ events-at (suc i) T (begin-rest i x T h) k b d' (omega arith) le (omega (arith, is, here, split, ap (at starts) same)))
    where
      starts-more : (i : ℕ) (T : Table) → Begin i T → (k : ℕ) → k < length T → at starts i ≤ at starts (i + k)
      starts-more i T h zero lt = let same : i + 0 ≡ i = omega arith in rw same (omega arith)
      starts-more i T h (suc k) lt = let same : i + suc k ≡ i + k + 1 = omega arith in rw same (omega (arith, starts-more i T h k (omega arith), h k (omega arith)))

      less : (a b : ℕ) → b ≤ a → (c : ℕ) × (a ≡ b + c)
      less a b le = (a - b, omega arith)

  pub events-marks : (ms : List Bool) (p : Event → Bool) (i : ℕ) (T : Table) → Begin i T →
      ((k b : ℕ) → k < length T → b ≤ boxes_of P T k → is_marked ms (at starts (i + k) + b) ≡ p (marked_event (boxes_of P T k) (i + k) b)) → Marks ms p (at starts i) (events_from P i T)
  events-marks ms p i [] h right = tt
  events-marks ms p i (x ∷ T) h right =
      let n = box_count P x.kind in
      let same : i + 0 ≡ i = omega arith in
      let here = begin-first i x T h in
      let end : is_marked ms (at starts i + n) ≡ p (End i) = rw (← event-end n i) (rw same at (right 0 n (omega arith) (omega arith))) in
      let next : suc (at starts i + n) ≡ at starts (suc i) = omega (arith, here) in
      marks-append ms p (at starts i) (fires_below i n) (End i ∷ events_from P (suc i) T)
      (marks-fires ms p (at starts i) i n (λ b lt. rw (← event-box n i b lt) (rw same at (right 0 b (omega arith) (omega arith)))))
      (rw (length-fires_below i n) (
        end,
        rw next (events-marks ms p (suc i) T (begin-rest i x T h)
            (λ k b lt le. let more : i + suc k ≡ suc i + k = omega arith in rw more at (right (suc k) b (omega arith) le))),
      ))

count_before-rest : (ms : List Bool) (a n : ℕ) → ((s : ℕ) → a ≤ s → is_marked ms s ≡ false) → a ≤ n → count_before ms n ≡ count_before ms a
count_before-rest ms a zero none le = let at_start : a ≡ 0 = omega arith in rw at_start refl
count_before-rest ms a (suc n) none le = elim (cases_eq a (suc n)) [
  | inl is ↦ rw is refl
  | inr other ↦ let next : suc n ≡ n + 1 = omega arith in
      rw next (omega (arith, count_before-next ms n, ap one_if (none n (omega arith)), count_before-rest ms a n none (omega arith)))
]

module _ (P : Program) (T : Table) (kept : SlotsView) (is : AreReady P T kept) where
  begin : Begin P kept.starts 0 T
  begin k lt = let same : 0 + k ≡ k = omega arith in rw same (is.starts.next k lt)

  all-marks : Marks kept.marks (is_ready P T) 0 (events_from P 0 T)
  all-marks = rw is.starts.first at (events-marks P kept.starts kept.marks (is_ready P T) 0 T begin (λ k b lt le. let same : 0 + k ≡ k = omega arith in rw same (is.right k b lt le)))

  events-all : length (events_from P 0 T) ≡ at kept.starts (length T)
  events-all = let same : 0 + length T ≡ length T = omega arith in omega (arith, is.starts.first, events-length P kept.starts 0 T begin, ap (at kept.starts) same)

  -- as many marks are set as events are ready
  pub kept-count : count_before kept.marks (length kept.marks) ≡ length (ready P T)
  unfolding ready
  kept-count =
      let count = marks-count kept.marks (is_ready P T) 0 (events_from P 0 T) all-marks in
      let rest = count_before-rest kept.marks (at kept.starts (length T)) (length kept.marks) is.rest is.reach in
      let same : 0 + length (events_from P 0 T) ≡ length (events_from P 0 T) = omega arith in
      rest ∙ (ap (count_before kept.marks) (sym events-all) ∙ omega (arith, count, count_before-none kept.marks, ap (count_before kept.marks) same))

  pub by-later : (j m : ℕ) → j ≤ m → m ≤ length T → at kept.starts j ≤ at kept.starts m
  by-later j zero low high = let none : j ≡ 0 = omega arith in rw none (omega arith)
  by-later j (suc m) low high = elim (cases_eq j (suc m)) [
    | inl e ↦ rw e (omega arith)
    | inr other ↦ let next : suc m ≡ m + 1 = omega arith in rw next (omega (arith, is.starts.next m (omega arith), by-later j m (omega arith) (omega arith)))
  ]

  pub later : (j : ℕ) → j ≤ length T → at kept.starts j ≤ at kept.starts (length T)
  later j le = by-later j (length T) le (omega arith)

  -- the mark that comes after k that are set is that of the ready event at place k
  pub kept-get : (i b s k : ℕ) → i < length T → b ≤ boxes_of P T i → s ≡ at kept.starts i + b → is_marked kept.marks s ≡ true → count_before kept.marks s ≡ k →
      slice_get (ready P T) k ≡ Some (marked_event (boxes_of P T i) i b)
  unfolding ready
  kept-get i b s k lt le here set count =
      let within : s < length (events_from P 0 T) = omega (arith, here, events-all, is.starts.next i lt, later (i + 1) (omega arith)) in
      let same : 0 + i ≡ i = omega arith in
      let same' : 0 + s ≡ s = omega arith in
      let there : slice_index_or (events_from P 0 T) s (End 0) ≡ marked_event (boxes_of P T i) i b =
      events-at P kept.starts 0 T begin i b s lt le (omega (arith, here, is.starts.first, ap (at kept.starts) same)) ∙ ap (λ j. marked_event (boxes_of P T i) j b) same in
      marks-get kept.marks (is_ready P T) 0 (events_from P 0 T) all-marks s k (marked_event (boxes_of P T i) i b)
      (slice_get-get_or (events_from P 0 T) s (End 0) within ∙ ap Some there)
      (rw same' set) (omega (arith, count, count_before-none kept.marks, ap (count_before kept.marks) same'))
