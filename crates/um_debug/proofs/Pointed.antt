-- Cycles that look at points, one after another.
use Rattle.std.proofs.Common.{◌≡◌, ◌≢◌, ℕ, zero, suc, ◌+◌, ◌-◌, ◌<◌, ◌≤◌, Bool, true, false, List, [], ◌∷◌, Option, Some, None, refl, sym, ap, ◌∙◌, subst, arith}
use Rattle.std.specs.Prelude.{if◌then◌else◌, slice_get, Ok, Err}
use Rattle.std.proofs.lemmas.Bool.{eqb-true}
use Rattle.umix_base.specs.declared.limits.Limits.{Limits}
use Rattle.um_word.specs.State.{Arrays, State}
use Rattle.um_word.specs.Table as table
use Rattle.um_word.specs.Table.{cycle, op_under}
use Rattle.um_word.specs.Run.{Standing, Stands}
use Rattle.um_word.specs.Rule.{Identifiers, next_identifier, ruled}
use Rattle.um_machine.specs.declared.stop.Stop.{Stop}
use Rattle.um_machine.specs.declared.stop.Stop.TheVariants.{Halted, Budget, ReadFault, WriteFault, Memory}
use Rattle.um_machine.specs.MachineView.{MachineView}
use Rattle.um_machine.specs.Runs.{Seen, GoesFromTo, EndsAs, EndsEarly, RunEnds, CycleEnds}
use Rattle.um_machine.proofs.Joined.{joined, weakened}
use Rattle.um_debug.specs.declared.command.WordPlace.{WordPlace}
use Rattle.um_debug.specs.declared.course.Came.{Came}
use Rattle.um_debug.specs.declared.course.Came.TheVariants as came
use Rattle.um_debug.specs.Replies.{word_at}
use Rattle.um_debug.specs.Course.{Points, Going, Goes, Ends, after_cycle, going_on, is_same_word, first_change, by_change, broke, seen_at, one_more, goes_for, IsCutOff}
use Rattle.um_debug.specs.inner.Calls.{Course, AreWords, came_by}
use Rattle.um_debug.proofs.Placing.{IsAt, placed, no_call}
use Rattle.um_debug.proofs.Going.{came_to, running_there, halted_there, failed_there}

-- what cycles came to stays
module _ (L : Limits) (points : Points) (i : Identifiers) (s : State) where
  ended_on : (k m : ℕ) (t : State) (j : Identifiers) (why : Came) → goes_for L points k i s ≡ Ends t j why →
      goes_for L points (m + k) i s ≡ Ends t j why
  unfolding goes_for
  ended_on k zero t j why e = let z : 0 + k ≡ k = omega arith in rw z e
  ended_on k (suc m) t j why e =
      let z : suc m + k ≡ suc (m + k) = omega arith in
      rw z (ap (one_more L points) (ended_on k m t j why e))

  stays_ended : (k n : ℕ) (t : State) (j : Identifiers) (why : Came) → k ≤ n → goes_for L points k i s ≡ Ends t j why →
      goes_for L points n i s ≡ Ends t j why
  stays_ended k n t j why le e =
      let z : n ≡ (n - k) + k = omega arith in
      ap (λ m. goes_for L points m i s) z ∙ ended_on k (n - k) t j why e

  -- one cycle more
  next_goes : (k : ℕ) (u : State) (j : Identifiers) → goes_for L points k i s ≡ Goes u j →
      goes_for L points (k + 1) i s ≡ after_cycle points u (ruled L 1 j u)
  unfolding goes_for
  next_goes k u j e =
      let z : k + 1 ≡ suc k = omega arith in
      rw z (ap (one_more L points) e)

-- a cycle, and what is seen after it
module _ (points : Points) (new : MachineView) (u t : State) where
  after_running : (x : Standing Identifiers) → EndsAs x new t Budget →
      after_cycle points u x ≡ going_on t new.identifiers (seen_at points u.arrays t.arrays t.finger)
  after_running x e =
      let r = running_there new t x e in
      ap (after_cycle points u) r.0
      ∙ ap (λ b. if b then Ends t new.identifiers came.Halted else going_on t new.identifiers (seen_at points u.arrays t.arrays t.finger)) r.1

  after_halt : (x : Standing Identifiers) → EndsAs x new t Halted → after_cycle points u x ≡ Ends t new.identifiers came.Halted
  after_halt x e =
      let r = halted_there new t x e in
      ap (after_cycle points u) r.0
      ∙ ap (λ b. if b then Ends t new.identifiers came.Halted else going_on t new.identifiers (seen_at points u.arrays t.arrays t.finger)) r.1

  after_fault : (stop : Stop) (x : Standing Identifiers) → stop ≢ Budget → stop ≢ Halted → EndsAs x new t stop →
      after_cycle points u x ≡ Ends t new.identifiers (came.Failed stop)
  after_fault stop x budget halted e =
      let r = failed_there new t stop x budget halted e in
      ap (after_cycle points u) r.1 ∙ ap (λ why. Ends t new.identifiers (came.Failed why)) (sym r.2)

-- words of watches
same_words : (a b : Option ℕ) → is_same_word a b ≡ true → a ≡ b
same_words None None e = refl
same_words None (Some b) e = cc
same_words (Some a) None e = cc
same_words (Some a) (Some b) e = ap Some (eqb-true a b e)

module _ (before after : Arrays) (place : WordPlace) where
  first_same : (other : WordPlace) (places : List WordPlace) (b : Bool) → is_same_word (word_at before other) (word_at after other) ≡ b →
      first_change before after (other ∷ places) ≡ None →
      (first_change before after places ≡ None → (k : ℕ) → slice_get places k ≡ Some place → word_at before place ≡ word_at after place) →
      (k : ℕ) → slice_get (other ∷ places) k ≡ Some place → word_at before place ≡ word_at after place
  first_same other places true h e more zero at =
      let same : other ≡ place = cc in
      subst (λ p. word_at before p ≡ word_at after p) same (same_words (word_at before other) (word_at after other) h)
  first_same other places true h e more (suc k) at =
      more (ap (λ b. if b then first_change before after places else Some other) (sym h) ∙ e) k at
  first_same other places false h e more k at =
      absurd (let f : Some other ≡ None = ap (λ b. if b then first_change before after places else Some other) (sym h) ∙ e in cc)

  unchanged : (places : List WordPlace) → first_change before after places ≡ None →
      (k : ℕ) → slice_get places k ≡ Some place → word_at before place ≡ word_at after place
  unchanged [] e k at = cc
  unchanged (other ∷ places) e k at =
      first_same other places (is_same_word (word_at before other) (word_at after other)) refl e (λ f. unchanged places f) k at

none_changed : (before after : Arrays) (place : Option WordPlace) (c : Option Came) → by_change before after place c ≡ None → place ≡ None
none_changed before after None c e = refl
none_changed before after (Some place) c e = cc

pub words_kept : (points : Points) (before after : Arrays) (finger : ℕ) (words : List (Option ℕ)) →
    AreWords before points.watches words → seen_at points before after finger ≡ None → AreWords after points.watches words
words_kept points before after finger words are e k place at =
    are k place at ∙ ap Some (unchanged before after place points.watches
    (none_changed before after (first_change before after points.watches) (broke points finger) e) k at)

-- so many cycles were made, and go on
abbrev pub Went : Points → ℕ → (before now : Seen) → Type 0
Went points k before now =
    GoesFromTo before now (λ s t. goes_for before.machine.limits points k before.machine.identifiers s ≡ Goes t now.machine.identifiers)

pub none_went : (points : Points) (x : Seen) → Went points 0 x x
unfolding goes_for
none_went points x =
    no_call x (λ s t. goes_for x.machine.limits points 0 x.machine.identifiers s ≡ Goes t x.machine.identifiers) (λ rest out. refl)

pub all_went : (points : Points) (n : ℕ) (input output : Type 0) (before now : Seen) → Went points n before now →
    GoesFromTo before now (λ s t. Course points n input output before.machine now.machine s t (Ok came.Stopped))
all_went points n input output before now went =
    weakened before now (λ s t. goes_for before.machine.limits points n before.machine.identifiers s ≡ Goes t now.machine.identifiers)
    (λ s t. Course points n input output before.machine now.machine s t (Ok came.Stopped))
    (λ s t e. came_to (goes_for before.machine.limits points n before.machine.identifiers s) (Goes t now.machine.identifiers) now.machine.identifiers t came.Stopped e (refl, refl, refl))
    went

-- k cycles were made, and then one more
module _ (points : Points) (k : ℕ) (before between now : Seen) (same : between.machine.limits ≡ before.machine.limits)
    (went : Went points k before between) where
  abbrev First : State → State → Type 0
  First s u = goes_for before.machine.limits points k before.machine.identifiers s ≡ Goes u between.machine.identifiers

  -- what one more came to
  more : (s u : State) → First s u → (t : State) (y : Going) →
      after_cycle points u (ruled between.machine.limits 1 between.machine.identifiers u) ≡ y →
      goes_for before.machine.limits points (k + 1) before.machine.identifiers s ≡ y
  more s u first t y e =
      next_goes before.machine.limits points before.machine.identifiers s k u between.machine.identifiers first
      ∙ ap (λ L. after_cycle points u (ruled L 1 between.machine.identifiers u)) (sym same) ∙ e

  then_by : (Second Both : State → State → Type 0) →
      ((s u t : State) → First s u → Second u t → IsAt between.machine u → IsAt now.machine t → Both s t) →
      GoesFromTo between now Second → GoesFromTo before now Both
  then_by Second Both both second =
      joined before between now First (λ u t. Second u t × IsAt between.machine u × IsAt now.machine t) Both
      (λ s u t x y. both s u t x y.0 y.1 y.2) went (placed between now Second second)

  -- it went on, and nothing is to be seen
  pub went_more : seen_at points between.machine.arrays now.machine.arrays now.machine.finger ≡ None →
      GoesFromTo between now (λ u t. RunEnds 1 between.machine now.machine u t Budget) → Went points (k + 1) before now
  went_more unseen cycle =
      then_by (λ u t. RunEnds 1 between.machine now.machine u t Budget)
      (λ s t. goes_for before.machine.limits points (k + 1) before.machine.identifiers s ≡ Goes t now.machine.identifiers)
      (λ s u t first e at_u at_t.
      more s u first t (Goes t now.machine.identifiers)
      (after_running points now.machine u t (ruled between.machine.limits 1 between.machine.identifiers u) e
      ∙ ap (λ a. going_on t now.machine.identifiers (seen_at points a t.arrays t.finger)) (ap (λ (v : State). v.arrays) at_u)
      ∙ ap (λ a. going_on t now.machine.identifiers (seen_at points between.machine.arrays a t.finger)) (ap (λ (v : State). v.arrays) at_t)
      ∙ ap (λ a. going_on t now.machine.identifiers (seen_at points between.machine.arrays now.machine.arrays a)) (ap (λ (v : State). v.finger) at_t)
      ∙ ap (going_on t now.machine.identifiers) unseen)) cycle

  module _ (n : ℕ) (fewer : k < n) (input output : Type 0) where
    ended : (s u : State) → First s u → (t : State) (why : Came) →
        after_cycle points u (ruled between.machine.limits 1 between.machine.identifiers u) ≡ Ends t now.machine.identifiers why →
        Course points n input output before.machine now.machine s t (Ok why)
    ended s u first t why e =
        let le : k + 1 ≤ n = omega (arith, fewer) in
        came_to (goes_for before.machine.limits points n before.machine.identifiers s) (Ends t now.machine.identifiers why)
        now.machine.identifiers t why
        (stays_ended before.machine.limits points before.machine.identifiers s (k + 1) n t now.machine.identifiers why le
        (more s u first t (Ends t now.machine.identifiers why) e)) (refl, refl, refl)

    -- it went on, and this is seen
    pub came_seen : (why : Came) → seen_at points between.machine.arrays now.machine.arrays now.machine.finger ≡ Some why →
        GoesFromTo between now (λ u t. RunEnds 1 between.machine now.machine u t Budget) →
        GoesFromTo before now (λ s t. Course points n input output before.machine now.machine s t (Ok why))
    came_seen why seen cycle =
        then_by (λ u t. RunEnds 1 between.machine now.machine u t Budget)
        (λ s t. Course points n input output before.machine now.machine s t (Ok why))
        (λ s u t first e at_u at_t.
        ended s u first t why
        (after_running points now.machine u t (ruled between.machine.limits 1 between.machine.identifiers u) e
        ∙ ap (λ a. going_on t now.machine.identifiers (seen_at points a t.arrays t.finger)) (ap (λ (v : State). v.arrays) at_u)
        ∙ ap (λ a. going_on t now.machine.identifiers (seen_at points between.machine.arrays a t.finger)) (ap (λ (v : State). v.arrays) at_t)
        ∙ ap (λ a. going_on t now.machine.identifiers (seen_at points between.machine.arrays now.machine.arrays a)) (ap (λ (v : State). v.finger) at_t)
        ∙ ap (going_on t now.machine.identifiers) seen)) cycle

    -- it halted
    pub came_halted : GoesFromTo between now (λ u t. RunEnds 1 between.machine now.machine u t Halted) →
        GoesFromTo before now (λ s t. Course points n input output before.machine now.machine s t (Ok came.Halted))
    came_halted cycle =
        then_by (λ u t. RunEnds 1 between.machine now.machine u t Halted)
        (λ s t. Course points n input output before.machine now.machine s t (Ok came.Halted))
        (λ s u t first e at_u at_t.
        ended s u first t came.Halted
        (after_halt points now.machine u t (ruled between.machine.limits 1 between.machine.identifiers u) e)) cycle

    -- it failed
    cut : (stop : Stop) (s u t : State) → First s u → EndsEarly 1 between.machine now.machine u t stop →
        IsCutOff before.machine.limits points n before.machine.identifiers s stop now.machine.identifiers t
    cut stop s u t first e =
        let none : e.made ≡ 0 = let f = e.fewer in omega (arith, f) in
        let stands : Stands u between.machine.identifiers ≡ Stands e.at now.machine.identifiers =
        subst (λ m. ruled between.machine.limits m between.machine.identifiers u ≡ Stands e.at now.machine.identifiers) none e.stands in
        let goes : Goes u between.machine.identifiers ≡ Goes e.at now.machine.identifiers = cc in
        record {
          made = k;
          fewer = fewer;
          at = e.at;
          goes = first ∙ goes;
          running = e.running;
          fails = e.fails;
          next = e.next;
          would_go = subst (λ L. cycle e.at L (next_identifier now.machine.identifiers) ≡ table.Goes e.next) same e.goes;
          remains = e.remains;
        }

    failed_course : (stop : Stop) → (stop ≡ ReadFault → input) → (stop ≡ WriteFault → output) →
        (s u t : State) → First s u → CycleEnds between.machine now.machine u t (Err stop) →
        Course points n input output before.machine now.machine s t (came_by stop)
    failed_course ReadFault i o s u t first e = (ReadFault, cut ReadFault s u t first e, (refl, i refl))
    failed_course WriteFault i o s u t first e = (WriteFault, cut WriteFault s u t first e, (refl, o refl))
    failed_course Memory i o s u t first e = (Memory, cut Memory s u t first e, refl)
    failed_course Budget i o s u t first e = absurd e
    failed_course Halted i o s u t first e = absurd e
    failed_course stop i o s u t first e =
        ended s u first t (came.Failed stop)
        (after_fault points now.machine u t stop (ruled between.machine.limits 1 between.machine.identifiers u) (λ x. cc) (λ x. cc) e)

    pub came_failed : (stop : Stop) → (stop ≡ ReadFault → input) → (stop ≡ WriteFault → output) →
        GoesFromTo between now (λ u t. CycleEnds between.machine now.machine u t (Err stop)) →
        GoesFromTo before now (λ s t. Course points n input output before.machine now.machine s t (came_by stop))
    came_failed stop i o cycle =
        then_by (λ u t. CycleEnds between.machine now.machine u t (Err stop))
        (λ s t. Course points n input output before.machine now.machine s t (came_by stop))
        (λ s u t first e at_u at_t. failed_course stop i o s u t first e) cycle
