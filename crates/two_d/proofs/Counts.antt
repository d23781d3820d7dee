-- Firings and instances that are still to come.
use Rattle.std.specs.Prelude.{Option, Some, None, ◌≡◌, ◌≢◌, ℕ, suc, ◌+◌, ◌<◌, ◌≤◌, [], ◌∷◌, ◌++◌, Bool, true, false, if◌then◌else◌, cond, is_some, length, slice_set}
use Rattle.std.specs.Option.{option_map, unwrap_or}
use Rattle.std.proofs.Common.{refl, sym, ◌∙◌, ap, arith, add-one, inl, inr}
use Rattle.std.proofs.lemmas.Bool.{cases_lt, cases_eq}
use Rattle.std.proofs.lemmas.Option.{same_Some}
use Rattle.std.proofs.lemmas.List.{get_or-set_same, get_or-set_other, length-set, length_push, get_or_append_left, get_or_push}
use Rattle.two_d.specs.Programs.{Program, box_count}
use Rattle.two_d.specs.Meaning.{Inputs, Outcome, Cell, Cells, cells_from, Effect, Done, Starts, Meaning, Answers, act, by_answer, is_known, firings_of, instances_of, count_of, sum_below, all_known, look_of, summary_of, meaning_of, mean, returned, quiet}
use Rattle.two_d.specs.Steps.{nobody, Instance, Table, instance_at, fired, is_live, begun, with_cell, set_cell, fire, deliver, end_of, ended, Fire, End, is_ready, step}
use Rattle.two_d.proofs.Below.{sum_below-other, sum_below-change, sum_below-none, sum_below-at}
use Rattle.two_d.proofs.State.{one_if, in_full, live_within, Sound, IsOver, fired-in_full, wires-pulled}
use Rattle.two_d.proofs.Firing.{fired-same, fired-other, fired_there, none_of, step-fire, CanFire, sound-done, sound-starts, can_fire-ready}
use Rattle.two_d.proofs.Ending.{sound-end, over-ready}
use Rattle.two_d.proofs.Depth.{act-more, act_there, known_at, mean-more, same_answers}

-- what box b of an instance still adds to a count
abbrev pub due : Program → Answers → (Effect → ℕ) → Instance → ℕ → ℕ
due P answer g x b = if is_some (fired x b) then 0 else count_of g (act P x.kind (in_full P answer x) b)

-- what an instance still adds to a count, without the instances that it started
unfoldable pub left_of : Program → Answers → (Effect → ℕ) → Instance → ℕ
left_of P answer g x = if is_live x then sum_below (box_count P x.kind) (due P answer g x) else 0

-- the sum over the instances of a table
unfoldable pub total_of : (Instance → ℕ) → Table → ℕ
total_of w T = sum_below (length T) (λ i. w (instance_at T i))

pub total_of-set : (w : Instance → ℕ) (T : Table) (i : ℕ) (y : Instance) → i < length T →
    total_of w (slice_set T i y) + w (instance_at T i) ≡ total_of w T + w y
unfolding total_of
total_of-set w T i y lt =
    let change = sum_below-change (length T) (λ j. w (instance_at (slice_set T i y) j)) (λ j. w (instance_at T j)) i lt
    (λ j other. rw (get_or-set_other T i j y nobody other) refl) in
    let here : w (instance_at (slice_set T i y) i) ≡ w y = rw (get_or-set_same T i y nobody lt) refl in
    rw length-set (omega (arith, change, here))

pub total_of-push : (w : Instance → ℕ) (T : Table) (y : Instance) → total_of w (T ++ y ∷ []) ≡ total_of w T + w y
unfolding total_of sum_below
total_of-push w T y =
    let last : instance_at (T ++ y ∷ []) (length T) ≡ y = get_or_push T y nobody (length T) refl in
    let same = sum_below-other (length T) (λ j. w (instance_at (T ++ y ∷ []) j)) (λ j. w (instance_at T j))
    (λ j lt. rw (get_or_append_left T (y ∷ []) nobody j lt) refl) in
    rw (length_push, add-one, last) (omega (arith, same))

pub total_of-none : (w : Instance → ℕ) (T : Table) → ((i : ℕ) → i < length T → w (instance_at T i) ≡ 0) → total_of w T ≡ 0
unfolding total_of
total_of-none w T h = sum_below-none (length T) (λ i. w (instance_at T i)) h

pub total_of-at : (w : Instance → ℕ) (T : Table) (i : ℕ) → i < length T → w (instance_at T i) ≤ total_of w T
unfolding total_of
total_of-at w T i lt = sum_below-at (length T) (λ i. w (instance_at T i)) i lt

pub left_of-dead : (P : Program) (answer : Answers) (g : Effect → ℕ) (x : Instance) → is_live x ≡ false → left_of P answer g x ≡ 0
unfolding left_of
left_of-dead P answer g x dead = rw dead refl

pub left_of-with_cell : (P : Program) (answer : Answers) (g : Effect → ℕ) (x : Instance) (b : ℕ) (c : Cell) (e : Effect) →
    is_live x ≡ true → b < box_count P x.kind → b < length x.cells → fired x b ≡ None → act P x.kind (in_full P answer x) b ≡ Some e →
    left_of P answer g (with_cell x b c) + g e ≡ left_of P answer g x
unfolding left_of
left_of-with_cell P answer g x b c e live lt there fresh acts =
    let change = sum_below-change (box_count P x.kind) (due P answer g (with_cell x b c)) (due P answer g x) b lt
    (λ d other. rw (fired-other x b c d other) refl) in
    let now : due P answer g (with_cell x b c) b ≡ 0 = rw (fired-same x b c there) refl in
    let was : due P answer g x b ≡ g e = rw (fresh, acts) refl in
    rw live (omega (arith, change, now, was))

-- a cell set anew changes nothing that is due
pub left_of-set_again : (P : Program) (answer : Answers) (g : Effect → ℕ) (x : Instance) (b : ℕ) (c : Cell) →
    b < length x.cells → is_some (fired x b) ≡ true → left_of P answer g (with_cell x b c) ≡ left_of P answer g x
unfolding left_of
left_of-set_again P answer g x b c there has =
    let same = sum_below-other (box_count P x.kind) (due P answer g (with_cell x b c)) (due P answer g x)
    (λ d lt. elim (cases_eq d b) [
      | inl is ↦ rw (is, fired-same x b c there, has) refl
      | inr other ↦ rw (fired-other x b c d other) refl
    ]) in
    rw same refl

-- a new instance adds what it means
pub meaning_of-known : (P : Program) (answer : Answers) (m : ℕ) (a : Inputs) (r : Meaning) → meaning_of P answer m a ≡ Some r →
    (all_known P answer m (look_of P answer m a) ≡ true) × (r ≡ summary_of P answer m (look_of P answer m a))
unfolding meaning_of
meaning_of-known P answer m a r e = by (all_known P answer m (look_of P answer m a)) refl e
  where
    by : (known : Bool) → all_known P answer m (look_of P answer m a) ≡ known →
        cond known (Some (summary_of P answer m (look_of P answer m a))) None ≡ Some r →
        (all_known P answer m (look_of P answer m a) ≡ true) × (r ≡ summary_of P answer m (look_of P answer m a))
    by false is e = absurd (cc)
    by true is e = (is, sym (same_Some _ r e))

pub left_of-begun : (P : Program) (answer : Answers) (g : Effect → ℕ) (m : ℕ) (parent : Option (ℕ × ℕ)) (a : Inputs) →
    left_of P answer g (begun P m parent a) ≡ sum_below (box_count P m) (λ b. count_of g (act P m (look_of P answer m a) b))
unfolding left_of
left_of-begun P answer g m parent a =
    sum_below-other (box_count P m) _ _ (λ b lt. rw (none_of (box_count P m) b) refl)

pub left_of-ended : (P : Program) (answer : Answers) (g : Effect → ℕ) (x : Instance) (o : Outcome) → left_of P answer g (ended x o) ≡ 0
unfolding left_of
left_of-ended P answer g x o = refl

cond_same : {A : Type 0} (t : Bool) (x : A) → (if t then x else x) ≡ x
cond_same true x = refl
cond_same false x = refl

-- an instance that is over adds nothing
pub left_of-over : (P : Program) (answer : Answers) (g : Effect → ℕ) (T : Table) → Sound P answer T → (i : ℕ) → IsOver P T i →
    left_of P answer g (instance_at T i) ≡ 0
unfolding left_of
left_of-over P answer g T sound i over = by (is_live (instance_at T i))
  where
    x : Instance
    x = instance_at T i

    none : (b : ℕ) (o : Option Effect) → act P x.kind (in_full P answer x) b ≡ o → due P answer g x b ≡ 0
    none b None is = rw is (cond_same (is_some (fired x b)) 0)
    none b (Some e) is =
        let f : fired x b ≡ cells_from P answer x.kind (in_full P answer x) b = ap (λ (h : Cells). h b) (fired-in_full P answer T sound i over) in
        rw (f, is) refl

    by : (t : Bool) → ◌≡◌ {A = ℕ} (if t then sum_below (box_count P x.kind) (due P answer g x) else 0) 0
    by true = sum_below-none (box_count P x.kind) (due P answer g x) (λ b lt. none b (act P x.kind (in_full P answer x) b) refl)
    by false = refl

-- each instance means something at this depth
pub record AreMeant (P : Program) (n : ℕ) (T : Table) : Type 0 where
  pub at : (i : ℕ) → i < length T → is_some (mean P n (instance_at T i).kind (instance_at T i).inputs) ≡ true

pub AreMeant-set : (P : Program) (n : ℕ) (T : Table) (i : ℕ) (y : Instance) → AreMeant P n T → i < length T →
    y.kind ≡ (instance_at T i).kind → y.inputs ≡ (instance_at T i).inputs → AreMeant P n (slice_set T i y)
AreMeant-set P n T i y meant lt kind inputs = record {
  at = λ j ltj. elim (cases_eq j i) [
    | inl is ↦ rw (is, get_or-set_same T i y nobody lt, kind, inputs) (meant.at i lt)
    | inr other ↦ rw (get_or-set_other T i j y nobody other) (meant.at j (rw length-set at ltj))
  ];
}

-- a table on the way to what main means: r is that meaning, f and e are the firings and the endings so far
pub record IsCounted (P : Program) (n : ℕ) (r : Meaning) (T : Table) (f e : ℕ) : Type 0 where
  pub sound : Sound P (mean P n) T
  pub meant : AreMeant P n T
  pub firings : f + total_of (left_of P (mean P n) (firings_of (mean P n))) T ≡ r.firings
  pub instances : length T + total_of (left_of P (mean P n) (instances_of (mean P n))) T ≡ r.instances
  pub endings : e + total_of (λ x. one_if (is_live x)) T ≡ length T

-- what is meant at a depth, at the next one
pub means_more : (P : Program) (n m : ℕ) (a : Inputs) → is_some (mean P n m a) ≡ true →
    (r : Meaning) × (mean P n m a ≡ Some r) × (meaning_of P (mean P n) m a ≡ Some r)
unfolding mean
means_more P n m a e = by (mean P n m a) refl e
  where
    by : (o : Option Meaning) → mean P n m a ≡ o → is_some o ≡ true → (r : Meaning) × (mean P n m a ≡ Some r) × (meaning_of P (mean P n) m a ≡ Some r)
    by None is h = absurd (cc)
    by (Some r) is h = (r, is, (mean-more P n).at m a r is)

-- what the firing of a use adds
record Adds (P : Program) (n m : ℕ) (a : Inputs) : Type 0 where
  meaning : Meaning
  meant : mean P n m a ≡ Some meaning
  firings : firings_of (mean P n) (Starts m a) ≡ 1 + sum_below (box_count P m) (λ b. count_of (firings_of (mean P n)) (act P m (look_of P (mean P n) m a) b))
  instances : instances_of (mean P n) (Starts m a) ≡ 1 + sum_below (box_count P m) (λ b. count_of (instances_of (mean P n)) (act P m (look_of P (mean P n) m a) b))

adds : (P : Program) (n m : ℕ) (a : Inputs) → is_known (mean P n) (Starts m a) ≡ true → Adds P n m a
adds P n m a known = by (mean P n m a) refl known
  where
    by : (o : Option Meaning) → mean P n m a ≡ o → unwrap_or (option_map (λ _. true) o) false ≡ true → Adds P n m a
    by None is h = absurd (cc)
    by (Some s) is h =
        let (t, isT, there) = means_more P n m a (rw is refl) in
        let sums = (meaning_of-known P (mean P n) m a t there).1 in
        let same : s ≡ summary_of P (mean P n) m (look_of P (mean P n) m a) = same_Some s t (sym is ∙ isT) ∙ sums in
        record {
          meaning = s;
          meant = is;
          firings = rw (is, firings_of, by_answer) (ap (λ (u : Meaning). 1 + u.firings) same);
          instances = rw (is, instances_of, by_answer) (ap (λ (u : Meaning). u.instances) same);
        }

module _ (P : Program) (n : ℕ) (r : Meaning) (T : Table) (f e : ℕ) (counted : IsCounted P n r T f e) where
  -- the firing of a box takes off what the box was due
  module _ (i b : ℕ) (x : Effect) (fires : CanFire P T i b x) where
    within : i < length T
    within = live_within T i fires.live

    acts-full : act P (instance_at T i).kind (in_full P (mean P n) (instance_at T i)) b ≡ Some x
    acts-full = act-more P _ _ _ (wires-pulled P (mean P n) T counted.sound i) b x fires.acts

    total-fire : (g : Effect → ℕ) (c : Cell) → total_of (left_of P (mean P n) g) (set_cell T i b c) + g x ≡ total_of (left_of P (mean P n) g) T
    total-fire g c =
        let set = total_of-set (left_of P (mean P n) g) T i (with_cell (instance_at T i) b c) within in
        let there : b < length (instance_at T i).cells = rw (counted.sound.sized i within) (act_there P _ _ b x fires.acts) in
        let cell = left_of-with_cell P (mean P n) g (instance_at T i) b c x fires.live (act_there P _ _ b x fires.acts) there fires.fresh acts-full in
        omega (arith, set, cell)

    live-fire : (c : Cell) → total_of (λ x. one_if (is_live x)) (set_cell T i b c) ≡ total_of (λ x. one_if (is_live x)) T
    live-fire c =
        let set = total_of-set (λ x. one_if (is_live x)) T i (with_cell (instance_at T i) b c) within in
        omega (arith, set)

    meant-fire : (c : Cell) → AreMeant P n (set_cell T i b c)
    meant-fire c = AreMeant-set P n T i (with_cell (instance_at T i) b c) counted.meant within refl refl

    known : is_known (mean P n) x ≡ true
    known =
        let (s, is, there) = means_more P n _ _ (counted.meant.at i within) in
        rw acts-full at (known_at P (mean P n) _ _ (meaning_of-known P (mean P n) _ _ s there).0 b)

  counted-done : (i b : ℕ) (c : Cell) → CanFire P T i b (Done c) → IsCounted P n r (set_cell T i b c) (suc f) e
  counted-done i b c fires =
      let set = total-fire i b (Done c) fires in
      record {
        sound = sound-done P (mean P n) T counted.sound i b c fires;
        meant = meant-fire i b (Done c) fires c;
        firings = omega (arith, set (firings_of (mean P n)) c, counted.firings);
        instances = rw length-set (omega (arith, set (instances_of (mean P n)) c, counted.instances));
        endings = rw (length-set, live-fire i b (Done c) fires c) counted.endings;
      }

  counted-starts : (i b m : ℕ) (a : Inputs) → CanFire P T i b (Starts m a) → IsCounted P n r (fire P T i b (Some (Starts m a))) (suc f) e
  counted-starts i b m a fires =
      let set = total-fire i b (Starts m a) fires in
      let s : Adds P n m a = adds P n m a (known i b (Starts m a) fires) in
      let pushF = total_of-push (left_of P (mean P n) (firings_of (mean P n))) (set_cell T i b quiet) (begun P m (Some (i, b)) a) in
      let pushI = total_of-push (left_of P (mean P n) (instances_of (mean P n))) (set_cell T i b quiet) (begun P m (Some (i, b)) a) in
      let pushL = total_of-push (λ x. one_if (is_live x)) (set_cell T i b quiet) (begun P m (Some (i, b)) a) in
      let newF = left_of-begun P (mean P n) (firings_of (mean P n)) m (Some (i, b)) a in
      let newI = left_of-begun P (mean P n) (instances_of (mean P n)) m (Some (i, b)) a in
      let size : length (set_cell T i b quiet ++ begun P m (Some (i, b)) a ∷ []) ≡ length T + 1 = rw (length_push, length-set) refl in
      record {
        sound = sound-starts P (mean P n) T counted.sound i b m a fires;
        meant = record {
          at = λ j lt. elim (cases_lt j (length T)) [
            | inl was ↦ rw (get_or_append_left (set_cell T i b quiet) (begun P m (Some (i, b)) a ∷ []) nobody j (rw length-set was))
                ((meant-fire i b (Starts m a) fires quiet).at j (rw length-set was))
            | inr past ↦ rw (get_or_push (set_cell T i b quiet) (begun P m (Some (i, b)) a) nobody j (rw length-set (omega (arith, size, lt, past))), s.meant) refl
          ];
        };
        firings = omega (arith, set (firings_of (mean P n)) quiet, counted.firings, pushF, newF, s.firings);
        instances = omega (arith, size, set (instances_of (mean P n)) quiet, counted.instances, pushI, newI, s.instances);
        endings = omega (arith, size, counted.endings, pushL, live-fire i b (Starts m a) fires quiet);
      }

  pub counted-fire : (i b : ℕ) → is_ready P T (Fire i b) ≡ true → IsCounted P n r (step P T (Fire i b)) (suc f) e
  counted-fire i b ready = let (x, fires) = can_fire-ready P T i b ready in rw (step-fire P T i b x fires) (by x fires)
    where
      by : (x : Effect) → CanFire P T i b x → IsCounted P n r (fire P T i b (Some x)) (suc f) e
      by (Done c) fires = counted-done i b c fires
      by (Starts m a) fires = counted-starts i b m a fires

  -- the end of an instance takes nothing off
  module _ (i : ℕ) (live : is_live (instance_at T i) ≡ true) (over : IsOver P T i) where
    o : Outcome
    o = end_of P (instance_at T i)

    mid : Table
    mid = slice_set T i (ended (instance_at T i) o)

    total-mid : (g : Effect → ℕ) → total_of (left_of P (mean P n) g) mid ≡ total_of (left_of P (mean P n) g) T
    unfolding mid
    total-mid g =
        let set = total_of-set (left_of P (mean P n) g) T i (ended (instance_at T i) o) (live_within T i live) in
        let was = left_of-over P (mean P n) g T counted.sound i over in
        let is = left_of-ended P (mean P n) g (instance_at T i) o in
        omega (arith, set, was, is)

    live-mid : suc (total_of (λ x. one_if (is_live x)) mid) ≡ total_of (λ x. one_if (is_live x)) T
    unfolding mid
    live-mid =
        let set = total_of-set (λ x. one_if (is_live x)) T i (ended (instance_at T i) o) (live_within T i live) in
        let was : one_if (is_live (instance_at T i)) ≡ 1 = rw live refl in
        omega (arith, set, was)

    total-deliver : (w : Instance → ℕ) → ((x : Instance) (b : ℕ) (c : Cell) → b < length x.cells → is_some (fired x b) ≡ true → w (with_cell x b c) ≡ w x) →
        (parent : Option (ℕ × ℕ)) → (instance_at T i).parent ≡ parent → total_of w (deliver mid parent o) ≡ total_of w mid
    unfolding mid
    total-deliver w same None is = refl
    total-deliver w same (Some p) is =
        let s = counted.sound.starts i p.0 p.1 live is in
        let apart : p.0 ≢ i = λ q. omega (arith, s.later, q) in
        let at : instance_at mid p.0 ≡ instance_at T p.0 = get_or-set_other T i p.0 _ nobody apart in
        let set = total_of-set w mid p.0 (with_cell (instance_at mid p.0) p.1 (returned (instance_at mid p.0).kind p.1 o)) (rw length-set (live_within T p.0 s.live)) in
        let again : w (with_cell (instance_at mid p.0) p.1 (returned (instance_at mid p.0).kind p.1 o)) ≡ w (instance_at mid p.0) =
        rw at (same (instance_at T p.0) p.1 (returned (instance_at T p.0).kind p.1 o) (fired_there (instance_at T p.0) p.1 s.has_fired) s.has_fired) in
        omega (arith, set, again)

    size-end : (parent : Option (ℕ × ℕ)) → length (deliver mid parent o) ≡ length T
    unfolding mid
    size-end None = length-set T i _
    size-end (Some p) = rw (length-set, length-set) refl

    meant-end : (parent : Option (ℕ × ℕ)) → (instance_at T i).parent ≡ parent → AreMeant P n (deliver mid parent o)
    unfolding mid
    meant-end None is = AreMeant-set P n T i (ended (instance_at T i) o) counted.meant (live_within T i live) refl refl
    meant-end (Some p) is =
        let s = counted.sound.starts i p.0 p.1 live is in
        let meant : AreMeant P n mid = AreMeant-set P n T i (ended (instance_at T i) o) counted.meant (live_within T i live) refl refl in
        AreMeant-set P n mid p.0 (with_cell (instance_at mid p.0) p.1 (returned (instance_at mid p.0).kind p.1 o)) meant (rw length-set (live_within T p.0 s.live)) refl refl

    counted-over : is_ready P T (End i) ≡ true → IsCounted P n r (step P T (End i)) f (suc e)
    unfolding mid o step
    counted-over ready =
        let parent = (instance_at T i).parent in
        let size = size-end parent in
        let left = λ (g : Effect → ℕ). total-deliver (left_of P (mean P n) g) (left_of-set_again P (mean P n) g) parent refl in
        let lives = total-deliver (λ x. one_if (is_live x)) (λ x b c lt has. refl) parent refl in
        record {
          sound = sound-end P (mean P n) (mean P n) T counted.sound i ready (same_answers (mean P n)) (λ t there.
              let (s, is, more) = means_more P n (instance_at T i).kind (instance_at T i).inputs (counted.meant.at i (live_within T i live)) in
              is ∙ (sym more ∙ there));
          meant = meant-end parent refl;
          firings = omega (arith, left (firings_of (mean P n)), total-mid (firings_of (mean P n)), counted.firings);
          instances = omega (arith, size, left (instances_of (mean P n)), total-mid (instances_of (mean P n)), counted.instances);
          endings = omega (arith, size, lives, live-mid, counted.endings);
        }

  pub counted-end : (i : ℕ) → is_ready P T (End i) ≡ true → IsCounted P n r (step P T (End i)) f (suc e)
  counted-end i ready = let (live, over) = over-ready P T i ready in counted-over i live over ready
