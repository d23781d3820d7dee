-- The firing of a box keeps a table sound.
use Rattle.std.specs.Prelude.{Option, Some, None, ◌≡◌, ◌≢◌, ℕ, zero, suc, ◌+◌, ◌-◌, ◌<◌, ◌≤◌, [], ◌∷◌, ◌++◌, Bool, true, false, not, is_some, length, slice_index_or, replicate}
use Rattle.std.proofs.Common.{refl, sym, ◌∙◌, ap, arith, ◌⊎◌, inl, inr}
use Rattle.std.proofs.lemmas.Bool.{cases_lt, cases_eq, and_parts}
use Rattle.std.proofs.lemmas.Option.{same_Some, some_pair_parts}
use Rattle.std.proofs.lemmas.List.{get_or_past, get_or-set_same, get_or-set_other, length-set, length-append, length-replicate, get_or-replicate, get_or_append_left, get_or-append_right, get_or_push, append-nil}
use Rattle.two_d.specs.Programs.{Program, box_count}
use Rattle.two_d.specs.Meaning.{Inputs, Outcome, Cell, quiet, Effect, Done, Starts, Answers}
use Rattle.two_d.specs.Steps.{Fire, is_ready, step, nobody, Instance, Table, instance_at, fired, is_live, firing, can_fire, with_cell, set_cell, fire, begun}
use Rattle.two_d.proofs.Below.{sum_below-change, sum_below-more}
use Rattle.two_d.proofs.Depth.{act-more, act_there, same_answers}
use Rattle.two_d.proofs.State.{one_if, fired_count, Waits, Settled, HasFired, IsStarted, Sound, live_within, wires-near}
use Rattle.two_d.proofs.Changes.{Kept, Changes, sound-later}

pub fired-same : (x : Instance) (b : ℕ) (c : Cell) → b < length x.cells → fired (with_cell x b c) b ≡ Some c
fired-same x b c lt = get_or-set_same x.cells b (Some c) None lt

pub fired-other : (x : Instance) (b : ℕ) (c : Cell) (d : ℕ) → d ≢ b → fired (with_cell x b c) d ≡ fired x d
fired-other x b c d other = get_or-set_other x.cells b d (Some c) None other

-- a box that has fired is one of the cells
pub fired_there : (x : Instance) (b : ℕ) → is_some (fired x b) ≡ true → b < length x.cells
fired_there x b e = elim (cases_lt b (length x.cells)) [ inl lt ↦ lt | inr past ↦ absurd (let q : false ≡ true = rw (get_or_past x.cells b None past) at e in cc) ]

pub kept_itself : (P : Program) (x : Instance) → Kept P x x
kept_itself P x = record { kind = refl; inputs = refl; parent = refl; more = omega arith; has = λ b e. e }

pub has-with_cell : (x : Instance) (b : ℕ) (c : Cell) (d : ℕ) → is_some (fired x d) ≡ true → is_some (fired (with_cell x b c) d) ≡ true
has-with_cell x b c d e =
    elim (cases_eq d b) [
      | inl is ↦ rw (is, fired-same x b c (rw is at (fired_there x d e))) refl
      | inr other ↦ rw (fired-other x b c d other) e
    ]

pub kept-with_cell : (P : Program) (x : Instance) (b : ℕ) (c : Cell) → Kept P x (with_cell x b c)
kept-with_cell P x b c = record {
  kind = refl;
  inputs = refl;
  parent = refl;
  more = sum_below-more (box_count P x.kind) (λ d. one_if (is_some (fired x d))) (λ d. one_if (is_some (fired (with_cell x b c) d)))
      (λ d. by d (is_some (fired x d)) refl);
  has = has-with_cell x b c;
}
  where
    by : (d : ℕ) (t : Bool) → is_some (fired x d) ≡ t → one_if t ≤ one_if (is_some (fired (with_cell x b c) d))
    by d false e = omega arith
    by d true e = rw (has-with_cell x b c d e) (omega arith)

-- a firing counts one more
pub fired_count-with_cell : (P : Program) (x : Instance) (b : ℕ) (c : Cell) → b < box_count P x.kind → b < length x.cells → fired x b ≡ None →
    fired_count P (with_cell x b c) ≡ fired_count P x + 1
fired_count-with_cell P x b c lt there none =
    let change = sum_below-change (box_count P x.kind) (λ d. one_if (is_some (fired x d))) (λ d. one_if (is_some (fired (with_cell x b c) d))) b lt
    (λ d other. rw (fired-other x b c d other) refl) in
    let was : one_if (is_some (fired x b)) ≡ 0 = rw none refl in
    let is : one_if (is_some (fired (with_cell x b c) b)) ≡ 1 = rw (fired-same x b c there) refl in
    omega (arith, change, was, is)

-- instances that the firing of box b of instance i adds
pub record IsNew (P : Program) (new : Table) (i b : ℕ) (x : Effect) : Type 0 where
  pub sized : (h : ℕ) → h < length new → length (instance_at new h).cells ≡ box_count P (instance_at new h).kind
  pub blank : (h d : ℕ) → fired (instance_at new h) d ≡ None
  pub parent : (h : ℕ) → is_live (instance_at new h) ≡ true → (instance_at new h).parent ≡ Some (i, b)
  pub source : (h : ℕ) → is_live (instance_at new h) ≡ true → x ≡ Starts (instance_at new h).kind (instance_at new h).inputs
  pub goes_on : (h : ℕ) → h < length new → (instance_at new h).outcome ≡ None
  pub born : (h : ℕ) → h < length new → is_some (instance_at new h).parent ≡ true

pub none_new : (P : Program) (i b : ℕ) (x : Effect) → IsNew P [] i b x
none_new P i b x = record {
  sized = λ h lt. absurd (omega arith);
  blank = λ h d. refl;
  parent = λ h live. absurd (cc);
  source = λ h live. absurd (cc);
  goes_on = λ h lt. absurd (omega arith);
  born = λ h lt. absurd (omega arith);
}

pub none_of : (n d : ℕ) → slice_index_or (replicate {A = Option Cell} n None) d None ≡ None
none_of n d = elim (cases_lt d n) [
  | inl lt ↦ get_or-replicate n d None None lt
  | inr past ↦ get_or_past (replicate n None) d None (omega (arith, length-replicate {A = Option Cell} n None))
]

pub one_new : (P : Program) (i b m : ℕ) (a : Inputs) → IsNew P (begun P m (Some (i, b)) a ∷ []) i b (Starts m a)
one_new P i b m a = record { sized = sized; blank = blank; parent = parent; source = source; goes_on = goes_on; born = born }
  where
    new : Table
    new = begun P m (Some (i, b)) a ∷ []

    sized : (h : ℕ) → h < length new → length (instance_at new h).cells ≡ box_count P (instance_at new h).kind
    sized zero lt = length-replicate (box_count P m) None
    sized (suc h) lt = absurd (omega arith)

    blank : (h d : ℕ) → fired (instance_at new h) d ≡ None
    blank zero d = none_of (box_count P m) d
    blank (suc h) d = refl

    parent : (h : ℕ) → is_live (instance_at new h) ≡ true → (instance_at new h).parent ≡ Some (i, b)
    parent zero live = refl
    parent (suc h) live = absurd (cc)

    source : (h : ℕ) → is_live (instance_at new h) ≡ true → Starts m a ≡ Starts (instance_at new h).kind (instance_at new h).inputs
    source zero live = refl
    source (suc h) live = absurd (cc)

    goes_on : (h : ℕ) → h < length new → (instance_at new h).outcome ≡ None
    goes_on zero lt = refl
    goes_on (suc h) lt = absurd (omega arith)

    born : (h : ℕ) → h < length new → is_some (instance_at new h).parent ≡ true
    born zero lt = refl
    born (suc h) lt = absurd (omega arith)

-- a box of a live instance that its wires enable fires
pub record CanFire (P : Program) (T : Table) (i b : ℕ) (x : Effect) : Type 0 where
  pub live : is_live (instance_at T i) ≡ true
  pub fresh : fired (instance_at T i) b ≡ None
  pub acts : firing P (instance_at T i) b ≡ Some x

module _ (P : Program) (answer : Answers) (T : Table) (sound : Sound P answer T) (i b : ℕ) (c : Cell) (x : Effect) (fires : CanFire P T i b x)
    (new : Table) (is_new : IsNew P new i b x) where
  unfoldable pub after_fire : Table
  after_fire = set_cell T i b c ++ new

  within : i < length T
  within = live_within T i fires.live

  box_within : b < box_count P (instance_at T i).kind
  box_within = act_there P _ _ b x fires.acts

  cell_within : b < length (instance_at T i).cells
  cell_within = rw (sound.sized i within) box_within

  at_same : instance_at after_fire i ≡ with_cell (instance_at T i) b c
  unfolding after_fire
  at_same = get_or_append_left (set_cell T i b c) new nobody i (rw length-set within) ∙ get_or-set_same T i (with_cell (instance_at T i) b c) nobody within

  at_other : (j : ℕ) → j < length T → j ≢ i → instance_at after_fire j ≡ instance_at T j
  unfolding after_fire
  at_other j lt other = get_or_append_left (set_cell T i b c) new nobody j (rw length-set lt) ∙ get_or-set_other T i j (with_cell (instance_at T i) b c) nobody other

  at_new : (j : ℕ) → length T ≤ j → instance_at after_fire j ≡ instance_at new (j - length T)
  unfolding after_fire
  at_new j past = get_or-append_right (set_cell T i b c) new (length T) j nobody (length-set T i (with_cell (instance_at T i) b c)) past

  size : length after_fire ≡ length T + length new
  unfolding after_fire
  size = rw (length-append, length-set) refl

  kept : (j : ℕ) → j < length T → Kept P (instance_at T j) (instance_at after_fire j)
  kept j lt = elim (cases_eq j i) [
    | inl is ↦ rw (is, at_same) (kept-with_cell P (instance_at T i) b c)
    | inr other ↦ rw (at_other j lt other) (kept_itself P (instance_at T j))
  ]

  -- the box has fired on pulled values
  fires_here : Settled after_fire answer i b c x → HasFired P answer after_fire i b c
  fires_here settled = record {
    reach = fired_count P (instance_at T i);
    near = rw at_same (omega (arith, fired_count-with_cell P (instance_at T i) b c box_within cell_within fires.fresh));
    effect = x;
    acts = rw at_same (act-more P _ _ _ (wires-near P answer T sound i) b x fires.acts);
    settled = settled;
  }

  waits-kept : (j d : ℕ) (e : Cell) → Waits T j d e → Waits after_fire j d e
  waits-kept j d e w = let lt = live_within T w.inner w.live in record {
    inner = w.inner;
    live = live_at w.inner lt ∙ w.live;
    parent = (kept w.inner lt).parent ∙ w.parent;
    nothing = w.nothing;
  }
    where
      live_at : (j : ℕ) → j < length T → is_live (instance_at after_fire j) ≡ is_live (instance_at T j)
      live_at j lt = elim (cases_eq j i) [ inl is ↦ rw (is, at_same) refl | inr other ↦ rw (at_other j lt other) refl ]

  outcome-kept : (j : ℕ) → j < length T → (instance_at after_fire j).outcome ≡ (instance_at T j).outcome
  outcome-kept j lt = elim (cases_eq j i) [ inl is ↦ rw (is, at_same) refl | inr other ↦ rw (at_other j lt other) refl ]

  live-kept : (j : ℕ) → j < length T → is_live (instance_at after_fire j) ≡ is_live (instance_at T j)
  live-kept j lt = ap (λ (o : Option Outcome). not (is_some o)) (outcome-kept j lt)

  fires-changed : Settled after_fire answer i b c x → (j d : ℕ) (e : Cell) → fired (instance_at after_fire j) d ≡ Some e →
      HasFired P answer after_fire j d e ⊎ ((j < length T) × (fired (instance_at T j) d ≡ Some e) × (Waits T j d e → Waits after_fire j d e))
  fires-changed settled j d e is =
      elim (cases_lt j (length T)) [
        | inl lt ↦ elim (cases_eq j i) [
          | inl here ↦ elim (cases_eq d b) [
            | inl box ↦ inl (at_box here box)
            | inr other ↦ inr (lt, rw here (sym (fired-other (instance_at T i) b c d other) ∙ (rw (here, at_same) at is)), waits-kept j d e)
          ]
          | inr other ↦ inr (lt, rw (at_other j lt other) at is, waits-kept j d e)
        ]
        | inr past ↦ absurd (let q : None ≡ Some e = sym (is_new.blank (j - length T) d) ∙ (rw (at_new j past) at is) in cc)
      ]
    where
      at_box : j ≡ i → d ≡ b → HasFired P answer after_fire j d e
      at_box here box =
          let f : fired (with_cell (instance_at T i) b c) b ≡ Some e = rw (here, box, at_same) at is in
          let same : c ≡ e = same_Some c e (sym (fired-same (instance_at T i) b c cell_within) ∙ f) in
          rw (here, box, ← same) (fires_here settled)

  starts-changed : (h j d : ℕ) → is_live (instance_at after_fire h) ≡ true → (instance_at after_fire h).parent ≡ Some (j, d) →
      IsStarted P answer after_fire h j d ⊎ ((is_live (instance_at T h) ≡ true) × (is_live (instance_at after_fire j) ≡ true))
  starts-changed h j d live parent =
      elim (cases_lt h (length T)) [
        | inl lt ↦
            let was = sym (live-kept h lt) ∙ live in
            let s = sound.starts h j d was (sym (kept h lt).parent ∙ parent) in
            inr (was, live-kept j (live_within T j s.live) ∙ s.live)
        | inr past ↦ inl (started past)
      ]
    where
      started : length T ≤ h → IsStarted P answer after_fire h j d
      started past =
          let now : is_live (instance_at new (h - length T)) ≡ true = rw (at_new h past) at live in
          let place : ◌≡◌ {A = Option (ℕ × ℕ)} (Some (i, b)) (Some (j, d)) = sym (is_new.parent (h - length T) now) ∙ (rw (at_new h past) at parent) in
          let si : i ≡ j = (some_pair_parts i j b d place).0 in
          let sb : b ≡ d = (some_pair_parts i j b d place).1 in
          rw (← si, ← sb) (record {
            later = omega (arith, past, within);
            live = rw at_same fires.live;
            has_fired = rw (at_same, fired-same (instance_at T i) b c cell_within) refl;
            reach = fired_count P (instance_at T i);
            near = rw at_same (omega (arith, fired_count-with_cell P (instance_at T i) b c box_within cell_within fires.fresh));
            acts = rw (at_same, at_new h past) (act-more P _ _ _ (wires-near P answer T sound i) b x fires.acts ∙ ap Some (is_new.source (h - length T) now));
          })

  pub changes-fire : Settled after_fire answer i b c x → Changes P answer answer T after_fire
  changes-fire settled = record {
    answers = same_answers answer;
    kept = kept;
    longer = omega (arith, size);
    born = λ j past lt. rw (at_new j past) (is_new.born (j - length T) (omega (arith, size, lt, past)));
    sized = sized;
    fires = fires-changed settled;
    starts = starts-changed;
    ends = λ j o lt e. elim (cases_lt j (length T)) [
      | inl was ↦ inr (was, sym (outcome-kept j was) ∙ e)
      | inr past ↦ absurd (let q : None ≡ Some o = sym (is_new.goes_on (j - length T) (omega (arith, size, lt, past))) ∙ (rw (at_new j past) at e) in cc)
    ];
  }
    where
      sized : (j : ℕ) → j < length after_fire → length (instance_at after_fire j).cells ≡ box_count P (instance_at after_fire j).kind
      sized j lt = elim (cases_lt j (length T)) [
        | inl was ↦ elim (cases_eq j i) [
          | inl is ↦ rw (is, at_same, length-set) (sound.sized i within)
          | inr other ↦ rw (at_other j was other) (sound.sized j was)
        ]
        | inr past ↦ rw (at_new j past) (is_new.sized (j - length T) (omega (arith, size, lt, past)))
      ]

-- the firing of a box that is done at once
pub sound-done : (P : Program) (answer : Answers) (T : Table) → Sound P answer T → (i b : ℕ) (c : Cell) → CanFire P T i b (Done c) →
    Sound P answer (set_cell T i b c)
unfolding after_fire
sound-done P answer T sound i b c fires =
    let s = sound-later P answer answer T (after_fire P answer T sound i b c (Done c) fires [] (none_new P i b (Done c))) sound
    (changes-fire P answer T sound i b c (Done c) fires [] (none_new P i b (Done c)) (inl (refl, refl))) in
    rw append-nil at s

-- the firing of a use
pub sound-starts : (P : Program) (answer : Answers) (T : Table) → Sound P answer T → (i b m : ℕ) (a : Inputs) → CanFire P T i b (Starts m a) →
    Sound P answer (set_cell T i b quiet ++ begun P m (Some (i, b)) a ∷ [])
unfolding after_fire
sound-starts P answer T sound i b m a fires =
    sound-later P answer answer T (after_fire P answer T sound i b quiet (Starts m a) fires _ (one_new P i b m a)) sound
    (changes-fire P answer T sound i b quiet (Starts m a) fires _ (one_new P i b m a) (inr waits))
  where
    last : instance_at (set_cell T i b quiet ++ begun P m (Some (i, b)) a ∷ []) (length T) ≡ begun P m (Some (i, b)) a
    last = get_or_push (set_cell T i b quiet) (begun P m (Some (i, b)) a) nobody (length T) (length-set T i _)

    waits : Waits (set_cell T i b quiet ++ begun P m (Some (i, b)) a ∷ []) i b quiet
    waits = record { inner = length T; live = rw last refl; parent = rw last refl; nothing = refl }

-- a ready firing does something
pub can_fire-ready : (P : Program) (T : Table) (i b : ℕ) → is_ready P T (Fire i b) ≡ true → (x : Effect) × CanFire P T i b x
unfolding is_ready
can_fire-ready P T i b ready =
    let r = and_parts (is_live (instance_at T i)) (can_fire P (instance_at T i) b) ready in
    let s = and_parts (not (is_some (fired (instance_at T i) b))) (is_some (firing P (instance_at T i) b)) r.1 in
    by r.0 (none_from _ s.0) (firing P (instance_at T i) b) refl s.1
  where
    none_from : (o : Option Cell) → not (is_some o) ≡ true → o ≡ None
    none_from None e = refl
    none_from (Some c) e = absurd (cc)

    by : is_live (instance_at T i) ≡ true → fired (instance_at T i) b ≡ None → (x : Option Effect) → firing P (instance_at T i) b ≡ x → is_some x ≡ true →
        (x : Effect) × CanFire P T i b x
    by live fresh None is e = absurd (cc)
    by live fresh (Some x) is e = (x, record { live = live; fresh = fresh; acts = is })

pub step-fire : (P : Program) (T : Table) (i b : ℕ) (x : Effect) → CanFire P T i b x → step P T (Fire i b) ≡ fire P T i b (Some x)
unfolding step
step-fire P T i b x fires = rw fires.acts refl

pub sound-fire : (P : Program) (answer : Answers) (T : Table) → Sound P answer T → (i b : ℕ) → is_ready P T (Fire i b) ≡ true →
    Sound P answer (step P T (Fire i b))
sound-fire P answer T sound i b ready = let (x, fires) = can_fire-ready P T i b ready in rw (step-fire P T i b x fires) (by x fires)
  where
    by : (x : Effect) → CanFire P T i b x → Sound P answer (fire P T i b (Some x))
    by (Done c) fires = sound-done P answer T sound i b c fires
    by (Starts m a) fires = sound-starts P answer T sound i b m a fires
