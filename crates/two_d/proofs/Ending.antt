-- The end of an instance keeps a table sound.
use Rattle.std.specs.Prelude.{Option, Some, None, ◌≡◌, ◌≢◌, ℕ, ◌<◌, true, false, not, is_some, length, slice_set}
use Rattle.std.proofs.Common.{refl, sym, ◌∙◌, ap, arith, ◌⊎◌, inl, inr}
use Rattle.std.proofs.lemmas.Bool.{cases_lt, cases_eq, and_parts}
use Rattle.std.proofs.lemmas.Option.{same_Some, some_pair_parts}
use Rattle.std.proofs.lemmas.List.{get_or_past, get_or-set_same, get_or-set_other, length-set}
use Rattle.two_d.specs.Programs.{Program, box_count}
use Rattle.two_d.specs.Meaning.{Outcome, Cell, returned, Starts, Meaning, Answers, cell_of, is_known, all_below, meaning_of, by_answer}
use Rattle.two_d.specs.Steps.{End, is_ready, step, nobody, Instance, Table, instance_at, fired, is_live, can_fire, is_inner, end_of, with_cell, ended, deliver}
use Rattle.two_d.proofs.Below.{all_below-at}
use Rattle.two_d.proofs.Depth.{Extends, act-more, pulled-more}
use Rattle.two_d.proofs.State.{Waits, HasFired, IsStarted, Means, Sound, IsOver, live_within, is_inner-from, means_end, same_end}
use Rattle.two_d.proofs.Changes.{Kept, Changes, sound-later}
use Rattle.two_d.proofs.Firing.{fired-same, fired-other, fired_there, kept_itself, kept-with_cell}

-- what instance j is after instance i has ended with outcome o
pub record Untouched (T U : Table) (i j : ℕ) : Type 0 where
  pub same : instance_at U j ≡ instance_at T j
  pub no_parent : (b : ℕ) → (instance_at T i).parent ≡ Some (j, b) → ⊥

pub record Delivered (T U : Table) (i j : ℕ) (o : Outcome) : Type 0 where
  pub bx : ℕ
  pub is_parent : (instance_at T i).parent ≡ Some (j, bx)
  pub same : instance_at U j ≡ with_cell (instance_at T j) bx (returned (instance_at T j).kind bx o)

pub record HasEnded (P : Program) (T U : Table) (i : ℕ) : Type 0 where
  pub size : length U ≡ length T
  pub here : instance_at U i ≡ ended (instance_at T i) (end_of P (instance_at T i))
  pub others : (j : ℕ) → j ≢ i → Untouched T U i j ⊎ Delivered T U i j (end_of P (instance_at T i))

module _ (P : Program) (answer answer' : Answers) (T U : Table) (sound : Sound P answer T) (i : ℕ) (live : is_live (instance_at T i) ≡ true)
    (over : IsOver P T i) (answers : Extends answer answer') (means : Means answer' (instance_at T i) (end_of P (instance_at T i)))
    (end : HasEnded P T U i) where
  kept : (j : ℕ) → Kept P (instance_at T j) (instance_at U j)
  kept j = elim (cases_eq j i) [
    | inl is ↦ rw (is, end.here) (kept_ended (instance_at T i) (end_of P (instance_at T i)))
    | inr other ↦ elim (end.others j other) [
      | inl u ↦ rw u.same (kept_itself P (instance_at T j))
      | inr d ↦ rw d.same (kept-with_cell P (instance_at T j) d.bx (returned (instance_at T j).kind d.bx (end_of P (instance_at T i))))
    ]
  ]
    where
      kept_ended : (x : Instance) (o : Outcome) → Kept P x (ended x o)
      kept_ended x o = record { kind = refl; inputs = refl; parent = refl; more = omega arith; has = λ b e. e }

  outcome-other : (j : ℕ) → j ≢ i → (instance_at U j).outcome ≡ (instance_at T j).outcome
  outcome-other j other = elim (end.others j other) [ inl u ↦ rw u.same refl | inr d ↦ rw d.same refl ]

  live-other : (j : ℕ) → j ≢ i → is_live (instance_at U j) ≡ is_live (instance_at T j)
  live-other j other = ap (λ (o : Option Outcome). not (is_some o)) (outcome-other j other)

  -- an instance that started another one doesn't end before it
  no_inner : (h b : ℕ) → is_live (instance_at T h) ≡ true → (instance_at T h).parent ≡ Some (i, b) → ⊥
  no_inner h b up parent =
      let at = all_below-at (length T) (λ h. not (is_inner i (instance_at T h))) over.alone h (live_within T h up) in
      let e : not true ≡ true = rw (is_inner-from i b (instance_at T h) up parent) at at in
      cc

  live_still : (j : ℕ) → is_live (instance_at U j) ≡ true → (j ≢ i) × (is_live (instance_at T j) ≡ true)
  live_still j up = elim (cases_eq j i) [
    | inl is ↦ absurd (let e : false ≡ true = rw (is, end.here) at up in cc)
    | inr other ↦ (other, sym (live-other j other) ∙ up)
  ]

  waits-kept : (j d : ℕ) (e : Cell) → ((instance_at T i).parent ≡ Some (j, d) → ⊥) → Waits T j d e → Waits U j d e
  waits-kept j d e not_there w =
      let other : w.inner ≢ i = λ is. not_there (rw is at w.parent) in
      record {
        inner = w.inner;
        live = live-other w.inner other ∙ w.live;
        parent = (kept w.inner).parent ∙ w.parent;
        nothing = w.nothing;
      }

  -- the box that started the instance has its outcome
  fires_parent : (j b : ℕ) → (instance_at T i).parent ≡ Some (j, b) → HasFired P answer' U j b (returned (instance_at T j).kind b (end_of P (instance_at T i)))
  fires_parent j b parent =
      let s = sound.starts i j b live parent in
      record {
        reach = s.reach;
        near = omega (arith, s.near, (kept j).more);
        effect = Starts (instance_at T i).kind (instance_at T i).inputs;
        acts = rw ((kept j).kind, (kept j).inputs) (act-more P _ _ _ (pulled-more P answer answer' answers _ _ s.reach s.reach (omega arith)) b _ s.acts);
        settled = inl (rw (means.answered, is_known, by_answer) refl, rw ((kept j).kind, means.answered, cell_of, by_answer) (ap (returned (instance_at T j).kind b) (sym means.same)));
      }

  -- the outcome that went to the box that started the instance is what that box has come to
  fires-changed : (j d : ℕ) (e : Cell) → fired (instance_at U j) d ≡ Some e →
      HasFired P answer' U j d e ⊎ ((j < length T) × (fired (instance_at T j) d ≡ Some e) × (Waits T j d e → Waits U j d e))
  fires-changed j d e is =
      let lt : j < length U = within_if j d e is in
      let ltj : j < length T = omega (arith, end.size, lt) in
      elim (cases_eq j i) [
        | inl here ↦ inr (ltj, rw here (rw (here, end.here) at is), waits-kept j d e (λ parent. no_own here parent))
        | inr other ↦ elim (end.others j other) [
          | inl u ↦ inr (ltj, rw u.same at is, waits-kept j d e (u.no_parent d))
          | inr t ↦ elim (cases_eq d t.bx) [
            | inl box ↦ inl (at_parent other t box)
            | inr apart ↦ inr (
              ltj,
              sym (fired-other (instance_at T j) t.bx _ d apart) ∙ (rw t.same at is),
              waits-kept j d e (λ parent. apart ((some_pair_parts j j d t.bx (sym parent ∙ t.is_parent)).1)),
            )
          ]
        ]
      ]
    where
      within_if : (j d : ℕ) (e : Cell) → fired (instance_at U j) d ≡ Some e → j < length U
      within_if j d e is = elim (cases_lt j (length U)) [
        | inl lt ↦ lt
        | inr past ↦ absurd (let q : None ≡ Some e = rw (get_or_past U j nobody past) at is in cc)
      ]

      no_own : j ≡ i → (instance_at T i).parent ≡ Some (j, d) → ⊥
      no_own here parent = omega (arith, (sound.starts i j d live parent).later, here)

      at_parent : (other : j ≢ i) (t : Delivered T U i j (end_of P (instance_at T i))) → d ≡ t.bx → HasFired P answer' U j d e
      at_parent other t box =
          let s = sound.starts i j t.bx live t.is_parent in
          let f : fired (with_cell (instance_at T j) t.bx (returned (instance_at T j).kind t.bx (end_of P (instance_at T i)))) t.bx ≡ Some e = rw (box, t.same) at is in
          let same : returned (instance_at T j).kind t.bx (end_of P (instance_at T i)) ≡ e = same_Some _ e (sym (fired-same (instance_at T j) t.bx _ (fired_there (instance_at T j) t.bx s.has_fired)) ∙ f) in
          rw (box, ← same) (fires_parent j t.bx t.is_parent)

  starts-changed : (h j d : ℕ) → is_live (instance_at U h) ≡ true → (instance_at U h).parent ≡ Some (j, d) →
      IsStarted P answer' U h j d ⊎ ((is_live (instance_at T h) ≡ true) × (is_live (instance_at U j) ≡ true))
  starts-changed h j d up parent =
      let was = live_still h up in
      let from : (instance_at T h).parent ≡ Some (j, d) = sym (kept h).parent ∙ parent in
      let s = sound.starts h j d was.1 from in
      inr (was.1, live-other j (λ is. no_inner h d was.1 (rw is at from)) ∙ s.live)

  pub changes-end : Changes P answer answer' T U
  changes-end = record {
    answers = answers;
    kept = λ j lt. kept j;
    longer = omega (arith, end.size);
    born = λ j past lt. absurd (omega (arith, end.size));
    sized = sized;
    fires = fires-changed;
    starts = starts-changed;
    ends = ends;
  }
    where
      sized : (j : ℕ) → j < length U → length (instance_at U j).cells ≡ box_count P (instance_at U j).kind
      sized j lt =
          let ltj : j < length T = omega (arith, end.size, lt) in
          elim (cases_eq j i) [
            | inl is ↦ rw (is, end.here) (rw is at (sound.sized j ltj))
            | inr other ↦ elim (end.others j other) [
              | inl u ↦ rw u.same (sound.sized j ltj)
              | inr t ↦ rw (t.same, length-set) (sound.sized j ltj)
            ]
          ]

      ends : (j : ℕ) (o : Outcome) → j < length U → (instance_at U j).outcome ≡ Some o →
          Means answer' (instance_at U j) o ⊎ ((j < length T) × ((instance_at T j).outcome ≡ Some o))
      ends j o lt e = elim (cases_eq j i) [
        | inl is ↦ inl (let f : Some (end_of P (instance_at T i)) ≡ Some o = rw (is, end.here) at e in
            let same = same_Some _ o f in
            rw (is, end.here) (record { meaning = means.meaning; answered = means.answered; same = means.same ∙ same }))
        | inr other ↦ inr (omega (arith, end.size, lt), sym (outcome-other j other) ∙ e)
      ]

-- the table after an instance has ended
pub has_ended : (P : Program) (answer : Answers) (T : Table) → Sound P answer T → (i : ℕ) → is_live (instance_at T i) ≡ true →
    HasEnded P T (deliver (slice_set T i (ended (instance_at T i) (end_of P (instance_at T i)))) (instance_at T i).parent (end_of P (instance_at T i))) i
has_ended P answer T sound i live = by (instance_at T i).parent refl
  where
    o : Outcome
    o = end_of P (instance_at T i)

    mid : Table
    mid = slice_set T i (ended (instance_at T i) o)

    within : i < length T
    within = live_within T i live

    at_i : instance_at mid i ≡ ended (instance_at T i) o
    at_i = get_or-set_same T i (ended (instance_at T i) o) nobody within

    at_j : (j : ℕ) → j ≢ i → instance_at mid j ≡ instance_at T j
    at_j j other = get_or-set_other T i j (ended (instance_at T i) o) nobody other

    by : (parent : Option (ℕ × ℕ)) → (instance_at T i).parent ≡ parent → HasEnded P T (deliver mid parent o) i
    by None is = record {
      size = length-set T i _;
      here = at_i;
      others = λ j other. inl (record { same = at_j j other; no_parent = λ b e. let q : None ≡ Some (j, b) = sym is ∙ e in absurd (cc) });
    }
    by (Some p) is =
        let s = sound.starts i p.0 p.1 live is in
        let apart : p.0 ≢ i = λ e. omega (arith, s.later, e) in
        let room : p.0 < length mid = rw length-set (live_within T p.0 s.live) in
        record {
          size = rw (length-set, length-set) refl;
          here = get_or-set_other mid p.0 i _ nobody (λ e. apart (sym e)) ∙ at_i;
          others = λ j other. elim (cases_eq j p.0) [
            | inl same ↦ inr (record {
              bx = p.1;
              is_parent = rw same is;
              same = rw same (get_or-set_same mid p.0 _ nobody room ∙ ap (λ (y : Instance). with_cell y p.1 (returned y.kind p.1 o)) (at_j p.0 apart));
            })
            | inr different ↦ inl (record {
              same = get_or-set_other mid p.0 j _ nobody different ∙ at_j j other;
              no_parent = λ b e. different (sym ((some_pair_parts p.0 j p.1 b (sym is ∙ e)).0));
            })
          ];
        }

pub over-ready : (P : Program) (T : Table) (i : ℕ) → is_ready P T (End i) ≡ true → (is_live (instance_at T i) ≡ true) × IsOver P T i
unfolding is_ready
over-ready P T i ready =
    let r = and_parts (is_live (instance_at T i)) _ ready in
    let s = and_parts (all_below (box_count P (instance_at T i).kind) (λ b. not (can_fire P (instance_at T i) b))) _ r.1 in
    (r.0, record { quiet = s.0; alone = s.1 })

pub sound-end : (P : Program) (answer answer' : Answers) (T : Table) → Sound P answer T → (i : ℕ) → is_ready P T (End i) ≡ true →
    Extends answer answer' →
    ((r : Meaning) → meaning_of P answer (instance_at T i).kind (instance_at T i).inputs ≡ Some r → answer' (instance_at T i).kind (instance_at T i).inputs ≡ Some r) →
    Sound P answer' (step P T (End i))
unfolding step
sound-end P answer answer' T sound i ready more next =
    let (live, over) = over-ready P T i ready in
    let means : Means answer' (instance_at T i) (end_of P (instance_at T i)) =
    record { meaning = _; answered = next _ (means_end P answer T sound i over); same = same_end P answer T sound i over } in
    sound-later P answer answer' T _ sound (changes-end P answer answer' T _ sound i live over more means (has_ended P answer T sound i live))
