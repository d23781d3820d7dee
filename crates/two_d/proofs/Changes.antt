-- What an event keeps of a sound table.
use Rattle.std.specs.Prelude.{Option, Some, None, ◌≡◌, ℕ, ◌<◌, ◌≤◌, true, is_some, length}
use Rattle.std.proofs.Common.{refl, sym, ◌∙◌, ap, arith, ◌⊎◌, inl, inr}
use Rattle.std.proofs.lemmas.Bool.{cases_lt}
use Rattle.std.proofs.lemmas.List.{get_or_past}
use Rattle.two_d.specs.Programs.{Program, box_count}
use Rattle.two_d.specs.Meaning.{Outcome, Cell, Effect, Answers, act, pulled}
use Rattle.two_d.specs.Steps.{nobody, Instance, Table, instance_at, fired, is_live}
use Rattle.two_d.proofs.Depth.{Extends, act-more, by_answer-known, pulled-more}
use Rattle.two_d.proofs.State.{fired_count, Waits, Settled, HasFired, IsStarted, Means, Sound, live_within}

-- what no event takes from an instance
pub record Kept (P : Program) (x y : Instance) : Type 0 where
  pub kind : y.kind ≡ x.kind
  pub inputs : y.inputs ≡ x.inputs
  pub parent : y.parent ≡ x.parent
  pub more : fired_count P x ≤ fired_count P y
  pub has : (b : ℕ) → is_some (fired x b) ≡ true → is_some (fired y b) ≡ true

-- the table U after T, by an event
pub record Changes (P : Program) (answer answer' : Answers) (T U : Table) : Type 0 where
  pub answers : Extends answer answer'
  pub kept : (i : ℕ) → i < length T → Kept P (instance_at T i) (instance_at U i)
  pub longer : length T ≤ length U
  pub born : (i : ℕ) → length T ≤ i → i < length U → is_some (instance_at U i).parent ≡ true
  pub sized : (i : ℕ) → i < length U → length (instance_at U i).cells ≡ box_count P (instance_at U i).kind
  pub fires : (i b : ℕ) (c : Cell) → fired (instance_at U i) b ≡ Some c →
      HasFired P answer' U i b c ⊎ ((i < length T) × (fired (instance_at T i) b ≡ Some c) × (Waits T i b c → Waits U i b c))
  pub starts : (h i b : ℕ) → is_live (instance_at U h) ≡ true → (instance_at U h).parent ≡ Some (i, b) →
      IsStarted P answer' U h i b ⊎ ((is_live (instance_at T h) ≡ true) × (is_live (instance_at U i) ≡ true))
  pub ends : (i : ℕ) (o : Outcome) → i < length U → (instance_at U i).outcome ≡ Some o →
      Means answer' (instance_at U i) o ⊎ ((i < length T) × ((instance_at T i).outcome ≡ Some o))

module _ (P : Program) (answer answer' : Answers) (T U : Table) (sound : Sound P answer T) (change : Changes P answer answer' T U) where
  acts-later : (i : ℕ) → i < length T → (reach b : ℕ) (x : Effect) →
      act P (instance_at T i).kind (pulled P answer (instance_at T i).kind (instance_at T i).inputs reach) b ≡ Some x →
      act P (instance_at U i).kind (pulled P answer' (instance_at U i).kind (instance_at U i).inputs reach) b ≡ Some x
  acts-later i lt reach b x e =
      rw ((change.kept i lt).kind, (change.kept i lt).inputs)
      (act-more P _ _ _ (pulled-more P answer answer' change.answers _ _ reach reach (omega arith)) b x e)

  settled-later : (i b : ℕ) (c : Cell) (x : Effect) → i < length T → (Waits T i b c → Waits U i b c) → Settled T answer i b c x → Settled U answer' i b c x
  settled-later i b c x lt wait (inl (known, is)) =
      inl (
        by_answer-known _ _ _ answer answer' change.answers x known ∙ known,
        rw ((change.kept i lt).kind) (is ∙ sym (by_answer-known _ _ _ answer answer' change.answers x known)),
      )
  settled-later i b c x lt wait (inr w) = inr (wait w)

  fires-later : (i b : ℕ) (c : Cell) → i < length T → (Waits T i b c → Waits U i b c) → HasFired P answer T i b c → HasFired P answer' U i b c
  fires-later i b c lt wait h = record {
    reach = h.reach;
    near = omega (arith, h.near, (change.kept i lt).more);
    effect = h.effect;
    acts = acts-later i lt h.reach b h.effect h.acts;
    settled = settled-later i b c h.effect lt wait h.settled;
  }

  starts-later : (h i b : ℕ) → is_live (instance_at T h) ≡ true → is_live (instance_at U i) ≡ true →
      IsStarted P answer T h i b → IsStarted P answer' U h i b
  starts-later h i b live up s =
      let lt : h < length T = live_within T h live in
      let lti : i < length T = live_within T i s.live in
      record {
        later = s.later;
        live = up;
        has_fired = (change.kept i lti).has b s.has_fired;
        reach = s.reach;
        near = omega (arith, s.near, (change.kept i lti).more);
        acts = rw ((change.kept h lt).kind, (change.kept h lt).inputs) (acts-later i lti s.reach b _ s.acts);
      }

  pub sound-later : Sound P answer' U
  sound-later = record {
    root = record {
      there = omega (arith, sound.root.there, change.longer);
      kind = (change.kept 0 sound.root.there).kind ∙ sound.root.kind;
      inputs = (change.kept 0 sound.root.there).inputs ∙ sound.root.inputs;
      others = λ i up lt. elim (cases_lt i (length T)) [
        | inl was ↦ ap (λ (p : Option (ℕ × ℕ)). is_some p) (change.kept i was).parent ∙ sound.root.others i up was
        | inr past ↦ change.born i past lt
      ];
    };
    sized = change.sized;
    fires = λ i b c e. elim (change.fires i b c e) [ inl h ↦ h | inr (lt, was, wait) ↦ fires-later i b c lt wait (sound.fires i b c was) ];
    starts = λ h i b live parent. elim (change.starts h i b live parent) [
      | inl s ↦ s
      | inr (was, up) ↦ starts-later h i b was up (sound.starts h i b was (sym (change.kept h (live_within T h was)).parent ∙ parent))
    ];
    ends = λ i o lt e. elim (change.ends i o lt e) [
      | inl m ↦ m
      | inr (was, same) ↦ let m = sound.ends i o was same in
          record {
            meaning = m.meaning;
            answered = rw ((change.kept i was).kind, (change.kept i was).inputs) (change.answers.at _ _ m.meaning m.answered);
            same = m.same;
          }
    ];
  }

-- with more answers a table is as sound
pub sound-more : (P : Program) (answer answer' : Answers) → Extends answer answer' → (T : Table) → Sound P answer T → Sound P answer' T
sound-more P answer answer' more T sound = sound-later P answer answer' T T sound (record {
  answers = more;
  kept = λ i lt. record { kind = refl; inputs = refl; parent = refl; more = omega arith; has = λ b e. e };
  longer = omega arith;
  born = λ i past lt. absurd (omega arith);
  sized = sound.sized;
  fires = λ i b c e. inr (within i b c e, e, λ w. w);
  starts = λ h i b live parent. inr (live, (sound.starts h i b live parent).live);
  ends = λ i o lt e. inr (lt, e);
})
  where
    within : (i b : ℕ) (c : Cell) → fired (instance_at T i) b ≡ Some c → i < length T
    within i b c e = elim (cases_lt i (length T)) [
      | inl lt ↦ lt
      | inr past ↦ absurd (let q : None ≡ Some c = rw (get_or_past T i nobody past) at e in cc)
    ]
