-- What every table that ready events lead to has in common, and what an instance has come to when it ends.
use Rattle.std.specs.Prelude.{Option, Some, None, ◌≡◌, ℕ, zero, suc, ◌<◌, ◌≤◌, Bool, true, false, not, is_some, length}
use mathlib.Core.Path.{fun_ext}
use Rattle.std.proofs.Common.{refl, sym, ◌∙◌, ap, arith, ◌⊎◌, inl, inr}
use Rattle.std.proofs.lemmas.Bool.{cases_lt, and_from, eq-eqb}
use Rattle.std.proofs.lemmas.Option.{same_Some}
use Rattle.std.proofs.lemmas.List.{get_or_past}
use Rattle.codex_values.specs.Value.{Value}
use Rattle.two_d.specs.Programs.{Origin, North, West, South, East, Program, main_of, box_count}
use Rattle.two_d.specs.Meaning.{no_inputs, Outcome, Cell, quiet, Effect, Starts, Meaning, Answers, act, cell_of, is_known, south_of, east_of, cells_from, pulled, look_of, all_below, sum_below, all_known, summary_of, meaning_of, test_of}
use Rattle.two_d.specs.Steps.{nobody, Instance, Table, instance_at, fired, is_live, wires, firing, can_fire, is_inner, is_box_of, end_of}
use Rattle.two_d.proofs.Options.{option_map_some, same_option, some_of}
use Rattle.two_d.proofs.Below.{all_below-at, all_below-from, sum_below-le}
use Rattle.two_d.proofs.Depth.{Below, act-more, act_there, pulled-more, look-none, look-cells, same_answers}

abbrev pub one_if : Bool → ℕ
one_if true = 1
one_if false = 0

-- how many boxes of an instance have fired
abbrev pub fired_count : Program → Instance → ℕ
fired_count P x = sum_below (box_count P x.kind) (λ b. one_if (is_some (fired x b)))

-- box b of instance i waits for an instance that it started
pub record Waits (T : Table) (i b : ℕ) (c : Cell) : Type 0 where
  pub inner : ℕ
  pub live : is_live (instance_at T inner) ≡ true
  pub parent : (instance_at T inner).parent ≡ Some (i, b)
  pub nothing : c ≡ quiet

-- what box b of instance i has come to by its firing
abbrev pub Settled : Table → Answers → ℕ → ℕ → Cell → Effect → Type 0
Settled T answer i b c x = ((is_known answer x ≡ true) × (c ≡ cell_of (instance_at T i).kind b answer x)) ⊎ Waits T i b c

-- box b of instance i has fired on pulled values
pub record HasFired (P : Program) (answer : Answers) (T : Table) (i b : ℕ) (c : Cell) : Type 0 where
  pub reach : ℕ
  pub near : reach < fired_count P (instance_at T i)
  pub effect : Effect
  pub acts : act P (instance_at T i).kind (pulled P answer (instance_at T i).kind (instance_at T i).inputs reach) b ≡ Some effect
  pub settled : Settled T answer i b c effect

-- instance h is what box b of instance i started, which hasn't ended
pub record IsStarted (P : Program) (answer : Answers) (T : Table) (h i b : ℕ) : Type 0 where
  pub later : i < h
  pub live : is_live (instance_at T i) ≡ true
  pub has_fired : is_some (fired (instance_at T i) b) ≡ true
  pub reach : ℕ
  pub near : reach < fired_count P (instance_at T i)
  pub acts : act P (instance_at T i).kind (pulled P answer (instance_at T i).kind (instance_at T i).inputs reach) b
      ≡ Some (Starts (instance_at T h).kind (instance_at T h).inputs)

-- an instance that has ended with outcome o, as it is answered
pub record Means (answer : Answers) (x : Instance) (o : Outcome) : Type 0 where
  pub meaning : Meaning
  pub answered : answer x.kind x.inputs ≡ Some meaning
  pub same : meaning.outcome ≡ o

-- instance 0 is that of main
pub record IsRooted (P : Program) (T : Table) : Type 0 where
  pub there : 0 < length T
  pub kind : (instance_at T 0).kind ≡ main_of P
  pub inputs : (instance_at T 0).inputs ≡ no_inputs
  pub others : (i : ℕ) → 0 < i → i < length T → is_some (instance_at T i).parent ≡ true

pub record Sound (P : Program) (answer : Answers) (T : Table) : Type 0 where
  pub root : IsRooted P T
  pub sized : (i : ℕ) → i < length T → length (instance_at T i).cells ≡ box_count P (instance_at T i).kind
  pub fires : (i b : ℕ) (c : Cell) → fired (instance_at T i) b ≡ Some c → HasFired P answer T i b c
  pub starts : (h i b : ℕ) → is_live (instance_at T h) ≡ true → (instance_at T h).parent ≡ Some (i, b) → IsStarted P answer T h i b
  pub ends : (i : ℕ) (o : Outcome) → i < length T → (instance_at T i).outcome ≡ Some o → Means answer (instance_at T i) o

pub fired_count-le : (P : Program) (x : Instance) → fired_count P x ≤ box_count P x.kind
fired_count-le P x = sum_below-le (box_count P x.kind) _ (λ b. by (is_some (fired x b)))
  where
    by : (t : Bool) → one_if t ≤ 1
    by true = omega arith
    by false = omega arith

-- the values that the wires of an instance carry in the end
abbrev pub in_full : Program → Answers → Instance → Origin → Option Value
in_full P answer x = look_of P answer x.kind x.inputs

abbrev pub near : Program → Answers → Instance → Origin → Option Value
near P answer x = pulled P answer x.kind x.inputs (fired_count P x)

module _ (P : Program) (answer : Answers) (T : Table) (sound : Sound P answer T) (i : ℕ) where
  -- what a box did at its firing, as pulled in full
  pub acts-in_full : (b : ℕ) (c : Cell) (h : HasFired P answer T i b c) →
      act P (instance_at T i).kind (in_full P answer (instance_at T i)) b ≡ Some h.effect
  acts-in_full b c h =
      act-more P (instance_at T i).kind _ _
      (pulled-more P answer answer (same_answers answer) _ _ h.reach _ (omega (arith, h.near, fired_count-le P (instance_at T i))))
      b h.effect h.acts

  -- each value on a wire is pulled through the boxes that fired
  pub wires-near : Below (wires (instance_at T i)) (near P answer (instance_at T i))
  unfolding pulled
  wires-near = record { at = at }
    where
      further : (b : ℕ) (c : Cell) (h : HasFired P answer T i b c) →
          Below (pulled P answer (instance_at T i).kind (instance_at T i).inputs (suc h.reach)) (near P answer (instance_at T i))
      further b c h = pulled-more P answer answer (same_answers answer) _ _ (suc h.reach) _ (omega (arith, h.near))

      south : (b : ℕ) (v : Value) (c : Cell) (h : HasFired P answer T i b c) → c.south ≡ Some v →
          near P answer (instance_at T i) (South b) ≡ Some v
      south b v c h e =
          elim h.settled [
            | inl is ↦ (further b c h).at (South b) v (rw h.acts (ap (λ (d : Cell). d.south) (sym is.1) ∙ e))
            | inr waits ↦ absurd (let q = ap (λ (d : Cell). d.south) waits.nothing in cc)
          ]

      east : (b : ℕ) (v : Value) (c : Cell) (h : HasFired P answer T i b c) → c.east ≡ Some v →
          near P answer (instance_at T i) (East b) ≡ Some v
      east b v c h e =
          elim h.settled [
            | inl is ↦ (further b c h).at (East b) v (rw h.acts (ap (λ (d : Cell). d.east) (sym is.1) ∙ e))
            | inr waits ↦ absurd (let q = ap (λ (d : Cell). d.east) waits.nothing in cc)
          ]

      south-in : (b : ℕ) (v : Value) (c : Option Cell) → fired (instance_at T i) b ≡ c → south_of c ≡ Some v →
          near P answer (instance_at T i) (South b) ≡ Some v
      south-in b v None is e = absurd (cc)
      south-in b v (Some c) is e = south b v c (sound.fires i b c is) e

      east-in : (b : ℕ) (v : Value) (c : Option Cell) → fired (instance_at T i) b ≡ c → east_of c ≡ Some v →
          near P answer (instance_at T i) (East b) ≡ Some v
      east-in b v None is e = absurd (cc)
      east-in b v (Some c) is e = east b v c (sound.fires i b c is) e

      at : (o : Origin) (v : Value) → wires (instance_at T i) o ≡ Some v → near P answer (instance_at T i) o ≡ Some v
      at North v e = (pulled-more P answer answer (same_answers answer) _ _ 0 _ (omega arith)).at North v e
      at West v e = (pulled-more P answer answer (same_answers answer) _ _ 0 _ (omega arith)).at West v e
      at (South b) v e = south-in b v (fired (instance_at T i) b) refl e
      at (East b) v e = east-in b v (fired (instance_at T i) b) refl e

  -- each value on a wire is the pulled one
  pub wires-pulled : Below (wires (instance_at T i)) (in_full P answer (instance_at T i))
  wires-pulled = record {
    at = λ o v e.
        (pulled-more P answer answer (same_answers answer) _ _ _ _ (fired_count-le P (instance_at T i))).at o v (wires-near.at o v e);
  }

-- no box of instance i can fire, and what it started has ended
pub record IsOver (P : Program) (T : Table) (i : ℕ) : Type 0 where
  pub quiet : all_below (box_count P (instance_at T i).kind) (λ b. not (can_fire P (instance_at T i) b)) ≡ true
  pub alone : all_below (length T) (λ h. not (is_inner i (instance_at T h))) ≡ true

pub live_within : (T : Table) (h : ℕ) → is_live (instance_at T h) ≡ true → h < length T
live_within T h live = elim (cases_lt h (length T)) [ inl lt ↦ lt | inr past ↦ absurd (let e : false ≡ true = rw (get_or_past T h nobody past) at live in cc) ]

pub is_inner-from : (i b : ℕ) (y : Instance) → is_live y ≡ true → y.parent ≡ Some (i, b) → is_inner i y ≡ true
is_inner-from i b y live parent = and_from (is_live y) (is_box_of i y.parent) live (rw parent (eq-eqb i i refl))

-- what box b has come to, where nothing waits
pub record HasSettled (P : Program) (answer : Answers) (x : Instance) (b : ℕ) (c : Cell) : Type 0 where
  pub effect : Effect
  pub acts : act P x.kind (in_full P answer x) b ≡ Some effect
  pub known : is_known answer effect ≡ true
  pub same : c ≡ cell_of x.kind b answer effect

module _ (P : Program) (answer : Answers) (T : Table) (sound : Sound P answer T) (i : ℕ) (over : IsOver P T i) where
  no_waits : (b : ℕ) (c : Cell) → Waits T i b c → ⊥
  no_waits b c w =
      let at = all_below-at (length T) (λ h. not (is_inner i (instance_at T h))) over.alone w.inner (live_within T w.inner w.live) in
      let e : not true ≡ true = rw (is_inner-from i b (instance_at T w.inner) w.live w.parent) at at in
      cc

  pub settled_at : (b : ℕ) (c : Cell) → fired (instance_at T i) b ≡ Some c → HasSettled P answer (instance_at T i) b c
  settled_at b c is =
      let h = sound.fires i b c is in
      elim h.settled [
        | inl sure ↦ record { effect = h.effect; acts = acts-in_full P answer T sound i b c h; known = sure.0; same = sure.1 }
        | inr waits ↦ absurd (no_waits b c waits)
      ]

  -- a box that its wires enable has fired
  pub fired_if : (b : ℕ) (x : Effect) → firing P (instance_at T i) b ≡ Some x → (c : Cell) × (fired (instance_at T i) b ≡ Some c)
  fired_if b x is = some_of (fired (instance_at T i) b) (λ none.
      let at = all_below-at (box_count P (instance_at T i).kind) (λ b. not (can_fire P (instance_at T i) b)) over.quiet b (act_there P _ _ b x is) in
      let e : false ≡ true = rw (none, is) at at in cc)

  -- what wires that carry no more than the instance's make of a box, the box has come to
  pub same_cells : (look : Origin → Option Value) → Below look (wires (instance_at T i)) → (b : ℕ) (c : Cell) →
      cells_from P answer (instance_at T i).kind look b ≡ Some c → fired (instance_at T i) b ≡ Some c
  same_cells look h b c e =
      let (x, acts, is) = option_map_some (cell_of (instance_at T i).kind b answer) (act P (instance_at T i).kind look b) c e in
      let here : firing P (instance_at T i) b ≡ Some x = act-more P _ look (wires (instance_at T i)) h b x acts in
      let (d, has) = fired_if b x here in
      let s = settled_at b d has in
      let there = act-more P _ _ _ (wires-pulled P answer T sound i) b x here in
      let both : x ≡ s.effect = same_Some x s.effect (sym there ∙ s.acts) in
      has ∙ ap Some (s.same ∙ ap (cell_of (instance_at T i).kind b answer) (sym both) ∙ is)

  -- each pulled value is on its wire
  pub pulled-on_wire : (k : ℕ) → Below (pulled P answer (instance_at T i).kind (instance_at T i).inputs k) (wires (instance_at T i))
  unfolding pulled
  pulled-on_wire zero = look-none (instance_at T i).inputs (fired (instance_at T i))
  pulled-on_wire (suc k) =
      look-cells _ (cells_from P answer (instance_at T i).kind (pulled P answer (instance_at T i).kind (instance_at T i).inputs k)) _
      (same_cells _ (pulled-on_wire k))

  pub wires-in_full : wires (instance_at T i) ≡ in_full P answer (instance_at T i)
  wires-in_full = fun_ext (λ o. same_option (wires (instance_at T i) o) (in_full P answer (instance_at T i) o)
      (λ v e. (wires-pulled P answer T sound i).at o v e)
      (λ v e. (pulled-on_wire (box_count P (instance_at T i).kind)).at o v e))

  pub fired-in_full : fired (instance_at T i) ≡ cells_from P answer (instance_at T i).kind (in_full P answer (instance_at T i))
  fired-in_full = fun_ext (λ b. same_option (fired (instance_at T i) b) (cells_from P answer (instance_at T i).kind (in_full P answer (instance_at T i)) b)
      (λ c e. let s = settled_at b c e in rw s.acts (ap Some (sym s.same)))
      (λ c e. same_cells (in_full P answer (instance_at T i)) (pulled-on_wire (box_count P (instance_at T i).kind)) b c e))

  pub all_known-in_full : all_known P answer (instance_at T i).kind (in_full P answer (instance_at T i)) ≡ true
  all_known-in_full = all_below-from (box_count P (instance_at T i).kind) _
      (λ b lt. by b (act P (instance_at T i).kind (in_full P answer (instance_at T i)) b) refl)
    where
      by : (b : ℕ) (x : Option Effect) → act P (instance_at T i).kind (in_full P answer (instance_at T i)) b ≡ x → test_of (is_known answer) x ≡ true
      by b None is = refl
      by b (Some x) is =
          let (d, has) = fired_if b x (act-more P _ _ _ (pulled-on_wire (box_count P (instance_at T i).kind)) b x is) in
          let s = settled_at b d has in
          let both : x ≡ s.effect = same_Some x s.effect (sym is ∙ s.acts) in
          rw both s.known

  -- an instance that is over means its outcome
  pub means_end : meaning_of P answer (instance_at T i).kind (instance_at T i).inputs
      ≡ Some (summary_of P answer (instance_at T i).kind (in_full P answer (instance_at T i)))
  unfolding meaning_of
  means_end = rw all_known-in_full refl

  pub same_end : (summary_of P answer (instance_at T i).kind (in_full P answer (instance_at T i))).outcome ≡ end_of P (instance_at T i)
  same_end = rw (wires-in_full, fired-in_full) refl
