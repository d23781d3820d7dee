-- After an event each mark is right, or it is one of those that are due.
use Rattle.std.specs.Prelude.{◌≡◌, ◌≢◌, ℕ, zero, suc, ◌+◌, ◌<◌, ◌≤◌, ◌⊎◌, ◌==◌, ◌&&◌, Option, Some, None, List, Bool, true, false, not, if◌then◌else◌, length, slice_get, slice_index_or}
use Rattle.std.proofs.Common.{refl, sym, ◌∙◌, ap, subst, arith, inl, inr}
use Rattle.std.proofs.lemmas.Bool.{cases_eq, cases_lt}
use Rattle.std.proofs.lemmas.Option.{some_pair_parts}
use Rattle.mark_list.specs.Marks.{at, is_marked}
use Rattle.ready_marks.specs.Slots.{SlotsView, AreReady, boxes_of, marked_event, IsRightAt}
use Rattle.ready_marks.specs.Ways.{WaysForm, AreWaysOf, Leads}
use Rattle.ready_marks.proofs.MarkedReady.{event-box, event-end}
use Rattle.ready_marks.proofs.Touched.{IsApart, can_fire-apart}
use Rattle.two_d.specs.Good.{IsGood}
use Rattle.two_d.specs.Meaning.{Cell, Outcome, all_below}
use Rattle.two_d.specs.Programs.{Program, ModuleForm, BoxForm, module_at, box_at, box_count}
use Rattle.two_d.specs.declared.module.Origin.{Origin}
use Rattle.two_d.specs.Steps.{Table, Instance, Event, Fire, End, instance_at, is_live, can_fire, is_ready, with_cell, ended, step, IsStateOf}
use Rattle.two_d.proofs.Below.{all_below-at}
use Rattle.two_d.proofs.Ending.{over-ready}
use Rattle.fire_core.specs.Kept.{KeptView, IsKeptOf, AreAllWays, ways_at}
use Rattle.fire_core.specs.inner.Changes.{maker_of, told_by, HasRoom, IsNear, IsDueAt, IsDue, IsUnsetPast, AreBoxesRight, AreRightOf, StaysRight, KeepsRight, ways_in}
use Rattle.fire_core.specs.inner.Instances.{inner_count}
use Rattle.fire_core.specs.inner.Ready.{is_quiet}
use Rattle.fire_core.proofs.ChangeLemmas.{IsSame, HasTold, HasEnded, BecomesOf, IsChange, is_change, kind-same, fires-box}
use Rattle.fire_core.proofs.EndLemmas.{can_end}
use Rattle.fire_core.proofs.MarkLemmas.{may_fire}
use Rattle.fire_core.proofs.ReadyLemmas.{alone-count}
use Rattle.fire_core.proofs.RightLemmas.{ready-from}
use Rattle.fire_core.proofs.StateLemmas.{state_sound, state-step, kinds_fit}

-- whether the end of an instance is ready that has so many inner ones
abbrev pub end_by : Program → Instance → ℕ → Bool
end_by P x n = is_live x && (is_quiet P x (box_count P x.kind) && (n == 0))

pub ready-end : (P : Program) (T : Table) (i : ℕ) → is_ready P T (End i) ≡ end_by P (instance_at T i) (inner_count i T)
unfolding is_ready
ready-end P T i = rw (alone-count P T i) refl

pub ready-fire : (P : Program) (T : Table) (i b : ℕ) → is_ready P T (Fire i b) ≡ (is_live (instance_at T i) && can_fire P (instance_at T i) b)
unfolding is_ready
ready-fire P T i b = refl

-- whether what mark d stands for is ready
abbrev mark_by : Program → Instance → ℕ → ℕ → Bool
mark_by P x n d = if d == box_count P x.kind then end_by P x n else (is_live x && can_fire P x d)

ready-mark : (P : Program) (T : Table) (i d : ℕ) → is_ready P T (marked_event (boxes_of P T i) i d) ≡ mark_by P (instance_at T i) (inner_count i T) d
ready-mark P T i d = by (d == boxes_of P T i)
  where
    by : (t : Bool) → is_ready P T (if t then End i else Fire i d)
        ≡ (if t then end_by P (instance_at T i) (inner_count i T) else (is_live (instance_at T i) && can_fire P (instance_at T i) d))
    by true = ready-end P T i
    by false = ready-fire P T i d

ready-same : (P : Program) (T U : Table) (k d : ℕ) → IsSame T U k →
    is_ready P U (marked_event (boxes_of P U k) k d) ≡ is_ready P T (marked_event (boxes_of P T k) k d)
ready-same P T U k d same =
    ready-mark P U k d
    ∙ (ap (λ (x : Instance). mark_by P x (inner_count k U) d) same.is
    ∙ (ap (λ n. mark_by P (instance_at T k) n d) same.counts ∙ sym (ready-mark P T k d)))

and-false : (t : Bool) → (t && false) ≡ false
and-false true = refl
and-false false = refl

-- no box of an instance that has ended can fire, nor could one before
ready-ended : (P : Program) (T U : Table) (k d : ℕ) (o : Outcome) → instance_at U k ≡ ended (instance_at T k) o → is_ready P T (End k) ≡ true → d < boxes_of P T k →
    is_ready P U (Fire k d) ≡ is_ready P T (Fire k d)
ready-ended P T U k d o is ready lt =
    let over = over-ready P T k ready in
    let off : not (can_fire P (instance_at T k) d) ≡ true = all_below-at (boxes_of P T k) (λ b. not (can_fire P (instance_at T k) b)) over.1.quiet d lt in
    let none : is_ready P T (Fire k d) ≡ false =
    ready-fire P T k d ∙ (ap (λ t. is_live (instance_at T k) && t) (off-is (can_fire P (instance_at T k) d) off) ∙ and-false (is_live (instance_at T k))) in
    ready-fire P U k d ∙ (ap (λ (x : Instance). is_live x && can_fire P x d) is ∙ sym none)
  where
    off-is : (t : Bool) → not t ≡ true → t ≡ false
    off-is true e = absurd (cc)
    off-is false e = refl

-- no wire leads from box b to box d where none is noted
apart-from : (m : ModuleForm) (ways : WaysForm) (b d : ℕ) (row : BoxForm) → AreWaysOf m ways → slice_get m.boxes d ≡ Some row →
    (Leads ways.south b d → ⊥) → (Leads ways.east b d → ⊥) → IsApart b row
apart-from m ways b d row are there south east = record {
  n_south = λ e. south (are.south d b (inl (row, there, e)));
  n_east = λ e. east (are.east d b (inl (row, there, e)));
  w_south = λ e. south (are.south d b (inr (row, there, e)));
  w_east = λ e. east (are.east d b (inr (row, there, e)));
}

-- box d isn't b, and no wire that is noted leads to it
record IsFar (ways : WaysForm) (b d : ℕ) : Type 0 where
  other : d ≢ b
  south : Leads ways.south b d → ⊥
  east : Leads ways.east b d → ⊥

leads-or : (o : Option ℕ) (d : ℕ) → (o ≡ Some d) ⊎ (o ≡ Some d → ⊥)
leads-or None d = inr (λ e. cc)
leads-or (Some t) d = elim (cases_eq t d) [
  | inl is ↦ inl (ap Some is)
  | inr other ↦ inr (λ e. other (let same : t ≡ d = cc in same))
]

near-or : (ways : WaysForm) (b d : ℕ) → IsNear ways b d ⊎ IsFar ways b d
near-or ways b d = elim (cases_eq d b) [
  | inl is ↦ inl (inl is)
  | inr other ↦ elim (leads-or (slice_index_or ways.south b None) d) [
    | inl south ↦ inl (inr (inl south))
    | inr no_south ↦ elim (leads-or (slice_index_or ways.east b None) d) [
      | inl east ↦ inl (inr (inr east))
      | inr no_east ↦ inr (record { other = other; south = no_south; east = no_east })
    ]
  ]
]

-- a box that isn't near one that has come to something is ready as before
ready-far : (P : Program) (T U : Table) (ways : WaysForm) (k b d : ℕ) (c : Cell) → instance_at U k ≡ with_cell (instance_at T k) b c →
    AreWaysOf (module_at P (instance_at T k).kind) ways → d < boxes_of P T k → IsFar ways b d → is_ready P U (Fire k d) ≡ is_ready P T (Fire k d)
ready-far P T U ways k b d c is are lt far =
    ready-fire P U k d
    ∙ (ap (λ (x : Instance). is_live x && can_fire P x d) is
    ∙ (ap (λ t. is_live (instance_at T k) && t)
    (can_fire-apart (instance_at T k) b c P d far.other (λ row there. apart-from (module_at P (instance_at T k).kind) ways b d row are there far.south far.east))
    ∙ sym (ready-fire P T k d)))

module _ (P : Program) (T U : Table) (kept : KeptView) (e : Event) (ready : is_ready P T e ≡ true) (of : IsKeptOf P T kept) where
  box-mark : (k d : ℕ) → k < length T → d < boxes_of P T k → (instance_at U k).kind ≡ (instance_at T k).kind → is_ready P U (Fire k d) ≡ is_ready P T (Fire k d) → IsRightAt P U kept.slots k d
  box-mark k d lt below kind same =
      of.slots.right k d lt (omega arith)
      ∙ (ap (is_ready P T) (event-box (boxes_of P T k) k d below)
      ∙ (sym same ∙ ap (is_ready P U) (sym (event-box (boxes_of P U k) k d (rw kind below)))))

  due-mark : (k d : ℕ) → k < length T → (instance_at T k).kind < length P → BecomesOf T U e k → d ≤ boxes_of P U k →
      IsRightAt P U kept.slots k d ⊎ IsDueAt P U kept.ways e (told_by T e) k d
  due-mark k d lt there (inl same) le =
      let le' : d ≤ boxes_of P T k = rw (kind-same T U e k (inl same)) at le in
      inl (of.slots.right k d lt le' ∙ sym (ready-same P T U k d same))
  due-mark k d lt there (inr (inl told)) le = elim (cases_eq d (boxes_of P U k)) [
    | inl is ↦ inr (inr (told.bx, told.told, inl is))
    | inr other ↦ elim (near-or (ways_in kept.ways U k) told.bx d) [
      | inl near ↦ inr (inr (told.bx, told.told, inr near))
      | inr far ↦
          let kind = kind-same T U e k (inr (inl told)) in
          let below' : d < boxes_of P U k = omega arith in
          let below : d < boxes_of P T k = rw kind at below' in
          let far' : IsFar (ways_in kept.ways T k) told.bx d = rw kind at far in
          inl (box-mark k d lt below kind (ready-far P T U (ways_in kept.ways T k) k told.bx d told.cell told.is (of.ways.each (instance_at T k).kind there) below far'))
    ]
  ]
  due-mark k d lt there (inr (inr over)) le = elim (cases_eq d (boxes_of P U k)) [
    | inl is ↦ inr (inl (over.made, is))
    | inr other ↦
        let kind = kind-same T U e k (inr (inr over)) in
        let below' : d < boxes_of P U k = omega arith in
        let below : d < boxes_of P T k = rw kind at below' in
        inl (box-mark k d lt below kind (ready-ended P T U k d over.outcome over.is (rw over.made at ready) below))
  ]

-- the instance that makes a ready event is there
pub maker-there : (P : Program) (T : Table) (e : Event) → IsGood P → IsStateOf P T → is_ready P T e ≡ true → maker_of e < length T
maker-there P T (Fire i b) good state ready = (may_fire P T i b good state ready).within
maker-there P T (End i) good state ready = (can_end P T i good state ready).within

-- so is the box that comes to something
told-there : (P : Program) (T : Table) (e : Event) → IsGood P → IsStateOf P T → is_ready P T e ≡ true → (i b : ℕ) → told_by T e ≡ Some (i, b) → (i < length T) × (b < boxes_of P T i)
told-there P T (Fire j d) good state ready i b is =
    let (first, second) = some_pair_parts j i d b is in
    rw (← first, ← second) ((may_fire P T j d good state ready).within, fires-box P T j d ready)
told-there P T (End j) good state ready i b is =
    let can = can_end P T j good state ready in
    let parent = can.parent (i, b) is in
    let (n, sound) = state_sound P T state in
    let lt : i < length T = omega (arith, can.within, parent.earlier) in
    (lt, omega (arith, parent.has, sound.sized i lt))

pub due-step : (P : Program) (T U : Table) (kept : KeptView) (e : Event) (told : Option (ℕ × ℕ)) (n : ℕ) → IsGood P → IsStateOf P T → is_ready P T e ≡ true → IsKeptOf P T kept →
    U ≡ step P T e → told ≡ told_by T e → n ≡ length T → HasRoom n kept.most kept.slots →
    IsDue P U kept e told n
due-step P T U kept e told n good state ready of is tells all room = record {
  spread = record {
    sized = rw all of.slots.starts.sized;
    first = of.slots.starts.first;
    next = λ i lt. let below : i < length T = omega arith in rw (kind i below) (of.slots.starts.next i below);
    reach = rw all of.slots.reach;
  };
  rest = rw all of.slots.rest;
  low = rw (all, is) change.low;
  high = rw (all, is) change.high;
  room = λ more.
      let most : boxes_of P U n ≤ kept.most = of.most.all (instance_at U n).kind (kinds_fit P U good after n more) in
      (room.0, omega (arith, room.1, most));
  ways = of.ways;
  most = of.most;
  maker_there = rw all (maker-there P T e good state ready);
  told_there = λ i b here.
      let (lt, below) = told-there P T e good state ready i b (sym tells ∙ here) in
      (omega (arith, lt), rw (kind i lt) below);
  marks = λ i d lt le. let below : i < length T = omega arith in rw tells (due-mark P T U kept e ready of i d below (kinds_fit P T good state i below) (each i below) le);
}
  where
    after : IsStateOf P U
    after = subst (IsStateOf P) (sym is) (state-step P T e state ready)

    change : IsChange T (step P T e) e
    change = is_change P T e good state ready

    each : (k : ℕ) → k < length T → BecomesOf T U e k
    each k lt = rw is (change.each k lt)

    kind : (k : ℕ) → k < length T → (instance_at U k).kind ≡ (instance_at T k).kind
    kind k lt = kind-same T U e k (each k lt)

all_below-same : (n : ℕ) (f g : ℕ → Bool) → ((b : ℕ) → b < n → f b ≡ g b) → all_below n f ≡ all_below n g
unfolding all_below
all_below-same zero f g same = refl
all_below-same (suc n) f g same = ap (λ t. t && f n) (all_below-same n f g (λ b lt. same b (omega arith))) ∙ ap (λ t. all_below n g && t) (same n (omega arith))

-- where the marks of its boxes are right, none is set just where no box can fire
quiet-right : (P : Program) (T : Table) (slots : SlotsView) (i : ℕ) → AreBoxesRight P T slots i → is_live (instance_at T i) ≡ true →
    all_below (boxes_of P T i) (λ b. not (is_marked slots.marks (at slots.starts i + b))) ≡ is_quiet P (instance_at T i) (boxes_of P T i)
quiet-right P T slots i right live =
    all_below-same (boxes_of P T i) _ _ (λ b lt. ap not
    (right b lt
    ∙ (ap (is_ready P T) (event-box (boxes_of P T i) i b lt)
    ∙ (ready-fire P T i b ∙ ap (λ t. t && can_fire P (instance_at T i) b) live))))

-- what was looked at for an end tells whether it is ready
pub end-right : (P : Program) (T : Table) (slots : SlotsView) (i boxes inner : ℕ) (x : Instance) (ready : Bool) → AreBoxesRight P T slots i →
    x ≡ instance_at T i → boxes ≡ boxes_of P T i → inner ≡ inner_count i T →
    ready ≡ (is_live x && (all_below boxes (λ b. not (is_marked slots.marks (at slots.starts i + b))) && (inner == 0))) →
    ready ≡ is_ready P T (marked_event (boxes_of P T i) i (boxes_of P T i))
end-right P T slots i boxes inner x ready right is size counts looked =
    (rw (is, size, counts) at looked)
    ∙ (by (is_live (instance_at T i)) refl
    ∙ (sym (ready-end P T i) ∙ ap (is_ready P T) (sym (event-end (boxes_of P T i) i))))
  where
    none : Bool
    none = inner_count i T == 0

    by : (live : Bool) → is_live (instance_at T i) ≡ live →
        (live && (all_below (boxes_of P T i) (λ b. not (is_marked slots.marks (at slots.starts i + b))) && none))
        ≡ (live && (is_quiet P (instance_at T i) (box_count P (instance_at T i).kind) && none))
    by true live = ap (λ t. t && none) (quiet-right P T slots i right live)
    by false live = refl

-- what is due is looked at in turn: a new instance, what is around a box, and an end
module _ (P : Program) (U : Table) (kept : KeptView) (e : Event) (told : Option (ℕ × ℕ)) (n : ℕ) (due : IsDue P U kept e told n)
    (s1 : SlotsView) (stays : StaysRight P U n kept.slots s1) where
  pub due-told : (i b : ℕ) → told ≡ Some (i, b) → (d : ℕ) → d < boxes_of P U i → IsRightAt P U s1 i d ⊎ IsNear (ways_in kept.ways U i) b d
  due-told i b is d lt = by (due.marks i d (due.told_there i b is).0 le)
    where
      le : d ≤ boxes_of P U i
      le = omega arith

      by : IsRightAt P U kept.slots i d ⊎ IsDueAt P U kept.ways e told i d → IsRightAt P U s1 i d ⊎ IsNear (ways_in kept.ways U i) b d
      by (inl right) = inl (stays i d (due.told_there i b is).0 le right)
      by (inr (inl (made, end))) = absurd (omega (arith, lt, end))
      by (inr (inr (b', is', inl end))) = absurd (omega (arith, lt, end))
      by (inr (inr (b', is', inr near))) = inr (rw (some_pair_parts i i b' b (sym is' ∙ is)).1 at near)

  module _ (s2 : SlotsView) (keeps : KeepsRight P U s1 s2) (all : (i b : ℕ) → told ≡ Some (i, b) → AreRightOf P U s2 i) where
    pub due-end : (i : ℕ) → e ≡ End i → AreBoxesRight P U s2 i
    due-end i is d lt = by (due.marks i d there le)
      where
        there : i < n
        there = rw is at due.maker_there

        le : d ≤ boxes_of P U i
        le = omega arith

        by : IsRightAt P U kept.slots i d ⊎ IsDueAt P U kept.ways e told i d → IsRightAt P U s2 i d
        by (inl right) = keeps.stays i d (omega (arith, there, due.low)) le (stays i d there le right)
        by (inr (inl (made, end))) = absurd (omega (arith, lt, end))
        by (inr (inr (b, tells, near))) = all i b tells d le

    pub renewed : (s3 : SlotsView) → KeepsRight P U s2 s3 → ((i : ℕ) → e ≡ End i → IsRightAt P U s3 i (boxes_of P U i)) →
        (n < length U → AreRightOf P U s1 n) → (IsUnsetPast n kept.slots → IsUnsetPast (length U) s1) → AreReady P U s3
    renewed s3 keeps' end new rest = ready-from P U s3 keeps'.spread right (keeps'.rest (keeps.rest (rest due.rest)))
      where
        old : (i d : ℕ) → i < n → i < length U → d ≤ boxes_of P U i → IsRightAt P U kept.slots i d ⊎ IsDueAt P U kept.ways e told i d → IsRightAt P U s3 i d
        old i d there lt le (inl right) = keeps'.stays i d lt le (keeps.stays i d lt le (stays i d there le right))
        old i d there lt le (inr (inl (made, is))) = rw is (end i made)
        old i d there lt le (inr (inr (b, tells, near))) = keeps'.stays i d lt le (all i b tells d le)

        right : (i : ℕ) → i < length U → AreRightOf P U s3 i
        right i lt d le = elim (cases_lt i n) [
          | inl before ↦ old i d before lt le (due.marks i d before le)
          | inr past ↦ let is : i ≡ n = omega (arith, lt, past, due.high) in
              let le' : d ≤ boxes_of P U n = rw is at le in
              let lt' : n < length U = omega (arith, lt, is) in
              rw is (keeps'.stays n d lt' le' (keeps.stays n d lt' le' (new lt' d le')))
        ]
