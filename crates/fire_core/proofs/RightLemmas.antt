-- Marks that are looked at again one by one: what was right stays so.
use Rattle.std.specs.Prelude.{◌≡◌, ◌≢◌, ℕ, zero, suc, ◌+◌, ◌<◌, ◌≤◌, ◌⊎◌, Bool, false, Option, Some, None, List, [], ◌∷◌, All, length, map, slice_index_or, slice_set}
use Rattle.std.proofs.Common.{refl, sym, ◌∙◌, ap, subst, arith, inl, inr}
use Rattle.std.proofs.lemmas.Bool.{cases_eq, cases_lt}
use Rattle.std.proofs.lemmas.List.{get_or-set_same, get_or-set_other, get_or-map, length-set, length-map}
use Rattle.mark_list.specs.Marks.{at, is_marked}
use Rattle.ready_marks.specs.Slots.{SlotsView, AreReady, boxes_of, marked_event, IsRightAt}
use Rattle.ready_marks.specs.Ways.{WaysForm, AreWaysOf, ways_form}
use Rattle.ready_marks.specs.declared.ways.Ways.{Ways}
use Rattle.two_d.specs.declared.module.Module.{Module}
use Rattle.two_d.specs.Programs.{Program, ModuleForm, module_at, module_of, modules_of, no_module}
use Rattle.two_d.specs.Sound.{IsSound}
use Rattle.two_d.specs.Steps.{Table, is_ready}
use Rattle.fire_core.specs.Kept.{AreAllWays, no_ways, ways_at}
use Rattle.fire_core.specs.inner.Changes.{AreSpread, HasRoom, IsUnsetPast, AreBoxesRight, AreRightOf, StaysRight, KeepsRight, IsNear}

module _ (P : Program) (T : Table) (n : ℕ) (slots : SlotsView) (is : AreSpread P T n slots) where
  later : (i j : ℕ) → i < j → j ≤ n → at slots.starts i + boxes_of P T i + 1 ≤ at slots.starts j
  later i zero lt le = absurd (omega arith)
  later i (suc j) lt le =
      let next : suc j ≡ j + 1 = omega arith in
      let step = is.next j (omega arith) in
      rw next (elim (cases_eq i j) [
        | inl same ↦ rw same (omega (arith, step))
        | inr other ↦ omega (arith, later i j (omega arith) (omega arith), step)
      ])

  -- a mark of one of these instances stands before their end
  pub before-end : (i b : ℕ) → i < n → b ≤ boxes_of P T i → at slots.starts i + b < at slots.starts n
  before-end i b lt le = omega (arith, later i n lt (omega arith))

  -- two marks at one place are of one instance and one box
  pub one-place : (i b j d : ℕ) → i < n → b ≤ boxes_of P T i → j < n → d ≤ boxes_of P T j → at slots.starts j + d ≡ at slots.starts i + b → (j ≡ i) × (d ≡ b)
  one-place i b j d lt le lt' le' same = elim (cases_eq j i) [
    | inl e ↦ (e, omega (arith, ap (at slots.starts) e, same))
    | inr other ↦ elim (cases_lt i j) [
      | inl first ↦ absurd (omega (arith, later i j first (omega arith), same))
      | inr past ↦ absurd (omega (arith, later j i (omega arith) (omega arith), same))
    ]
  ]

-- a mark is written
pub record IsPut (P : Program) (T : Table) (old new : SlotsView) (i b : ℕ) : Type 0 where
  pub keeps : KeepsRight P T old new
  pub here : IsRightAt P T new i b

pub put-right : (P : Program) (T : Table) (old new : SlotsView) (i b : ℕ) (ready : Bool) → AreSpread P T (length T) old → i < length T → b ≤ boxes_of P T i →
    new.starts ≡ old.starts → new.marks ≡ slice_set old.marks (at old.starts i + b) ready → ready ≡ is_ready P T (marked_event (boxes_of P T i) i b) → IsPut P T old new i b
put-right P T old new i b ready spread lt le starts marks is = record {
  keeps = record {
    spread = record {
      sized = rw starts spread.sized;
      first = rw starts spread.first;
      next = λ j below. rw starts (spread.next j below);
      reach = rw (starts, marks, length-set old.marks (at old.starts i + b) ready) spread.reach;
    };
    stays = stays;
    rest = λ unset s past. rw (marks, get_or-set_other old.marks (at old.starts i + b) s ready false (λ e. omega (arith, e, before-end P T (length T) old spread i b lt le, rw starts at past)))
        (unset s (rw starts at past));
  };
  here = here;
}
  where
    within : at old.starts i + b < length old.marks
    within = omega (arith, before-end P T (length T) old spread i b lt le, spread.reach)

    here : IsRightAt P T new i b
    here = rw (starts, marks, get_or-set_same old.marks (at old.starts i + b) ready false within) is

    stays : StaysRight P T (length T) old new
    stays j d below most right = elim (cases_eq (at old.starts j + d) (at old.starts i + b)) [
      | inl same ↦ let (e, f) = one-place P T (length T) old spread i b j d lt le below most same in rw (e, f) here
      | inr other ↦ rw (starts, marks, get_or-set_other old.marks (at old.starts i + b) (at old.starts j + d) ready false other) right
    ]

pub keeps-then : (P : Program) (T : Table) (a b c : SlotsView) → KeepsRight P T a b → KeepsRight P T b c → KeepsRight P T a c
keeps-then P T a b c first second = record {
  spread = second.spread;
  stays = λ i d lt le right. second.stays i d lt le (first.stays i d lt le right);
  rest = λ unset. second.rest (first.rest unset);
}

pub keeps-same : (P : Program) (T : Table) (a : SlotsView) → AreSpread P T (length T) a → KeepsRight P T a a
keeps-same P T a spread = record { spread = spread; stays = λ i d lt le right. right; rest = λ unset. unset }

-- the marks of one more instance begin
pub record IsBegun (P : Program) (T : Table) (n : ℕ) (old new : SlotsView) : Type 0 where
  pub spread : AreSpread P T (n + 1) new
  pub stays : StaysRight P T n old new
  pub rest : IsUnsetPast n old → IsUnsetPast (n + 1) new

pub begin-next : (P : Program) (T : Table) (n boxes : ℕ) (old new : SlotsView) → AreSpread P T n old → boxes ≡ boxes_of P T n → HasRoom n boxes old →
    new.starts ≡ slice_set old.starts (n + 1) (at old.starts n + boxes + 1) → new.marks ≡ old.marks → IsBegun P T n old new
begin-next P T n boxes old new spread size room starts marks = record {
  spread = record {
    sized = rw (starts, length-set old.starts (n + 1) (at old.starts n + boxes + 1)) room.0;
    first = early 0 (omega arith) ∙ spread.first;
    next = λ i lt. elim (cases_eq i n) [
      | inl is ↦ rw (is, last, early n (omega arith), ← size) refl
      | inr other ↦ rw (early (i + 1) (omega arith), early i (omega arith)) (spread.next i (omega arith))
    ];
    reach = rw (last, marks) room.1;
  };
  stays = λ i b lt le right. rw (early i (omega arith), marks) right;
  rest = λ unset s past. rw marks (unset s (omega (arith, last, past)));
}
  where
    early : (i : ℕ) → i ≤ n → at new.starts i ≡ at old.starts i
    early i le = rw starts (get_or-set_other old.starts (n + 1) i (at old.starts n + boxes + 1) 0 (λ e. omega (arith, e, le)))

    last : at new.starts (n + 1) ≡ at old.starts n + boxes + 1
    last = rw starts (get_or-set_same old.starts (n + 1) (at old.starts n + boxes + 1) 0 room.0)

-- the marks that are kept are those of the ready events where each is right
pub ready-from : (P : Program) (T : Table) (slots : SlotsView) → AreSpread P T (length T) slots → ((i : ℕ) → i < length T → AreRightOf P T slots i) → IsUnsetPast (length T) slots →
    AreReady P T slots
ready-from P T slots spread right unset = record {
  starts = record { sized = spread.sized; first = spread.first; next = spread.next };
  reach = spread.reach;
  right = λ i b lt le. right i lt b le;
  rest = unset;
}

-- the lists have become longer
pub ready-longer : (P : Program) (T : Table) (old new : SlotsView) → AreReady P T old → ((i : ℕ) → i < length old.starts → at new.starts i ≡ at old.starts i) →
    length old.starts ≤ length new.starts → ((s : ℕ) → is_marked new.marks s ≡ is_marked old.marks s) → length old.marks ≤ length new.marks → AreReady P T new
ready-longer P T old new is starts longer marks reach = record {
  starts = record {
    sized = omega (arith, is.starts.sized);
    first = same 0 (omega arith) ∙ is.starts.first;
    next = λ i lt. rw (same (i + 1) (omega arith), same i (omega arith)) (is.starts.next i lt);
  };
  reach = rw (same (length T) (omega arith)) (omega (arith, is.reach));
  right = λ i b lt le. rw (same i (omega arith)) (marks (at old.starts i + b) ∙ is.right i b lt le);
  rest = λ s past. marks s ∙ is.rest s (rw (same (length T) (omega arith)) at past);
}
  where
    same : (i : ℕ) → i ≤ length T → at new.starts i ≡ at old.starts i
    same i le = starts i (omega (arith, is.starts.sized))

-- box b of an instance was looked at, and the boxes to which its wires lead: then all of its boxes are right
pub around-right : (P : Program) (T : Table) (s0 s1 s2 s3 : SlotsView) (ways : WaysForm) (i b : ℕ) (south east : Option ℕ) → i < length T →
    ((d : ℕ) → d < boxes_of P T i → IsRightAt P T s0 i d ⊎ IsNear ways b d) → south ≡ slice_index_or ways.south b None → east ≡ slice_index_or ways.east b None →
    KeepsRight P T s0 s1 → IsRightAt P T s1 i b → KeepsRight P T s1 s2 → ((d : ℕ) → south ≡ Some d → IsRightAt P T s2 i d) →
    KeepsRight P T s2 s3 → ((d : ℕ) → east ≡ Some d → IsRightAt P T s3 i d) → AreBoxesRight P T s3 i
around-right P T s0 s1 s2 s3 ways i b south east lt others is_south is_east first here second led third led' d below = by (others d below)
  where
    le : d ≤ boxes_of P T i
    le = omega arith

    by : IsRightAt P T s0 i d ⊎ IsNear ways b d → IsRightAt P T s3 i d
    by (inl right) = third.stays i d lt le (second.stays i d lt le (first.stays i d lt le right))
    by (inr (inl is)) = third.stays i d lt le (second.stays i d lt le (rw is here))
    by (inr (inr (inl leads))) = third.stays i d lt le (led d (is_south ∙ leads))
    by (inr (inr (inr leads))) = led' d (is_east ∙ leads)

-- all marks of an instance are right where those of its boxes were, and its end was looked at
pub all-right : (P : Program) (T : Table) (old new : SlotsView) (i : ℕ) → i < length T → AreBoxesRight P T old i → KeepsRight P T old new → IsRightAt P T new i (boxes_of P T i) → AreRightOf P T new i
all-right P T old new i lt boxes keeps end b le = elim (cases_eq b (boxes_of P T i)) [
  | inl is ↦ rw is end
  | inr other ↦ let below : b < boxes_of P T i = omega arith in keeps.stays i b lt le (boxes b below)
]

-- the ways of a module, as they are read
pub ways-read : (P : Program) (ways : List Ways) (k : ℕ) (way : Ways) → AreAllWays P (map ways_form ways) → k < length P → way ≡ slice_index_or ways k way →
    ways_form way ≡ ways_at (map ways_form ways) k
ways-read P ways k way all lt is =
    ap ways_form is ∙ sym (get_or-map ways_form ways k way no_ways (omega (arith, lt, all.sized, length-map ways ways_form)))

pub sound-modules : (P : Program) (modules : List Module) → modules_of modules ≡ P → All IsSound P → (m : ℕ) (d : Module) → m < length modules → IsSound (module_of (slice_index_or modules m d))
sound-modules P modules same sound m d lt =
    let there : m < length P = omega (arith, lt, ap length same, length-map modules module_of) in
    subst IsSound (get_or-map module_of modules m d no_module lt)
    (subst (λ (Q : Program). IsSound (slice_index_or Q m no_module)) (sym same) (sound m no_module there))

-- the ways of all modules, as they are found
pub ways-found : (P : Program) (modules : List Module) (ways : List Ways) → modules_of modules ≡ P → length ways ≡ length modules →
    ((m : ℕ) (d : Module) (w : Ways) → m < length modules → AreWaysOf (module_of (slice_index_or modules m d)) (ways_form (slice_index_or ways m w))) → AreAllWays P (map ways_form ways)
ways-found P modules ways same sized each = record {
  sized = omega (arith, length-map ways ways_form, sized, ap length same, length-map modules module_of);
  each = λ m lt.
      let below : m < length modules = omega (arith, lt, ap length same, length-map modules module_of) in
      by m below (first modules (omega arith)) (first ways (omega (arith, sized)));
}
  where
    first : {X : Type 0} (xs : List X) → 0 < length xs → X
    first [] lt = absurd (omega arith)
    first (x ∷ xs) lt = x

    by : (m : ℕ) → m < length modules → Module → Ways → AreWaysOf (module_at P m) (ways_at (map ways_form ways) m)
    by m lt d w =
        subst (λ (f : ModuleForm). AreWaysOf f (ways_at (map ways_form ways) m)) (sym (get_or-map module_of modules m d no_module lt) ∙ ap (λ (Q : Program). slice_index_or Q m no_module) same)
        (subst (AreWaysOf (module_of (slice_index_or modules m d))) (sym (get_or-map ways_form ways m w no_ways (omega (arith, lt, sized)))) (each m d w lt))
