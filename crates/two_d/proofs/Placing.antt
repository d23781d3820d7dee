-- How one box more is placed.
use Rattle.std.specs.Prelude.{◌≡◌, ◌≢◌, ℕ, zero, suc, ◌<◌, ◌≤◌, ◌⊎◌, ◌↔◌, Bool, true, false, List, [], ◌∷◌, ◌++◌, length, slice_index_or, slice_set, replicate, Option, Some, None}
use Rattle.std.specs.List.{Contains}
use Rattle.std.proofs.Common.{arith, refl, sym, ap, ◌∙◌, inl, inr, subst}
use Rattle.std.proofs.lemmas.Bool.{cases_eq, false≢true}
use Rattle.std.proofs.lemmas.List.{get_or-set_same, get_or-set_other, length-set, length-replicate}
use Rattle.std.proofs.lemmas.List.Elements.{Contains-append_left}
use Rattle.two_d.specs.Programs.{ModuleForm}
use Rattle.two_d.specs.Sound.{Feeds}
use Rattle.two_d.specs.inner.Orders.{IsMarkedBox, AreFed, AreTargets}
use Rattle.std.specs.Prelude.{IfSome}
use Rattle.two_d.specs.declared.command.Side.{Side}
use Rattle.two_d.specs.declared.command.Side.TheVariants.{S, E}
use Rattle.two_d.proofs.Decide.{Decided}
use Rattle.two_d.proofs.NumberLists.{in_more, last_in, place_of, place_in_take}
use Rattle.std.proofs.lemmas.Option.{slice_get_within, get_or_from_slice_get}
use Rattle.two_d.proofs.LeastOrder.{IsOpen, IsGreedy, greedy_none, greedy_more, open_still, open_before}

-- some boxes are placed, and these could stand next
pub record IsUnderWay (m : ModuleForm) (placed : List Bool) (Ready : ℕ → Type 0) (order : List ℕ) : Type 0 where
  pub long : length placed ≡ length m.boxes
  pub marks : (b : ℕ) → IsMarkedBox placed b ↔ Contains order b
  pub ready : (q : ℕ) → Ready q ↔ IsOpen m order q
  pub greedy : IsGreedy m order

pub unmarked : (n b : ℕ) → IsMarkedBox (replicate n false) b → ⊥
unmarked zero b is = false≢true is
unmarked (suc n) zero is = false≢true is
unmarked (suc n) (suc b) is = unmarked n b is

-- nothing is placed
pub start : (m : ModuleForm) (Ready : ℕ → Type 0) → ((q : ℕ) → Ready q ↔ ((q < length m.boxes) × AreFed m (replicate (length m.boxes) false) q)) → IsUnderWay m (replicate (length m.boxes) false) Ready []
start m Ready ready = record {
  long = length-replicate (length m.boxes) false;
  marks = λ b. (λ is. absurd (unmarked (length m.boxes) b is), λ c. absurd (let (k, lt, is) = c in omega arith));
  ready = λ q. (
    λ r. let (lt, fed) = (ready q).0 r in record {
      within = lt;
      new = λ c. let (k, less, is) = c in omega arith;
      fed = λ a feeds. absurd (unmarked (length m.boxes) a (fed a feeds));
    },
    λ free. (ready q).1 (free.within, λ a feeds. absurd (let (k, less, is) = free.fed a feeds in omega arith)),
  );
  greedy = greedy_none m;
}

pub decided_target : (o : Option ℕ) (q : ℕ) → Decided (o ≡ Some q)
decided_target None q = inr (λ e. absurd (cc))
decided_target (Some x) q = elim (cases_eq x q) [ inl same ↦ inl (ap (λ z. Some z) same) | inr apart ↦ inr (λ e. apart (cc)) ]

module _ (m : ModuleForm) (placed : List Bool) (order : List ℕ) (next : ℕ) (long : length placed ≡ length m.boxes) (within : next < length m.boxes) (marks : (b : ℕ) → IsMarkedBox placed b ↔ Contains order b) where
  marks_more : (b : ℕ) → IsMarkedBox (slice_set placed next true) b ↔ Contains (order ++ next ∷ []) b
  marks_more b = (
    λ is. elim (cases_eq b next) [
      | inl same ↦ subst (Contains (order ++ next ∷ [])) (sym same) (last_in order next)
      | inr apart ↦ Contains-append_left order (next ∷ []) b ((marks b).0 (sym (get_or-set_other placed next b true false apart) ∙ is))
    ],
    λ c. elim (cases_eq b next) [
      | inl same ↦ subst (IsMarkedBox (slice_set placed next true)) (sym same) (get_or-set_same placed next true false (omega arith))
      | inr apart ↦ get_or-set_other placed next b true false apart ∙ (elim (in_more order next b c) [ inl there ↦ (marks b).1 there | inr same ↦ absurd (apart same) ])
    ],
  )

module _ (m : ModuleForm) (souths easts : List (Option ℕ)) (n : ℕ) (all : n ≡ length m.boxes) (are_s : AreTargets m S n n souths) (are_e : AreTargets m E n n easts) where
  pub target_of : (a q : ℕ) → q < length m.boxes → Feeds m a q → (slice_index_or souths a None ≡ Some q) ⊎ (slice_index_or easts a None ≡ Some q)
  target_of a q lt (inl (inl c)) = inl (are_s.seen a q (inl (omega arith, c)))
  target_of a q lt (inl (inr c)) = inr (are_e.seen a q (inl (omega arith, c)))
  target_of a q lt (inr (inl c)) = inl (are_s.seen a q (inr (omega arith, c)))
  target_of a q lt (inr (inr c)) = inr (are_e.seen a q (inr (omega arith, c)))

  pub target_within : (a q : ℕ) → (slice_index_or souths a None ≡ Some q) ⊎ (slice_index_or easts a None ≡ Some q) → (q < length m.boxes) × Feeds m a q
  target_within a q (inl s) = elim (are_s.leads a q s) [ inl north ↦ (omega (arith, north.0), inl (inl north.1)) | inr west ↦ (omega (arith, west.0), inr (inl west.1)) ]
  target_within a q (inr e) = elim (are_e.leads a q e) [ inl north ↦ (omega (arith, north.0), inl (inr north.1)) | inr west ↦ (omega (arith, west.0), inr (inr west.1)) ]

-- the least box that is ready was placed, and then those that it feeds were tried
pub step : (m : ModuleForm) (souths easts : List (Option ℕ)) → AreTargets m S (length m.boxes) (length m.boxes) souths → AreTargets m E (length m.boxes) (length m.boxes) easts
    → (placed : List Bool) (Ready0 Ready1 Ready2 Ready3 : ℕ → Type 0) (order : List ℕ) → IsUnderWay m placed Ready0 order
    → (next : ℕ) → Ready0 next → ((q : ℕ) → Ready0 q → next ≤ q) → ((q : ℕ) → Ready1 q ↔ (Ready0 q × (q ≢ next)))
    → ((q : ℕ) → Ready2 q ↔ (Ready1 q ⊎ ((slice_index_or souths next None ≡ Some q) × AreFed m (slice_set placed next true) q)))
    → ((q : ℕ) → Ready3 q ↔ (Ready2 q ⊎ ((slice_index_or easts next None ≡ Some q) × AreFed m (slice_set placed next true) q)))
    → IsUnderWay m (slice_set placed next true) Ready3 (order ++ next ∷ [])
step m souths easts are_s are_e placed Ready0 Ready1 Ready2 Ready3 order way next here least one two three = record {
  long = length-set placed next true ∙ way.long;
  marks = marks_now;
  ready = λ q. (there q, back q);
  greedy = greedy_more m order next way.greedy (record {
    holds = free;
    none_below = λ j less is_open. let le = least j ((way.ready j).1 is_open) in omega arith;
  });
}
  where
    free : IsOpen m order next
    free = (way.ready next).0 here

    marks_now : (b : ℕ) → IsMarkedBox (slice_set placed next true) b ↔ Contains (order ++ next ∷ []) b
    marks_now = marks_more m placed order next way.long free.within way.marks

    unplaced : (q : ℕ) → Feeds m next q → Contains (order ++ next ∷ []) q → ⊥
    unplaced q feeds c = elim (in_more order next q c) [
      | inl there ↦
          let (j, lt, at) = place_of order q there in
          let (i, less, at_i) = place_in_take order j next ((way.greedy j q at).holds.fed next feeds) in
          free.new (i, slice_get_within order i next at_i, get_or_from_slice_get order i next next at_i)
      | inr same ↦ free.new (free.fed next (subst (λ x. Feeds m next x) same feeds))
    ]

    -- what the box feeds and is fed by what is placed is open
    by_target : (q : ℕ) → (slice_index_or souths next None ≡ Some q) ⊎ (slice_index_or easts next None ≡ Some q) → AreFed m (slice_set placed next true) q → IsOpen m (order ++ next ∷ []) q
    by_target q target fed =
        let (lt, feeds) = target_within m souths easts (length m.boxes) refl are_s are_e next q target in
        record { within = lt; new = unplaced q feeds; fed = λ a f. (marks_now a).0 (fed a f) }

    there : (q : ℕ) → Ready3 q → IsOpen m (order ++ next ∷ []) q
    there q r = elim ((three q).0 r) [
      | inr (e, fed) ↦ by_target q (inr e) fed
      | inl r2 ↦ elim ((two q).0 r2) [
        | inr (s, fed) ↦ by_target q (inl s) fed
        | inl r1 ↦ let (r0, apart) = (one q).0 r1 in open_still m order next q ((way.ready q).0 r0) apart
      ]
    ]

    marked : (q : ℕ) → IsOpen m (order ++ next ∷ []) q → AreFed m (slice_set placed next true) q
    marked q is_open a feeds = (marks_now a).1 (is_open.fed a feeds)

    back : (q : ℕ) → IsOpen m (order ++ next ∷ []) q → Ready3 q
    back q is_open = elim (decided_target (slice_index_or easts next None) q) [
      | inl e ↦ (three q).1 (inr (e, marked q is_open))
      | inr no_e ↦ (three q).1 (inl (elim (decided_target (slice_index_or souths next None) q) [
        | inl s ↦ (two q).1 (inr (s, marked q is_open))
        | inr no_s ↦ (two q).1 (inl (
            let (old, apart) = open_before m order next q is_open (λ feeds. elim (target_of m souths easts (length m.boxes) refl are_s are_e next q is_open.within feeds) [ inl s ↦ no_s s | inr e ↦ no_e e ]) in
            (one q).1 ((way.ready q).1 old, apart)))
      ]))
    ]

pub if_some_below : (o : Option ℕ) (n : ℕ) → ((q : ℕ) → o ≡ Some q → q < n) → IfSome o (λ b. b < n)
if_some_below None n h = tt
if_some_below (Some x) n h = h x refl

-- a box to which a noted wire leads is there
pub target_below : (m : ModuleForm) (side : Side) (ts : List (Option ℕ)) → AreTargets m side (length m.boxes) (length m.boxes) ts → (a : ℕ) (o : Option ℕ) → o ≡ slice_index_or ts a None → (q : ℕ) → o ≡ Some q → q < length m.boxes
target_below m side ts are a o is q e = elim (are.leads a q (sym is ∙ e)) [ inl north ↦ north.0 | inr west ↦ west.0 ]
