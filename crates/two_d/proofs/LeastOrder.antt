-- The least order of a module's boxes is made by taking, again and again, the least box that is free.
use Rattle.std.specs.Prelude.{◌≡◌, ◌≢◌, ℕ, ◌<◌, ◌≤◌, List, [], ◌∷◌, ◌++◌, length, take, slice_get, slice_index_or, Option, Some, None}
use Rattle.std.specs.List.{Contains}
use Rattle.std.proofs.Common.{arith, refl, sym, ap, ◌∙◌, inl, inr, subst}
use Rattle.std.proofs.lemmas.Bool.{cases_eq, cases_lt, cases_order}
use Rattle.std.proofs.lemmas.List.{length-append, take-append-le, ext_get_or, take_all}
use Rattle.std.proofs.lemmas.List.Elements.{Contains-append_left}
use Rattle.std.proofs.lemmas.Option.{slice_get_within, slice_get-get_or}
use Rattle.two_d.specs.Places.{IsLeast}
use Rattle.two_d.specs.Programs.{ModuleForm}
use Rattle.two_d.specs.Sound.{Feeds, IsOrder, IsNotAbove, IsKeptOrder}
use Rattle.two_d.proofs.Decide.{Decided, first_from}
use Rattle.two_d.proofs.NumberLists.{AreApart, AreBelow, all_below, all_once, all_there, at_end, before_end, in_more, last_in, place_in_take, take_place, same_take}

-- box b can stand next behind these: it is none of them, and they feed it
pub record IsOpen (m : ModuleForm) (before : List ℕ) (b : ℕ) : Type 0 where
  pub within : b < length m.boxes
  pub new : Contains before b → ⊥
  pub fed : (a : ℕ) → Feeds m a b → Contains before a

-- each box of the list is the least that could stand there
abbrev pub IsGreedy : ModuleForm → List ℕ → Type 0
IsGreedy m order = (j b : ℕ) → slice_get order j ≡ Some b → IsLeast (IsOpen m (take j order)) b

pub greedy_none : (m : ModuleForm) → IsGreedy m []
greedy_none m j b is = absurd (cc)

pub greedy_more : (m : ModuleForm) (order : List ℕ) (b : ℕ) → IsGreedy m order → IsLeast (IsOpen m order) b → IsGreedy m (order ++ b ∷ [])
greedy_more m order b greedy least j c is = elim (cases_lt j (length order)) [
  | inl low ↦
      let h : j ≤ length order = omega arith in
      subst (λ l. IsLeast (IsOpen m l) c) (sym (take-append-le j order (b ∷ []) h)) (greedy j c (sym (before_end order b j low) ∙ is))
  | inr high ↦
      let lt : j < length (order ++ b ∷ []) = slice_get_within (order ++ b ∷ []) j c is in
      let here : j ≡ length order = omega (arith, length-append order (b ∷ [])) in
      let same : Some b ≡ Some c = sym (at_end order b) ∙ (ap (slice_get (order ++ b ∷ [])) (sym here) ∙ is) in
      let bc : b ≡ c = cc in
      let h : j ≤ length order = omega arith in
      subst (λ l. IsLeast (IsOpen m l) c) (sym (take-append-le j order (b ∷ []) h ∙ take_all j order (omega arith))) (subst (IsLeast (IsOpen m order)) bc least)
]

pub below_of : (m : ModuleForm) (order : List ℕ) → IsGreedy m order → AreBelow order (length m.boxes)
below_of m order greedy j b is = (greedy j b is).holds.within

pub apart_in : (m : ModuleForm) (order : List ℕ) → IsGreedy m order → AreApart order
apart_in m order greedy i j x at_i at_j less = (greedy j x at_j).holds.new (take_place order j i x less at_i)

pub valid_of : (m : ModuleForm) (order : List ℕ) → IsGreedy m order → length order ≡ length m.boxes → IsOrder m order
valid_of m order greedy long = record {
  once = long;
  each = all_there order (length m.boxes) (apart_in m order greedy) (below_of m order greedy) long;
  behind = λ j a b is feeds. place_in_take order j a ((greedy j b is).holds.fed a feeds);
}

decided_same : (o p : Option ℕ) → Decided (o ≡ p)
decided_same None None = inl refl
decided_same None (Some y) = inr (λ e. absurd (cc))
decided_same (Some x) None = inr (λ e. absurd (cc))
decided_same (Some x) (Some y) = elim (cases_eq x y) [ inl same ↦ inl (ap (λ z. Some z) same) | inr apart ↦ inr (λ e. apart (cc)) ]

-- a box of an order is free behind those before it
pub open_in : (m : ModuleForm) (order : List ℕ) → IsOrder m order → (j b : ℕ) → slice_get order j ≡ Some b → IsOpen m (take j order) b
open_in m order is j b at = record {
  within = all_below order (length m.boxes) j b is.once is.each at;
  new = λ c. let (i, less, here) = place_in_take order j b c in all_once order (length m.boxes) i j b is.once is.each here at less;
  fed = λ a feeds. let (i, less, here) = is.behind j a b at feeds in take_place order j i a less here;
}

pub least_of : (m : ModuleForm) (order : List ℕ) → IsGreedy m order → length order ≡ length m.boxes → (other : List ℕ) → IsOrder m other → IsNotAbove order other
least_of m order greedy long other is = elim (first_from (λ k. (slice_get order k ≡ slice_get other k) → ⊥) (λ k. no_or (decided_same (slice_get order k) (slice_get other k))) 0 (length m.boxes)) [
  | inl (i, low, high, differ, first) ↦ inr (
      let x = slice_index_or order i 0 in
      let y = slice_index_or other i 0 in
      let at_x : slice_get order i ≡ Some x = slice_get-get_or order i 0 (omega arith) in
      let at_y : slice_get other i ≡ Some y = (let long_too = is.once in slice_get-get_or other i 0 (omega arith)) in
      let same : (j : ℕ) → j < i → slice_get order j ≡ slice_get other j = (λ j less. yes_of (decided_same (slice_get order j) (slice_get other j)) (first j (omega arith) less)) in
      let takes : take i other ≡ take i order = (let long_too = is.once in sym (same_take order other i (omega arith) (omega arith) same)) in
      let free : IsOpen m (take i order) y = subst (λ l. IsOpen m l y) takes (open_in m other is i y at_y) in
      let less : x < y = elim (cases_order x y) [
        | inl equal ↦ absurd (differ (at_x ∙ ap (λ z. Some z) equal ∙ sym at_y))
        | inr (inl lt) ↦ lt
        | inr (inr gt) ↦ absurd ((greedy i x at_x).none_below y gt free)
      ] in
      (i, x, y, at_x, at_y, less, same))
  | inr none ↦ inl (ext_get_or 0 order other (long ∙ sym is.once) (λ i lt.
      let same = yes_of (decided_same (slice_get order i) (slice_get other i)) (none i (omega arith) (omega arith)) in
      let at_x : slice_get order i ≡ Some (slice_index_or order i 0) = slice_get-get_or order i 0 lt in
      let at_y : slice_get other i ≡ Some (slice_index_or other i 0) = (let long_too = is.once in slice_get-get_or other i 0 (omega arith)) in
      let e : Some (slice_index_or order i 0) ≡ Some (slice_index_or other i 0) = sym at_x ∙ (same ∙ at_y) in cc))
]
  where
    no_or : {P : Type 0} → Decided P → Decided (P → ⊥)
    no_or (inl p) = inr (λ np. np p)
    no_or (inr np) = inl np

    yes_of : {P : Type 0} → Decided P → ((P → ⊥) → ⊥) → P
    yes_of (inl p) nn = p
    yes_of (inr np) nn = absurd (nn np)

pub kept_of : (m : ModuleForm) (order : List ℕ) → IsGreedy m order → length order ≡ length m.boxes → IsKeptOrder m order
kept_of m order greedy long = record { valid = valid_of m order greedy long; least = least_of m order greedy long }

-- with one more box placed, those are free that were and aren't it, and those that it feeds
pub open_still : (m : ModuleForm) (order : List ℕ) (a q : ℕ) → IsOpen m order q → q ≢ a → IsOpen m (order ++ a ∷ []) q
open_still m order a q free apart = record {
  within = free.within;
  new = λ c. elim (in_more order a q c) [ inl there ↦ free.new there | inr same ↦ apart same ];
  fed = λ b feeds. Contains-append_left order (a ∷ []) b (free.fed b feeds);
}

pub open_before : (m : ModuleForm) (order : List ℕ) (a q : ℕ) → IsOpen m (order ++ a ∷ []) q → (Feeds m a q → ⊥) → IsOpen m order q × (q ≢ a)
open_before m order a q free unfed = (
  record {
    within = free.within;
    new = λ c. free.new (Contains-append_left order (a ∷ []) q c);
    fed = λ b feeds. elim (in_more order a b (free.fed b feeds)) [ inl there ↦ there | inr same ↦ absurd (unfed (subst (λ x. Feeds m x q) same feeds)) ];
  },
  λ same. free.new (subst (Contains (order ++ a ∷ [])) (sym same) (last_in order a)),
)
