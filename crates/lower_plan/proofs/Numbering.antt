-- Wires get their slots one after the other.
use Rattle.std.specs.Prelude.{Option, Some, None, ◌≡◌, ℕ, zero, suc, ◌+◌, ◌*◌, ◌<◌, ◌≤◌, if◌then◌else◌, Bool, true, false, List, [], ◌∷◌, ◌++◌, length, take, slice_get, IfSome}
use Rattle.std.specs.Option.{option_map}
use Rattle.std.proofs.Common.{refl, sym, ◌∙◌, ap, subst, arith, ◌⊎◌, inl, inr, length-append}
use Rattle.std.proofs.lemmas.List.{append-nil, take_all}
use Rattle.two_d.specs.declared.module.Origin.{Origin}
use Rattle.two_d.specs.declared.module.Origin.TheVariants.{North, West, South, East}
use Rattle.two_d.specs.declared.module.To.{To}
use Rattle.two_d.specs.declared.module.To.TheVariants.{N, W, Exit}
use Rattle.two_d.specs.Programs.{BoxForm, ModuleForm}
use Rattle.two_d.specs.Sound.{Comes, Exists, IsSound}
use Rattle.two_d.specs.Weights.{boxes_part, part}
use Rattle.lower_plan.specs.declared.slots.Slots.{Slots}
use Rattle.lower_plan.specs.Plans.{box_inputs, these, origins_named, wire_starts, is_same, slot_in}
use Rattle.lower_plan.specs.inner.Numbers.{slot_for, HasPlace, Given, Numbers}
use Rattle.lower_plan.proofs.Wires.{same_is}

-- one wire more, that isn't there yet
pub slot_next : (os : List Origin) (o p : Origin) → slot_in os o ≡ None → slot_in (os ++ o ∷ []) p ≡ (if is_same o p then Some (length os) else slot_in os p)
slot_next [] o p none = refl
slot_next (q ∷ qs) o p none = by (slot_next qs o p) (is_same q o) refl (slot_in qs o) refl none
  where
    from : (t u : Bool) (r : Option ℕ) → (t ≡ true → u ≡ false) →
        (if t then Some 0 else option_map suc (if u then Some (length qs) else r)) ≡ (if u then Some (suc (length qs)) else (if t then Some 0 else option_map suc r))
    from true true r h = absurd (let e = h refl in cc)
    from true false r h = refl
    from false true r h = refl
    from false false r h = refl

    not_both : is_same q o ≡ false → (u : Bool) → is_same o p ≡ u → is_same q p ≡ true → u ≡ false
    not_both apart false e f = refl
    not_both apart true e f = absurd (let g : is_same q o ≡ true = rw (same_is o p e) f in let h : true ≡ false = sym g ∙ apart in cc)

    by : (slot_in qs o ≡ None → slot_in (qs ++ o ∷ []) p ≡ (if is_same o p then Some (length qs) else slot_in qs p)) → (t : Bool) → is_same q o ≡ t → (r : Option ℕ) → slot_in qs o ≡ r →
        (if t then Some 0 else option_map suc r) ≡ None →
        slot_in (q ∷ qs ++ o ∷ []) p ≡ (if is_same o p then Some (suc (length qs)) else slot_in (q ∷ qs) p)
    by rest true e r f h = absurd (cc)
    by rest false e None f h =
        ap (λ z. if is_same q p then Some 0 else option_map suc z) (rest f)
        ∙ from (is_same q p) (is_same o p) (slot_in qs p) (λ g. not_both e (is_same o p) refl g)
    by rest false e (Some k) f h = absurd (cc)

-- a wire that comes from none of these ends has no slot among them
pub no_slot : (ends : List (Option Origin)) (o : Origin) → ((i : ℕ) → slice_get ends i ≡ Some (Some o) → ⊥) → slot_in (these ends) o ≡ None
no_slot [] o h = refl
no_slot (None ∷ ends) o h = no_slot ends o (λ i e. h (suc i) e)
no_slot (Some p ∷ ends) o h = by (no_slot ends o (λ i e. h (suc i) e)) (is_same p o) refl
  where
    by : slot_in (these ends) o ≡ None → (t : Bool) → is_same p o ≡ t → (if t then Some 0 else option_map suc (slot_in (these ends) o)) ≡ None
    by rest true e = absurd (h 0 (ap (λ q. Some (Some q)) (same_is p o e)))
    by rest false e = ap (option_map suc) rest

get_take : {A : Type 0} (xs : List A) (j i : ℕ) (x : A) → slice_get (take j xs) i ≡ Some x → (i < j) × (slice_get xs i ≡ Some x)
get_take [] zero i x e = absurd (cc)
get_take [] (suc j) i x e = absurd (cc)
get_take (y ∷ xs) zero i x e = absurd (cc)
get_take (y ∷ xs) (suc j) zero x e = (omega arith, e)
get_take (y ∷ xs) (suc j) (suc i) x e = let r = get_take xs j i x e in (omega (arith, r.0), r.1)

these_next : (ends : List (Option Origin)) (j : ℕ) (end : Option Origin) → slice_get ends j ≡ Some end → these (take (suc j) ends) ≡ these (take j ends) ++ these (end ∷ [])
these_next [] j end e = absurd (cc)
these_next (x ∷ ends) zero end e = let f : x ≡ end = cc in rw f refl
these_next (None ∷ ends) (suc j) end e = these_next ends j end e
these_next (Some o ∷ ends) (suc j) end e = ap (λ os. o ∷ os) (these_next ends j end e)

-- where the ends of boxes and exits stand
pub get_n : (rows : List BoxForm) (b : ℕ) (row : BoxForm) → slice_get rows b ≡ Some row → slice_get (box_inputs rows) (2 * b) ≡ Some row.n
get_n [] b row e = absurd (cc)
get_n (r ∷ rows) zero row e = let f : r ≡ row = cc in ap (λ (z : BoxForm). Some z.n) f
get_n (r ∷ rows) (suc b) row e = let twice : 2 * suc b ≡ suc (suc (2 * b)) = omega arith in rw twice (get_n rows b row e)

pub get_w : (rows : List BoxForm) (b : ℕ) (row : BoxForm) → slice_get rows b ≡ Some row → slice_get (box_inputs rows) (suc (2 * b)) ≡ Some row.w
get_w [] b row e = absurd (cc)
get_w (r ∷ rows) zero row e = let f : r ≡ row = cc in ap (λ (z : BoxForm). Some z.w) f
get_w (r ∷ rows) (suc b) row e = let twice : 2 * suc b ≡ suc (suc (2 * b)) = omega arith in rw twice (get_w rows b row e)

pub get_front : {A : Type 0} (xs ys : List A) (i : ℕ) (x : A) → slice_get xs i ≡ Some x → slice_get (xs ++ ys) i ≡ Some x
get_front [] ys i x e = absurd (cc)
get_front (y ∷ xs) ys zero x e = e
get_front (y ∷ xs) ys (suc i) x e = get_front xs ys i x e

get_back : {A : Type 0} (xs ys : List A) (i : ℕ) (x : A) → slice_get ys i ≡ Some x → slice_get (xs ++ ys) (length xs + i) ≡ Some x
get_back [] ys i x e = let z : 0 + i ≡ i = omega arith in rw z e
get_back (y ∷ xs) ys i x e = let z : suc (length xs) + i ≡ suc (length xs + i) = omega arith in rw z (get_back xs ys i x e)

inputs_length : (rows : List BoxForm) → length (box_inputs rows) ≡ 2 * length rows
inputs_length [] = refl
inputs_length (row ∷ rows) = omega (arith, inputs_length rows)

pub get_exit : (m : ModuleForm) (i : ℕ) (exit : Option Origin) → slice_get m.exits i ≡ Some exit → slice_get (origins_named m) (2 * length m.boxes + i) ≡ Some exit
get_exit m i exit e = subst (λ k. slice_get (origins_named m) (k + i) ≡ Some exit) (inputs_length m.boxes) (get_back (box_inputs m.boxes) m.exits i exit e)

-- the number of an end
abbrev number_of : ModuleForm → To → ℕ
number_of m (N b) = 2 * b
number_of m (W b) = suc (2 * b)
number_of m (Exit i) = 2 * length m.boxes + i

box_end : (rows : List BoxForm) (i : ℕ) (end : Option Origin) → slice_get (box_inputs rows) i ≡ Some end →
    (b : ℕ) × (row : BoxForm) × (slice_get rows b ≡ Some row) × (((i ≡ 2 * b) × (row.n ≡ end)) ⊎ ((i ≡ suc (2 * b)) × (row.w ≡ end)))
box_end [] i end e = absurd (cc)
box_end (r ∷ rows) zero end e = (0, r, refl, inl (refl, cc))
box_end (r ∷ rows) (suc zero) end e = (0, r, refl, inr (refl, cc))
box_end (r ∷ rows) (suc (suc i)) end e =
    let (b, row, there, is) = box_end rows i end e in
    (suc b, row, there, elim is [ inl n ↦ inl (omega (arith, n.0), n.1) | inr w ↦ inr (omega (arith, w.0), w.1) ])

get_append : {A : Type 0} (xs ys : List A) (i : ℕ) (x : A) → slice_get (xs ++ ys) i ≡ Some x → (slice_get xs i ≡ Some x) ⊎ ((k : ℕ) × (i ≡ length xs + k) × (slice_get ys k ≡ Some x))
get_append [] ys i x e = inr (i, omega arith, e)
get_append (y ∷ xs) ys zero x e = inl e
get_append (y ∷ xs) ys (suc i) x e = elim (get_append xs ys i x e) [ inl f ↦ inl f | inr f ↦ inr (f.0, omega (arith, f.1), f.2) ]

comes_at : (m : ModuleForm) (i : ℕ) (o : Origin) → slice_get (origins_named m) i ≡ Some (Some o) → (end : To) × Comes m o end × (number_of m end ≡ i)
comes_at m i o e = elim (get_append (box_inputs m.boxes) m.exits i (Some o) e) [
  | inl front ↦
      let (b, row, there, is) = box_end m.boxes i (Some o) front in
      elim is [ inl n ↦ (N b, (row, there, n.1), sym n.0) | inr w ↦ (W b, (row, there, w.1), sym w.0) ]
  | inr back ↦ (Exit back.0, back.2, omega (arith, back.1, inputs_length m.boxes))
]

module _ (m : ModuleForm) (sound : IsSound m) where
  -- no two ends have the same wire
  one_end : (i j : ℕ) (o : Origin) → slice_get (origins_named m) i ≡ Some (Some o) → slice_get (origins_named m) j ≡ Some (Some o) → i ≡ j
  one_end i j o e f =
      let (s, c, is) = comes_at m i o e in
      let (t, d, js) = comes_at m j o f in
      sym is ∙ (ap (number_of m) (sound.once o s t c d) ∙ js)

  -- the wires to the first ends have their slots
  abbrev pub SoFar : ℕ → Slots → Type 0
  SoFar j slots = Numbers (length m.boxes) slots (these (take j (origins_named m)))

  pub so_far_next : (j : ℕ) (end : Option Origin) (old new : Slots) → SoFar j old → slice_get (origins_named m) j ≡ Some end → Given end old new → SoFar (suc j) new
  so_far_next j None old new far e given = rw (given, these_next (origins_named m) j None e) (rw append-nil far)
  so_far_next j (Some o) old new far e given = rw (these_next (origins_named m) j (Some o) e) (record {
    south = given.south ∙ far.south;
    east = given.east ∙ far.east;
    each = λ p. given.slots p ∙ (ap (λ z. if is_same o p then Some z else slot_for old p) far.count
        ∙ (ap (λ z. if is_same o p then Some (length (these (take j (origins_named m)))) else z) (far.each p)
        ∙ sym (slot_next (these (take j (origins_named m))) o p fresh)));
    count = given.count ∙ (omega (arith, far.count, length-append (these (take j (origins_named m))) (o ∷ [])));
  })
    where
      fresh : slot_in (these (take j (origins_named m))) o ≡ None
      fresh = no_slot (take j (origins_named m)) o (λ i f. let r = get_take (origins_named m) j i (Some o) f in omega (arith, r.0, one_end i j o r.1 e))

  pub so_far_place : (j : ℕ) (end : Option Origin) (slots : Slots) → SoFar j slots → slice_get (origins_named m) j ≡ Some end → IfSome end (HasPlace slots)
  so_far_place j None slots far e = tt
  so_far_place j (Some o) slots far e = let (end, comes, is) = comes_at m j o e in by o (sound.known o end comes)
    where
      by : (o : Origin) → Exists m o → HasPlace slots o
      by North h = tt
      by West h = tt
      by (South b) h = omega (arith, h, far.south)
      by (East b) h = omega (arith, h, far.east)

  these_few : (os : List (Option Origin)) → length (these os) ≤ length os
  these_few [] = omega arith
  these_few (None ∷ os) = omega (arith, these_few os)
  these_few (Some o ∷ os) = omega (arith, these_few os)

  take_few : {A : Type 0} (xs : List A) (j : ℕ) → length (take j xs) ≤ length xs
  take_few [] zero = omega arith
  take_few [] (suc j) = omega arith
  take_few (x ∷ xs) zero = omega arith
  take_few (x ∷ xs) (suc j) = omega (arith, take_few xs j)

  boxes_few : (rows : List BoxForm) → 8 * length rows ≤ boxes_part rows
  boxes_few [] = omega arith
  boxes_few (row ∷ rows) = omega (arith, boxes_few rows)

  pub so_far_few : (j : ℕ) (slots : Slots) → SoFar j slots → part m ≤ 262144 → slots.count < 1000000
  so_far_few j slots far few = omega (
    arith,
    far.count,
    these_few (take j (origins_named m)),
    take_few (origins_named m) j,
    length-append (box_inputs m.boxes) m.exits,
    inputs_length m.boxes,
    boxes_few m.boxes,
    few,
  )

  pub so_far_all : (j : ℕ) (slots : Slots) → SoFar j slots → j ≡ 2 * length m.boxes + length m.exits → Numbers (length m.boxes) slots (wire_starts m)
  so_far_all j slots far is =
      let all : length (origins_named m) ≤ j = omega (arith, length-append (box_inputs m.boxes) m.exits, inputs_length m.boxes, is) in
      subst (λ os. Numbers (length m.boxes) slots (these os)) (take_all j (origins_named m) all) far
