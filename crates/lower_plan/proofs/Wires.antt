-- Each wire has a slot of its own.
use Rattle.std.specs.Prelude.{Option, Some, None, ◌≡◌, ℕ, zero, suc, ◌+◌, ◌*◌, ◌<◌, ◌≤◌, if◌then◌else◌, Bool, true, false, List, [], ◌∷◌, ◌++◌, length, slice_get}
use Rattle.std.specs.Option.{option_map}
use Rattle.std.proofs.Common.{refl, sym, ◌∙◌, ap, arith, ◌⊎◌, inl, inr, length-append}
use Rattle.std.proofs.lemmas.Bool.{eqb-true, eq-eqb}
use Rattle.std.proofs.lemmas.Option.{same_Some}
use Rattle.two_d.specs.declared.module.Origin.{Origin}
use Rattle.two_d.specs.declared.module.Origin.TheVariants.{North, West, South, East}
use Rattle.two_d.specs.Programs.{BoxForm, ModuleForm}
use Rattle.two_d.specs.Sound.{Comes}
use Rattle.two_d.specs.declared.module.To.{To}
use Rattle.two_d.specs.declared.module.To.TheVariants.{N, W, Exit}
use Rattle.lower_plan.specs.Plans.{box_inputs, these, wire_starts, is_same, slot_in, slot_of}

abbrev pub IsIn : {A : Type 0} → A → List A → Type 0
IsIn x [] = ⊥
IsIn x (y ∷ ys) = (y ≡ x) ⊎ IsIn x ys

pub same_is : (p o : Origin) → is_same p o ≡ true → p ≡ o
same_is North North e = refl
same_is West West e = refl
same_is (South b) (South c) e = ap South (eqb-true b c e)
same_is (East b) (East c) e = ap East (eqb-true b c e)
same_is North West e = absurd (cc)
same_is North (South c) e = absurd (cc)
same_is North (East c) e = absurd (cc)
same_is West North e = absurd (cc)
same_is West (South c) e = absurd (cc)
same_is West (East c) e = absurd (cc)
same_is (South b) North e = absurd (cc)
same_is (South b) West e = absurd (cc)
same_is (South b) (East c) e = absurd (cc)
same_is (East b) North e = absurd (cc)
same_is (East b) West e = absurd (cc)
same_is (East b) (South c) e = absurd (cc)

pub same_itself : (o : Origin) → is_same o o ≡ true
same_itself North = refl
same_itself West = refl
same_itself (South b) = eq-eqb b b refl
same_itself (East b) = eq-eqb b b refl

-- a slot is below the number of wires
pub slot_below : (os : List Origin) (o : Origin) (k : ℕ) → slot_in os o ≡ Some k → k < length os
slot_below [] o k e = absurd (cc)
slot_below (p ∷ ps) o k e = by (slot_below ps o) (is_same p o) (slot_in ps o) refl e
  where
    by : ((j : ℕ) → slot_in ps o ≡ Some j → j < length ps) → (t : Bool) (r : Option ℕ) → slot_in ps o ≡ r → (if t then Some 0 else option_map suc r) ≡ Some k → k < suc (length ps)
    by rest true r is f = let g : 0 ≡ k = cc in omega (arith, g)
    by rest false None is f = absurd (cc)
    by rest false (Some j) is f = let g : suc j ≡ k = cc in omega (arith, g, rest j is)

-- what stands at a slot
pub slot_holds : (os : List Origin) (o : Origin) (k : ℕ) → slot_in os o ≡ Some k → slice_get os k ≡ Some o
slot_holds [] o k e = absurd (cc)
slot_holds (p ∷ ps) o k e = by (slot_holds ps o) (is_same p o) (slot_in ps o) refl refl e
  where
    by : ((j : ℕ) → slot_in ps o ≡ Some j → slice_get ps j ≡ Some o) → (t : Bool) (r : Option ℕ) → is_same p o ≡ t → slot_in ps o ≡ r → (if t then Some 0 else option_map suc r) ≡ Some k → slice_get (p ∷ ps) k ≡ Some o
    by rest true r same is f = let g : 0 ≡ k = cc in rw (← g) (ap Some (same_is p o same))
    by rest false None same is f = absurd (cc)
    by rest false (Some j) same is f = let g : suc j ≡ k = cc in rw (← g) (rest j is)

-- two wires have two slots
pub slot_apart : (os : List Origin) (o p : Origin) (k : ℕ) → slot_in os o ≡ Some k → slot_in os p ≡ Some k → o ≡ p
slot_apart os o p k e f = same_Some o p (sym (slot_holds os o k e) ∙ slot_holds os p k f)

-- a wire has a slot
pub slot_there : (os : List Origin) (o : Origin) → IsIn o os → (k : ℕ) × (slot_in os o ≡ Some k)
slot_there [] o h = absurd h
slot_there (p ∷ ps) o h = by (slot_there ps o) (is_same p o) refl h
  where
    by : (IsIn o ps → (k : ℕ) × (slot_in ps o ≡ Some k)) → (t : Bool) → is_same p o ≡ t → (p ≡ o) ⊎ IsIn o ps → (k : ℕ) × ((if t then Some 0 else option_map suc (slot_in ps o)) ≡ Some k)
    by rest true e h = (0, refl)
    by rest false e (inl is) = absurd (let f : false ≡ true = sym e ∙ rw is (same_itself o) in cc)
    by rest false e (inr more) = let r = rest more in (suc r.0, ap (option_map suc) r.1)

pub in_these : (os : List (Option Origin)) (o : Origin) → IsIn (Some o) os → IsIn o (these os)
in_these [] o h = absurd h
in_these (None ∷ os) o (inl e) = absurd (cc)
in_these (None ∷ os) o (inr h) = in_these os o h
in_these (Some p ∷ os) o (inl e) = inl (cc)
in_these (Some p ∷ os) o (inr h) = inr (in_these os o h)

pub in_front : {A : Type 0} (x : A) (xs ys : List A) → IsIn x xs → IsIn x (xs ++ ys)
in_front x [] ys h = absurd h
in_front x (y ∷ xs) ys (inl e) = inl e
in_front x (y ∷ xs) ys (inr h) = inr (in_front x xs ys h)

pub in_back : {A : Type 0} (x : A) (xs ys : List A) → IsIn x ys → IsIn x (xs ++ ys)
in_back x [] ys h = h
in_back x (y ∷ xs) ys h = inr (in_back x xs ys h)

pub in_get : {A : Type 0} (x : A) (xs : List A) (i : ℕ) → slice_get xs i ≡ Some x → IsIn x xs
in_get x [] i e = absurd (cc)
in_get x (y ∷ xs) zero e = inl (cc)
in_get x (y ∷ xs) (suc i) e = inr (in_get x xs i e)

in_boxes_n : (rows : List BoxForm) (b : ℕ) (row : BoxForm) → slice_get rows b ≡ Some row → IsIn row.n (box_inputs rows)
in_boxes_n [] b row e = absurd (cc)
in_boxes_n (r ∷ rows) zero row e = inl (let f : r ≡ row = cc in rw f refl)
in_boxes_n (r ∷ rows) (suc b) row e = inr (inr (in_boxes_n rows b row e))

in_boxes_w : (rows : List BoxForm) (b : ℕ) (row : BoxForm) → slice_get rows b ≡ Some row → IsIn row.w (box_inputs rows)
in_boxes_w [] b row e = absurd (cc)
in_boxes_w (r ∷ rows) zero row e = inr (inl (let f : r ≡ row = cc in rw f refl))
in_boxes_w (r ∷ rows) (suc b) row e = inr (inr (in_boxes_w rows b row e))

-- each wire that ends somewhere has a slot
pub slot_comes : (m : ModuleForm) (o : Origin) (end : To) → Comes m o end → (k : ℕ) × (slot_of m o ≡ Some k)
slot_comes m o end comes = slot_there (wire_starts m) o (in_these _ o (by end comes))
  where
    by : (end : To) → Comes m o end → IsIn (Some o) (box_inputs m.boxes ++ m.exits)
    by (N b) (row, there, is) = in_front (Some o) (box_inputs m.boxes) m.exits (rw is at (in_boxes_n m.boxes b row there))
    by (W b) (row, there, is) = in_front (Some o) (box_inputs m.boxes) m.exits (rw is at (in_boxes_w m.boxes b row there))
    by (Exit i) is = in_back (Some o) (box_inputs m.boxes) m.exits (in_get (Some o) m.exits i is)

these_few : (os : List (Option Origin)) → length (these os) ≤ length os
these_few [] = omega arith
these_few (None ∷ os) = omega (arith, these_few os)
these_few (Some o ∷ os) = omega (arith, these_few os)

inputs_few : (rows : List BoxForm) → length (box_inputs rows) ≡ 2 * length rows
inputs_few [] = refl
inputs_few (row ∷ rows) = omega (arith, inputs_few rows)

-- there are at most two wires for each box and one for each exit
pub wires_few : (m : ModuleForm) → length (wire_starts m) ≤ 2 * length m.boxes + length m.exits
wires_few m = omega (arith, these_few (box_inputs m.boxes ++ m.exits), length-append (box_inputs m.boxes) m.exits, inputs_few m.boxes)
