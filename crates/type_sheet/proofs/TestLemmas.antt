-- Tests that hold.
use Rattle.std.specs.Prelude.{◌≡◌, ℕ, zero, suc, List, [], ◌∷◌, Option, Some, None, Bool, true, false, not, ◌&&◌, ◌||◌, slice_get}
use Rattle.std.specs.List.{list_any}
use Rattle.std.proofs.Common.{refl, eq-eqb}
use Rattle.two_d.specs.declared.module.Origin.{Origin}
use Rattle.two_d.specs.declared.module.Origin.TheVariants.{North, West, South, East}
use Rattle.two_d.specs.declared.module.To.{To}
use Rattle.two_d.specs.declared.module.To.TheVariants.{N, W, Exit}
use Rattle.two_d.specs.declared.command.Side.{Side}
use Rattle.two_d.specs.declared.command.Side.TheVariants.{S, E}
use Rattle.two_d.specs.Programs.{BoxForm, ModuleForm}
use Rattle.two_d.specs.Sound.{Comes}
use Rattle.two_d.proofs.Listed.{is_name-true}
use Rattle.type_sheet.specs.Said.{is_side}
use Rattle.type_sheet.specs.Types.{carries}
use Rattle.type_sheet.specs.Wires.{same_origin, is_from, is_wired}
use Rattle.type_sheet.specs.Fits.{are_same_type}

pub both : (a b : Bool) → a && b ≡ true → (a ≡ true) × (b ≡ true)
both true true e = (refl, refl)
both true false e = absurd (cc)
both false b e = absurd (cc)

-- what holds unless a test fails
pub unless : (a b : Bool) → not a || b ≡ true → a ≡ true → b ≡ true
unless true b e is = e
unless false b e is = absurd (cc)

pub or_left : (a b : Bool) → a ≡ true → a || b ≡ true
or_left true b e = refl
or_left false b e = absurd (cc)

pub or_right : (a b : Bool) → b ≡ true → a || b ≡ true
or_right true b e = refl
or_right false b e = e

pub any_at : {A : Type 0} (p : A → Bool) (xs : List A) (i : ℕ) (x : A) → slice_get xs i ≡ Some x → p x ≡ true → list_any p xs ≡ true
any_at p [] i x is e = absurd (cc)
any_at p (y ∷ ys) zero x is e = let same : y ≡ x = cc in or_left (p y) (list_any p ys) (rw same e)
any_at p (y ∷ ys) (suc i) x is e = or_right (p y) (list_any p ys) (any_at p ys i x is e)

pub same_origin-refl : (o : Origin) → same_origin o o ≡ true
same_origin-refl North = refl
same_origin-refl West = refl
same_origin-refl (South b) = eq-eqb b b refl
same_origin-refl (East b) = eq-eqb b b refl

pub from_here : (o : Origin) (p : Option Origin) → p ≡ Some o → is_from o p ≡ true
from_here o None e = absurd (cc)
from_here o (Some p) e = let same : p ≡ o = cc in rw same (same_origin-refl o)

-- where a wire ends, it begins
pub wired : (m : ModuleForm) (o : Origin) (end : To) → Comes m o end → is_wired m o ≡ true
wired m o (N b) (row, at, is) =
    or_left _ _ (any_at (λ (row : BoxForm). is_from o row.n || is_from o row.w) m.boxes b row at (or_left _ _ (from_here o row.n is)))
wired m o (W b) (row, at, is) =
    or_left _ _ (any_at (λ (row : BoxForm). is_from o row.n || is_from o row.w) m.boxes b row at (or_right (is_from o row.n) _ (from_here o row.w is)))
wired m o (Exit i) at = or_right _ _ (any_at (is_from o) m.exits i (Some o) at (same_origin-refl o))

pub same_side : (s t : Side) → is_side s t ≡ true → s ≡ t
same_side S S e = refl
same_side E E e = refl
same_side S E e = absurd (cc)
same_side E S e = absurd (cc)

pub is_side-refl : (s : Side) → is_side s s ≡ true
is_side-refl S = refl
is_side-refl E = refl

-- a type that is carried
pub same_type : (t : Option (List ℕ)) (a : List ℕ) → carries t a ≡ true → t ≡ Some a
same_type None a e = absurd (cc)
same_type (Some b) a e = let same : b ≡ a = is_name-true b a e in cc

pub same_types : (t u : Option (List ℕ)) → are_same_type t u ≡ true → t ≡ u
same_types t None e = absurd (cc)
same_types t (Some b) e = same_type t b e
