-- A wire begins where some end comes from.
use Rattle.std.specs.Prelude.{◌≡◌, ◌⊎◌, ◌||◌, ◌↔◌, ℕ, zero, suc, List, [], ◌∷◌, slice_get, Option, Some, None, Bool, true, false}
use Rattle.std.specs.List.{list_any}
use Rattle.std.proofs.Common.{refl, sym, ◌∙◌, ap, inl, inr, eqb-true}
use Rattle.two_d.specs.Programs.{BoxForm, ModuleForm}
use Rattle.two_d.specs.declared.module.Origin.{Origin}
use Rattle.two_d.specs.declared.module.Origin.TheVariants.{North, West, South, East}
use Rattle.two_d.specs.declared.module.To.{To}
use Rattle.two_d.specs.declared.module.To.TheVariants.{N, W, Exit}
use Rattle.two_d.specs.Sound.{Comes}
use Rattle.type_sheet.specs.Wires.{same_origin, is_from, is_wired}
use Rattle.type_sheet.proofs.TestLemmas.{wired}

one_of : (a b : Bool) → (a || b) ≡ true → (a ≡ true) ⊎ (b ≡ true)
one_of true b e = inl refl
one_of false b e = inr e

-- where one of a list passes
record PassesAt {A : Type 0} (p : A → Bool) (xs : List A) : Type 0 where
  i : ℕ
  x : A
  at : slice_get xs i ≡ Some x
  passes : p x ≡ true

any_found : {A : Type 0} (p : A → Bool) (xs : List A) → list_any p xs ≡ true → PassesAt p xs
any_found p [] e = absurd (let f : false ≡ true = e in cc)
any_found p (x ∷ xs) e = elim (one_of (p x) (list_any p xs) e) [
  | inl here ↦ record { i = zero; x = x; at = refl; passes = here }
  | inr more ↦ let f = any_found p xs more in record { i = suc f.i; x = f.x; at = f.at; passes = f.passes }
]

origin_same : (o p : Origin) → same_origin o p ≡ true → o ≡ p
origin_same North North e = refl
origin_same West West e = refl
origin_same (South b) (South c) e = ap South (eqb-true b c e)
origin_same (East b) (East c) e = ap East (eqb-true b c e)
origin_same North West e = absurd (cc)
origin_same North (South c) e = absurd (cc)
origin_same North (East c) e = absurd (cc)
origin_same West North e = absurd (cc)
origin_same West (South c) e = absurd (cc)
origin_same West (East c) e = absurd (cc)
origin_same (South b) North e = absurd (cc)
origin_same (South b) West e = absurd (cc)
origin_same (South b) (East c) e = absurd (cc)
origin_same (East b) North e = absurd (cc)
origin_same (East b) West e = absurd (cc)
origin_same (East b) (South c) e = absurd (cc)

from_here : (o : Origin) (end : Option Origin) → is_from o end ≡ true → end ≡ Some o
from_here o None e = absurd (cc)
from_here o (Some p) e = ap Some (sym (origin_same o p e))

module _ (m : ModuleForm) (o : Origin) where
  to_box : PassesAt (λ (row : BoxForm). is_from o row.n || is_from o row.w) m.boxes → (end : To) × Comes m o end
  to_box found = elim (one_of (is_from o found.x.n) (is_from o found.x.w) found.passes) [
    | inl north ↦ (N found.i, (found.x, found.at, from_here o found.x.n north))
    | inr west ↦ (W found.i, (found.x, found.at, from_here o found.x.w west))
  ]

  to_exit : PassesAt (is_from o) m.exits → (end : To) × Comes m o end
  to_exit found = (Exit found.i, found.at ∙ ap (λ (end : Option Origin). Some end) (from_here o found.x found.passes))

  leads : is_wired m o ≡ true → (end : To) × Comes m o end
  leads e = elim (one_of (list_any (λ (row : BoxForm). is_from o row.n || is_from o row.w) m.boxes) (list_any (is_from o) m.exits) e) [
    | inl boxes ↦ to_box (any_found (λ (row : BoxForm). is_from o row.n || is_from o row.w) m.boxes boxes)
    | inr exits ↦ to_exit (any_found (is_from o) m.exits exits)
  ]

pub wired_leads : (m : ModuleForm) (o : Origin) → (is_wired m o ≡ true) ↔ ((end : To) × Comes m o end)
wired_leads m o = (leads m o, λ found. wired m o found.0 found.1)
