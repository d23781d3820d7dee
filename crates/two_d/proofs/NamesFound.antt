-- The module of a name.
use Rattle.std.specs.Prelude.{◌≡◌, ℕ, ◌+◌, ◌<◌, ◌≤◌, ◌&&◌, Bool, true, false, List, [], ◌∷◌, length, nat_eq, ◌==◌, slice_index_or}
use Rattle.std.proofs.Common.{refl, sym, ◌∙◌, ap, arith, inl, inr}
use Rattle.std.proofs.lemmas.Bool.{cases_eq}
use Rattle.std.proofs.lemmas.List.{get_or-map}
use Rattle.std.proofs.lemmas.List.Sums.{position_or_len_is}
use lib.Pointwise.{pointwise}
use Rattle.two_d.specs.declared.module.Module.{Module}
use Rattle.two_d.specs.Programs.{Program, ModuleForm, module_of, modules_of, module_at, no_module, is_name, find}

pub is_name-pointwise : (xs ys : List ℕ) → pointwise nat_eq xs ys ≡ is_name xs ys
is_name-pointwise [] [] = refl
is_name-pointwise (x ∷ xs) (y ∷ ys) = ap (λ b. (x == y) && b) (is_name-pointwise xs ys)
is_name-pointwise [] (y ∷ ys) = refl
is_name-pointwise (x ∷ xs) [] = refl

-- no module before this number has the name
pub record NotBefore (P : Program) (name : List ℕ) (number : ℕ) : Type 0 where
  pub within : number ≤ length P
  pub others : (k : ℕ) → k < number → is_name (module_at P k).name name ≡ false

pub module_at-modules : (modules : List Module) (k : ℕ) (d : Module) → k < length modules → module_at (modules_of modules) k ≡ module_of (slice_index_or modules k d)
module_at-modules modules k d lt = get_or-map module_of modules k d no_module lt

pub found : (P : Program) (name : List ℕ) (number : ℕ) → NotBefore P name number → is_name (module_at P number).name name ≡ true → find P name ≡ number
found P name number h is = position_or_len_is (λ (m : ModuleForm). is_name m.name name) P number no_module h.within h.others (λ lt. is)

pub not_found : (P : Program) (name : List ℕ) (number : ℕ) → NotBefore P name number → length P ≤ number → find P name ≡ length P
not_found P name number h past = let same : number ≡ length P = omega (arith, h.within) in
    position_or_len_is (λ (m : ModuleForm). is_name m.name name) P number no_module h.within h.others (λ lt. absurd (omega (arith))) ∙ same

-- the comparison at a module, as the test of a name
pub tested : (modules : List Module) (name a b : List ℕ) (k : ℕ) (m : Module) (t : Bool) → k < length modules → m ≡ slice_index_or modules k m →
    a ≡ m.name → b ≡ name → t ≡ pointwise nat_eq a b → is_name (module_at (modules_of modules) k).name name ≡ t
tested modules name a b k m t lt is ea eb e =
    rw (module_at-modules modules k m lt) (rw (← is) (rw (← ea, ← eb) (sym (is_name-pointwise a b) ∙ sym e)))

pub one_more : (P : Program) (name : List ℕ) (number : ℕ) → NotBefore P name number → number < length P → is_name (module_at P number).name name ≡ false →
    NotBefore P name (number + 1)
one_more P name number h lt isnt = record { within = omega arith; others = at }
  where
    at : (k : ℕ) → k < number + 1 → is_name (module_at P k).name name ≡ false
    at k below = elim (cases_eq k number) [ inl is ↦ rw is isnt | inr other ↦ h.others k (omega arith) ]
