-- The first module with a name, and the boxes of a ring.
use Rattle.std.specs.Prelude.{◌≡◌, ◌<◌, ℕ, zero, suc, List, [], ◌∷◌, ◌++◌, All, length, slice_index_or, OnOk, Result, Ok, Err}
use Rattle.std.proofs.Common.{arith, refl, sym, ap, ◌∙◌, subst}
use Rattle.umix_base.specs.declared.memory.Memory.{Memory}
use Rattle.two_d.specs.declared.module.Module.{Module}
use Rattle.two_d.specs.Programs.{ModuleForm, Program, box_count, find, module_at, module_of, modules_of}
use Rattle.two_d.specs.Sound.{IsSound}
use Rattle.two_d.specs.Texts.{HasBox, name_at}
use Rattle.two_d.proofs.NamesFound.{module_at-modules}
use Rattle.two_d.proofs.Rings.{feeder_there}
use Rattle.box_ring.specs.Rings.{IsRing, WaitsAlong}

pub first_found : (modules : List Module) (P : Program) (i : ℕ) (m : Module) (name : List ℕ) (kept : List Module) (first : ℕ) → i < length modules →
    modules_of modules ≡ P → m ≡ slice_index_or modules i m → name ≡ m.name → kept ≡ modules → first ≡ find (modules_of kept) name →
    first ≡ find P (name_at P i)
first_found modules P i m name kept first lt same here named keeps is =
    let at : module_at P i ≡ module_of m = ap (λ (Q : Program). module_at Q i) (sym same) ∙ (module_at-modules modules i m lt ∙ ap module_of (sym here)) in
    let called : name ≡ name_at P i = named ∙ ap (λ (f : ModuleForm). f.name) (sym at) in
    is ∙ (ap (λ (l : List Module). find (modules_of l) name) keeps ∙ (ap (λ (Q : Program). find Q name) same ∙ ap (find P) called))

-- the boxes for which a box waits are there
waits_there : (m : ModuleForm) → IsSound m → (b : ℕ) (cs : List ℕ) (z : ℕ) → WaitsAlong m b cs z → All (λ c. c < length m.boxes) cs
waits_there m sound b [] z leads k d lt = absurd (omega arith)
waits_there m sound b (c ∷ cs) z leads zero d lt = feeder_there m c b sound leads.0
waits_there m sound b (c ∷ cs) z leads (suc k) d lt = waits_there m sound c cs z leads.1 k d (omega arith)

all_and : (n : ℕ) (xs : List ℕ) (x : ℕ) → All (λ c. c < n) xs → x < n → All (λ c. c < n) (xs ++ x ∷ [])
all_and n [] x all is zero d lt = is
all_and n [] x all is (suc k) d lt = absurd (omega arith)
all_and n (y ∷ ys) x all is zero d lt = all zero d (omega arith)
all_and n (y ∷ ys) x all is (suc k) d lt = all_and n ys x (λ j e less. all (suc j) e (omega arith)) is k d (omega arith)

pub waits_fit : (P : Program) (m b : ℕ) (ring shown : List ℕ) → HasBox P (m, b) → All IsSound P → IsRing (module_at P m) b ring → shown ≡ ring ++ b ∷ [] →
    All (λ c. HasBox P (m, c)) shown
waits_fit P m b ring shown there sound is same k d lt =
    let sound_m : IsSound (module_at P m) = sound m _ there.0 in
    let all : All (λ c. c < box_count P m) shown =
    subst (All (λ c. c < box_count P m)) (sym same) (all_and (box_count P m) ring b (waits_there (module_at P m) sound_m b ring b is) there.1) in
    (there.0, all k d lt)

-- what follows from what is ensured of an end without want
pub on_ok : {A B : Type 0} (r : Result (Unit {0}) Memory) → (A → B) → OnOk r A → OnOk r B
on_ok (Ok u) f a = f a
on_ok (Err e) f a = tt
