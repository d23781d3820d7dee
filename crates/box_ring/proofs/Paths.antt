-- A path goes on from the step that found its first box.
use Rattle.std.specs.Prelude.{◌≡◌, ◌<◌, ℕ, List, [], ◌∷◌, ◌++◌, length, reverse, slice_index_or, Some, slice_get}
use Rattle.std.proofs.Common.{refl, sym, ap, ◌∙◌, subst}
use Rattle.std.proofs.lemmas.List.{reverse-append}
use Rattle.std.proofs.lemmas.Option.{slice_get-get_or}
use Rattle.two_d.specs.Programs.{ModuleForm}
use Rattle.two_d.specs.Sound.{Feeds}
use Rattle.box_ring.specs.Rings.{IsRing, WaitsAlong}
use Rattle.box_ring.specs.declared.search.Step.{Step}
use Rattle.box_ring.specs.inner.Steps.{AreBack, AreFed, box_of_step}
use Rattle.box_ring.proofs.Finding.{box_read}

pub stands : (found : List Step) (at : ℕ) (d : Step) → at < length found → slice_get found at ≡ Some (slice_index_or found at d)
stands found at d lt = slice_get-get_or found at d lt

pub goes_back : (found : List Step) (at : ℕ) (d : Step) → at < length found → 0 < at → AreBack found → (slice_index_or found at d).via < at
goes_back found at d lt more back = back at (slice_index_or found at d) (stands found at d lt) more

pub leads_on : (m : ModuleForm) (found : List Step) (at z : ℕ) (d : Step) (path longer : List ℕ) → at < length found → 0 < at → AreFed m found →
    WaitsAlong m (box_of_step found at) (reverse path) z → longer ≡ path ++ (slice_index_or found at d).bx ∷ [] →
    WaitsAlong m (box_of_step found (slice_index_or found at d).via) (reverse longer) z
leads_on m found at z d path longer lt more fed leads is =
    let s = slice_index_or found at d in
    let here = stands found at d lt in
    let turned : reverse longer ≡ s.bx ∷ reverse path = ap reverse is ∙ reverse-append path (s.bx ∷ []) in
    subst (λ (l : List ℕ). WaitsAlong m (box_of_step found s.via) l z) (sym turned)
    (fed at s here more, subst (λ (x : ℕ). WaitsAlong m x (reverse path) z) (box_read found at s here) leads)

-- a path from the first step that leads back to it is a ring
pub ring_first : (m : ModuleForm) (found kept : List Step) (next b : ℕ) (path : List ℕ) → kept ≡ found → box_of_step found 0 ≡ b → AreFed m found →
    Feeds m (box_of_step found 0) (box_of_step found next) →
    (AreFed m kept → Feeds m (box_of_step kept 0) (box_of_step kept next) → WaitsAlong m (box_of_step kept 0) path (box_of_step kept 0)) → IsRing m b path
ring_first m found kept next b path same first fed feeds leads =
    subst (λ (x : ℕ). WaitsAlong m x path x) first
    (subst (λ (l : List Step). WaitsAlong m (box_of_step l 0) path (box_of_step l 0)) same
    (leads (subst (AreFed m) (sym same) fed) (subst (λ (l : List Step). Feeds m (box_of_step l 0) (box_of_step l next)) (sym same) feeds)))
