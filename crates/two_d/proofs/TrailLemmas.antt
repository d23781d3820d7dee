-- A place stands for the same trail whatever nodes follow.
use Rattle.std.specs.Prelude.{◌≡◌, ℕ, suc, ◌+◌, ◌<◌, List, [], ◌∷◌, ◌++◌, length, take, drop, slice_index_or, slice_get, Some, reverse}
use Rattle.std.proofs.Common.{refl, sym, ◌∙◌, ap, arith}
use Rattle.std.proofs.lemmas.List.{length-append, get_or_append_left, append_assoc, get_or_push, length-take-le, take-append-drop, take-take, reverse-append}
use Rattle.std.proofs.lemmas.Option.{get_or_from_slice_get}
use Rattle.std.proofs.Math.Seq.{drop-cons, take-append_seam, take-length}
use Rattle.two_d.specs.declared.trail.Trail.{Trail as TrailNode}
use Rattle.two_d.specs.declared.trail.Trail.TheVariants.{At, Via}
use Rattle.two_d.specs.Trails.{Trail, Site, trail_of, via, NoResult, trail_in, trail_made, trails_behind, trails_of, trail_at, InnerBelow, KeepsTrails}

pub trails_behind-append : (trails : List Trail) (xs ys : List TrailNode) → trails_behind trails (xs ++ ys) ≡ trails_behind (trails_behind trails xs) ys
trails_behind-append trails [] ys = refl
trails_behind-append trails (x ∷ xs) ys = trails_behind-append (trails ++ trail_made trails x ∷ []) xs ys

pub length-trails_behind : (trails : List Trail) (xs : List TrailNode) → length (trails_behind trails xs) ≡ length trails + length xs
length-trails_behind trails [] = omega arith
length-trails_behind trails (x ∷ xs) = omega (arith, length-trails_behind (trails ++ trail_made trails x ∷ []) xs, length-append trails (trail_made trails x ∷ []))

pub trail_in-behind : (trails : List Trail) (xs : List TrailNode) (at : ℕ) → at < length trails → trail_in (trails_behind trails xs) at ≡ trail_in trails at
trail_in-behind trails [] at lt = refl
trail_in-behind trails (x ∷ xs) at lt =
    trail_in-behind (trails ++ trail_made trails x ∷ []) xs at (rw length-append (omega arith))
    ∙ get_or_append_left trails (trail_made trails x ∷ []) (trail_of (NoResult 0)) at lt

-- what follows changes no trail
pub trail_at-append : (xs ys : List TrailNode) (at : ℕ) → at < length xs → trail_at (xs ++ ys) at ≡ trail_at xs at
trail_at-append xs ys at lt =
    ap (λ (l : List Trail). trail_in l at) (trails_behind-append [] xs ys)
    ∙ trail_in-behind (trails_of xs) ys at (omega (arith, length-trails_behind [] xs, lt))

-- a new node is made of the trails that stand
pub trail_at-push : (xs : List TrailNode) (node : TrailNode) → trail_at (xs ++ node ∷ []) (length xs) ≡ trail_made (trails_of xs) node
trail_at-push xs node =
    ap (λ (l : List Trail). trail_in l (length xs)) (trails_behind-append [] xs (node ∷ []))
    ∙ get_or_push (trails_of xs) (trail_made (trails_of xs) node) (trail_of (NoResult 0)) (length xs) (omega (arith, length-trails_behind [] xs))

pub made_of-same : (trails trails' : List Trail) (n : ℕ) (node : TrailNode) → InnerBelow n node → ((at : ℕ) → at < n → trail_in trails at ≡ trail_in trails' at) →
    trail_made trails node ≡ trail_made trails' node
made_of-same trails trails' n (At site) below same = refl
made_of-same trails trails' n (Via m b inner) below same = ap (via m b) (same inner below)

-- a place stands for what its node makes of its parts
pub trail_at-node : (nodes : List TrailNode) (at : ℕ) (d : TrailNode) → InnerBelow at (slice_index_or nodes at d) → at < length nodes →
    trail_at nodes at ≡ trail_made (trails_of nodes) (slice_index_or nodes at d)
trail_at-node nodes at d below lt = by (take at nodes) (drop (suc at) nodes) split (length-take-le at nodes (omega arith))
  where
    node : TrailNode
    node = slice_index_or nodes at d

    split : (take at nodes ++ node ∷ []) ++ drop (suc at) nodes ≡ nodes
    split = append_assoc (take at nodes) (node ∷ []) (drop (suc at) nodes) ∙ (ap (λ l. take at nodes ++ l) (sym (drop-cons nodes at d lt)) ∙ take-append-drop at nodes)

    by : (front rest : List TrailNode) → (front ++ node ∷ []) ++ rest ≡ nodes → length front ≡ at → trail_at nodes at ≡ trail_made (trails_of nodes) node
    by front rest is size =
        let here : trail_at ((front ++ node ∷ []) ++ rest) (length front) ≡ trail_made (trails_of front) node =
        trail_at-append (front ++ node ∷ []) rest (length front) (rw length-append (omega arith)) ∙ trail_at-push front node in
        let there : trail_at nodes at ≡ trail_made (trails_of front) node = rw (is, size) at here in
        there ∙ made_of-same (trails_of front) (trails_of nodes) at node below (λ k under.
        let longer : trail_at (front ++ (node ∷ rest)) k ≡ trail_at front k = trail_at-append front (node ∷ rest) k (omega arith) in
        let same : front ++ (node ∷ rest) ≡ nodes = sym (append_assoc front (node ∷ []) rest) ∙ is in
        sym (rw same at longer))

pub keeps-push : (nodes : List TrailNode) (node : TrailNode) → KeepsTrails nodes (nodes ++ node ∷ [])
keeps-push nodes node = record { nodes = take-append_seam nodes (node ∷ []); longer = rw length-append (omega arith); same = λ at lt. trail_at-append nodes (node ∷ []) at lt }

pub keeps_itself : (nodes : List TrailNode) → KeepsTrails nodes nodes
keeps_itself nodes = record { nodes = take-length nodes; longer = omega arith; same = λ at lt. refl }

pub keeps-keeps : (a b c : List TrailNode) → KeepsTrails a b → KeepsTrails b c → KeepsTrails a c
keeps-keeps a b c h k = record {
  nodes = sym (take-take (length a) (length b) c h.longer) ∙ (ap (take (length a)) k.nodes ∙ h.nodes);
  longer = omega (arith, h.longer, k.longer);
  same = λ at lt. k.same at (omega (arith, h.longer)) ∙ h.same at lt;
}

pub trail_at-pushed : (old new : List TrailNode) (node : TrailNode) (at : ℕ) → new ≡ old ++ node ∷ [] → at ≡ length old → trail_at new at ≡ trail_made (trails_of old) node
trail_at-pushed old new node at is size = rw (is, size) (trail_at-push old node)

pub keeps-pushed : (old new : List TrailNode) (node : TrailNode) → new ≡ old ++ node ∷ [] → KeepsTrails old new
keeps-pushed old new node is = rw is (keeps-push old node)

-- what stands at a place, by its node
pub trail_is : (nodes : List TrailNode) (at : ℕ) (node : TrailNode) → at < length nodes → slice_get nodes at ≡ Some node → InnerBelow at node →
    trail_at nodes at ≡ trail_made (trails_of nodes) node
trail_is nodes at node lt found below =
    let is : slice_index_or nodes at node ≡ node = get_or_from_slice_get nodes at node node found in
    trail_at-node nodes at node (rw is below) lt ∙ ap (trail_made (trails_of nodes)) is

-- the trail whose place is reached, with the callers that were passed, is the whole trail
pub record IsOpened (nodes : List TrailNode) (whole : Trail) (place : ℕ) (callers : List (ℕ × ℕ)) : Type 0 where
  pub inside : place < length nodes
  pub same_site : (trail_at nodes place).site ≡ whole.site
  pub all_callers : (trail_at nodes place).callers ++ reverse callers ≡ whole.callers

pub opened-at : (nodes : List TrailNode) (whole : Trail) (place : ℕ) (callers : List (ℕ × ℕ)) (site : Site) → IsOpened nodes whole place callers →
    slice_get nodes place ≡ Some (At site) → (site ≡ whole.site) × (reverse callers ≡ whole.callers)
opened-at nodes whole place callers site h is =
    let trail : trail_at nodes place ≡ trail_of site = trail_is nodes place (At site) h.inside is tt in
    (ap (λ (t : Trail). t.site) (sym trail) ∙ h.same_site, ap (λ (t : Trail). t.callers ++ reverse callers) (sym trail) ∙ h.all_callers)

pub opened-via : (nodes : List TrailNode) (whole : Trail) (place : ℕ) (callers more : List (ℕ × ℕ)) (m b inner : ℕ) → IsOpened nodes whole place callers →
    slice_get nodes place ≡ Some (Via m b inner) → inner < place → more ≡ callers ++ (m, b) ∷ [] → IsOpened nodes whole inner more
opened-via nodes whole place callers more m b inner h is below pushed =
    let trail : trail_at nodes place ≡ via m b (trail_at nodes inner) = trail_is nodes place (Via m b inner) h.inside is below in
    let turned : reverse more ≡ (m, b) ∷ reverse callers = ap reverse pushed ∙ reverse-append callers ((m, b) ∷ []) in
    record {
      inside = omega (arith, h.inside);
      same_site = ap (λ (t : Trail). t.site) (sym trail) ∙ h.same_site;
      all_callers = ap (λ l. (trail_at nodes inner).callers ++ l) turned
          ∙ (sym (append_assoc (trail_at nodes inner).callers ((m, b) ∷ []) (reverse callers))
          ∙ (ap (λ (t : Trail). t.callers ++ reverse callers) (sym trail) ∙ h.all_callers));
    }
