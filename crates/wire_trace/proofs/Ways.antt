-- Ways from one start agree as far as both go.
use Rattle.std.proofs.Common.{◌≡◌, ℕ, zero, suc, ◌+◌, ◌-◌, ◌<◌, inl, inr, [], ◌∷◌, ◌++◌, length, get_or, sym, ap, subst, ◌∙◌, arith, add-one, Some}
use Rattle.std.specs.List.{slice_get, AllPairs}
use Rattle.std.proofs.lemmas.Option.{slice_get-get_or, slice_get_within, get_or_from_slice_get}
use Rattle.std.proofs.lemmas.List.{get_or_append_left, get_or_push, get_or_default, length_push}
use Rattle.std.proofs.lemmas.Bool.{cases_lt}
use Rattle.two_d.specs.Ports.{Drawing}
use Rattle.two_d.specs.Wires.{Position, Step, Trace, Collide, IsWay, IsTrace}
use Rattle.two_d.proofs.GoesOnOne.{goes_on_one}

-- the element before one that is there
before_there : (way : Trace) (k : ℕ) (s : Position) → slice_get way (k + 1) ≡ Some s → (t : Position) × (slice_get way k ≡ Some t)
before_there way k s e = (get_or way k s, slice_get-get_or way k s (omega (arith, slice_get_within way (k + 1) s e)))

same_position : (m : Drawing) (s t u : Position) → Step m s t → Step m s u → t ≡ u
same_position m s t u a b = let e = goes_on_one m s (t ∷ []) (u ∷ []) a.0 b.0 in cc

pub ways_agree : (m : Drawing) (start : Position) (v w : Trace) → IsWay m start v → IsWay m start w → (k : ℕ) (s t : Position) → slice_get v k ≡ Some s → slice_get w k ≡ Some t → s ≡ t
ways_agree m start v w hv hw zero s t es et = cc (hv.first, hw.first, es, et)
ways_agree m start v w hv hw (suc k) s t es et =
    let es' : slice_get v (k + 1) ≡ Some s = rw add-one es in
    let et' : slice_get w (k + 1) ≡ Some t = rw add-one et in
    let p = before_there v k s es' in
    let q = before_there w k t et' in
    let same : p.0 ≡ q.0 = ways_agree m start v w hv hw k p.0 q.0 p.1 q.1 in
    same_position m p.0 s t (hv.steps k p.0 s p.1 es') (subst (λ x. Step m x t) (sym same) (hw.steps k q.0 t q.1 et'))

-- a way that can't be continued is the longest
pub ends_longest : (m : Drawing) (start last : Position) (way : Trace) → IsWay m start way → slice_get way (length way - 1) ≡ Some last → ((t : Position) → Step m last t → AllPairs (λ s t. Collide m s t → ⊥) (way ++ t ∷ []) → ⊥) → IsTrace m start way
ends_longest m start last way h at_last over = record {
  way = h;
  longest = λ more hm. elim (cases_lt (length way) (length more)) [
    | inl less ↦ absurd (over (next more) (goes more hm less) (apart more hm less))
    | inr enough ↦ enough
  ];
}
  where
    next : Trace → Position
    next more = get_or more (length way) start

    some : 0 < length way
    some = slice_get_within way 0 start h.first

    there : (more : Trace) → length way < length more → slice_get more (length way) ≡ Some (next more)
    there more less = slice_get-get_or more (length way) start less

    goes : (more : Trace) → IsWay m start more → length way < length more → Step m last (next more)
    goes more hm less =
        let n = length way - 1 in
        let up : n + 1 ≡ length way = omega (arith, some) in
        let after : slice_get more (n + 1) ≡ Some (next more) = rw up (there more less) in
        let p = before_there more n (next more) after in
        let same : last ≡ p.0 = ways_agree m start way more h hm n last p.0 at_last p.1 in
        subst (λ x. Step m x (next more)) (sym same) (hm.steps n p.0 (next more) p.1 after)

    same_at : (more : Trace) → IsWay m start more → length way < length more → (i : ℕ) (d : Position) → i < length way + 1 → get_or (way ++ next more ∷ []) i d ≡ get_or more i d
    same_at more hm less i d low = elim (cases_lt i (length way)) [
      | inl inside ↦ get_or_append_left way (next more ∷ []) d i inside ∙ ways_agree m start way more h hm i (get_or way i d) (get_or more i d) (slice_get-get_or way i d inside) (slice_get-get_or more i d (omega arith))
      | inr past ↦ (let here : length way ≡ i = omega arith in
          get_or_push way (next more) d i here ∙ get_or_default more (length way) start d less ∙ ap (λ k. get_or more k d) here)
    ]

    apart : (more : Trace) → IsWay m start more → length way < length more → AllPairs (λ s t. Collide m s t → ⊥) (way ++ next more ∷ [])
    apart more hm less i j d low high hit =
        let len = length_push way (next more) in
        hm.apart i j d low (omega arith)
        (subst (λ x. Collide m x (get_or more j d)) (same_at more hm less i d (omega arith))
        (subst (λ x. Collide m (get_or (way ++ next more ∷ []) i d) x) (same_at more hm less j d (omega arith)) hit))

-- one step more
pub way_more : (m : Drawing) (start last t : Position) (way : Trace) → IsWay m start way → slice_get way (length way - 1) ≡ Some last → Step m last t → AllPairs (λ s t. Collide m s t → ⊥) (way ++ t ∷ []) → IsWay m start (way ++ t ∷ [])
way_more m start last t way h at_last step apart = record {
  first = at_left 0 start h.first;
  steps = λ k s u es eu. elim (cases_lt (k + 1) (length way)) [
    | inl inside ↦ h.steps k s u (back k s (omega arith) es) (back (k + 1) u inside eu)
    | inr past ↦ (let len = length_push way t in
        let is : k + 1 ≡ length way = omega (arith, slice_get_within (way ++ t ∷ []) (k + 1) u eu) in
        let k_is : k ≡ length way - 1 = omega arith in
        let new : u ≡ t = sym (get_or_from_slice_get (way ++ t ∷ []) (k + 1) u t eu) ∙ get_or_push way t t (k + 1) (sym is) in
        let old : s ≡ last = (let e = back k s (omega arith) es in let f : slice_get way k ≡ Some last = rw k_is at_last in cc) in
        subst (λ x. Step m x u) (sym old) (subst (λ x. Step m last x) (sym new) step))
  ];
  apart = apart;
}
  where
    at_left : (k : ℕ) (s : Position) → slice_get way k ≡ Some s → slice_get (way ++ t ∷ []) k ≡ Some s
    at_left k s e =
        let inside = slice_get_within way k s e in
        let len = length_push way t in
        slice_get-get_or (way ++ t ∷ []) k s (omega arith) ∙ ap Some (get_or_append_left way (t ∷ []) s k inside ∙ get_or_from_slice_get way k s s e)

    back : (k : ℕ) (s : Position) → k < length way → slice_get (way ++ t ∷ []) k ≡ Some s → slice_get way k ≡ Some s
    back k s inside e = slice_get-get_or way k s inside ∙ ap Some (sym (get_or_append_left way (t ∷ []) s k inside) ∙ get_or_from_slice_get (way ++ t ∷ []) k s s e)
