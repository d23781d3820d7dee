-- Blocks do what their modules mean, to any depth.
use Rattle.std.proofs.Common.{ℕ, zero, suc, ◌<◌, ◌≤◌, inl, inr, List, length, refl, subst}
use Rattle.two_d.specs.Programs.{Program}
use Rattle.two_d.specs.Meaning.{Inputs, Answers, act, look_of, meaning_of, mean}
use Rattle.two_d.specs.Walks.{visits, walk}
use Rattle.lower_emit.specs.inner.Firing.{entry_wires}
use Rattle.lower_emit.specs.inner.Trips.{trips_of, Plans, Prices, CallLaw, IsBlock, IsKnownOf, BlockLaw}
use Rattle.lower_emit.proofs.Acting.{block_law}
use Rattle.lower_emit.specs.KnownOutcomes.{TextNumbers, known_of}
use Rattle.lower_link.specs.inner.Depth.{Push, CallsLaw}

module _ (codes : ℕ → List ℕ) (c : Prices) (plans : Plans) (P : Program) (order : ℕ → List ℕ) (texts : TextNumbers) (count : ℕ) (few : length P ≤ count)
    (are : (m : ℕ) → m < length P → IsBlock codes c plans (length P) m) (push : Push P order texts plans) where
  told : (n m : ℕ) (a : Inputs) → m < length P → IsKnownOf codes c plans count (known_of texts (mean P n)) (walk P order n) m a
  unfolding mean walk BlockLaw
  told zero m a inside = inl (refl, refl)
  told (suc n) m a inside =
      let answer : Answers = mean P n in
      let law = block_law codes c plans (length P) count (known_of texts answer) (walk P order n) few are (told n) m a inside in
      inr (
        visits (walk P order n) answer m (act P m (look_of P answer m a)) (order m),
        refl,
        subst (λ v. CallLaw codes c plans count m a (known_of texts (meaning_of P answer) m a) v) (push.calls (walk P order n) answer m a inside)
            (subst (λ o. CallLaw codes c plans count m a o (trips_of (walk P order n) (known_of texts answer) m (plans m).boxes (entry_wires (plans m) a.north a.west))) (push.outcomes answer m a inside) law),
      )

pub calls : CallsLaw
unfolding CallsLaw
calls codes c plans P order texts count few are push = told codes c plans P order texts count few are push
