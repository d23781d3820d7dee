-- The firings among the first events of a log.
use Rattle.std.specs.Prelude.{◌≡◌, ℕ, suc, ◌+◌, ◌<◌, ◌≤◌, List, [], ◌∷◌, length, take}
use Rattle.std.proofs.Common.{sym, ◌∙◌, ap, arith, get_or}
use Rattle.std.proofs.lemmas.List.{length-map, length-take-le, map-append}
use Rattle.std.proofs.Math.Seq.{take-suc}
use Rattle.two_d.specs.Steps.{fires_in}
use Rattle.fire_core.specs.declared.event.Event.{Event}
use Rattle.fire_core.specs.Events.{event_of, events_shown}
use Rattle.fire_eval.proofs.RunLemmas.{fires_in-append, fires_in-le}

pub firings-few : (log : List Event) (k : ℕ) → k ≤ length log → fires_in (events_shown (take k log)) ≤ k
firings-few log k le = omega (arith, fires_in-le (events_shown (take k log)), length-map (take k log) event_of, length-take-le k log le)

pub firings-more : (log : List Event) (k : ℕ) (d : Event) (old new : ℕ) → k < length log → old ≡ fires_in (events_shown (take k log)) →
    new ≡ old + fires_in (events_shown (get_or log k d ∷ [])) → new ≡ fires_in (events_shown (take (k + 1) log))
firings-more log k d old new lt e f =
    let next : k + 1 ≡ suc k = omega arith in
    rw (next, take-suc log k d lt, map-append)
    (f ∙ (ap (λ n. n + fires_in (events_shown (get_or log k d ∷ []))) e ∙ sym (fires_in-append (events_shown (take k log)) (events_shown (get_or log k d ∷ [])))))
