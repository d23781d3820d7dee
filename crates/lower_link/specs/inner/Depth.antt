-- Blocks against what their program means, by uses nested less than n deep.
use Rattle.std.specs.Prelude.{◌≡◌, ℕ, ◌<◌, List, length, ◌≤◌}
use Rattle.two_d.specs.Programs.{Program}
use Rattle.two_d.specs.Meaning.{Inputs, Answers, act, look_of, meaning_of, mean}
use Rattle.two_d.specs.Walks.{visits, walk}
use Rattle.lower_emit.specs.inner.Firing.{entry_wires}
use Rattle.lower_emit.specs.KnownOutcomes.{TextNumbers, known_of}
use Rattle.lower_emit.specs.inner.Trips.{Trips, trips_of, came_to, Plans, Prices, IsBlock}
use Rattle.lower_emit.specs.inner.Trips.{IsKnownOf}

-- The plans push what the program means: the outcomes, and the calls in the kept order.
pub record Push (P : Program) (order : ℕ → List ℕ) (texts : TextNumbers)
    (plans : Plans) : Type 0 where
  pub outcomes : (answer : Answers) (m : ℕ) (a : Inputs) → m < length P →
      came_to (known_of texts answer) (plans m) a ≡ known_of texts (meaning_of P answer) m a
  pub calls : (trips : Trips) (answer : Answers) (m : ℕ) (a : Inputs) → m < length P →
      trips_of trips (known_of texts answer) m (plans m).boxes
      (entry_wires (plans m) a.north a.west) ≡ visits trips answer m
      (act P m (look_of P answer m a)) (order m)

-- Each block does what its module means, to any depth: from where it was entered it returns with
-- the outcome, after the calls and returns of the walk; or, where the module means nothing by uses
-- nested less than n deep, it makes that walk.
unfoldable pub CallsLaw : Type 0
CallsLaw = (codes : ℕ → List ℕ) (c : Prices) (plans : Plans) (P : Program) (order : ℕ → List ℕ)
    (texts : TextNumbers) (count : ℕ) →
    length P ≤ count → ((m : ℕ) → m < length P → IsBlock codes c plans (length P) m) →
    Push P order texts plans →
    (n m : ℕ) (a : Inputs) → m < length P → IsKnownOf codes c plans count
    (known_of texts (mean P n)) (walk P order n) m a
