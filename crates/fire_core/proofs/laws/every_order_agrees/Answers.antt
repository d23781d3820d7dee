-- The laws, in the words of runs.
use Rattle.std.specs.Prelude.{◌≡◌, ◌+◌, ◌≤◌, Option, Some, None, List, true, not, is_some, length}
use Rattle.std.proofs.Common.{refl, sym, ◌∙◌, ap, arith, inl, inr}
use Rattle.std.proofs.lemmas.Bool.{cases_Bool}
use Rattle.two_d.specs.Meaning.{Meaning, Outcome, mean}
use Rattle.two_d.specs.Programs.{Program}
use Rattle.two_d.specs.Steps.{Event, Table, EachReady, HasMeaning, HasNoOutcome, IsStateOf, after, instance_at, is_live, start}
use Rattle.two_d.proofs.Progress.{progress}
use Rattle.two_d.proofs.Runs.{run_means, run_counts, run_shorter}
use Rattle.fire_core.proofs.StateLemmas.{state_sound}
use Rattle.fire_core.proofs.laws.every_order_agrees.Goals as goal

state_means : (P : Program) (T : Table) (o : Outcome) → IsStateOf P T → (instance_at T 0).outcome ≡ Some o → (r : Meaning) × HasMeaning P r × (r.outcome ≡ o)
state_means P T o s e =
    let (n, r, means, same) = run_means P s.events s.each_ready o (ap (λ (U : Table). (instance_at U 0).outcome) (sym s.is) ∙ e) in
    (r, record { depth = n; means = means }, same)

pub returns-clause-outcome : goal.returns-clause-outcome
returns-clause-outcome c = λ P T o s e. state_means P T o s e

pub returns-clause-counts : goal.returns-clause-counts
returns-clause-counts c = λ P r events has each down. run_counts P has.depth r has.means events each down

pub returns-clause-shorter : goal.returns-clause-shorter
returns-clause-shorter c = λ P r events has each up. run_shorter P has.depth r has.means events each up

pub returns-clause-no_longer : goal.returns-clause-no_longer
returns-clause-no_longer c = λ P r events has each. longest P r events has each
  where
    longest : (P : Program) (r : Meaning) (events : List Event) → HasMeaning P r → EachReady P (start P) events → length events ≤ r.firings + r.instances
    longest P r events has each = elim (cases_Bool (is_live (instance_at (after P (start P) events) 0))) [
      | inl up ↦ omega (arith, run_shorter P has.depth r has.means events each up)
      | inr down ↦ omega (arith, (run_counts P has.depth r has.means events each down).2)
    ]

pub returns-clause-no_outcome : goal.returns-clause-no_outcome
returns-clause-no_outcome c = λ P T none s. still P T none s (instance_at T 0).outcome refl
  where
    still : (P : Program) (T : Table) → HasNoOutcome P → IsStateOf P T → (o : Option Outcome) → (instance_at T 0).outcome ≡ o → not (is_some o) ≡ true
    still P T none s None is = refl
    still P T none s (Some o) is =
        let (r, has, same) = state_means P T o s is in
        absurd (let q : Some r ≡ None = sym has.means ∙ none has.depth in cc)

pub returns-clause-goes_on : goal.returns-clause-goes_on
returns-clause-goes_on c = λ P T s up. let (n, sound) = state_sound P T s in progress P (mean P n) T sound up
