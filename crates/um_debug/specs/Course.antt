-- What cycles come to, with breakpoints and watches.
use Rattle.std.specs.Prelude.{◌≡◌, ℕ, zero, suc, ◌<◌, ◌==◌, Bool, true, false, if◌then◌else◌, List}
use Rattle.std.specs.Prelude.{[], ◌∷◌, Option, Some, None}
use Rattle.std.specs.List.{list_any}
use Rattle.umix_base.specs.declared.limits.Limits.{Limits}
use Rattle.um_word.specs.State.{Arrays, State}
use Rattle.um_word.specs.Table as table
use Rattle.um_word.specs.Table.{cycle, op_under}
use Rattle.um_word.specs.Run.{Standing, Stands, Failed}
use Rattle.um_word.specs.Rule.{Identifiers, next_identifier, ruled}
use Rattle.um_machine.specs.declared.stop.Stop.{Stop}
use Rattle.um_machine.specs.Stops.{stop_of, MayFail}
use Rattle.um_machine.specs.Runs.{Remains}
use Rattle.um_debug.specs.declared.command.WordPlace.{WordPlace}
use Rattle.um_debug.specs.declared.course.Came.{Came}
use Rattle.um_debug.specs.declared.course.Came.TheVariants as came
use Rattle.um_debug.specs.Replies.{word_at}

-- where a run is to stop: at offsets of array 0, and where words change; each in the order in which it was set
pub record Points : Type 0 where
  pub breakpoints : List ℕ
  pub watches : List WordPlace

abbrev pub no_points : Points
no_points = record { breakpoints = []; watches = [] }

-- two words are the same, or neither is there
abbrev pub is_same_word : Option ℕ → Option ℕ → Bool
is_same_word None None = true
is_same_word None (Some new) = false
is_same_word (Some old) None = false
is_same_word (Some old) (Some new) = old == new

-- the first watch whose word isn't the same after a cycle as before it
abbrev pub first_change : (before after : Arrays) → List WordPlace → Option WordPlace
first_change before after [] = None
first_change before after (place ∷ places) =
    if is_same_word (word_at before place) (word_at after place) then first_change before after places else Some place

-- how cycles stand: they go on from a state, or they came to something
pub data Going : Type 0 where
  Goes : State → Identifiers → Going
  Ends : State → Identifiers → Came → Going

-- the breakpoint at the finger
abbrev pub broke : Points → (finger : ℕ) → Option Came
broke points finger =
    if list_any (λ offset. offset == finger) points.breakpoints then Some (came.Broke finger) else None

-- a word that changed, or else a breakpoint
abbrev pub by_change : (before after : Arrays) → Option WordPlace → Option Came → Option Came
by_change before after None broke = broke
by_change before after (Some place) broke =
    Some (came.Watched place (word_at before place) (word_at after place))

-- what cycles come to after a cycle that led from these arrays to those, and to this finger
abbrev pub seen_at : Points → (before after : Arrays) → (finger : ℕ) → Option Came
seen_at points before after finger =
    by_change before after (first_change before after points.watches) (broke points finger)

-- they go on where there is nothing to see
abbrev pub going_on : State → Identifiers → Option Came → Going
going_on t j None = Goes t j
going_on t j (Some came) = Ends t j came

-- what is looked at after a cycle: first whether the machine stopped, then the watches, then the breakpoints
abbrev pub after_cycle : Points → State → Standing Identifiers → Going
after_cycle points s (Failed t j fault) = Ends t j (came.Failed (stop_of fault))
after_cycle points s (Stands t j) =
    if t.halted then Ends t j came.Halted else going_on t j (seen_at points s.arrays t.arrays t.finger)

-- one cycle more, if they go on
abbrev pub one_more : Limits → Points → Going → Going
one_more L points (Goes s i) = after_cycle points s (ruled L 1 i s)
one_more L points (Ends s i came) = Ends s i came

-- so many cycles, as long as they go on
unfoldable pub goes_for : Limits → Points → ℕ → Identifiers → State → Going
goes_for L points zero i s = Goes s i
goes_for L points (suc n) i s = one_more L points (goes_for L points n i s)

-- After so many of n cycles, which would go on, the next one failed for another cause than the table's: the
-- machine stands as before it, but for the byte of a failed Output, which may be out.
pub record IsCutOff (L : Limits) (points : Points) (n : ℕ) (i : Identifiers) (s : State) (why : Stop)
    (j : Identifiers) (t : State) : Type 0 where
  pub made : ℕ
  pub fewer : made < n
  pub at : State
  pub goes : goes_for L points made i s ≡ Goes at j
  pub running : at.halted ≡ false
  pub fails : MayFail (op_under at) why
  pub next : State
  pub would_go : cycle at L (next_identifier j) ≡ table.Goes next
  pub remains : Remains why at next t
