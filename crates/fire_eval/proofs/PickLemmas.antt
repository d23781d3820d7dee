-- Where nothing is ready, nothing is picked.
use Rattle.std.specs.Prelude.{◌≡◌, ℕ, ◌-◌, ◌%◌, List, length, None, slice_index}
use Rattle.std.proofs.Common.{sym, arith}
use Rattle.std.proofs.lemmas.Option.{slice_get_past}
use Rattle.two_d.specs.Steps.{Event, Choice, First, Last, Listed, pick}

pub none_picked : (picks : Choice) (k : ℕ) (events : List Event) → length events ≡ 0 → None ≡ pick picks k events
none_picked First k events none = sym (slice_get_past events 0 (omega arith))
none_picked Last k events none = sym (slice_get_past events (length events - 1) (omega arith))
none_picked (Listed picks) k events none = sym (slice_get_past events (slice_index picks (k % length picks) % length events) (omega arith))
