-- Evaluations by picks.
use Rattle.std.specs.Prelude.{◌<◌, length}
use Rattle.fire_eval.specs.declared.picks.Picks.{Picks}
use Rattle.fire_eval.specs.declared.picks.Picks.TheVariants as picks
use Rattle.two_d.specs.Steps.{Choice, First, Last, Listed}

abbrev pub choice_of : Picks → Choice
choice_of picks.First = First
choice_of picks.Last = Last
choice_of (picks.List numbers) = Listed numbers.items

-- a list of picks isn't empty
abbrev pub HasPicks : Picks → Type 0
HasPicks picks.First = Unit {0}
HasPicks picks.Last = Unit {0}
HasPicks (picks.List numbers) = 0 < length numbers.items
