-- What `check` answers, in the words of the definitions.
use Rattle.std.specs.Prelude.{◌≡◌, ℕ, Option, Some, None}
use Rattle.umix_base.specs.declared.place.Place.{Place}
use Rattle.two_d.specs.Faults.{TextFault, told_as}
use Rattle.module_table.specs.declared.fault.CheckFault.{CheckFault}
use Rattle.module_table.specs.declared.fault.CheckFault.TheVariants.{Bad, Memory}

-- the number and the place of a refusal; want of memory has none
abbrev pub answer_of : CheckFault → Option (ℕ × Option Place)
answer_of (Bad number place) = Some (number, place)
answer_of Memory = None

-- the refusal has the number of this fault
abbrev pub HasNumberOf : CheckFault → TextFault → Type 0
HasNumberOf (Bad number place) fault = (told_as fault).0 ≡ number
HasNumberOf Memory fault = ⊥
