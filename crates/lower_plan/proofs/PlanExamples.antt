-- The numbers of a module with one box and one exit.
use Rattle.std.specs.Prelude.{◌≡◌, [], ◌∷◌, Some, None, false, codes}
use Rattle.std.proofs.Common.{refl}
use Rattle.two_d.specs.declared.module.Origin.TheVariants.{East}
use Rattle.two_d.specs.declared.command.Side.TheVariants.{E}
use Rattle.two_d.specs.Programs.{BoxForm, ModuleForm}
use Rattle.two_d.specs.Trees.{unit, send}
use Rattle.two_d.specs.Weights.{part}
use Rattle.lower_plan.specs.Plans.{wire_starts, slot_at, step_of}

abbrev row : BoxForm
row = record { command = send ((unit, E) ∷ []); n = None; w = None }

abbrev small : ModuleForm
small = record { name = codes "main"; north = false; west = false; boxes = row ∷ []; exits = Some (East 0) ∷ [] }

weighs_20 : part small ≡ 20
weighs_20 = refl

one_wire : wire_starts small ≡ East 0 ∷ []
one_wire = refl

east_has_slot_0 : step_of small 0 row ≡ record { bx = 0; n = None; w = None; s = None; e = Some 0 }
east_has_slot_0 = refl

exit_has_slot_0 : slot_at small (Some (East 0)) ≡ Some 0
exit_has_slot_0 = refl
