use Rattle.std.specs.Prelude.{◌≡◌, take, Some}
use Rattle.two_d.specs.declared.module.Origin.{Origin}
use Rattle.two_d.specs.Programs.{module_of}
use Rattle.two_d.proofs.Sourced.{IsFrom}
use Rattle.two_d.proofs.TableLemmas.{GoesOnAt}
use Rattle.type_sheet.specs.declared.fault.At.TheVariants.{Bx}
use Rattle.type_sheet.specs.declared.fault.SheetFault.TheVariants.{Mismatch}
use Rattle.type_sheet.specs.Wires.{wire_type}
use Rattle.type_sheet.specs.Fits.{box_fits, want}
use Rattle.type_sheet.specs.inner.Carried.{types_in, HasRoom}
use Rattle.type_sheet.proofs.fitting.check_module.Given as goal

-- the boxes so far fit, and what their wires carry is known
abbrev pub invariant-loop-bx : goal.invariant-loop-bx
invariant-loop-bx l = record {
  room : HasRoom l.types (module_of l.module);
  known : (o : Origin) → IsFrom (take l.bx-index l.order) (Some o) → types_in l.types o ≡ wire_type l.declared.rows.now (module_of l.module) o;
  fit : GoesOnAt (λ _ b. want (Mismatch (Bx l.number b)) (box_fits l.declared.rows.now (module_of l.module) b)) l.order l.bx-index;
}
