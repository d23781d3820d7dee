use Rattle.std.specs.Prelude.{◌≡◌, ℕ, ◌<◌, true, Some, slice_get}
use Rattle.two_d.specs.declared.command.Exp.{Exp}
use Rattle.two_d.specs.declared.command.Side.{Side}
use Rattle.two_d.specs.Programs.{module_of}
use Rattle.two_d.specs.Trees.{tree_of}
use Rattle.type_sheet.specs.Fits.{out_fits}
use Rattle.type_sheet.specs.inner.Carried.{inputs_read, types_in}
use Rattle.type_sheet.proofs.typing.WireTypes.outs_fit.Given as goal

-- all that was looked at fits
abbrev pub invariant-loop-out : goal.invariant-loop-out
invariant-loop-out l =
    (i : ℕ) (out : Exp × Side) → i < l.out-index → slice_get l.outs i ≡ Some out
    → out_fits l.declared.rows.now (module_of l.module) l.bx (types_in l.self) (inputs_read l.ports) (tree_of out.0, out.1) ≡ true
