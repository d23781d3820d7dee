use Rattle.std.specs.Prelude.{◌≡◌, ℕ, length, Some, slice_get}
use Rattle.two_d.specs.declared.module.Module.{Module}
use Rattle.two_d.specs.Programs.{module_of}
use Rattle.type_sheet.specs.declared.wired.Wired.{Wired}
use Rattle.type_sheet.specs.inner.Carried.{IsWiredOf}
use Rattle.type_sheet.proofs.fitting.wired_of.Given as goal

-- the marks of the modules so far
abbrev pub invariant-loop-module : goal.invariant-loop-module
invariant-loop-module l = record {
  many : length l.wired.items ≡ l.module-index;
  each : (i : ℕ) (w : Wired) (m : Module) → slice_get l.wired.items i ≡ Some w → slice_get l.modules i ≡ Some m → IsWiredOf w (module_of m);
}
