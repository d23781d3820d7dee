use Rattle.std.specs.Prelude.{Bool, List}
use Rattle.std.proofs.Common.{◌≡◌, ℕ, ◌-◌, length, slice_get, Some, refl, arith, ◌∙◌, ap}
use Rattle.std.proofs.lemmas.Option.{slice_get_read}
use Rattle.two_d.specs.Programs.{Program, ModuleForm, find, module_of}
use Rattle.type_sheet.specs.Fits.{needs_wire, needs_of, of_module}
use Rattle.type_sheet.proofs.needs.has_place.Goals as goal

-- what holds of the module that is found
found : (P : Program) (name : List ℕ) (i : ℕ) (m : ModuleForm) (holds : ModuleForm → Bool) → find P name ≡ i → slice_get P i ≡ Some m → holds m ≡ of_module P name holds
found P name i m holds number at = rw (number, at) refl

pub needs_wire-requires : goal.needs_wire-requires
needs_wire-requires c =
    let i = c.in-Some-module_number.number in
    let w = c.index-wired-number.result in
    let at : slice_get c.args.wired.now i ≡ Some w = slice_get_read c.args.wired.now (length c.args.wired.now) i w refl (omega (arith, c.requires.many, c.in-Some-module_number.ensures.1)) c.index-wired-number.is in
    c.requires.each i w (module_of c.module_at-in-Some-module_number.result.now) at c.module_at-in-Some-module_number.ensures

pub returns-in-Some-module_number : goal.returns-in-Some-module_number
returns-in-Some-module_number c =
    let P = c.args.program.now in
    let m = module_of c.module_at-in-Some-module_number.result.now in
    rw c.in-Wire.is (c.needs_wire.ensures ∙ ap (λ b. needs_wire m b c.in-Wire.side) c.from_zero.ensures
    ∙ found P c.in-Wire.name c.in-Some-module_number.number m (λ one. needs_wire one (c.in-Wire.bx - 1) c.in-Wire.side) c.in-Some-module_number.ensures.0 c.module_at-in-Some-module_number.ensures)

pub returns-in-Some-module_number-2 : goal.returns-in-Some-module_number-2
returns-in-Some-module_number-2 c =
    let P = c.args.program.now in
    let m = module_of c.module_at-in-Some-module_number-2.result.now in
    rw c.in-Of.is (c.needs_of.ensures ∙ ap (needs_of m) c.from_zero-in-Some-module_number-2.ensures
    ∙ found P c.in-Of.name c.in-Some-module_number-2.number m (λ one. needs_of one (c.in-Of.bx - 1)) c.in-Some-module_number-2.ensures.0 c.module_at-in-Some-module_number-2.ensures)
