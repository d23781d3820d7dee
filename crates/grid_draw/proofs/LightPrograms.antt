-- What a good program of these modules weighs.
use Rattle.std.specs.Prelude.{◌≡◌, ◌+◌, ◌≤◌, ℕ, Ok, List, [], ◌∷◌}
use Rattle.std.proofs.Common.{ap, arith, ◌∙◌}
use Rattle.two_d.specs.Programs.{Program, module_of, modules_of}
use Rattle.two_d.specs.Reading.{Then, Gave}
use Rattle.two_d.specs.Table.{table_of}
use Rattle.two_d.specs.Weights.{part, weight}
use Rattle.two_d.specs.declared.module.Module.{Module}
use Rattle.two_d.specs.inner.TableParts.{uses_of, cycles_of}
use Rattle.two_d.proofs.GoodTable.{table_parts}
use Rattle.two_d.proofs.InOrder.{gave_is, then_ok}

-- what the table gives are its modules
given : (P Q : Program) → table_of P (Ok Q) → Q ≡ P
given P Q table =
    let (u, uses, rest) = then_ok (uses_of P) (λ _. Then (cycles_of P) (λ _. Gave P)) Q (table_parts P (Ok Q) table) in
    let (v, rings, last) = then_ok (cycles_of P) (λ _. Gave P) Q rest in
    let same = gave_is P (Ok Q) last in
    cc

pub light_one : (modules : List Module) (Q : Program) (one : Module) → table_of (modules_of modules) (Ok Q) → modules ≡ one ∷ []
    → part (module_of one) ≤ 1000 → weight Q ≤ 262144
light_one modules Q one table is light =
    omega (arith, ap weight (given (modules_of modules) Q table), ap (λ ms. weight (modules_of ms)) is, light)

pub light_two : (modules : List Module) (Q : Program) (one other : Module) → table_of (modules_of modules) (Ok Q) → modules ≡ one ∷ other ∷ []
    → part (module_of one) ≤ 100000 → part (module_of other) ≤ 100000 → weight Q ≤ 262144
light_two modules Q one other table is light less =
    omega (arith, ap weight (given (modules_of modules) Q table), ap (λ ms. weight (modules_of ms)) is, light, less)
