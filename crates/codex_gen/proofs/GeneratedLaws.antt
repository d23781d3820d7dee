-- The grid of a number has a program, whose outcome is the value of its forms.
use Rattle.std.specs.Prelude.{◌≡◌, ◌<◌, ◌≤◌, ℕ, suc, List, [], ◌∷◌, length}
use Rattle.std.proofs.Common.{arith}
use Rattle.codex_values.specs.Value.{unit}
use Rattle.two_d.specs.Meaning.{Gives, Meaning}
use Rattle.two_d.specs.Steps.{HasMeaning}
use Rattle.codex_gen.specs.Answers.{IsGenerated}
use Rattle.codex_gen.specs.Generated.{grid_of_number, forms_of_number, forms_value, value_of_number}
use Rattle.codex_gen.proofs.Firings.{few_firings}
use Rattle.codex_gen.proofs.GeneratedGrid.{long_forms, count_bounds, number_has_program, number_grid_long}
use Rattle.codex_gen.proofs.GeneratedMeaning.{forms_mean, forms_long}
use Rattle.codex_gen.proofs.GeneratedProgram.{few_boxes, program_of_forms}

meaning_is : (forms : List ℕ) → 0 < length forms → length forms ≤ 55
    → (r : Meaning) × HasMeaning (program_of_forms forms) r × (r.outcome ≡ Gives (forms_value forms unit)) × (r.instances ≤ 56)
meaning_is [] some few = absurd (omega arith)
meaning_is (f ∷ more) some few =
    let (r, is, gives, n) = forms_mean f more (omega arith) in
    (r, record { depth = suc (length (f ∷ more)); means = is }, gives, omega arith)

pub generated : (number : ℕ) → IsGenerated (grid_of_number number) (value_of_number number)
generated number =
    let n = long_forms number in
    let c = count_bounds number in
    let (r, means, gives, few) = meaning_is (forms_of_number number) (omega arith) (omega arith) in
    record {
      program = program_of_forms (forms_of_number number);
      meaning = r;
      read = number_has_program number;
      means = means;
      gives = gives;
      short = number_grid_long number;
      few_instances = few;
      few_firings = (let fire = few_firings (program_of_forms (forms_of_number number)) (few_boxes (forms_of_number number)) r means in omega arith);
      short_value = (let e = forms_long (forms_of_number number) unit in omega arith);
    }
