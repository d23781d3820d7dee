-- The modules that boxes of a good program start are there.
use Rattle.std.specs.Prelude.{◌≡◌, ℕ, ◌<◌, Option, Some, None, List, length, slice_index_or}
use Rattle.std.specs.Option.{option_map, option_and_then}
use Rattle.std.proofs.Common.{refl}
use Rattle.std.proofs.lemmas.Option.{slice_get_within, get_or_from_slice_get}
use Rattle.codex_values.specs.Value.{Value}
use Rattle.two_d.specs.declared.module.Origin.{Origin}
use Rattle.two_d.specs.Good.{IsGood, UsesWell}
use Rattle.two_d.specs.Meaning.{Inputs, Starts, effect_of, inputs_of, act}
use Rattle.two_d.specs.Programs.{Program, BoxForm, module_at, no_module, box_at, find}
use Rattle.two_d.specs.Trees.{Form, send, case, split, call}
use Rattle.two_d.proofs.Options.{option_map_some}

starts-call : (P : Program) (m b : ℕ) (command : Form) (a : Inputs) (j : ℕ) (a' : Inputs) → effect_of P m b command a ≡ Starts j a' →
    (name : List ℕ) × (command ≡ call name) × (j ≡ find P name)
starts-call P m b (send outs) a j a' e = absurd (cc)
starts-call P m b (case x s t) a j a' e = absurd (cc)
starts-call P m b (split x) a j a' e = absurd (cc)
starts-call P m b (call name) a j a' e = (name, refl, cc)

-- what a box of a good program starts is there
pub starts-there : (P : Program) → IsGood P → (m : ℕ) → m < length P → (look : Origin → Option Value) (b j : ℕ) (a : Inputs) → act P m look b ≡ Some (Starts j a) → j < length P
starts-there P good m lt look b j a e = by (box_at P m b) refl e
  where
    by : (row : Option BoxForm) → box_at P m b ≡ row →
        option_and_then (λ row. option_map (effect_of P m b row.command) (inputs_of look row)) row ≡ Some (Starts j a) → j < length P
    by None is e = absurd (cc)
    by (Some row) is e =
        let (inputs, there, effect) = option_map_some (effect_of P m b row.command) (inputs_of look row) (Starts j a) e in
        let (name, called, found) = starts-call P m b row.command inputs j a effect in
        let within : b < length (module_at P m).boxes = slice_get_within (module_at P m).boxes b row is in
        let here : slice_index_or (module_at P m).boxes b row ≡ row = get_or_from_slice_get (module_at P m).boxes b row row is in
        let well : UsesWell P row = rw here at (good.uses m no_module lt b row within) in
        rw found (well name called).0
