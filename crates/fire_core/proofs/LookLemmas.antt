-- What is looked up in a row is on the wires of its instance.
use Rattle.std.specs.Prelude.{Option, Some, None, ◌≡◌, ℕ, Bool, true, false, not, is_some}
use Rattle.std.specs.Option.{option_map, option_and_then}
use Rattle.std.proofs.Common.{refl, sym, ◌∙◌, ap}
use Rattle.codex_values.specs.Value.{Value}
use Rattle.two_d.specs.declared.module.Origin.{Origin}
use Rattle.two_d.specs.Programs.{Program, BoxForm, box_at}
use Rattle.two_d.specs.Meaning as mean
use Rattle.two_d.specs.Meaning.{Inputs, with_input, effect_of, act}
use Rattle.two_d.specs.Steps.{Instance, fired, wires, firing, can_fire}
use Rattle.fire_core.specs.inner.Look.{input_at}

pub input_at-wired : (look : Origin → Option Value) (wired : Option Origin) (o : Origin) (r : Option Value) → wired ≡ Some o → r ≡ look o → option_map Some r ≡ input_at look wired
input_at-wired look wired o r is e = rw is (ap (option_map Some) e)

-- an input, and then what is done with it
pub with_input-at : (w : Option Origin) (look : Origin → Option Value) (go : Option Value → Option Inputs) → with_input w look go ≡ option_and_then go (input_at look w)
with_input-at None look go = refl
with_input-at (Some o) look go = by (look o)
  where
    by : (v : Option Value) → with_input (Some o) (λ _. v) go ≡ option_and_then go (option_map Some v)
    by None = refl
    by (Some v) = refl

pub inputs-none_north : (look : Origin → Option Value) (row : BoxForm) → None ≡ input_at look row.n → None ≡ mean.inputs_of look row
inputs-none_north look row e = ap (option_and_then (λ n. with_input row.w look (λ w. Some (record { north = n; west = w })))) e ∙ sym (with_input-at row.n look _)

pub inputs-none_west : (look : Origin → Option Value) (row : BoxForm) (n : Option Value) → Some n ≡ input_at look row.n → None ≡ input_at look row.w → None ≡ mean.inputs_of look row
inputs-none_west look row n e f =
    ap (option_and_then (λ w. Some (record { north = n; west = w }))) f
    ∙ (sym (with_input-at row.w look (λ w. Some (record { north = n; west = w })))
    ∙ (ap (option_and_then (λ n. with_input row.w look (λ w. Some (record { north = n; west = w })))) e ∙ sym (with_input-at row.n look _)))

pub inputs-both : (look : Origin → Option Value) (row : BoxForm) (n w : Option Value) → Some n ≡ input_at look row.n → Some w ≡ input_at look row.w →
    Some (record { north = n; west = w }) ≡ mean.inputs_of look row
inputs-both look row n w e f =
    ap (option_and_then (λ w. Some (record { north = n; west = w }))) f
    ∙ (sym (with_input-at row.w look (λ w. Some (record { north = n; west = w })))
    ∙ (ap (option_and_then (λ n. with_input row.w look (λ w. Some (record { north = n; west = w })))) e ∙ sym (with_input-at row.n look _)))

is_some-map : {A B : Type 0} (f : A → B) (o : Option A) → is_some (option_map f o) ≡ is_some o
is_some-map f None = refl
is_some-map f (Some x) = refl

-- a box can fire where it hasn't fired and its inputs are there
pub can_fire-inputs : {X : Type 0} (P : Program) (x : Instance) (b : ℕ) (row : BoxForm) (f : X → Inputs) (r : Option X) (has done : Bool) → box_at P x.kind b ≡ Some row →
    has ≡ is_some (fired x b) → has ≡ false → done ≡ is_some r → option_map f r ≡ mean.inputs_of (wires x) row → done ≡ can_fire P x b
can_fire-inputs P x b row f r has done is fires none same e =
    let acts : firing P x b ≡ option_map (effect_of P x.kind b row.command) (mean.inputs_of (wires x) row) = rw is refl in
    let left : is_some (fired x b) ≡ false = rw fires at none in
    rw (left, acts) (same ∙ (sym (is_some-map f r) ∙ (ap is_some e ∙ sym (is_some-map (effect_of P x.kind b row.command) (mean.inputs_of (wires x) row)))))

-- a box that has fired can't fire
pub can_fire-fired : (P : Program) (x : Instance) (b : ℕ) (has : Bool) → has ≡ is_some (fired x b) → has ≡ true → not has ≡ can_fire P x b
can_fire-fired P x b has fires none = let left : is_some (fired x b) ≡ true = rw fires at none in rw (left, none) refl
