-- Which boxes of an instance may be ready, or no more, when one has come to something: that one, and those to
-- which a wire from it leads.
use Rattle.std.specs.Prelude.{◌≡◌, ◌≢◌, ℕ, ◌⊎◌, ◌&&◌, Option, Some, None, Bool, not, is_some, slice_get, slice_index_or, slice_set}
use Rattle.std.specs.Option.{option_map, option_and_then}
use Rattle.std.proofs.Common.{refl, sym, ◌∙◌, ap, arith, inl, inr}
use Rattle.std.proofs.lemmas.List.{get_or-set_other}
use Rattle.codex_values.specs.Value.{Value}
use Rattle.two_d.specs.Meaning.{Cell, Effect, Inputs, act, inputs_of, with_input, effect_of, look_in}
use Rattle.two_d.specs.Programs.{Program, BoxForm, box_at}
use Rattle.two_d.specs.declared.module.Origin.{Origin}
use Rattle.two_d.specs.declared.module.Origin.TheVariants.{North, West, South, East}
use Rattle.two_d.specs.Steps.{Instance, wires, fired, firing, can_fire, with_cell}

-- no wire from box b comes to a box of this form
pub record IsApart (b : ℕ) (row : BoxForm) : Type 0 where
  pub n_south : row.n ≢ Some (South b)
  pub n_east : row.n ≢ Some (East b)
  pub w_south : row.w ≢ Some (South b)
  pub w_east : row.w ≢ Some (East b)

-- what comes of the value on a wire, if there is one
abbrev carried : (Option Value → Option Inputs) → Option Value → Option Inputs
carried go v = elim v [ None ↦ None | Some u ↦ go (Some u) ]

module _ (x : Instance) (b : ℕ) (c : Cell) where
  -- what is on other wires stays
  wires-other : (o : Origin) → o ≢ South b → o ≢ East b → wires (with_cell x b c) o ≡ wires x o
  wires-other North s e = refl
  wires-other West s e = refl
  wires-other (South d) s e = rw (get_or-set_other x.cells b d (Some c) None (λ is. s (ap South is))) refl
  wires-other (East d) s e = rw (get_or-set_other x.cells b d (Some c) None (λ is. e (ap East is))) refl

  input-other : (wired : Option Origin) (go : Option Value → Option Inputs) → wired ≢ Some (South b) → wired ≢ Some (East b) →
      with_input wired (wires (with_cell x b c)) go ≡ with_input wired (wires x) go
  input-other None go s e = refl
  input-other (Some o) go s e = ap (carried go) (wires-other o (λ is. s (ap Some is)) (λ is. e (ap Some is)))

  inputs-other : (row : BoxForm) → IsApart b row → inputs_of (wires (with_cell x b c)) row ≡ inputs_of (wires x) row
  inputs-other row apart =
      input-other row.n (λ n. with_input row.w (wires (with_cell x b c)) (λ w. Some (record { north = n; west = w }))) apart.n_south apart.n_east
      ∙ by row.n
    where
      second : (n : Option Value) → with_input row.w (wires (with_cell x b c)) (λ w. Some (record { north = n; west = w })) ≡ with_input row.w (wires x) (λ w. Some (record { north = n; west = w }))
      second n = input-other row.w (λ w. Some (record { north = n; west = w })) apart.w_south apart.w_east

      at : (v : Option Value) → carried (λ n. with_input row.w (wires (with_cell x b c)) (λ w. Some (record { north = n; west = w }))) v
          ≡ carried (λ n. with_input row.w (wires x) (λ w. Some (record { north = n; west = w }))) v
      at None = refl
      at (Some u) = second (Some u)

      by : (o : Option Origin) → with_input o (wires x) (λ n. with_input row.w (wires (with_cell x b c)) (λ w. Some (record { north = n; west = w })))
          ≡ with_input o (wires x) (λ n. with_input row.w (wires x) (λ w. Some (record { north = n; west = w })))
      by None = second None
      by (Some o) = at (wires x o)

  -- a box that no wire from b leads to can fire as before
  pub can_fire-apart : (P : Program) (d : ℕ) → d ≢ b → ((row : BoxForm) → box_at P x.kind d ≡ Some row → IsApart b row) → can_fire P (with_cell x b c) d ≡ can_fire P x d
  can_fire-apart P d other apart =
      ap (λ t. not (is_some t) && is_some (firing P (with_cell x b c) d)) (get_or-set_other x.cells b d (Some c) None other)
      ∙ ap (λ t. not (is_some (fired x d)) && is_some t) (by (box_at P x.kind d) apart)
    where
      by : (form : Option BoxForm) → ((row : BoxForm) → form ≡ Some row → IsApart b row) →
          option_and_then (λ row. option_map (effect_of P x.kind d row.command) (inputs_of (wires (with_cell x b c)) row)) form
          ≡ option_and_then (λ row. option_map (effect_of P x.kind d row.command) (inputs_of (wires x) row)) form
      by None h = refl
      by (Some row) h = ap (option_map (effect_of P x.kind d row.command)) (inputs-other row (h row refl))
