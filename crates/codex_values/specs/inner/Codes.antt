-- How values are told apart in proofs.
use Rattle.std.specs.Prelude.{◌≡◌}
use base.Stored.{Gv, gnil, gnum, gcons}
use Rattle.std.specs.Coded.{Coded}
use Rattle.std.proofs.Common.{refl, ap}
use Rattle.codex_values.specs.Value.{Value, unit, pair, inl, inr}

abbrev pub code_first : Gv → Gv
code_first gnil = gnil
code_first (gnum k) = gnil
code_first (gcons a b) = a

abbrev pub code_rest : Gv → Gv
code_rest gnil = gnil
code_rest (gnum k) = gnil
code_rest (gcons a b) = b

abbrev pub value_code : Value → Gv
value_code unit = gnil
value_code (pair a b) = gcons (gnum 0) (gcons (value_code a) (value_code b))
value_code (inl a) = gcons (gnum 1) (value_code a)
value_code (inr a) = gcons (gnum 2) (value_code a)

pub value_code-inj : (v w : Value) → value_code v ≡ value_code w → v ≡ w
value_code-inj unit unit e = refl
value_code-inj (pair a b) (pair c d) e =
    λ i. pair (value_code-inj a c (ap (λ g. code_first (code_rest g)) e) i)
    (value_code-inj b d (ap (λ g. code_rest (code_rest g)) e) i)
value_code-inj (inl a) (inl b) e = ap inl (value_code-inj a b (ap code_rest e))
value_code-inj (inr a) (inr b) e = ap inr (value_code-inj a b (ap code_rest e))
value_code-inj _ _ e = absurd (cc)

abbrev pub coded_value : Coded Value
coded_value = record { code = value_code; inj = value_code-inj }
