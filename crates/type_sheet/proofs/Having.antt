-- An expression that has a type has a value of this type.
use Rattle.std.specs.Prelude.{◌≡◌, ℕ, List, Option, Some, None, Bool, true}
use Rattle.std.specs.Option.{unwrap_or}
use Rattle.std.proofs.Common.{refl}
use Rattle.codex_values.specs.Value.{Value, unit}
use Rattle.two_d.specs.Meaning.{Inputs, val}
use Rattle.two_d.specs.Trees as tree
use Rattle.two_d.specs.Trees.{Tree}
use Rattle.type_sheet.specs.declared.line.Form.{Form}
use Rattle.type_sheet.specs.declared.line.Form.TheVariants.{Unit as UnitForm, Pair, Sum}
use Rattle.type_sheet.specs.declared.line.SheetRow.{SheetRow}
use Rattle.type_sheet.specs.Said.{form_in}
use Rattle.type_sheet.specs.Types.{InputTypes, is_pairs, has_first, has_second, has_type, expression_has}
use Rattle.type_sheet.proofs.TestLemmas.{both, same_type}

-- what comes to a port has the port's type
abbrev pub IsPortOf : List SheetRow → Option (List ℕ) → Option Value → Type 0
IsPortOf rows None v = Unit {0}
IsPortOf rows (Some a) None = ⊥
IsPortOf rows (Some a) (Some v) = has_type rows v a ≡ true

pub record AreInputsOf (rows : List SheetRow) (ports : InputTypes) (a : Inputs) : Type 0 where
  pub north : IsPortOf rows ports.north a.north
  pub west : IsPortOf rows ports.west a.west

pairs-more : (f : Option Form) (p q p' q' : List ℕ → Bool) → ((a : List ℕ) → p a ≡ true → p' a ≡ true) → ((a : List ℕ) → q a ≡ true → q' a ≡ true) →
    is_pairs f p q ≡ true → is_pairs f p' q' ≡ true
pairs-more None p q p' q' g h e = absurd (cc)
pairs-more (Some UnitForm) p q p' q' g h e = absurd (cc)
pairs-more (Some (Pair a c)) p q p' q' g h e = let parts = both (p a) (q c) e in rw (g a parts.0, h c parts.1) refl
pairs-more (Some (Sum a c)) p q p' q' g h e = absurd (cc)

first-more : (f : Option Form) (p p' : List ℕ → Bool) → ((a : List ℕ) → p a ≡ true → p' a ≡ true) → has_first f p ≡ true → has_first f p' ≡ true
first-more None p p' g e = absurd (cc)
first-more (Some UnitForm) p p' g e = absurd (cc)
first-more (Some (Pair a c)) p p' g e = absurd (cc)
first-more (Some (Sum a c)) p p' g e = g a e

second-more : (f : Option Form) (p p' : List ℕ → Bool) → ((a : List ℕ) → p a ≡ true → p' a ≡ true) → has_second f p ≡ true → has_second f p' ≡ true
second-more None p p' g e = absurd (cc)
second-more (Some UnitForm) p p' g e = absurd (cc)
second-more (Some (Pair a c)) p p' g e = absurd (cc)
second-more (Some (Sum a c)) p p' g e = g c e

port-has : (rows : List SheetRow) (t : Option (List ℕ)) (v : Option Value) (a : List ℕ) → IsPortOf rows t v → t ≡ Some a → has_type rows (unwrap_or v unit) a ≡ true
port-has rows None v a port e = absurd (cc)
port-has rows (Some c) None a port e = absurd port
port-has rows (Some c) (Some v) a port e = let same : c ≡ a = cc in rw (← same) port

pub val-has : (rows : List SheetRow) (ports : InputTypes) (a : Inputs) → AreInputsOf rows ports a → (x : Tree) (t : List ℕ) →
    expression_has rows ports x t ≡ true → has_type rows (val x a) t ≡ true
val-has rows ports a inputs tree.unit t e = e
val-has rows ports a inputs (tree.pair x y) t e =
    pairs-more (form_in rows t) (expression_has rows ports x) (expression_has rows ports y) (has_type rows (val x a)) (has_type rows (val y a))
    (val-has rows ports a inputs x) (val-has rows ports a inputs y) e
val-has rows ports a inputs (tree.inl x) t e =
    first-more (form_in rows t) (expression_has rows ports x) (has_type rows (val x a)) (val-has rows ports a inputs x) e
val-has rows ports a inputs (tree.inr x) t e =
    second-more (form_in rows t) (expression_has rows ports x) (has_type rows (val x a)) (val-has rows ports a inputs x) e
val-has rows ports a inputs tree.n t e = port-has rows ports.north a.north t inputs.north (same_type ports.north t e)
val-has rows ports a inputs tree.w t e = port-has rows ports.west a.west t inputs.west (same_type ports.west t e)
