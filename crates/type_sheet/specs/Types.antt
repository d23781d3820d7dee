-- The values and the expressions that have a declared type.
use Rattle.std.specs.Prelude.{ℕ, List, Option, Some, None, Bool, true, false, ◌&&◌}
use Rattle.codex_values.specs.Value.{Value, unit, pair, inl, inr}
use Rattle.two_d.specs.Programs.{is_name}
use Rattle.two_d.specs.Trees as tree
use Rattle.two_d.specs.Trees.{Tree}
use Rattle.type_sheet.specs.declared.line.Form.{Form as KindForm}
use Rattle.type_sheet.specs.declared.line.Form.TheVariants.{Unit as UnitForm, Pair, Sum}
use Rattle.type_sheet.specs.declared.line.SheetRow.{SheetRow}
use Rattle.type_sheet.specs.Said.{form_in}

-- the unit
abbrev pub is_unit : Option KindForm → Bool
is_unit (Some UnitForm) = true
is_unit _ = false

-- the pairs of two types, of which this holds
abbrev pub is_pairs : Option KindForm → (List ℕ → Bool) → (List ℕ → Bool) → Bool
is_pairs (Some (Pair b c)) first second = first b && second c
is_pairs _ first second = false

-- a sum, of whose first type this holds
abbrev pub has_first : Option KindForm → (List ℕ → Bool) → Bool
has_first (Some (Sum b c)) first = first b
has_first _ first = false

-- a sum, of whose second type this holds
abbrev pub has_second : Option KindForm → (List ℕ → Bool) → Bool
has_second (Some (Sum b c)) second = second c
has_second _ second = false

-- the value has the type a
abbrev pub has_type : List SheetRow → Value → List ℕ → Bool
has_type rows unit a = is_unit (form_in rows a)
has_type rows (pair v w) a = is_pairs (form_in rows a) (has_type rows v) (has_type rows w)
has_type rows (inl v) a = has_first (form_in rows a) (has_type rows v)
has_type rows (inr v) a = has_second (form_in rows a) (has_type rows v)

-- the wire carries the very type a
abbrev pub carries : Option (List ℕ) → List ℕ → Bool
carries None a = false
carries (Some b) a = is_name b a

-- the types that the wires to the two ports of a box carry
pub record InputTypes : Type 0 where
  pub north : Option (List ℕ)
  pub west : Option (List ℕ)

-- the expression has the type a, where the ports carry these
abbrev pub expression_has : List SheetRow → InputTypes → Tree → List ℕ → Bool
expression_has rows ports tree.unit a = is_unit (form_in rows a)
expression_has rows ports (tree.pair x y) a =
    is_pairs (form_in rows a) (expression_has rows ports x) (expression_has rows ports y)
expression_has rows ports (tree.inl x) a = has_first (form_in rows a) (expression_has rows ports x)
expression_has rows ports (tree.inr x) a = has_second (form_in rows a) (expression_has rows ports x)
expression_has rows ports tree.n a = carries ports.north a
expression_has rows ports tree.w a = carries ports.west a

-- the two types of a sum
abbrev pub summands : Option KindForm → Option (List ℕ × List ℕ)
summands (Some (Sum b c)) = Some (b, c)
summands _ = None

-- the two types of pairs
abbrev pub components : Option KindForm → Option (List ℕ × List ℕ)
components (Some (Pair b c)) = Some (b, c)
components _ = None
