-- What stands in the lines of a strip for each box.
use Rattle.std.specs.Prelude.{ℕ, suc, List, [], ◌∷◌, ◌++◌, Bool, true, false, Vec, codes, map}
use Rattle.std.specs.declared.alloc.Global.{Global}
use Rattle.codex_gen.specs.Generated.{edge, middle, module_name}
use Rattle.codex_gen.specs.declared.lines.Row.{Row}
use Rattle.codex_gen.specs.declared.lines.Row.TheVariants.{Edge, Middle}

-- the texts as lists of bytes
abbrev pub texts_of : List (Vec ℕ Global) → List (List ℕ)
texts_of texts = map (λ text. text.items) texts

-- what stands for a box with this text
abbrev pub part : Row → List ℕ → List ℕ
part Edge text = edge text
part Middle text = middle text

-- what stands between two boxes
abbrev pub between : Row → List ℕ
between Edge = codes "  "
between Middle = codes "->"

-- the parts of these texts, each behind what stands between two
abbrev pub more_parts : Row → List (List ℕ) → List ℕ
more_parts row [] = []
more_parts row (text ∷ more) = between row ++ part row text ++ more_parts row more

-- the text that uses the module after module i, where there is one
abbrev pub next_text : ℕ → Bool → List (List ℕ)
next_text i true = (codes "use " ++ module_name (suc i)) ∷ []
next_text i false = []
