-- Names that are held in order, each once.
use Rattle.std.specs.Prelude.{ℕ, List, map, Vec}
use Rattle.std.specs.Global.{Global}
use Rattle.std.specs.List.{position_or_len}
use Rattle.indexmap.specs.IndexSet.{IndexSet}
use Rattle.two_d.specs.Programs.{is_name}

-- the names of a set, in order
abbrev pub listed : {S : Type 0} → IndexSet (Vec ℕ Global) S → List (List ℕ)
listed set = map (λ key. key.items) set.keys

-- the number of the first that is this name, or how many there are
abbrev pub number_in : List (List ℕ) → List ℕ → ℕ
number_in names name = position_or_len (λ other. is_name other name) names
