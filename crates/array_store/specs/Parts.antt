-- The parts of a store, from which it can be made anew.
use Rattle.std.specs.Prelude.{◌≡◌, ℕ, zero, suc, ◌+◌, ◌==◌, ◌≤◌, Bool, if◌then◌else◌, List, [], ◌∷◌}
use Rattle.std.specs.Prelude.{◌++◌, length, map, All, Vec, nat_eq}
use Rattle.std.specs.List.{IsDistinct, list_any}
use Rattle.std.specs.FinMap as finite
use Rattle.std.specs.declared.alloc.Global.{Global}
use Rattle.umix_base.specs.declared.limits.Limits.{Limits}
use Rattle.um_word.specs.State.{Arrays, words_in}
use Rattle.array_store.specs.StoreView.{StoreView, most_live_arrays, most_live_words}

-- arrays, each by its identifier and its words
abbrev pub Listed : Type 0
Listed = List (ℕ × List ℕ)

-- the plain list of a vector of arrays
abbrev pub listed : List (ℕ × Vec ℕ Global) → Listed
listed arrays = map (λ a. (a.0, a.1.items)) arrays

-- the number of identifiers ever made, those abandoned and not reused since, the one abandoned first at the
-- beginning, the words of array 0, and the other arrays
pub record Parts : Type 0 where
  pub made : ℕ
  pub abandoned : List ℕ
  pub zero : List ℕ
  pub arrays : Listed

-- the parts that vectors hold
abbrev pub parts_by : (made : ℕ) (abandoned zeros : List ℕ) → List (ℕ × Vec ℕ Global) → Parts
parts_by made abandoned zeros arrays = record {
  made = made;
  abandoned = abandoned;
  zero = zeros;
  arrays = listed arrays;
}

-- whether this is one of the numbers
abbrev pub is_among : List ℕ → ℕ → Bool
is_among ids id = list_any (λ x. x == id) ids

-- the identifiers from 1 to n that are not among the abandoned ones, rising
abbrev pub active_up_to : List ℕ → ℕ → List ℕ
active_up_to abandoned zero = []
active_up_to abandoned (suc n) =
    active_up_to abandoned n ++ (if is_among abandoned (suc n) then [] else suc n ∷ [])

-- The rules of parts: no more identifiers were made than a store may make; those abandoned are from 1 to those
-- made, and no two are equal; the arrays are by rising identifier just those made and not abandoned; and there
-- are no more words than a store may hold.
pub record AreParts (p : Parts) : Type 0 where
  pub made : p.made ≤ most_live_arrays
  pub fewer : length p.abandoned ≤ p.made
  pub known : All (λ id. (1 ≤ id) × (id ≤ p.made)) p.abandoned
  pub once : IsDistinct nat_eq p.abandoned
  pub active : map (λ a. a.0) p.arrays ≡ active_up_to p.abandoned p.made
  pub words : length p.zero + words_in p.arrays ≤ most_live_words

-- the arrays that parts stand for
abbrev pub arrays_of_parts : Parts → Arrays
arrays_of_parts p = finite.insert (finite.from_entries p.arrays) 0 p.zero

-- the store of these parts
abbrev pub store_of_parts : Parts → Limits → StoreView
store_of_parts p limits = record {
  arrays = arrays_of_parts p;
  identifiers = record { made = p.made; abandoned = p.abandoned };
  limits = limits;
}
