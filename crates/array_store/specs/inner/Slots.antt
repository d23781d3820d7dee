-- What a store's slots stand for.
use Rattle.std.specs.Prelude.{◌≡◌, ℕ, ◌+◌, ◌-◌, ◌^◌, ◌<◌, ◌≤◌, List, [], ◌∷◌, Option, None, Some}
use Rattle.std.specs.Prelude.{length, slice_index, vec_capacity}
use Rattle.std.specs.Global.{Vec}
use Rattle.std.specs.FinMap as map
use Rattle.um_word.specs.State.{Arrays, array_at, live_words}
use Rattle.um_word.specs.Rule.{Identifiers}
use Rattle.array_store.specs.StoreView.{StoreView, IsStore}
use Rattle.array_store.specs.declared.store.Store.TheInside.{Inside}

-- the arrays of these slots, with the identifiers from this one on
abbrev pub arrays_from : ℕ → List (Option (Vec ℕ)) → Arrays
arrays_from id [] = map.empty
arrays_from id (None ∷ slots) = arrays_from (id + 1) slots
arrays_from id (Some words ∷ slots) = map.insert (arrays_from (id + 1) slots) id words.items

-- arrays with these put in, each under its identifier
abbrev pub arrays_put : List (ℕ × List ℕ) → Arrays → Arrays
arrays_put [] arrays = arrays
arrays_put (a ∷ more) arrays = map.insert (arrays_put more arrays) a.0 a.1

-- each word of each array has 32 bits
abbrev pub AllFit : Arrays → Type 0
AllFit arrays = (id at : ℕ) → slice_index (array_at arrays id) at < 2 ^ 32

-- not unfolded unless asked, so that proofs speak of the arrays as one value
unfoldable pub slot_arrays : List (Option (Vec ℕ)) → Arrays
slot_arrays slots = arrays_from 0 slots

-- Array 0 and the array that it names have these words, and each other array those of its slot. Where
-- array 0 names none, that is array 0 itself.
abbrev pub arrays_of : List ℕ → ℕ → List (Option (Vec ℕ)) → Arrays
arrays_of words named slots = map.insert (map.insert (slot_arrays slots) named words) 0 words

-- the slot of the array that array 0 names is empty
abbrev pub IsLent : ℕ → List (Option (Vec ℕ)) → Type 0
IsLent named slots = 1 ≤ named → map.get (slot_arrays slots) named ≡ None

-- no other array has the words of this one
abbrev pub HasOwnWords : (id named : ℕ) → Type 0
HasOwnWords id named = (id ≡ 0 → named ≡ 0) × (1 ≤ id → id ≡ named → ⊥)

-- each slot but the first has an identifier that was made
abbrev pub identifiers_of : List (Option (Vec ℕ)) → List ℕ → Identifiers
identifiers_of slots free = record { made = length slots - 1; abandoned = free }

abbrev pub store_view : Inside → StoreView
store_view s = record {
  arrays = arrays_of s.zero.items s.named s.slots.items;
  identifiers = identifiers_of s.slots.items s.free.items;
  limits = s.limits;
}

-- There is a slot for the array that array 0 names, and it is empty; the words are counted, there is room
-- for the return of each identifier, and the rest is true of every store.
pub record IsSoundInside (s : Inside) : Type 0 where
  pub held : IsStore (store_view s)
  pub named : s.named < length s.slots.items
  pub lent : IsLent s.named s.slots.items
  pub words : s.words ≡ live_words (arrays_of s.zero.items s.named s.slots.items)
  pub room : length s.slots.items - 1 ≤ vec_capacity s.free
