-- When a store refuses a call, and why. Want of memory comes last, where nothing else is wrong.
use Rattle.std.specs.Prelude.{◌≡◌, ℕ, ◌+◌, ◌-◌, ◌<◌, ◌≤◌, List, length, None, slice_get}
use Rattle.std.specs.FinMap as map
use Rattle.umix_base.specs.declared.limits.Limits.{Limits}
use Rattle.um_word.specs.State.{array_at, live_arrays, live_words}
use Rattle.array_store.specs.declared.fault.StoreFault.{StoreFault}
use Rattle.array_store.specs.declared.fault.StoreFault.TheVariants.{Inactive, Outside, Zero}
use Rattle.array_store.specs.declared.fault.StoreFault.TheVariants.{ArraysFull, WordsFull, Memory}
use Rattle.array_store.specs.StoreView.{StoreView, HasArray}

-- a new store with these words in array 0
abbrev pub RefusesNew : List ℕ → Limits → StoreFault → Type 0
RefusesNew zero limits (WordsFull n) = (n ≡ length zero) × (limits.words < n)
RefusesNew zero limits Memory = length zero ≤ limits.words
RefusesNew zero limits _ = ⊥

-- the word at this offset of an array
abbrev pub RefusesWord : StoreView → (id at : ℕ) → StoreFault → Type 0
RefusesWord held id at Inactive = map.get held.arrays id ≡ None
RefusesWord held id at Outside = HasArray held id × (slice_get (array_at held.arrays id) at ≡ None)
RefusesWord held id at _ = ⊥

-- the arrays, and the words, that there would be with one more array of this many platters
abbrev pub arrays_with : StoreView → ℕ
arrays_with held = live_arrays held.arrays + 1

abbrev pub words_with : StoreView → ℕ → ℕ
words_with held size = live_words held.arrays + size

-- an Amendment of the word at this offset
abbrev pub RefusesAmendment : StoreView → (id at : ℕ) → StoreFault → Type 0
RefusesAmendment held id at Memory = HasArray held id × (at < length (array_at held.arrays id))
RefusesAmendment held id at fault = RefusesWord held id at fault

-- both are within the limits
abbrev pub FitsAllocation : StoreView → ℕ → Type 0
FitsAllocation held size =
    (arrays_with held ≤ held.limits.arrays) × (words_with held size ≤ held.limits.words)

-- an Allocation of this many platters
abbrev pub RefusesAllocation : StoreView → ℕ → StoreFault → Type 0
RefusesAllocation held size (ArraysFull n) = (n ≡ arrays_with held) × (held.limits.arrays < n)
RefusesAllocation held size (WordsFull n) =
    (arrays_with held ≤ held.limits.arrays) × (n ≡ words_with held size) × (held.limits.words < n)
RefusesAllocation held size Memory = FitsAllocation held size
RefusesAllocation held size _ = ⊥

-- an Abandonment
abbrev pub RefusesAbandonment : StoreView → ℕ → StoreFault → Type 0
RefusesAbandonment held id Zero = id ≡ 0
RefusesAbandonment held id Inactive = (1 ≤ id) × (map.get held.arrays id ≡ None)
RefusesAbandonment held id _ = ⊥

-- the words that there would be with a duplicate of this array in the place of array 0
abbrev pub words_loaded : StoreView → ℕ → ℕ
words_loaded held id =
    live_words held.arrays - length (array_at held.arrays 0) + length (array_at held.arrays id)

-- a load of an array
abbrev pub RefusesLoad : StoreView → ℕ → StoreFault → Type 0
RefusesLoad held id Inactive = (1 ≤ id) × (map.get held.arrays id ≡ None)
RefusesLoad held id (WordsFull n) =
    (1 ≤ id) × HasArray held id × (n ≡ words_loaded held id) × (held.limits.words < n)
RefusesLoad held id _ = ⊥
