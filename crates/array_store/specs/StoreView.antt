-- What a store holds.
use Rattle.std.specs.Prelude.{◌≡◌, ℕ, ◌^◌, ◌<◌, ◌≤◌, List, length, Some, slice_get, slice_index, refl}
use Rattle.std.specs.Coded.{Coded, code_by, coded×, coded_ℕ, coded_list}
use Rattle.std.specs.FinMap as map
use Rattle.umix_base.specs.declared.limits.Limits.{Limits}
use Rattle.um_word.specs.State.{Arrays, array_at}
use Rattle.um_word.specs.Rule.{Identifiers, IsOrderly, none_made}

-- the greatest limit that a store may have on its arrays, without array 0
abbrev pub most_live_arrays : ℕ
most_live_arrays = 16_777_216

-- the greatest limit that a store may have on its words, with those of array 0
abbrev pub most_live_words : ℕ
most_live_words = 268_435_456

-- the greatest limits that a store may have
abbrev pub most_limits : Limits
most_limits = record { arrays = most_live_arrays; words = most_live_words }

-- the arrays by their identifiers, the identifiers that were handed out, and the limits
pub record StoreView : Type 0 where
  pub arrays : Arrays
  pub identifiers : Identifiers
  pub limits : Limits

abbrev pub held_code : Coded StoreView
held_code =
    code_by (Arrays × ((ℕ × List ℕ) × (ℕ × ℕ)))
    (coded× (map.code coded_ℕ (coded_list coded_ℕ))
    (coded× (coded× coded_ℕ (coded_list coded_ℕ)) (coded× coded_ℕ coded_ℕ)))
    (λ h. (
      h.arrays,
      ((h.identifiers.made, h.identifiers.abandoned), (h.limits.arrays, h.limits.words)),
    ))
    (λ p. record {
      arrays = p.0;
      identifiers = record { made = p.1.0.0; abandoned = p.1.0.1 };
      limits = record { arrays = p.1.1.0; words = p.1.1.1 };
    })
    (λ _. refl)

-- a new store, in which array 0 has these words
abbrev pub new_held : List ℕ → Limits → StoreView
new_held zero limits = record {
  arrays = map.insert map.empty 0 zero;
  identifiers = none_made;
  limits = limits;
}

-- the array is there
abbrev pub HasArray : StoreView → ℕ → Type 0
HasArray held id = map.get held.arrays id ≡ Some (array_at held.arrays id)

-- the array is there, and has this word at the offset
abbrev pub HasWord : StoreView → (id at word : ℕ) → Type 0
HasWord held id at word = HasArray held id × (slice_get (array_at held.arrays id) at ≡ Some word)

-- What is true of every store: array 0 is there, the identifiers are those of the rule, the limits
-- are kept and are not above the greatest, so no array is longer, and each platter has 32 bits.
pub record IsStore (held : StoreView) : Type 0 where
  pub zero_there : HasArray held 0
  pub orderly : IsOrderly held.limits held.identifiers held.arrays
  pub arrays_limit : held.limits.arrays ≤ most_live_arrays
  pub words_limit : held.limits.words ≤ most_live_words
  pub short : (id : ℕ) → length (array_at held.arrays id) ≤ most_live_words
  pub platters : (id at : ℕ) → slice_index (array_at held.arrays id) at < 2 ^ 32
