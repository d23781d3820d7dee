-- What stands goes on standing, where all that stands stays.
use Rattle.std.proofs.Common.{◌≡◌, ℕ, zero, suc, ◌<◌, inl, inr, List, [], ◌∷◌, length, Option, Some, None, refl, sym, ap, ◌∙◌, subst, arith}
use Rattle.std.specs.Prelude.{slice_index, slice_index_or}
use Rattle.std.specs.List.{Contains}
use Rattle.std.specs.FinMap as map
use Rattle.um_word.specs.State.{Arrays}
use Rattle.codex_values.specs.Value.{Value}
use Rattle.codex_values.specs.Value as value
use Rattle.lower_emit.specs.Stands.{Stands, TextTrail, At, Via, Trails, Carries, Marked}
use Rattle.lower_emit.specs.inner.Stretches.{KeepsArrays}
use Rattle.lower_emit.specs.Entered.{HasBlocks, IsApart}
use Rattle.lower_emit.specs.Surroundings.{Surroundings, StandsThere, Stay}

-- an element does not depend on what stands for one that isn't there
same_or : (xs : List ℕ) (i d e : ℕ) → i < length xs → slice_index_or xs i d ≡ slice_index_or xs i e
same_or [] i d e lt = absurd (omega (arith, lt))
same_or (x ∷ xs) zero d e lt = refl
same_or (x ∷ xs) (suc i) d e lt = same_or xs i d e (omega (arith, lt))

pub contains_at : (xs : List ℕ) (i : ℕ) → i < length xs → Contains xs (slice_index xs i)
contains_at xs i lt = (i, lt, same_or xs i (slice_index xs i) 0 lt)

module _ (w : Surroundings) (frames : List ℕ) (m n : Arrays) (stay : Stay w frames m n) where
  pub value_stays : (v : Value) (k : ℕ) → Stands m k v → Stands n k v
  value_stays value.unit k h = (h.0, stay k _ h.0 (inr (inr (inr (inl (value.unit, h))))) h.1)
  value_stays (value.inl v) k h = (h.0, (h.1.0, stay k _ h.1.0 (inr (inr (inr (inl (value.inl v, h))))) h.1.1), value_stays v h.0 h.2)
  value_stays (value.inr v) k h = (h.0, (h.1.0, stay k _ h.1.0 (inr (inr (inr (inl (value.inr v, h))))) h.1.1), value_stays v h.0 h.2)
  value_stays (value.pair v u) k h = (h.0, h.1, (h.2.0, stay k _ h.2.0 (inr (inr (inr (inl (value.pair v u, h))))) h.2.1), value_stays v h.0 h.3, value_stays u h.1 h.4)

  trail_stays : (trail : TextTrail) (k : ℕ) → Trails m k trail → Trails n k trail
  trail_stays (At text) k h = (h.0, stay k _ h.0 (inr (inr (inr (inr (At text, h))))) h.1)
  trail_stays (Via text inner) k h = (h.0, (h.1.0, stay k _ h.1.0 (inr (inr (inr (inr (Via text inner, h))))) h.1.1), trail_stays inner h.0 h.2)

  pub carries_stay : (v : Option Value) (k : ℕ) → Carries m k v → Carries n k v
  carries_stay None k h = h
  carries_stay (Some v) k h = value_stays v k h

  pub marked_stay : (trail : Option TextTrail) (k : ℕ) → Marked m k trail → Marked n k trail
  marked_stay None k h = h
  marked_stay (Some trail) k h = trail_stays trail k h

  pub all_blocks_stay : HasBlocks w.codes w.table w.ids m → HasBlocks w.codes w.table w.ids n
  all_blocks_stay b = record {
    not_zero = b.not_zero;
    there = stay w.table w.ids b.not_zero (inl refl) b.there;
    each = λ i lt. let h = b.each i lt in record { not_zero = h.not_zero; there = stay (slice_index w.ids i) (w.codes i) h.not_zero (inr (inl (contains_at w.ids i lt))) h.there };
  }

size : Option (List ℕ) → ℕ
size None = 0
size (Some words) = length words

abbrev IsFour : Arrays → ℕ → Type 0
IsFour m k = (words : List ℕ) × (map.get m k ≡ Some words) × (length words ≡ 4)

value_four : (m : Arrays) (v : Value) (k : ℕ) → Stands m k v → IsFour m k
value_four m value.unit k h = (_, h.1, refl)
value_four m (value.inl v) k h = (_, h.1.1, refl)
value_four m (value.inr v) k h = (_, h.1.1, refl)
value_four m (value.pair v u) k h = (_, h.2.1, refl)

trail_four : (m : Arrays) (trail : TextTrail) (k : ℕ) → Trails m k trail → IsFour m k
trail_four m (At text) k h = (_, h.1, refl)
trail_four m (Via text inner) k h = (_, h.1.1, refl)

-- where a block's frame alone changed, all that stands stays
module _ (w : Surroundings) (frames : List ℕ) (frame : ℕ) (far : IsApart w.table w.ids frame) (alone : Contains frames frame → ⊥) (m n : Arrays) (was : List ℕ) (there : map.get m frame ≡ Some was) (long : 4 < length was) (keeps : KeepsArrays frame m n) where
  no_cell : IsFour m frame → ⊥
  unfolding size
  no_cell h = let e = ap size (sym h.1 ∙ there) in let f = h.2 in omega (arith, e, f, long)

  no_block : Contains w.ids frame → ⊥
  no_block c = far.not_block c.0 c.1 (sym (same_or w.ids c.0 0 frame c.1 ∙ c.2))

  not_frame : StandsThere w frames m frame → ⊥
  not_frame (inl e) = far.not_table e
  not_frame (inr (inl c)) = no_block c
  not_frame (inr (inr (inl c))) = alone c
  not_frame (inr (inr (inr (inl h)))) = no_cell (value_four m h.0 frame h.1)
  not_frame (inr (inr (inr (inr h)))) = no_cell (trail_four m h.0 frame h.1)

  pub kept_stay : Stay w frames m n
  kept_stay k words not_zero how e = keeps k words not_zero (λ same. not_frame (subst (StandsThere w frames m) same how)) e
