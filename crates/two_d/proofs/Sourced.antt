-- An order of boxes from its beginning: each box with those that stand before it.
use Rattle.std.specs.Prelude.{Option, Some, None, ◌≡◌, ℕ, zero, suc, ◌<◌, List, [], ◌∷◌, length, slice_get, slice_index_or}
use Rattle.std.proofs.Common.{refl, arith, ◌⊎◌, inl, inr}
use Rattle.two_d.specs.Programs.{Origin, North, West, South, East, BoxForm, Program, module_at, box_at, box_count}
use Rattle.two_d.specs.Sound.{IsOrder, Feeds}

abbrev pub IsAmong : ℕ → List ℕ → Type 0
IsAmong b [] = ⊥
IsAmong b (c ∷ cs) = (c ≡ b) ⊎ IsAmong b cs

-- where the wire comes from a box, that box is one of these
abbrev pub IsFrom : List ℕ → Option Origin → Type 0
IsFrom before None = Unit {0}
IsFrom before (Some North) = Unit {0}
IsFrom before (Some West) = Unit {0}
IsFrom before (Some (South c)) = IsAmong c before
IsFrom before (Some (East c)) = IsAmong c before

abbrev pub SourcesAmong : List ℕ → Option BoxForm → Type 0
SourcesAmong before None = Unit {0}
SourcesAmong before (Some row) = IsFrom before row.n × IsFrom before row.w

-- each box stands behind its sources
abbrev pub IsSourced : Program → ℕ → List ℕ → List ℕ → Type 0
IsSourced P m before [] = Unit {0}
IsSourced P m before (b ∷ bs) = SourcesAmong before (box_at P m b) × IsSourced P m (b ∷ before) bs

-- where a box of the rest stands, each that feeds it is one of those before, or stands earlier in the rest
abbrev pub AreBehind : Program → ℕ → List ℕ → List ℕ → Type 0
AreBehind P m before bs = (j a b : ℕ) → slice_get bs j ≡ Some b → Feeds (module_at P m) a b →
    IsAmong a before ⊎ ((i : ℕ) × (i < j) × (slice_get bs i ≡ Some a))

behind-next : (P : Program) (m : ℕ) (before bs : List ℕ) (c : ℕ) → AreBehind P m before (c ∷ bs) → AreBehind P m (c ∷ before) bs
behind-next P m before bs c h j a b is feeds = elim (h (suc j) a b is feeds) [
  | inl among ↦ inl (inr among)
  | inr at ↦ earlier at.0 at.1 at.2
]
  where
    earlier : (i : ℕ) → i < suc j → slice_get (c ∷ bs) i ≡ Some a → IsAmong a (c ∷ before) ⊎ ((k : ℕ) × (k < j) × (slice_get bs k ≡ Some a))
    earlier zero lt e = inl (inl (cc))
    earlier (suc k) lt e = inr (k, omega arith, e)

module _ (P : Program) (m : ℕ) (before bs : List ℕ) (b : ℕ) (h : AreBehind P m before (b ∷ bs)) where
  first_from : (a : ℕ) → Feeds (module_at P m) a b → IsAmong a before
  first_from a feeds = elim (h 0 a b refl feeds) [ inl among ↦ among | inr at ↦ absurd (omega (arith, at.1)) ]

  from_n : (row : BoxForm) → box_at P m b ≡ Some row → (o : Option Origin) → row.n ≡ o → IsFrom before o
  from_n row is None e = tt
  from_n row is (Some North) e = tt
  from_n row is (Some West) e = tt
  from_n row is (Some (South a)) e = first_from a (inl (inl (row, is, e)))
  from_n row is (Some (East a)) e = first_from a (inl (inr (row, is, e)))

  from_w : (row : BoxForm) → box_at P m b ≡ Some row → (o : Option Origin) → row.w ≡ o → IsFrom before o
  from_w row is None e = tt
  from_w row is (Some North) e = tt
  from_w row is (Some West) e = tt
  from_w row is (Some (South a)) e = first_from a (inr (inl (row, is, e)))
  from_w row is (Some (East a)) e = first_from a (inr (inr (row, is, e)))

  sources_of : (row : Option BoxForm) → box_at P m b ≡ row → SourcesAmong before row
  sources_of None is = tt
  sources_of (Some row) is = (from_n row is row.n refl, from_w row is row.w refl)

sourced_from : (P : Program) (m : ℕ) (before bs : List ℕ) → AreBehind P m before bs → IsSourced P m before bs
sourced_from P m before [] h = tt
sourced_from P m before (b ∷ bs) h =
    (sources_of P m before bs b h (box_at P m b) refl, sourced_from P m (b ∷ before) bs (behind-next P m before bs b h))

pub sourced : (P : Program) (m : ℕ) (order : List ℕ) → IsOrder (module_at P m) order → IsSourced P m [] order
sourced P m order is = sourced_from P m [] order (λ j a b e feeds. inr (is.behind j a b e feeds))

among_list : (xs : List ℕ) (k b : ℕ) → k < length xs → slice_index_or xs k b ≡ b → IsAmong b xs
among_list [] k b lt e = absurd (omega arith)
among_list (x ∷ xs) zero b lt e = inl e
among_list (x ∷ xs) (suc k) b lt e = inr (among_list xs k b (omega arith) e)

pub among_order : (P : Program) (m : ℕ) (order : List ℕ) → IsOrder (module_at P m) order → (b : ℕ) → b < box_count P m → IsAmong b order
among_order P m order is b lt = let (k, within, here) = is.each b lt in among_list order k b within here
