-- How a wire ends at a position.
use Rattle.std.proofs.Common.{◌≡◌, ℕ, ◌+◌, ◌-◌, ◌<◌, ◌≤◌, ◌⊎◌, inl, inr, List, length, get_or, Some, arith, refl, ap, sym, subst}
use Rattle.std.specs.List.{slice_get, range_with_len}
use Rattle.std.specs.List.Sorted.{IsStrictlyIncreasing}
use Rattle.std.proofs.lemmas.Bool.{cases_eq, cases_lt}
use Rattle.std.proofs.lemmas.Option.{slice_get_within, get_or_from_slice_get}
use Rattle.std.proofs.lemmas.List.Kept.{IsStrictlyIncreasing-filter, AllPairs-from_increasing}
use Rattle.std.proofs.lemmas.List.FromFn.{get_or-range_with_len, length-range_with_len}
use Rattle.umix_base.specs.declared.place.Place.{Place}
use Rattle.two_d.specs.Places.{at, Rect}
use Rattle.two_d.specs.Cells.{Grid}
use Rattle.two_d.specs.Frames.{exits_of}
use Rattle.two_d.specs.Ports.{Drawing, IsNPort, IsWPort}
use Rattle.two_d.specs.Wires.{Position, EndsAt, at_n, at_w, at_exit, east, west, south, north}
use Rattle.two_d.specs.declared.module.To.{To}
use Rattle.two_d.specs.declared.module.To.TheVariants.{N, W, Exit}

-- it comes southward to an N port, or eastward to a W port, or eastward to an exit
abbrev EndsHow : Drawing → Position → Type 0
EndsHow m s =
    ((s.to ≡ south) × ((i : ℕ) × (b : Rect) × (slice_get m.boxes i ≡ Some b) × IsNPort m b s.place))
    ⊎ (((s.to ≡ east) × ((i : ℕ) × (b : Rect) × (slice_get m.boxes i ≡ Some b) × IsWPort m b s.place))
    ⊎ ((s.to ≡ east) × (s.place.col ≡ m.frame.right) × ((i : ℕ) × (slice_get (exits_of m.grid m.frame) i ≡ Some s.place.row))))

ends_how : (m : Drawing) (s : Position) (end : To) → EndsAt m s end → EndsHow m s
ends_how m _ _ (at_n p i b there port) = inl (refl, (i, b, there, port))
ends_how m _ _ (at_w p i b there port) = inr (inl (refl, (i, b, there, port)))
ends_how m _ _ (at_exit row i there) = inr (inr (refl, refl, (i, there)))

pub no_end_west : (m : Drawing) (p : Place) (end : To) → EndsAt m (record { place = p; to = west }) end → ⊥
no_end_west m p end ends = elim (ends_how m (record { place = p; to = west }) end ends) [
  | inl s ↦ let e = s.0 in cc
  | inr (inl e) ↦ let d = e.0 in cc
  | inr (inr e) ↦ let d = e.0 in cc
]

pub no_end_north : (m : Drawing) (p : Place) (end : To) → EndsAt m (record { place = p; to = north }) end → ⊥
no_end_north m p end ends = elim (ends_how m (record { place = p; to = north }) end ends) [
  | inl s ↦ let e = s.0 in cc
  | inr (inl e) ↦ let d = e.0 in cc
  | inr (inr e) ↦ let d = e.0 in cc
]

pub no_end_south : (m : Drawing) (p : Place) → ((i : ℕ) (b : Rect) → slice_get m.boxes i ≡ Some b → IsNPort m b p → ⊥) → (end : To) → EndsAt m (record { place = p; to = south }) end → ⊥
no_end_south m p none end ends = elim (ends_how m (record { place = p; to = south }) end ends) [
  | inl (s, (i, b, there, port)) ↦ none i b there port
  | inr (inl e) ↦ let d = e.0 in cc
  | inr (inr e) ↦ let d = e.0 in cc
]

pub no_end_east : (m : Drawing) (p : Place) → ((i : ℕ) (b : Rect) → slice_get m.boxes i ≡ Some b → IsWPort m b p → ⊥) → ((i : ℕ) → p.col ≡ m.frame.right → slice_get (exits_of m.grid m.frame) i ≡ Some p.row → ⊥) → (end : To) → EndsAt m (record { place = p; to = east }) end → ⊥
no_end_east m p no_port no_exit end ends = elim (ends_how m (record { place = p; to = east }) end ends) [
  | inl s ↦ let e = s.0 in cc
  | inr (inl (s, (i, b, there, port))) ↦ no_port i b there port
  | inr (inr (s, border, (i, there))) ↦ no_exit i border there
]

pub end_south : (m : Drawing) (p : Place) (i : ℕ) → ((b : Rect) × (slice_get m.boxes i ≡ Some b) × IsNPort m b p) → EndsAt m (record { place = p; to = south }) (N i)
end_south m p i (b, there, port) = at_n p i b there port

pub end_east : (m : Drawing) (p : Place) (i : ℕ) → ((b : Rect) × (slice_get m.boxes i ≡ Some b) × IsWPort m b p) → EndsAt m (record { place = p; to = east }) (W i)
end_east m p i (b, there, port) = at_w p i b there port

pub end_exit : (m : Drawing) (p : Place) (i : ℕ) → p.col ≡ m.frame.right → slice_get (exits_of m.grid m.frame) i ≡ Some p.row → EndsAt m (record { place = p; to = east }) (Exit i)
end_exit m p i border there = subst (λ (c : ℕ). EndsAt m (record { place = at p.row c; to = east }) (Exit i)) (sym border) (at_exit p.row i there)

range_rises : (a n : ℕ) → IsStrictlyIncreasing (range_with_len a n)
range_rises a n k lt = let long = length-range_with_len a n in omega (arith, get_or-range_with_len a n k 0 (omega arith), get_or-range_with_len a n (k + 1) 0 (omega arith))

-- the rows of exits rise
pub exits_rise : (grid : Grid) (f : Rect) → IsStrictlyIncreasing (exits_of grid f)
exits_rise grid f = IsStrictlyIncreasing-filter _ (range_with_len (f.top + 1) (f.bottom - f.top - 1)) (range_rises (f.top + 1) (f.bottom - f.top - 1))

-- numbers that rise
pub rise : (xs : List ℕ) → IsStrictlyIncreasing xs → (i j : ℕ) → i ≤ j → j < length xs → get_or xs i 0 ≤ get_or xs j 0
rise xs up i j le lt = elim (cases_eq i j) [
  | inl same ↦ (let e = ap (λ (k : ℕ). get_or xs k 0) same in omega arith)
  | inr other ↦ (let less = AllPairs-from_increasing xs up i j 0 (omega arith) lt in omega arith)
]

-- a number that lies between two neighbours isn't there
pub not_found : (xs : List ℕ) (x k : ℕ) → ((j : ℕ) → j < k → get_or xs j 0 < x) → ((j : ℕ) → k ≤ j → j < length xs → x < get_or xs j 0) → (i : ℕ) → slice_get xs i ≡ Some x → ⊥
not_found xs x k below above i there =
    let lt = slice_get_within xs i x there in
    let e = get_or_from_slice_get xs i x 0 there in
    elim (cases_lt i k) [
      | inl less ↦ (let l = below i less in omega arith)
      | inr more ↦ (let l = above i more lt in omega arith)
    ]
