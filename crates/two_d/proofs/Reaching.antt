-- Whether one box reaches another is decided: boxes that it reaches are found one after the other.
use Rattle.std.specs.Prelude.{◌≡◌, ℕ, zero, suc, ◌+◌, ◌<◌, ◌⊎◌, Bool, true, false, List, [], ◌∷◌, ◌++◌, length, slice_get, slice_index_or, slice_set, replicate, Some}
use Rattle.std.specs.List.{Contains}
use Rattle.std.proofs.Common.{arith, refl, inl, inr}
use Rattle.std.proofs.lemmas.List.{length-append}
use Rattle.std.proofs.lemmas.Option.{slice_get_within, slice_get-get_or, get_or_from_slice_get}
use Rattle.two_d.specs.Programs.{ModuleForm}
use Rattle.two_d.specs.Sound.{Feeds, Reaches, by_one, by_more}
use Rattle.two_d.proofs.Decide.{Decided, decided_both, decided_either, decided_lt, decided_not, first_from}
use Rattle.two_d.proofs.NumberLists.{decided_in, place_of}
use Rattle.two_d.proofs.Placing.{decided_target}
use Rattle.two_d.proofs.Reached.{AreFound, IsClosedTo, none_found, found_more, all_found, found_few, reaches_on}
use Rattle.two_d.proofs.Rings.{start_of, feeds_of, of_feeds, no_box}

fed_there : (m : ModuleForm) (a b : ℕ) → Feeds m a b → b < length m.boxes
fed_there m a b (inl (inl c)) = slice_get_within m.boxes b c.0 c.1
fed_there m a b (inl (inr c)) = slice_get_within m.boxes b c.0 c.1
fed_there m a b (inr (inl c)) = slice_get_within m.boxes b c.0 c.1
fed_there m a b (inr (inr c)) = slice_get_within m.boxes b c.0 c.1

-- what is reached is there
pub reached_there : (m : ModuleForm) (a b : ℕ) → Reaches m a b → b < length m.boxes
reached_there m a b (by_one feeds) = fed_there m a b feeds
reached_there m a c (by_more {b = b} feeds reaches) = reached_there m b c reaches

decided_feeds : (m : ModuleForm) (a b : ℕ) → Decided (Feeds m a b)
decided_feeds m a b = elim (decided_lt b (length m.boxes)) [
  | inr out ↦ inr (λ feeds. out (fed_there m a b feeds))
  | inl lt ↦
      let row = slice_index_or m.boxes b no_box in
      let is : slice_get m.boxes b ≡ Some row = slice_get-get_or m.boxes b no_box lt in
      elim (decided_either (decided_target (start_of row.n) a) (decided_target (start_of row.w) a)) [
        | inl wired ↦ inl (feeds_of m a b row is wired)
        | inr unwired ↦ inr (λ feeds. unwired (of_feeds m a b row is feeds))
      ]
]

-- a box that was found feeds box q
abbrev IsFedBy : ModuleForm → List ℕ → ℕ → Type 0
IsFedBy m found q = (x : ℕ) × Contains found x × Feeds m x q

module _ (m : ModuleForm) (start : ℕ) where
  module _ (seen : List Bool) (found : List ℕ) (are : AreFound m start seen found) where
    decided_fed : (q : ℕ) → Decided (IsFedBy m found q)
    decided_fed q = elim (first_from (λ x. Contains found x × Feeds m x q) (λ x. decided_both (decided_in x found) (decided_feeds m x q)) 0 (length m.boxes)) [
      | inl (x, low, high, (there, feeds), first) ↦ inl (x, there, feeds)
      | inr none ↦ inr (λ (x, there, feeds).
          let (k, lt, at) = place_of found x there in
          let below = are.below k x at in
          none x (omega arith) (omega arith) (there, feeds))
    ]

    -- what is fed by the start or by a box that was found is there and is reached
    next_there : (q : ℕ) → Feeds m start q ⊎ IsFedBy m found q → (q < length m.boxes) × Reaches m start q
    next_there q (inl feeds) = (fed_there m start q feeds, by_one feeds)
    next_there q (inr (x, there, feeds)) = (fed_there m x q feeds, reaches_on m (are.reached x there) q feeds)

    -- such a box wasn't found yet, or each was
    next_or : ((q : ℕ) × (Contains found q → ⊥) × (Feeds m start q ⊎ IsFedBy m found q)) ⊎ ((q : ℕ) → Feeds m start q ⊎ IsFedBy m found q → Contains found q)
    next_or =
        elim (first_from (λ q. (Contains found q → ⊥) × (Feeds m start q ⊎ IsFedBy m found q))
        (λ q. decided_both (decided_not (decided_in q found)) (decided_either (decided_feeds m start q) (decided_fed q))) 0 (length m.boxes)) [
          | inl (q, low, high, (out, fed), first) ↦ inl (q, out, fed)
          | inr none ↦ inr (λ q fed. elim (decided_in q found) [
            | inl there ↦ there
            | inr out ↦ let (lt, reaches) = next_there q fed in absurd (none q (omega arith) (omega arith) (out, fed))
          ])
        ]

    -- where there is no box more, those that were found are all that the start reaches
    whole : ((q : ℕ) → Feeds m start q ⊎ IsFedBy m found q → Contains found q) → (t : ℕ) → Decided (Reaches m start t)
    whole closed t = elim (decided_in t found) [
      | inl there ↦ inl (are.reached t there)
      | inr out ↦ inr (λ reaches. out (all_found m start found (λ q feeds. closed q (inl feeds)) followed reaches (inl refl)))
    ]
      where
        followed : IsClosedTo m found (length found)
        followed i x q less at feeds = closed q (inr (x, (i, less, get_or_from_slice_get found i x x at), feeds))

  searched : (n : ℕ) (seen : List Bool) (found : List ℕ) → AreFound m start seen found → n + length found ≡ suc (length m.boxes) → (t : ℕ) → Decided (Reaches m start t)
  searched zero seen found are long t = absurd (let le = found_few m start seen found are in omega arith)
  searched (suc n) seen found are long t = elim (next_or seen found are) [
    | inr closed ↦ whole seen found are closed t
    | inl (q, out, fed) ↦
        let (lt, reaches) = next_there seen found are q fed in
        searched n (slice_set seen q true) (found ++ q ∷ []) (found_more m start seen found are q lt (λ marked. out ((are.marks q).0 marked)) reaches)
        (omega (arith, length-append found (q ∷ []))) t
  ]

  pub decided_reaches : (t : ℕ) → Decided (Reaches m start t)
  decided_reaches t = searched (suc (length m.boxes)) (replicate (length m.boxes) false) [] (none_found m start) (omega arith) t
