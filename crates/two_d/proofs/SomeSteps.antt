-- How a wire goes on from a position can be told, and in one way.
use Rattle.std.specs.Prelude.{◌≡◌, ◌⊎◌, ℕ, List, [], ◌∷◌, slice_get, Some}
use Rattle.std.proofs.Common.{refl, sym, ap, subst, ◌∙◌, inl, inr}
use Rattle.std.proofs.lemmas.Bool.{cases_eq}
use Rattle.std.proofs.lemmas.Option.{slice_get_within, get_or_from_slice_get}
use Rattle.umix_base.specs.declared.place.Place.{Place}
use Rattle.two_d.specs.Places.{at, Rect}
use Rattle.two_d.specs.Frames.{exits_of}
use Rattle.two_d.specs.Ports.{Drawing, IsExit, IsNPort, IsWPort}
use Rattle.two_d.specs.Wires.{Position, Direction, east, west, south, north, Axis, horizontal, vertical, axis_of, next, line, EndsAt, at_n, at_w, at_exit, IsEnd, IsTurn, IsTaker, MayTurn, TurnsTo, GoesOn, ends, turns, stands, keeps, Collide}
use Rattle.two_d.specs.declared.module.To.{To}
use Rattle.two_d.specs.declared.module.To.TheVariants.{N, W, Exit}
use Rattle.two_d.proofs.Decide.{Decided, decided_both, decided_four, decided_either, decided_not}
use Rattle.two_d.proofs.Equal.{equal_places}
use Rattle.two_d.proofs.GoesOnOne.{goes_on_one}
use Rattle.two_d.proofs.NumberLists.{place_of}
use Rattle.two_d.proofs.SomePorts.{decided_holds, decided_exit, decided_n_port, decided_w_port, decided_numbered}
use Rattle.two_d.proofs.SomeReading.{Found}

pub decided_places : (p q : Place) → Decided (p ≡ q)
decided_places p q = elim (decided_both (cases_eq p.row q.row) (cases_eq p.col q.col)) [
  | inl both ↦ inl (equal_places p q both.0 both.1)
  | inr not_both ↦ inr (λ e. not_both (ap (λ (r : Place). r.row) e, ap (λ (r : Place). r.col) e))
]

decided_axes : (a b : Axis) → Decided (a ≡ b)
decided_axes horizontal horizontal = inl refl
decided_axes horizontal vertical = inr (λ e. cc)
decided_axes vertical horizontal = inr (λ e. cc)
decided_axes vertical vertical = inl refl

decided_directions : (a b : Direction) → Decided (a ≡ b)
decided_directions east east = inl refl
decided_directions east west = inr (λ e. cc)
decided_directions east south = inr (λ e. cc)
decided_directions east north = inr (λ e. cc)
decided_directions west east = inr (λ e. cc)
decided_directions west west = inl refl
decided_directions west south = inr (λ e. cc)
decided_directions west north = inr (λ e. cc)
decided_directions south east = inr (λ e. cc)
decided_directions south west = inr (λ e. cc)
decided_directions south south = inl refl
decided_directions south north = inr (λ e. cc)
decided_directions north east = inr (λ e. cc)
decided_directions north west = inr (λ e. cc)
decided_directions north south = inr (λ e. cc)
decided_directions north north = inl refl

decided_if : {P Q : Type 0} → Decided P → Decided Q → Decided (P → Q)
decided_if (inl p) (inl q) = inl (λ _. q)
decided_if (inl p) (inr nq) = inr (λ f. nq (f p))
decided_if (inr np) q = inl (λ p. absurd (np p))

decided_each_way : (Q : Direction → Type 0) → ((d : Direction) → Decided (Q d)) → Decided ((d : Direction) → Q d)
decided_each_way Q told = elim (decided_four (told east) (told west) (told south) (told north)) [
  | inl all ↦ inl (by all)
  | inr not_all ↦ inr (λ f. not_all (f east, f west, f south, f north))
]
  where
    by : Q east × Q west × Q south × Q north → (d : Direction) → Q d
    by all east = all.0
    by all west = all.1
    by all south = all.2
    by all north = all.3

direction_or_none : (Q : Direction → Type 0) → ((d : Direction) → Decided (Q d)) → Found Q
direction_or_none Q told = elim (told east) [
  | inl q ↦ inl (east, q)
  | inr no_east ↦ elim (told west) [
    | inl q ↦ inl (west, q)
    | inr no_west ↦ elim (told south) [
      | inl q ↦ inl (south, q)
      | inr no_south ↦ elim (told north) [
        | inl q ↦ inl (north, q)
        | inr no_north ↦ inr (by no_east no_west no_south no_north)
      ]
    ]
  ]
]
  where
    by : (Q east → ⊥) → (Q west → ⊥) → (Q south → ⊥) → (Q north → ⊥) → (d : Direction) → Q d → ⊥
    by e w s n east q = e q
    by e w s n west q = w q
    by e w s n south q = s q
    by e w s n north q = n q

-- a wire ends at an N port, or at a W port or an exit
abbrev pub EndsSouth : Drawing → Place → Type 0
EndsSouth m p = (i : ℕ) × (b : Rect) × (slice_get m.boxes i ≡ Some b) × IsNPort m b p

abbrev pub EndsEast : Drawing → Place → Type 0
EndsEast m p = ((i : ℕ) × (b : Rect) × (slice_get m.boxes i ≡ Some b) × IsWPort m b p) ⊎ IsExit m p

pub end_is : (m : Drawing) (s : Position) (end : To) → EndsAt m s end → ((s.to ≡ south) × EndsSouth m s.place) ⊎ ((s.to ≡ east) × EndsEast m s.place)
end_is m _ _ (at_n p i b is port) = inl (refl, (i, b, is, port))
end_is m _ _ (at_w p i b is port) = inr (refl, inl (i, b, is, port))
end_is m _ _ (at_exit row i is) = inr (refl, inr (refl, (i, slice_get_within (exits_of m.grid m.frame) i row is, get_or_from_slice_get (exits_of m.grid m.frame) i row row is)))

module _ (m : Drawing) where
  ends_south : (p : Place) → EndsSouth m p → IsEnd m (record { place = p; to = south })
  ends_south p (i, b, is, port) = (N i, at_n p i b is port)

  ends_east : (p : Place) → EndsEast m p → IsEnd m (record { place = p; to = east })
  ends_east p (inl (i, b, is, port)) = (W i, at_w p i b is port)
  ends_east p (inr (is, there)) =
      let (i, lt, here) = place_of (exits_of m.grid m.frame) p.row there in
      subst (λ q. IsEnd m (record { place = q; to = east })) (equal_places (at p.row m.frame.right) p refl (sym is)) (Exit i, at_exit p.row i here)

  no_end : (s : Position) → ((s.to ≡ south) → EndsSouth m s.place → ⊥) → ((s.to ≡ east) → EndsEast m s.place → ⊥) → IsEnd m s → ⊥
  no_end s no_south no_east (end, e) = elim (end_is m s end e) [ inl (to, there) ↦ no_south to there | inr (to, there) ↦ no_east to there ]

  pub decided_end : (s : Position) → Decided (IsEnd m s)
  decided_end s = by s.to refl
    where
      by : (d : Direction) → s.to ≡ d → Decided (IsEnd m s)
      by south is = elim (decided_numbered (λ b. IsNPort m b s.place) (λ b. decided_n_port m b s.place) m.boxes) [
        | inl there ↦ inl (subst (λ d. IsEnd m (record { place = s.place; to = d })) (sym is) (ends_south s.place there))
        | inr none ↦ inr (no_end s (λ to there. none there) (λ to there. let e : south ≡ east = sym is ∙ to in cc))
      ]
      by east is = elim (decided_either (decided_numbered (λ b. IsWPort m b s.place) (λ b. decided_w_port m b s.place) m.boxes) (decided_exit m s.place)) [
        | inl there ↦ inl (subst (λ d. IsEnd m (record { place = s.place; to = d })) (sym is) (ends_east s.place there))
        | inr none ↦ inr (no_end s (λ to there. let e : east ≡ south = sym is ∙ to in cc) (λ to there. none there))
      ]
      by west is = inr (no_end s (λ to there. let e : west ≡ south = sym is ∙ to in cc) (λ to there. let e : west ≡ east = sym is ∙ to in cc))
      by north is = inr (no_end s (λ to there. let e : north ≡ south = sym is ∙ to in cc) (λ to there. let e : north ≡ east = sym is ∙ to in cc))

  pub decided_turn : (s : Position) → Decided (IsTurn m s)
  decided_turn s = decided_holds m 43 s.place

  pub decided_taker : (s : Position) → Decided (IsTaker m s)
  decided_taker s = decided_either (decided_either (decided_holds m (line (axis_of s.to)) s.place) (decided_holds m 35 s.place)) (decided_either (decided_turn s) (decided_end s))

  decided_may : (s : Position) (d : Direction) → Decided (MayTurn m s d)
  decided_may s d = decided_both (decided_not (decided_axes (axis_of d) (axis_of s.to))) (decided_taker (next s d))

  decided_turns : (s : Position) (d : Direction) → Decided (TurnsTo m s d)
  decided_turns s d = elim (decided_both (decided_may s d) (decided_each_way (λ e. MayTurn m s e → e ≡ d) (λ e. decided_if (decided_may s e) (decided_directions e d)))) [
    | inl both ↦ inl (record { may = both.0; only = both.1 })
    | inr not_both ↦ inr (λ turns. not_both (turns.may, turns.only))
  ]

  pub goes_on_some : (s : Position) → (more : List Position) × GoesOn m s more
  goes_on_some s = elim (decided_end s) [
    | inl end ↦ ([], ends end)
    | inr bare ↦ elim (decided_turn s) [
      | inr straight ↦ (next s s.to ∷ [], keeps bare straight)
      | inl turn ↦ elim (direction_or_none (TurnsTo m s) (decided_turns s)) [
        | inl (d, to) ↦ (next s d ∷ [], turns d turn to)
        | inr none ↦ ([], stands turn none)
      ]
    ]
  ]

  pub decided_stands : (s : Position) → Decided (GoesOn m s [])
  decided_stands s = let (more, goes) = goes_on_some s in by more goes
    where
      by : (more : List Position) → GoesOn m s more → Decided (GoesOn m s [])
      by [] goes = inl goes
      by (t ∷ more) goes = inr (λ none. let e = goes_on_one m s (t ∷ more) [] goes none in cc)

  pub decided_collide : (s t : Position) → Decided (Collide m s t)
  decided_collide s t = decided_both (decided_places s.place t.place) (decided_either (decided_axes (axis_of s.to) (axis_of t.to)) (decided_turn s))

  pub collide_back : (s t : Position) → Collide m s t → Collide m t s
  collide_back s t (same, inl axis) = (sym same, inl (sym axis))
  collide_back s t (same, inr turn) = (sym same, inr (subst (λ p. IsTurn m (record { place = p; to = t.to })) same turn))
