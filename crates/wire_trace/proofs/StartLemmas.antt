-- At a place at most one wire begins.
use Rattle.std.proofs.Common.{◌≡◌, ℕ, ◌+◌, ◌<◌, ◌≤◌, ◌⊎◌, inl, inr, arith, refl, ap, sym, subst, ◌∙◌, Some}
use Rattle.std.specs.List.{slice_get}
use Rattle.umix_base.specs.declared.place.Place.{Place}
use Rattle.std.proofs.Common.{List, [], ◌∷◌, ◌++◌, get_or}
use Rattle.std.specs.List.{Contains, AllPairs}
use Rattle.std.proofs.lemmas.Bool.{cases_eq}
use Rattle.std.proofs.lemmas.List.{map-append}
use Rattle.std.proofs.lemmas.List.Elements.{All-push, Contains-get_or, Contains-push, Contains-push_cases, Contains-append_left}
use Rattle.std.proofs.lemmas.List.Quantifiers.{all_pairs_push}
use Rattle.two_d.specs.Places.{at, Rect, Before, Covers}
use Rattle.two_d.specs.Cells.{cell}
use Rattle.two_d.specs.Ports.{Drawing, IsNorthEntry, IsWestEntry, IsSPort, IsEPort}
use Rattle.two_d.specs.Wires.{Position, StartsAt, IsStart, at_north, at_west, at_south, at_east, Direction, IsTurn, east, south}
use Rattle.two_d.specs.declared.module.Origin.{Origin}
use Rattle.two_d.specs.declared.module.Origin.TheVariants.{North, West, South, East}
use Rattle.wire_trace.specs.declared.starts.Start.{Start}
use Rattle.wire_trace.specs.inner.Positions.{direction_of, position_of}
use Rattle.wire_trace.specs.inner.Starts.{IsStartAt, HasStarts, positions_of}
use Rattle.wire_trace.specs.inner.Sheets.{IsLaidOut}
use Rattle.wire_trace.proofs.Laying.{same_place}
use Rattle.wire_trace.proofs.Exits.{in_rows, in_columns, leaves_exit}

-- the byte of a start tells in which direction the wire leaves
abbrev Leaves : Drawing → Position → Type 0
Leaves m s = ((s.to ≡ south) × (cell m.grid s.place ≡ 124)) ⊎ ((s.to ≡ east) × (cell m.grid s.place ≡ 45))

leaves : (m : Drawing) (s : Position) (o : Origin) → StartsAt m s o → Leaves m s
leaves m _ _ (at_north p entry) = inl (refl, subst (λ (r : ℕ). cell m.grid (at r p.col) ≡ 124) (sym entry.0) ((in_columns m.grid m.frame.top 124 m.frame p.col).0 entry.1).2)
leaves m _ _ (at_west p entry) = inr (refl, subst (λ (c : ℕ). cell m.grid (at p.row c) ≡ 45) (sym entry.0) ((in_rows m.grid m.frame.left 45 m.frame p.row).0 entry.1).2)
leaves m _ _ (at_south p i b there port) = inl (refl, port.0.1)
leaves m _ _ (at_east p i b there port) = elim port.0 [
  | inl holds ↦ inr (refl, holds.1)
  | inr exit ↦ inr (refl, (leaves_exit m p exit).here)
]

same_position : (s t : Position) → s.place ≡ t.place → s.to ≡ t.to → s ≡ t
same_position s t place to = ap (λ (p : Place). record { place = p; to = s.to }) place ∙ ap (λ (d : Direction). record { place = t.place; to = d }) to

-- two wires that begin at one place begin at one position
pub one_start : (m : Drawing) (s t : Position) (o q : Origin) → s.place ≡ t.place → StartsAt m s o → StartsAt m t q → s ≡ t
one_start m s t o q same a b = elim (leaves m s o a) [
  | inl down ↦ elim (leaves m t q b) [
    | inl too ↦ same_position s t same (down.0 ∙ sym too.0)
    | inr other ↦ absurd (let e = ap (cell m.grid) same in omega (arith, down.1, other.1))
  ]
  | inr along ↦ elim (leaves m t q b) [
    | inr too ↦ same_position s t same (along.0 ∙ sym too.0)
    | inl other ↦ absurd (let e = ap (cell m.grid) same in omega (arith, along.1, other.1))
  ]
]

-- no wire begins at a place that is no entry and no port
pub no_start : (m : Drawing) (p : Place) → (IsNorthEntry m p → ⊥) → (IsWestEntry m p → ⊥) → ((i : ℕ) (b : Rect) → slice_get m.boxes i ≡ Some b → IsSPort m b p → ⊥) → ((i : ℕ) (b : Rect) → slice_get m.boxes i ≡ Some b → IsEPort m b p → ⊥) → (s : Position) (o : Origin) → s.place ≡ p → StartsAt m s o → ⊥
no_start m p n w s_port e_port _ _ is (at_north q entry) = n (subst (IsNorthEntry m) is entry)
no_start m p n w s_port e_port _ _ is (at_west q entry) = w (subst (IsWestEntry m) is entry)
no_start m p n w s_port e_port _ _ is (at_south q i b there port) = s_port i b there (subst (IsSPort m b) is port)
no_start m p n w s_port e_port _ _ is (at_east q i b there port) = e_port i b there (subst (IsEPort m b) is port)

pub start_is : (m : Drawing) (p : Place) (start : Start) (d : Direction) (o : Origin) → start.at.place ≡ p → direction_of start.at.to ≡ d → start.from ≡ o → StartsAt m (record { place = p; to = d }) o → IsStartAt m p start
start_is m p start d o place to from begins =
    let e : position_of start.at ≡ record { place = p; to = d } = same_position (position_of start.at) (record { place = p; to = d }) place to in
    let here : StartsAt m (position_of start.at) start.from = subst (λ (q : Origin). StartsAt m (position_of start.at) q) (sym from) (subst (λ (x : Position). StartsAt m x o) (sym e) begins) in
    record {
      place = place;
      starts = here;
      one = λ s q is b. one_start m s (position_of start.at) q start.from (is ∙ sym place) b here;
    }

pub start_north : (m : Drawing) (p : Place) (start : Start) → start.at.place ≡ p → direction_of start.at.to ≡ south → start.from ≡ North → IsNorthEntry m p → IsStartAt m p start
start_north m p start place to from entry = start_is m p start south North place to from (at_north p entry)

pub start_west : (m : Drawing) (p : Place) (start : Start) → start.at.place ≡ p → direction_of start.at.to ≡ east → start.from ≡ West → IsWestEntry m p → IsStartAt m p start
start_west m p start place to from entry = start_is m p start east West place to from (at_west p entry)

pub start_south : (m : Drawing) (p : Place) (start : Start) (i : ℕ) → start.at.place ≡ p → direction_of start.at.to ≡ south → start.from ≡ South i → ((b : Rect) × (slice_get m.boxes i ≡ Some b) × IsSPort m b p) → IsStartAt m p start
start_south m p start i place to from (b, there, port) = start_is m p start south (South i) place to from (at_south p i b there port)

pub start_east : (m : Drawing) (p : Place) (start : Start) (i : ℕ) → start.at.place ≡ p → direction_of start.at.to ≡ east → start.from ≡ East i → ((b : Rect) × (slice_get m.boxes i ≡ Some b) × IsEPort m b p) → IsStartAt m p start
start_east m p start i place to from (b, there, port) = start_is m p start east (East i) place to from (at_east p i b there port)

-- a place before the next one is this one, or before it
before_next : (q p : Place) → Before q (at p.row (p.col + 1)) → Before q p ⊎ (q ≡ p)
before_next q p (inl above) = inl (inl above)
before_next q p (inr left) = elim (cases_eq q.col p.col) [
  | inl same ↦ inr (same_place q p left.0 same)
  | inr other ↦ inl (inr (left.0, omega (arith, left.1)))
]

next_before : (q p : Place) → Before q p → Before q (at p.row (p.col + 1))
next_before q p (inl above) = inl above
next_before q p (inr left) = inr (left.0, omega (arith, left.1))

pub same_starts : (m : Drawing) (P Q : Place → Type 0) (starts : List Start) → ((s : Position) → IsStart m s → P s.place → Q s.place) → ((s : Position) → IsStart m s → Q s.place → P s.place) → HasStarts m P starts → HasStarts m Q starts
same_starts m P Q starts there back has = record {
  in_order = has.in_order;
  each = λ s. ((λ c. let h = (has.each s).0 c in (h.0, there s h.0 h.1)), (λ h. (has.each s).1 (h.0, back s h.0 h.1)));
  shown = has.shown;
}

pub without_start : (m : Drawing) (p : Place) (starts : List Start) → ((s : Position) (o : Origin) → s.place ≡ p → StartsAt m s o → ⊥) → HasStarts m (λ q. Before q p) starts → HasStarts m (λ q. Before q (at p.row (p.col + 1))) starts
without_start m p starts isnt has = same_starts m (λ q. Before q p) (λ q. Before q (at p.row (p.col + 1))) starts
    (λ s is before. next_before s.place p before)
    (λ s is before. elim (before_next s.place p before) [ inl earlier ↦ earlier | inr here ↦ absurd (isnt s is.0 here is.1) ])
    has

pub with_start : (m : Drawing) (p : Place) (starts : List Start) (start : Start) → IsStartAt m p start → HasStarts m (λ q. Before q p) starts → HasStarts m (λ q. Before q (at p.row (p.col + 1))) (starts ++ start ∷ [])
with_start m p starts start is has = record {
  in_order = subst (AllPairs (λ s t. Before s.place t.place)) (sym longer) (all_pairs_push (λ s t. Before s.place t.place) (positions_of starts) here has.in_order
      (λ k d less. subst (Before (get_or (positions_of starts) k d).place) (sym is.place) ((has.each (get_or (positions_of starts) k d)).0 (Contains-get_or (positions_of starts) k d less)).1));
  each = λ s. ((λ c. there s (subst (λ xs. Contains xs s) longer c)), (λ h. subst (λ xs. Contains xs s) (sym longer) (back s h.0 h.1)));
  shown = All-push (λ x. StartsAt m (position_of x.at) x.from) starts start has.shown is.starts;
}
  where
    here : Position
    here = position_of start.at

    longer : positions_of (starts ++ start ∷ []) ≡ (positions_of starts ++ here ∷ [])
    longer = map-append (λ (x : Start). position_of x.at) starts (start ∷ [])

    there : (s : Position) → Contains (positions_of starts ++ here ∷ []) s → IsStart m s × Before s.place (at p.row (p.col + 1))
    there s c = elim (Contains-push_cases (positions_of starts) here s c) [
      | inl old ↦ (let h = (has.each s).0 old in (h.0, next_before s.place p h.1))
      | inr new ↦ (subst (IsStart m) new (start.from, is.starts), subst (λ (x : Position). Before x.place (at p.row (p.col + 1))) new (subst (λ (x : Place). Before x (at p.row (p.col + 1))) (sym is.place) (inr (refl, omega arith))))
    ]

    back : (s : Position) → IsStart m s → Before s.place (at p.row (p.col + 1)) → Contains (positions_of starts ++ here ∷ []) s
    back s begins before = elim (before_next s.place p before) [
      | inl earlier ↦ Contains-append_left (positions_of starts) (here ∷ []) s ((has.each s).1 (begins, earlier))
      | inr same ↦ subst (Contains (positions_of starts ++ here ∷ [])) (sym (is.one s begins.0 same begins.1)) (Contains-push (positions_of starts) here)
    ]

-- a start is a cell of the frame, above its bottom border
record IsAbove (m : Drawing) (p : Place) : Type 0 where
  from_top : m.frame.top ≤ p.row
  above : p.row < m.frame.bottom
  from_left : m.frame.left ≤ p.col
  to_right : p.col ≤ m.frame.right

start_above : (m : Drawing) (s : Position) (o : Origin) → IsLaidOut m → StartsAt m s o → IsAbove m s.place
start_above m _ _ laid (at_north p entry) = let h = (in_columns m.grid m.frame.top 124 m.frame p.col).0 entry.1 in record {
  from_top = omega (arith, entry.0);
  above = omega (arith, entry.0, laid.high);
  from_left = omega (arith, h.0);
  to_right = omega (arith, h.1);
}
start_above m _ _ laid (at_west p entry) = let h = (in_rows m.grid m.frame.left 45 m.frame p.row).0 entry.1 in record {
  from_top = omega (arith, h.0);
  above = omega (arith, h.1);
  from_left = omega (arith, entry.0);
  to_right = omega (arith, entry.0, laid.wide);
}
start_above m _ _ laid (at_south p i b there port) = record {
  from_top = omega (arith, port.0.0.below_top);
  above = omega (arith, port.0.0.above_bottom);
  from_left = omega (arith, port.0.0.after_left);
  to_right = omega (arith, port.0.0.before_right);
}
start_above m _ _ laid (at_east p i b there port) = elim port.0 [
  | inl holds ↦ record {
    from_top = omega (arith, holds.0.below_top);
    above = omega (arith, holds.0.above_bottom);
    from_left = omega (arith, holds.0.after_left);
    to_right = omega (arith, holds.0.before_right);
  }
  | inr exit ↦ (let leaves = leaves_exit m p exit in record {
    from_top = omega (arith, leaves.below);
    above = omega (arith, leaves.above);
    from_left = omega (arith, leaves.border, laid.wide);
    to_right = omega (arith, leaves.border);
  })
]

pub start_covers : (m : Drawing) (s : Position) (o : Origin) → IsLaidOut m → StartsAt m s o → Covers m.frame s.place
start_covers m s o laid starts = let above = start_above m s o laid starts in record {
  from_top = above.from_top;
  to_bottom = omega (arith, above.above);
  from_left = above.from_left;
  to_right = above.to_right;
}

-- a start is no turn, by its byte
pub start_no_turn : (m : Drawing) (s : Position) (o : Origin) → StartsAt m s o → IsTurn m s → ⊥
start_no_turn m s o starts turn = elim (leaves m s o starts) [
  | inl down ↦ omega (arith, down.1, turn.1)
  | inr along ↦ omega (arith, along.1, turn.1)
]

pub first_row : (m : Drawing) (starts : List Start) → IsLaidOut m → starts ≡ [] → HasStarts m (λ q. q.row < m.frame.top) starts
first_row m starts laid none = subst (HasStarts m (λ q. q.row < m.frame.top)) (sym none) (record {
  in_order = λ i j d less lt. absurd (omega arith);
  each = λ s. ((λ c. absurd (omega (arith, c.1))), (λ h. let above = start_above m s h.0.0 laid h.0.1 in absurd (omega (arith, above.from_top, h.1))));
  shown = λ i d lt. absurd (omega arith);
})

pub first_column : (m : Drawing) (row : ℕ) (starts : List Start) → IsLaidOut m → HasStarts m (λ q. q.row < row) starts → HasStarts m (λ q. Before q (at row m.frame.left)) starts
first_column m row starts laid has = same_starts m (λ q. q.row < row) (λ q. Before q (at row m.frame.left)) starts (λ s is above. inl above) back has
  where
    back : (s : Position) → IsStart m s → Before s.place (at row m.frame.left) → s.place.row < row
    back s is (inl above) = above
    back s is (inr left) = absurd (let above = start_above m s is.0 laid is.1 in omega (arith, above.from_left, left.1))

pub next_row : (m : Drawing) (row col : ℕ) (starts : List Start) → IsLaidOut m → m.frame.right + 1 ≤ col → HasStarts m (λ q. Before q (at row col)) starts → HasStarts m (λ q. q.row < row + 1) starts
next_row m row col starts laid past has = same_starts m (λ q. Before q (at row col)) (λ q. q.row < row + 1) starts there back has
  where
    there : (s : Position) → IsStart m s → Before s.place (at row col) → s.place.row < row + 1
    there s is (inl above) = omega (arith, above)
    there s is (inr left) = omega (arith, left.0)

    back : (s : Position) → IsStart m s → s.place.row < row + 1 → Before s.place (at row col)
    back s is above = elim (cases_eq s.place.row row) [
      | inl same ↦ inr (same, let in_frame = start_above m s is.0 laid is.1 in omega (arith, in_frame.to_right))
      | inr other ↦ inl (omega arith)
    ]

pub last_row : (m : Drawing) (row : ℕ) (starts : List Start) → IsLaidOut m → m.frame.bottom ≤ row → HasStarts m (λ q. q.row < row) starts → HasStarts m (λ _. Unit {0}) starts
last_row m row starts laid past has = same_starts m (λ q. q.row < row) (λ _. Unit {0}) starts (λ s is above. tt) (λ s is _. let in_frame = start_above m s is.0 laid is.1 in omega (arith, in_frame.above)) has
