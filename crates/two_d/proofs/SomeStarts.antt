-- A module's wires have starts: one list of them in reading order.
use Rattle.std.specs.Prelude.{◌≡◌, ◌⊎◌, ◌==◌, ℕ, true, List, [], ◌∷◌, length, map, slice_get, Some, if◌then◌else◌}
use Rattle.std.specs.List.{Contains}
use Rattle.std.proofs.Common.{arith, refl, sym, ap, subst, ◌∙◌, inl, inr, get_or}
use Rattle.std.proofs.lemmas.Bool.{eqb-true}
use Rattle.std.proofs.lemmas.List.Elements.{filter_passes, All-contains}
use Rattle.umix_base.specs.declared.place.Place.{Place}
use Rattle.two_d.specs.Places.{at, Before, Rect, inner_rows, inner_columns}
use Rattle.two_d.specs.Cells.{Grid, cell}
use Rattle.two_d.specs.Figures as figures
use Rattle.two_d.specs.Frames.{columns_with, rows_with}
use Rattle.two_d.specs.Ports.{Drawing, IsNorthEntry, IsWestEntry, IsExit, IsSPort, IsEPort}
use Rattle.two_d.specs.Wires.{Position, Direction, south, east, StartsAt, at_north, at_west, at_south, at_east, IsStart}
use Rattle.two_d.specs.Clean.{AreStarts}
use Rattle.two_d.specs.declared.module.Origin.{Origin}
use Rattle.two_d.specs.declared.module.Origin.TheVariants.{North, West, South, East}
use Rattle.two_d.proofs.CellsEnd.{within_line, within_lines}
use Rattle.two_d.proofs.Decide.{Decided, decided_either}
use Rattle.two_d.proofs.LiveCorners.{IsSearchable}
use Rattle.two_d.proofs.MapLists.{map_contains, contains_map, pairs_map, map_back}
use Rattle.two_d.proofs.OneReading.{IsOne, live_one}
use Rattle.two_d.proofs.SomeFigures.{live_some}
use Rattle.two_d.proofs.SomePorts.{decided_north, decided_west, decided_s_port, decided_e_port, decided_numbered}

-- to the south from `|`, to the east from `-`
abbrev pub StartsSouth : Drawing → Place → Type 0
StartsSouth m p = IsNorthEntry m p ⊎ ((i : ℕ) × (b : Rect) × (slice_get m.boxes i ≡ Some b) × IsSPort m b p)

abbrev pub StartsEast : Drawing → Place → Type 0
StartsEast m p = IsWestEntry m p ⊎ ((i : ℕ) × (b : Rect) × (slice_get m.boxes i ≡ Some b) × IsEPort m b p)

pub start_is : (m : Drawing) (s : Position) (o : Origin) → StartsAt m s o → ((s.to ≡ south) × StartsSouth m s.place) ⊎ ((s.to ≡ east) × StartsEast m s.place)
start_is m _ _ (at_north p entry) = inl (refl, inl entry)
start_is m _ _ (at_south p i b is port) = inl (refl, inr (i, b, is, port))
start_is m _ _ (at_west p entry) = inr (refl, inl entry)
start_is m _ _ (at_east p i b is port) = inr (refl, inr (i, b, is, port))

column_cell : (grid : Grid) (row byte : ℕ) (f : Rect) (p : Place) → p.row ≡ row → Contains (columns_with grid row byte f) p.col → cell grid p ≡ byte
column_cell grid row byte f p is c =
    let passed = All-contains (λ col. (cell grid (at row col) == byte) ≡ true) (columns_with grid row byte f) p.col (filter_passes (λ col. cell grid (at row col) == byte) (inner_columns f)) c in
    ap (λ r. cell grid (at r p.col)) is ∙ eqb-true (cell grid (at row p.col)) byte passed

row_cell : (grid : Grid) (col byte : ℕ) (f : Rect) (p : Place) → p.col ≡ col → Contains (rows_with grid col byte f) p.row → cell grid p ≡ byte
row_cell grid col byte f p is c =
    let passed = All-contains (λ row. (cell grid (at row col) == byte) ≡ true) (rows_with grid col byte f) p.row (filter_passes (λ row. cell grid (at row col) == byte) (inner_rows f)) c in
    ap (λ x. cell grid (at p.row x)) is ∙ eqb-true (cell grid (at p.row col)) byte passed

pub exit_cell : (m : Drawing) (p : Place) → IsExit m p → cell m.grid p ≡ 45
exit_cell m p exit = row_cell m.grid m.frame.right 45 m.frame p exit.0 exit.1

pub south_cell : (m : Drawing) (p : Place) → StartsSouth m p → cell m.grid p ≡ 124
south_cell m p (inl entry) = column_cell m.grid m.frame.top 124 m.frame p entry.0 entry.1
south_cell m p (inr (i, b, is, port)) = port.0.1

pub east_cell : (m : Drawing) (p : Place) → StartsEast m p → cell m.grid p ≡ 45
east_cell m p (inl entry) = row_cell m.grid m.frame.left 45 m.frame p entry.0 entry.1
east_cell m p (inr (i, b, is, (inl holds, after, along))) = holds.1
east_cell m p (inr (i, b, is, (inr exit, after, along))) = exit_cell m p exit

-- some wire starts at the cell
abbrev StartsHere : Drawing → Place → Type 0
StartsHere m p = StartsSouth m p ⊎ StartsEast m p

abbrev direction_at : ℕ → Direction
direction_at c = if c == 124 then south else east

abbrev start_position : Drawing → Place → Position
start_position m p = record { place = p; to = direction_at (cell m.grid p) }

module _ (m : Drawing) where
  south_there : (p : Place) → cell m.grid p ≡ 124 → direction_at (cell m.grid p) ≡ south
  south_there p e = ap direction_at e

  east_there : (p : Place) → cell m.grid p ≡ 45 → direction_at (cell m.grid p) ≡ east
  east_there p e = ap direction_at e

  starts_there : (p : Place) → StartsHere m p → IsStart m (start_position m p)
  starts_there p (inl from_south) = subst (λ d. IsStart m (record { place = p; to = d })) (sym (south_there p (south_cell m p from_south))) (by from_south)
    where
      by : StartsSouth m p → IsStart m (record { place = p; to = south })
      by (inl entry) = (North, at_north p entry)
      by (inr (i, b, is, port)) = (South i, at_south p i b is port)
  starts_there p (inr from_east) = subst (λ d. IsStart m (record { place = p; to = d })) (sym (east_there p (east_cell m p from_east))) (by from_east)
    where
      by : StartsEast m p → IsStart m (record { place = p; to = east })
      by (inl entry) = (West, at_west p entry)
      by (inr (i, b, is, port)) = (East i, at_east p i b is port)

  start_placed : (s : Position) → IsStart m s → StartsHere m s.place × (start_position m s.place ≡ s)
  start_placed s (o, at_o) = elim (start_is m s o at_o) [
    | inl (to, there) ↦ (inl there, ap (λ d. record { place = s.place; to = d }) (south_there s.place (south_cell m s.place there) ∙ sym to))
    | inr (to, there) ↦ (inr there, ap (λ d. record { place = s.place; to = d }) (east_there s.place (east_cell m s.place there) ∙ sym to))
  ]

  here_or_not : (p : Place) → Decided (StartsHere m p)
  here_or_not p = decided_either
      (decided_either (decided_north m p) (decided_numbered (λ b. IsSPort m b p) (λ b. decided_s_port m b p) m.boxes))
      (decided_either (decided_west m p) (decided_numbered (λ b. IsEPort m b p) (λ b. decided_e_port m b p) m.boxes))

  no_space : (p : Place) → StartsHere m p → cell m.grid p ≡ 32 → ⊥
  no_space p (inl there) space = let e = south_cell m p there in omega arith
  no_space p (inr there) space = let e = east_cell m p there in omega arith

  starts_searchable : IsSearchable (StartsHere m) (λ _ _. ⊥)
  starts_searchable = record {
    corner_or_not = here_or_not;
    figure_or_not = λ p. inr (λ f x. x);
    one = λ p f g x. absurd x;
    placed = λ p f x. absurd x;
    ordered = λ p f x. absurd x;
    rows = length ([] ∷ m.grid);
    below_rows = λ p c. within_lines m.grid p.row p.col (no_space p c);
    columns = λ row. length (32 ∷ get_or ([] ∷ m.grid) row []);
    below_columns = λ p c. within_line m.grid p.row p.col (no_space p c);
  }

  pub some_starts : (starts : List Position) × AreStarts m starts
  some_starts =
      let (live, is) = live_some (StartsHere m) (λ _ _. ⊥) starts_searchable in (
        map (start_position m) live,
        record {
          in_order = pairs_map (λ s t. Before s.place t.place) (start_position m) live (at 0 0) is.in_order;
          each = λ s. (
            (λ c. let (p, there, same) = map_contains (start_position m) live s c in subst (IsStart m) same (starts_there p ((is.each p).0 there).1)),
            (λ start. let (here, same) = start_placed s start in
                subst (Contains (map (start_position m) live)) same (contains_map (start_position m) live s.place ((is.each s.place).1 (tt, here, λ q f c b x w. x)))),
          );
        },
      )

  live_places : (starts : List Position) → AreStarts m starts → figures.AreLive (StartsHere m) (λ _ _. ⊥) (map (λ (s : Position). s.place) starts)
  live_places starts are = record {
    in_order = pairs_map Before (λ (s : Position). s.place) starts (record { place = at 0 0; to = east }) are.in_order;
    each = λ p. (
      (λ c. let (s, there, same) = map_contains (λ (s : Position). s.place) starts p c in
          (tt, subst (StartsHere m) same (start_placed s ((are.each s).0 there)).0, λ q f c b x w. x)),
      (λ x. contains_map (λ (s : Position). s.place) starts (start_position m p) ((are.each (start_position m p)).1 (starts_there p x.1))),
    );
  }

  pub starts_one : IsOne (AreStarts m)
  starts_one ss ts one other =
      sym (map_back (λ (s : Position). s.place) (start_position m) ss (λ s there. (start_placed s ((one.each s).0 there)).1))
      ∙ ap (map (start_position m)) (live_one (StartsHere m) (λ _ _. ⊥) (map (λ (s : Position). s.place) ss) (map (λ (s : Position). s.place) ts) (live_places ss one) (live_places ts other))
      ∙ map_back (λ (s : Position). s.place) (start_position m) ts (λ s there. (start_placed s ((other.each s).0 there)).1)
