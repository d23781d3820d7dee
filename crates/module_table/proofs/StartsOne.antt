-- A wire's origin is at one position: a side has one entry at most, and a side of a box one port.
use Rattle.std.specs.Prelude.{◌≡◌, ◌+◌, ℕ, zero, suc, List, [], ◌∷◌, slice_get, Some, Ok}
use Rattle.std.specs.List.{Contains}
use Rattle.std.proofs.Common.{arith, refl, sym, ap, subst, ◌∙◌, inl, inr}
use Rattle.std.proofs.lemmas.Option.{same_Some}
use Rattle.umix_base.specs.declared.place.Place.{Place}
use Rattle.two_d.specs.Places.{Rect, at, IsSecondPlace}
use Rattle.two_d.specs.Faults.{two_ports, two_entries}
use Rattle.two_d.specs.Reading.{RefusedAt}
use Rattle.two_d.specs.Frames.{IsSecond, north_entries, west_entries, one_entry_a_side}
use Rattle.two_d.specs.Ports.{Drawing, IsSPort, IsEPort, IsNPort, IsWPort}
use Rattle.two_d.specs.Wires.{Position, StartsAt}
use Rattle.two_d.specs.Clean.{ports_at}
use Rattle.two_d.specs.declared.module.Origin.{Origin}
use Rattle.two_d.specs.declared.module.Origin.TheVariants.{North, West, South, East}
use Rattle.two_d.proofs.Equal.{equal_places}
use Rattle.two_d.proofs.FirstPlace.{no_second}
use Rattle.two_d.proofs.GoodTable.{none_at}
use Rattle.two_d.proofs.InOrder.{then_ok}
use Rattle.two_d.proofs.OneReading.{IsOne}
use Rattle.two_d.proofs.OneWire.{FromSouth, FromEast, from_is}
use Rattle.two_d.proofs.SomePorts.{decided_s_port, decided_e_port}

-- a box whose ports were read has one S port and one E port at most
module _ (m : Drawing) (b : Rect) (read : ports_at m b (Ok tt)) where
  pub e_port_one : IsOne (IsEPort m b)
  e_port_one =
      let (u, first, more) = then_ok (RefusedAt two_ports (IsSecondPlace (IsNPort m b))) _ tt read in
      let (v, second, rest) = then_ok (RefusedAt two_ports (IsSecondPlace (IsWPort m b))) _ tt more in
      let (x, third, last) = then_ok (RefusedAt two_ports (IsSecondPlace (IsEPort m b))) _ tt rest in
      no_second (IsEPort m b) (decided_e_port m b) b.bottom (b.right + 2) (λ p port. (port.2.1, let e = port.1 in omega arith)) (none_at two_ports (IsSecondPlace (IsEPort m b)) (Ok x) third refl)

  pub s_port_one : IsOne (IsSPort m b)
  s_port_one =
      let (u, first, more) = then_ok (RefusedAt two_ports (IsSecondPlace (IsNPort m b))) _ tt read in
      let (v, second, rest) = then_ok (RefusedAt two_ports (IsSecondPlace (IsWPort m b))) _ tt more in
      let (x, third, last) = then_ok (RefusedAt two_ports (IsSecondPlace (IsEPort m b))) _ tt rest in
      no_second (IsSPort m b) (decided_s_port m b) m.frame.bottom m.frame.right (λ p port. (port.0.0.above_bottom, port.0.0.before_right)) (none_at two_ports (IsSecondPlace (IsSPort m b)) (Ok tt) last refl)

-- a list without a second has one at most
one_of_list : (xs : List ℕ) → ((n : ℕ) → IsSecond xs n → ⊥) → (a b : ℕ) → Contains xs a → Contains xs b → a ≡ b
one_of_list [] none a b (k, lt, is) there = absurd (omega arith)
one_of_list (x ∷ []) none a b (zero, lt, is) (zero, more, also) = sym is ∙ also
one_of_list (x ∷ []) none a b (suc k, lt, is) there = absurd (omega arith)
one_of_list (x ∷ []) none a b (zero, lt, is) (suc j, more, also) = absurd (omega arith)
one_of_list (x ∷ y ∷ zs) none a b here there = absurd (none y refl)

pub one_north : (m : Drawing) → one_entry_a_side m.grid m.frame (Ok tt) → (a b : ℕ) → Contains (north_entries m.grid m.frame) a → Contains (north_entries m.grid m.frame) b → a ≡ b
one_north m entered a b here there =
    let (u, first, more) = then_ok (RefusedAt (λ col. two_entries (at m.frame.top col)) (IsSecond (north_entries m.grid m.frame))) _ tt entered in
    one_of_list (north_entries m.grid m.frame) (none_at (λ col. two_entries (at m.frame.top col)) (IsSecond (north_entries m.grid m.frame)) (Ok u) first refl) a b here there

pub one_west : (m : Drawing) → one_entry_a_side m.grid m.frame (Ok tt) → (a b : ℕ) → Contains (west_entries m.grid m.frame) a → Contains (west_entries m.grid m.frame) b → a ≡ b
one_west m entered a b here there =
    let (u, first, more) = then_ok (RefusedAt (λ col. two_entries (at m.frame.top col)) (IsSecond (north_entries m.grid m.frame))) _ tt entered in
    one_of_list (west_entries m.grid m.frame) (none_at (λ row. two_entries (at row m.frame.left)) (IsSecond (west_entries m.grid m.frame)) (Ok tt) more refl) a b here there

module _ (m : Drawing) (entered : one_entry_a_side m.grid m.frame (Ok tt)) (ports : (i : ℕ) (b : Rect) → slice_get m.boxes i ≡ Some b → ports_at m b (Ok tt)) where
  south_one : (p q : Place) (o : Origin) → FromSouth m p o → FromSouth m q o → p ≡ q
  south_one p q o (inl (is, entry)) (inl (also, other)) = equal_places p q (entry.0 ∙ sym other.0) (one_north m entered p.col q.col entry.1 other.1)
  south_one p q o (inl (is, entry)) (inr (i, b, also, at_b, port)) = absurd (let e : North ≡ South i = sym is ∙ also in cc)
  south_one p q o (inr (i, b, also, at_b, port)) (inl (is, entry)) = absurd (let e : North ≡ South i = sym is ∙ also in cc)
  south_one p q o (inr (i, b, is, at_b, port)) (inr (j, c, also, at_c, other)) =
      let e : South i ≡ South j = sym is ∙ also in
      let index : i ≡ j = cc in
      let same : b ≡ c = same_Some b c (sym at_b ∙ (ap (slice_get m.boxes) index ∙ at_c)) in
      s_port_one m c (ports j c at_c) p q (subst (λ r. IsSPort m r p) same port) other

  east_one : (p q : Place) (o : Origin) → FromEast m p o → FromEast m q o → p ≡ q
  east_one p q o (inl (is, entry)) (inl (also, other)) = equal_places p q (one_west m entered p.row q.row entry.1 other.1) (entry.0 ∙ sym other.0)
  east_one p q o (inl (is, entry)) (inr (i, b, also, at_b, port)) = absurd (let e : West ≡ East i = sym is ∙ also in cc)
  east_one p q o (inr (i, b, also, at_b, port)) (inl (is, entry)) = absurd (let e : West ≡ East i = sym is ∙ also in cc)
  east_one p q o (inr (i, b, is, at_b, port)) (inr (j, c, also, at_c, other)) =
      let e : East i ≡ East j = sym is ∙ also in
      let index : i ≡ j = cc in
      let same : b ≡ c = same_Some b c (sym at_b ∙ (ap (slice_get m.boxes) index ∙ at_c)) in
      e_port_one m c (ports j c at_c) p q (subst (λ r. IsEPort m r p) same port) other

  not_both : (p q : Place) (o : Origin) → FromSouth m p o → FromEast m q o → ⊥
  not_both p q o (inl (is, entry)) (inl (also, other)) = let e : North ≡ West = sym is ∙ also in cc
  not_both p q o (inl (is, entry)) (inr (i, b, also, at_b, port)) = let e : North ≡ East i = sym is ∙ also in cc
  not_both p q o (inr (i, b, is, at_b, port)) (inl (also, other)) = let e : South i ≡ West = sym is ∙ also in cc
  not_both p q o (inr (i, b, is, at_b, port)) (inr (j, c, also, at_c, other)) = let e : South i ≡ East j = sym is ∙ also in cc

  -- the cells at which two wires from one origin begin are one
  pub one_start : (s t : Position) (o : Origin) → StartsAt m s o → StartsAt m t o → s.place ≡ t.place
  one_start s t o one other = elim (from_is m s o one) [
    | inl (to, there) ↦ elim (from_is m t o other) [
      | inl (same, also) ↦ south_one s.place t.place o there also
      | inr (apart, also) ↦ absurd (not_both s.place t.place o there also)
    ]
    | inr (to, there) ↦ elim (from_is m t o other) [
      | inl (apart, also) ↦ absurd (not_both t.place s.place o also there)
      | inr (same, also) ↦ east_one s.place t.place o there also
    ]
  ]
