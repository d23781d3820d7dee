-- In a drawing whose boxes are read from its grid a wire has one origin and one end.
use Rattle.std.specs.Prelude.{◌≡◌, ◌⊎◌, ◌+◌, ◌-◌, ◌<◌, ◌≤◌, ◌==◌, ℕ, zero, suc, Bool, true, false, cond, ◌∷◌, slice_get, Some, All}
use Rattle.std.specs.List.{filter, range_with_len}
use Rattle.std.proofs.Common.{arith, refl, sym, ap, subst, ◌∙◌, inl, inr}
use Rattle.std.proofs.lemmas.List.Elements.{All-contains, All-filter, All-from_get_or}
use Rattle.std.proofs.lemmas.List.FromFn.{length-range_with_len, get_or-range_with_len}
use Rattle.std.proofs.lemmas.Option.{slice_get_within, get_or_from_slice_get, same_Some}
use Rattle.umix_base.specs.declared.place.Place.{Place}
use Rattle.two_d.specs.Places.{at, Rect, Covers}
use Rattle.two_d.specs.Cells.{cell}
use Rattle.two_d.specs.Frames.{exits_of}
use Rattle.two_d.specs.Ports.{Drawing, IsNorthEntry, IsWestEntry, IsNPort, IsWPort, IsSPort, IsEPort}
use Rattle.two_d.specs.Wires.{Position, south, east, StartsAt, at_north, at_west, at_south, at_east, EndsAt, at_n, at_w, at_exit, Trace}
use Rattle.two_d.specs.Clean.{WireForm, IsWire}
use Rattle.two_d.specs.declared.module.Origin.{Origin}
use Rattle.two_d.specs.declared.module.Origin.TheVariants.{North, West, South, East}
use Rattle.two_d.specs.declared.module.To.{To}
use Rattle.two_d.specs.declared.module.To.TheVariants.{N, W, Exit}
use Rattle.two_d.proofs.FiguresApart.{AreBoxes}
use Rattle.two_d.proofs.OneReading.{IsOne}

-- the drawing of a frame and boxes that were read
pub record IsWellDrawn (m : Drawing) : Type 0 where
  pub boxes : AreBoxes m.grid m.frame m.boxes
  pub wide : m.frame.left < m.frame.right

-- where a wire comes from, to the south or to the east
abbrev pub FromSouth : Drawing → Place → Origin → Type 0
FromSouth m p o = ((o ≡ North) × IsNorthEntry m p) ⊎ ((i : ℕ) × (b : Rect) × (o ≡ South i) × (slice_get m.boxes i ≡ Some b) × IsSPort m b p)

abbrev pub FromEast : Drawing → Place → Origin → Type 0
FromEast m p o = ((o ≡ West) × IsWestEntry m p) ⊎ ((i : ℕ) × (b : Rect) × (o ≡ East i) × (slice_get m.boxes i ≡ Some b) × IsEPort m b p)

pub from_is : (m : Drawing) (s : Position) (o : Origin) → StartsAt m s o → ((s.to ≡ south) × FromSouth m s.place o) ⊎ ((s.to ≡ east) × FromEast m s.place o)
from_is m _ _ (at_north p entry) = inl (refl, inl (refl, entry))
from_is m _ _ (at_south p i b is port) = inl (refl, inr (i, b, refl, is, port))
from_is m _ _ (at_west p entry) = inr (refl, inl (refl, entry))
from_is m _ _ (at_east p i b is port) = inr (refl, inr (i, b, refl, is, port))

-- where a wire ends, to the south or to the east
abbrev pub ToSouth : Drawing → Place → To → Type 0
ToSouth m p end = (i : ℕ) × (b : Rect) × (end ≡ N i) × (slice_get m.boxes i ≡ Some b) × IsNPort m b p

abbrev pub ToEast : Drawing → Place → To → Type 0
ToEast m p end = ((i : ℕ) × (b : Rect) × (end ≡ W i) × (slice_get m.boxes i ≡ Some b) × IsWPort m b p) ⊎ ((i : ℕ) × (end ≡ Exit i) × (slice_get (exits_of m.grid m.frame) i ≡ Some p.row) × (p.col ≡ m.frame.right))

pub to_is : (m : Drawing) (s : Position) (end : To) → EndsAt m s end → ((s.to ≡ south) × ToSouth m s.place end) ⊎ ((s.to ≡ east) × ToEast m s.place end)
to_is m _ _ (at_n p i b is port) = inl (refl, (i, b, refl, is, port))
to_is m _ _ (at_w p i b is port) = inr (refl, inl (i, b, refl, is, port))
to_is m _ _ (at_exit row i is) = inr (refl, inr (i, refl, is, refl))

-- a number stands once among those of a range that pass
range_from : (n a : ℕ) → All (λ x. a ≤ x) (range_with_len a n)
range_from n a = All-from_get_or (λ x. a ≤ x) (range_with_len a n) 0 (λ i lt.
    let long = length-range_with_len a n in
    let at = get_or-range_with_len a n i 0 (omega arith) in
    omega arith)

not_again : (test : ℕ → Bool) (n a j : ℕ) → slice_get (filter test (range_with_len (a + 1) n)) j ≡ Some a → ⊥
not_again test n a j is =
    let le : a + 1 ≤ a = All-contains (λ x. a + 1 ≤ x) (filter test (range_with_len (a + 1) n)) a (All-filter test (λ x. a + 1 ≤ x) (range_with_len (a + 1) n) (range_from n (a + 1))) (j, slice_get_within (filter test (range_with_len (a + 1) n)) j a is, get_or_from_slice_get (filter test (range_with_len (a + 1) n)) j a a is) in
    omega arith

filter_once : (test : ℕ → Bool) (n a i j x : ℕ) → slice_get (filter test (range_with_len a n)) i ≡ Some x → slice_get (filter test (range_with_len a n)) j ≡ Some x → i ≡ j
filter_once test zero a i j x is also = absurd (cc)
filter_once test (suc n) a i j x is also = by (test a) (filter_once test n (a + 1)) i j is also
  where
    by : (t : Bool) → ((i j x : ℕ) → slice_get (filter test (range_with_len (a + 1) n)) i ≡ Some x → slice_get (filter test (range_with_len (a + 1) n)) j ≡ Some x → i ≡ j)
        → (i j : ℕ) → slice_get (cond t (a ∷ filter test (range_with_len (a + 1) n)) (filter test (range_with_len (a + 1) n))) i ≡ Some x → slice_get (cond t (a ∷ filter test (range_with_len (a + 1) n)) (filter test (range_with_len (a + 1) n))) j ≡ Some x → i ≡ j
    by false more i j is also = more i j x is also
    by true more zero zero is also = refl
    by true more zero (suc j) is also = absurd (let e : x ≡ a = cc in not_again test n a j (subst (λ z. slice_get (filter test (range_with_len (a + 1) n)) j ≡ Some z) e also))
    by true more (suc i) zero is also = absurd (let e : x ≡ a = cc in not_again test n a i (subst (λ z. slice_get (filter test (range_with_len (a + 1) n)) i ≡ Some z) e is))
    by true more (suc i) (suc j) is also = ap suc (more i j x is also)

module _ (m : Drawing) (well : IsWellDrawn m) where
  box_facts : (i : ℕ) (b : Rect) → slice_get m.boxes i ≡ Some b → (b.top + 1 < b.bottom) × (b.left + 1 < b.right) × (m.frame.left < b.left)
  box_facts i b at_b =
      let (p, box) = well.boxes.boxes i b at_b in
      let corner : p.col ≡ b.left = ap (λ (q : Place). q.col) (sym box.corner) in
      let within = box.within.0.after_left in
      (box.high, box.wide, omega arith)

  share : (i j : ℕ) (b c : Rect) → slice_get m.boxes i ≡ Some b → slice_get m.boxes j ≡ Some c → (p : Place) → Covers b p → Covers c p → i ≡ j
  share i j b c at_b at_c p one other = well.boxes.apart i j b c at_b at_c (p, one, other)

  one_south : (p : Place) (o q : Origin) → FromSouth m p o → FromSouth m p q → o ≡ q
  one_south p o q (inl (is, entry)) (inl (also, other)) = is ∙ sym also
  one_south p o q (inl (is, entry)) (inr (i, b, also, at_b, port)) = absurd (let low = port.0.0.below_top in let top = entry.0 in omega arith)
  one_south p o q (inr (i, b, also, at_b, port)) (inl (is, entry)) = absurd (let low = port.0.0.below_top in let top = entry.0 in omega arith)
  one_south p o q (inr (i, b, is, at_b, port)) (inr (j, c, also, at_c, other)) =
      let (high_b, wide_b, in_b) = box_facts i b at_b in
      let (high_c, wide_c, in_c) = box_facts j c at_c in
      let under_b = port.1 in let under_c = other.1 in
      let left_b = port.2.0 in let right_b = port.2.1 in let left_c = other.2.0 in let right_c = other.2.1 in
      let same = share i j b c at_b at_c (at b.bottom p.col)
      (record { from_top = omega arith; to_bottom = omega arith; from_left = omega arith; to_right = omega arith })
      (record { from_top = omega arith; to_bottom = omega arith; from_left = omega arith; to_right = omega arith }) in
      is ∙ (ap South same ∙ sym also)

  one_east : (p : Place) (o q : Origin) → FromEast m p o → FromEast m p q → o ≡ q
  one_east p o q (inl (is, entry)) (inl (also, other)) = is ∙ sym also
  one_east p o q (inl (is, entry)) (inr (i, b, also, at_b, port)) = absurd (let (high, wide, inside) = box_facts i b at_b in let after = port.1 in let left = entry.0 in omega arith)
  one_east p o q (inr (i, b, also, at_b, port)) (inl (is, entry)) = absurd (let (high, wide, inside) = box_facts i b at_b in let after = port.1 in let left = entry.0 in omega arith)
  one_east p o q (inr (i, b, is, at_b, port)) (inr (j, c, also, at_c, other)) =
      let (high_b, wide_b, in_b) = box_facts i b at_b in
      let (high_c, wide_c, in_c) = box_facts j c at_c in
      let after_b = port.1 in let after_c = other.1 in
      let top_b = port.2.0 in let bottom_b = port.2.1 in let top_c = other.2.0 in let bottom_c = other.2.1 in
      let same = share i j b c at_b at_c (at p.row b.right)
      (record { from_top = omega arith; to_bottom = omega arith; from_left = omega arith; to_right = omega arith })
      (record { from_top = omega arith; to_bottom = omega arith; from_left = omega arith; to_right = omega arith }) in
      is ∙ (ap East same ∙ sym also)

  pub one_origin : (s : Position) (o q : Origin) → StartsAt m s o → StartsAt m s q → o ≡ q
  one_origin s o q one other = elim (from_is m s o one) [
    | inl (to, there) ↦ elim (from_is m s q other) [
      | inl (same, also) ↦ one_south s.place o q there also
      | inr (apart, also) ↦ absurd (let e : south ≡ east = sym to ∙ apart in cc)
    ]
    | inr (to, there) ↦ elim (from_is m s q other) [
      | inl (apart, also) ↦ absurd (let e : east ≡ south = sym to ∙ apart in cc)
      | inr (same, also) ↦ one_east s.place o q there also
    ]
  ]

  end_south : (p : Place) (e f : To) → ToSouth m p e → ToSouth m p f → e ≡ f
  end_south p e f (i, b, is, at_b, port) (j, c, also, at_c, other) =
      let (high_b, wide_b, in_b) = box_facts i b at_b in
      let (high_c, wide_c, in_c) = box_facts j c at_c in
      let above_b = port.1 in let above_c = other.1 in
      let left_b = port.2.0 in let right_b = port.2.1 in let left_c = other.2.0 in let right_c = other.2.1 in
      let same = share i j b c at_b at_c (at b.top p.col)
      (record { from_top = omega arith; to_bottom = omega arith; from_left = omega arith; to_right = omega arith })
      (record { from_top = omega arith; to_bottom = omega arith; from_left = omega arith; to_right = omega arith }) in
      is ∙ (ap N same ∙ sym also)

  end_east : (p : Place) (e f : To) → ToEast m p e → ToEast m p f → e ≡ f
  end_east p e f (inl (i, b, is, at_b, port)) (inl (j, c, also, at_c, other)) =
      let (high_b, wide_b, in_b) = box_facts i b at_b in
      let (high_c, wide_c, in_c) = box_facts j c at_c in
      let before_b = port.1 in let before_c = other.1 in
      let top_b = port.2.0 in let bottom_b = port.2.1 in let top_c = other.2.0 in let bottom_c = other.2.1 in
      let same = share i j b c at_b at_c (at p.row b.left)
      (record { from_top = omega arith; to_bottom = omega arith; from_left = omega arith; to_right = omega arith })
      (record { from_top = omega arith; to_bottom = omega arith; from_left = omega arith; to_right = omega arith }) in
      is ∙ (ap W same ∙ sym also)
  end_east p e f (inl (i, b, is, at_b, port)) (inr (j, also, at_j, right)) = absurd (let inside = port.0.0.before_right in omega arith)
  end_east p e f (inr (j, also, at_j, right)) (inl (i, b, is, at_b, port)) = absurd (let inside = port.0.0.before_right in omega arith)
  end_east p e f (inr (i, is, at_i, right)) (inr (j, also, at_j, other)) =
      is ∙ (ap Exit (filter_once (λ row. cell m.grid (at row m.frame.right) == 45) (m.frame.bottom - m.frame.top - 1) (m.frame.top + 1) i j p.row at_i at_j) ∙ sym also)

  pub one_end : (s : Position) (e f : To) → EndsAt m s e → EndsAt m s f → e ≡ f
  one_end s e f one other = elim (to_is m s e one) [
    | inl (to, there) ↦ elim (to_is m s f other) [
      | inl (same, also) ↦ end_south s.place e f there also
      | inr (apart, also) ↦ absurd (let d : south ≡ east = sym to ∙ apart in cc)
    ]
    | inr (to, there) ↦ elim (to_is m s f other) [
      | inl (apart, also) ↦ absurd (let d : east ≡ south = sym to ∙ apart in cc)
      | inr (same, also) ↦ end_east s.place e f there also
    ]
  ]

  pub wire_one : (trace : Trace) → IsOne (IsWire m trace)
  wire_one trace w v one other =
      let first : one.first ≡ other.first = same_Some one.first other.first (sym one.is_first ∙ other.is_first) in
      let last : one.last ≡ other.last = same_Some one.last other.last (sym one.is_last ∙ other.is_last) in
      let from = one_origin other.first w.from v.from (subst (λ s. StartsAt m s w.from) first one.starts) other.starts in
      let to = one_end other.last w.to v.to (subst (λ s. EndsAt m s w.to) last one.ends) other.ends in
      same_wire w v from to
    where
      same_wire : (w v : WireForm) → w.from ≡ v.from → w.to ≡ v.to → w ≡ v
      same_wire w v from to = λ i. record { from = from i; to = to i }
