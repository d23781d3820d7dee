-- The one box whose port a cell can be is the box beside it.
use Rattle.std.proofs.Common.{◌≡◌, ℕ, ◌+◌, ◌-◌, ◌<◌, inl, inr, List, length, Option, Some, None, map, arith, ap, sym, subst, ◌∙◌}
use Rattle.std.specs.List.{slice_get}
use Rattle.std.specs.Option.{IfSome}
use Rattle.std.proofs.lemmas.List.{length-map}
use Rattle.grid_reader.specs.declared.box_frame.BoxFrame.{BoxFrame}
use Rattle.grid_reader.specs.Boxes.{box_rect}
use Rattle.std.proofs.lemmas.Option.{slice_get_within}
use Rattle.umix_base.specs.declared.place.Place.{Place}
use Rattle.two_d.specs.Places.{at, Rect, Covers}
use Rattle.two_d.specs.Ports.{Drawing, IsNPort, IsWPort, IsSPort, IsEPort}
use Rattle.wire_trace.specs.declared.area.Area.{Area}
use Rattle.wire_trace.specs.declared.owners.Owners.{Owners}
use Rattle.wire_trace.specs.inner.Areas.{IsAreaOf, IsIn, owner_of}
use Rattle.wire_trace.specs.inner.Sheets.{IsLaidOut, AreOwnersOf, FindsBox, MayBeginEast}
use Rattle.wire_trace.proofs.Exits.{leaves_exit}

-- the table finds the box of a cell
pub finds_owner : (m : Drawing) (owners : Owners) (p : Place) (found : Option ℕ) → AreOwnersOf m owners → IsIn owners.area p → found ≡ owner_of owners p → FindsBox m (λ b. Covers b p) found
finds_owner m owners p None are within is = λ i b there covers. are.covers.none p i b within (sym is) (slice_get_within m.boxes i b there) there covers
finds_owner m owners p (Some n) are within is = let (b, less, there, covers) = are.covers.some p n within (sym is) in (b, there, covers)

pub finds_none : (m : Drawing) (P : Rect → Type 0) (beside : Place) → ((i : ℕ) (b : Rect) → slice_get m.boxes i ≡ Some b → P b → Covers b beside) → ((i : ℕ) (b : Rect) → slice_get m.boxes i ≡ Some b → Covers b beside → ⊥) → (i : ℕ) (b : Rect) → slice_get m.boxes i ≡ Some b → P b → ⊥
finds_none m P beside covers none i b there is = none i b there (covers i b there is)

pub finds_other : (m : Drawing) (P : Rect → Type 0) (beside : Place) (n : ℕ) (c : Rect) → IsLaidOut m → ((i : ℕ) (b : Rect) → slice_get m.boxes i ≡ Some b → P b → Covers b beside) → slice_get m.boxes n ≡ Some c → Covers c beside → (P c → ⊥) → (i : ℕ) (b : Rect) → slice_get m.boxes i ≡ Some b → P b → ⊥
finds_other m P beside n c laid covers at_n here isnt i b there is =
    let same = laid.apart n i c b at_n there (beside, here, covers i b there is) in
    let e : Some c ≡ Some b = sym at_n ∙ (ap (slice_get m.boxes) same ∙ there) in
    let f : c ≡ b = cc in
    isnt (subst P (sym f) is)

pub north_beside : (m : Drawing) (p : Place) → IsLaidOut m → (i : ℕ) (b : Rect) → slice_get m.boxes i ≡ Some b → IsNPort m b p → Covers b (at (p.row + 1) p.col)
north_beside m p laid i b there port = let fit = laid.fit i b there in record {
  from_top = omega (arith, port.1);
  to_bottom = omega (arith, port.1, fit.high);
  from_left = omega (arith, port.2.0);
  to_right = omega (arith, port.2.1);
}

pub west_beside : (m : Drawing) (p : Place) → IsLaidOut m → (i : ℕ) (b : Rect) → slice_get m.boxes i ≡ Some b → IsWPort m b p → Covers b (at p.row (p.col + 1))
west_beside m p laid i b there port = let fit = laid.fit i b there in record {
  from_top = omega (arith, port.2.0);
  to_bottom = omega (arith, port.2.1);
  from_left = omega (arith, port.1);
  to_right = omega (arith, port.1, fit.wide);
}

pub south_beside : (m : Drawing) (p : Place) → IsLaidOut m → (i : ℕ) (b : Rect) → slice_get m.boxes i ≡ Some b → IsSPort m b p → Covers b (at (p.row - 1) p.col)
south_beside m p laid i b there port = let fit = laid.fit i b there in record {
  from_top = omega (arith, port.1, fit.high);
  to_bottom = omega (arith, port.1);
  from_left = omega (arith, port.2.0);
  to_right = omega (arith, port.2.1);
}

pub east_beside : (m : Drawing) (p : Place) → IsLaidOut m → (i : ℕ) (b : Rect) → slice_get m.boxes i ≡ Some b → IsEPort m b p → Covers b (at p.row (p.col - 1))
east_beside m p laid i b there port = let fit = laid.fit i b there in record {
  from_top = omega (arith, port.2.0);
  to_bottom = omega (arith, port.2.1);
  from_left = omega (arith, port.1, fit.wide);
  to_right = omega (arith, port.1);
}

-- a place of the frame is one of the area's
pub in_area : (f : Rect) (a : Area) (p : Place) → IsAreaOf f a → Covers f p → IsIn a p
in_area f a p area covers = record {
  from_top = omega (arith, area.top, covers.from_top);
  to_bottom = omega (arith, area.top, area.rows, covers.to_bottom);
  from_left = omega (arith, area.left, covers.from_left);
  to_right = omega (arith, area.left, area.columns, covers.to_right);
}

pub east_in_area : (m : Drawing) (a : Area) (p : Place) → IsLaidOut m → IsAreaOf m.frame a → MayBeginEast m p → IsIn a (at p.row (p.col - 1))
east_in_area m a p laid area (inl holds) = in_area m.frame a (at p.row (p.col - 1)) area (record {
  from_top = omega (arith, holds.0.below_top);
  to_bottom = omega (arith, holds.0.above_bottom);
  from_left = omega (arith, holds.0.after_left);
  to_right = omega (arith, holds.0.before_right);
})
east_in_area m a p laid area (inr exit) = let leaves = leaves_exit m p exit in in_area m.frame a (at p.row (p.col - 1)) area (record {
  from_top = omega (arith, leaves.below);
  to_bottom = omega (arith, leaves.above);
  from_left = omega (arith, leaves.border, laid.wide);
  to_right = omega (arith, leaves.border);
})

-- the number of a box that was found is one of the code's
pub found_below : (m : Drawing) (boxes : List BoxFrame) (P : Rect → Type 0) (found : Option ℕ) → m.boxes ≡ map box_rect boxes → FindsBox m P found → IfSome found (λ i. i < length boxes)
found_below m boxes P None is finds = tt
found_below m boxes P (Some n) is (b, there, has) = let lt = slice_get_within m.boxes n b there in omega (arith, ap length is, length-map boxes box_rect)
