-- A cell that the tables leave over is a stray cell.
use Rattle.std.proofs.Common.{◌≡◌, ℕ, ◌⊎◌, ◌↔◌, inl, inr, List, Option, Some, None, Ok, Err, refl, ap, sym, ◌∙◌, arith}
use Rattle.std.proofs.lemmas.Option.{slice_get_within, slice_get-get_or, get_or_from_slice_get}
use Rattle.std.specs.List.{Any}
use Rattle.umix_base.specs.declared.place.Place.{Place}
use Rattle.two_d.specs.Faults.{stray}
use Rattle.two_d.specs.Places.{Covers, Within, IsFirstPlace}
use Rattle.two_d.specs.Ports.{Drawing}
use Rattle.two_d.specs.Reading.{refuse_at, none, refused_at}
use Rattle.two_d.specs.Wires.{Axis, horizontal, vertical, east, south, axis_of, Position, Trace, Collide}
use Rattle.two_d.specs.Clean.{IsStray}
use Rattle.wire_trace.specs.declared.marks.Marks.{Marks}
use Rattle.wire_trace.specs.declared.owners.Owners.{Owners}
use Rattle.wire_trace.specs.inner.Areas.{owner_of}
use Rattle.wire_trace.specs.inner.Sheets.{AreOwnersOf, FindsBox}
use Rattle.wire_trace.specs.inner.Strays.{IsLeft}
use Rattle.wire_trace.specs.inner.Traces.{AreOccupied}
use Rattle.wire_trace.proofs.PortLemmas.{finds_owner, in_area}

covered : (m : Drawing) (p : Place) → Within m.frame p → Covers m.frame p
covered m p inside = record {
  from_top = (let h = inside.below_top in omega arith);
  to_bottom = (let h = inside.above_bottom in omega arith);
  from_left = (let h = inside.after_left in omega arith);
  to_right = (let h = inside.before_right in omega arith);
}

some_axis : (a : Axis) → (horizontal ≡ a) ⊎ (vertical ≡ a)
some_axis horizontal = inl refl
some_axis vertical = inr refl

-- a wire that passes a cell passes it on one of the axes
passes : (m : Drawing) (p : Place) (s : Position) → s.place ≡ p → Collide m (record { place = p; to = east }) s ⊎ Collide m (record { place = p; to = south }) s
passes m p s at = elim (some_axis (axis_of s.to)) [ inl along ↦ inl (sym at, inl along) | inr down ↦ inr (sym at, inl down) ]

-- a wire that occupies a cell passes it
occupies : (m : Drawing) (traces : List Trace) (t : Position) → Any (Any (Collide m t)) traces → Any (Any (λ (s : Position). s.place ≡ t.place)) traces
occupies m traces t (k, trace, less, is, (j, s, below, here, hit)) = (k, trace, less, is, (j, s, below, here, sym hit.0))

unowned : (m : Drawing) (p : Place) (found : Option ℕ) → FindsBox m (λ b. Covers b p) found → found ≡ None → Any (λ b. Covers b p) m.boxes → ⊥
unowned m p None finds is (k, b, less, here, covers) = finds k b (slice_get-get_or m.boxes k b less ∙ ap (λ z. Some z) here) covers
unowned m p (Some i) finds is any = absurd (cc)

owned : (m : Drawing) (p : Place) (found : Option ℕ) → FindsBox m (λ b. Covers b p) found → (Any (λ b. Covers b p) m.boxes → ⊥) → found ≡ None
owned m p None finds free = refl
owned m p (Some i) (b, at, covers) free = absurd (free (i, b, slice_get_within m.boxes i b at, get_or_from_slice_get m.boxes i b b at, covers))

pub stray_left : (m : Drawing) (owners : Owners) (marks : Marks) (traces : List Trace) → AreOwnersOf m owners → AreOccupied m marks traces → (p : Place) → IsLeft m owners marks p ↔ IsStray m traces p
stray_left m owners marks traces are tells p = (there, back)
  where
    finds : Within m.frame p → FindsBox m (λ b. Covers b p) (owner_of owners p)
    finds inside = finds_owner m owners p (owner_of owners p) are (in_area m.frame owners.area p are.area (covered m p inside)) refl

    there : IsLeft m owners marks p → IsStray m traces p
    there left = record {
      interior = left.interior;
      no_space = left.no_space;
      no_name = left.no_name;
      no_box = unowned m p (owner_of owners p) (finds left.interior) left.no_box;
      no_wire = λ (k, trace, less, is, (j, s, below, here, at)). elim (passes m p s at) [
        | inl along ↦ left.not_along ((tells (record { place = p; to = east }) (covered m p left.interior)).1 (k, trace, less, is, (j, s, below, here, along)))
        | inr down ↦ left.not_down ((tells (record { place = p; to = south }) (covered m p left.interior)).1 (k, trace, less, is, (j, s, below, here, down)))
      ];
    }

    back : IsStray m traces p → IsLeft m owners marks p
    back alone = record {
      interior = alone.interior;
      no_space = alone.no_space;
      no_name = alone.no_name;
      no_box = owned m p (owner_of owners p) (finds alone.interior) alone.no_box;
      not_along = λ marked. alone.no_wire (occupies m traces (record { place = p; to = east }) ((tells (record { place = p; to = east }) (covered m p alone.interior)).0 marked));
      not_down = λ marked. alone.no_wire (occupies m traces (record { place = p; to = south }) ((tells (record { place = p; to = south }) (covered m p alone.interior)).0 marked));
    }

pub stray_refused : (m : Drawing) (owners : Owners) (marks : Marks) (traces : List Trace) (p : Place) → AreOwnersOf m owners → AreOccupied m marks traces → IsFirstPlace (IsLeft m owners marks) p → refuse_at stray (IsFirstPlace (IsStray m traces)) (Err (stray p))
stray_refused m owners marks traces p are tells first =
    refused_at p (record { holds = (stray_left m owners marks traces are tells p).0 first.holds; none_before = λ q before alone. first.none_before q before ((stray_left m owners marks traces are tells q).1 alone) })

pub no_stray : (m : Drawing) (owners : Owners) (marks : Marks) (traces : List Trace) → AreOwnersOf m owners → AreOccupied m marks traces → ((p : Place) → IsLeft m owners marks p → ⊥) → refuse_at stray (IsFirstPlace (IsStray m traces)) (Ok tt)
no_stray m owners marks traces are tells free = none (λ p first. free p ((stray_left m owners marks traces are tells p).1 first.holds))
