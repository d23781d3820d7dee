-- Where a wire goes on from a position.
use Rattle.std.proofs.Common.{◌≡◌, inl, inr, [], ◌∷◌, Option, Some, None, sym, subst, ◌∙◌}
use Rattle.std.proofs.Common.{arith, refl}
use Rattle.umix_base.specs.declared.place.Place.{Place}
use Rattle.two_d.specs.Places.{Covers, Within, Rect}
use Rattle.two_d.specs.Wires.{EndsAt, at_n, at_w, at_exit}
use Rattle.std.proofs.lemmas.Option.{slice_get_within, get_or_from_slice_get}
use Rattle.two_d.specs.Frames.{exits_of}
use Rattle.two_d.specs.declared.module.To.{To}
use Rattle.wire_trace.specs.declared.position.Axis as axes
use Rattle.wire_trace.specs.declared.position.Axis.TheVariants.{Horizontal, Vertical}
use Rattle.wire_trace.specs.inner.Positions.{HasNeighbours, axis_in, axis_at}
use Rattle.wire_trace.specs.inner.Sheets.{IsLaidOut}
use Rattle.wire_trace.proofs.Exits.{in_rows}
use Rattle.two_d.specs.Ports.{Drawing}
use Rattle.two_d.specs.Wires.{Position, Direction, next, IsTurn, IsTaker, IsEnd, TurnsTo, GoesOn, turns, stands, keeps}
use Rattle.wire_trace.specs.declared.position.Direction as code
use Rattle.wire_trace.specs.inner.Ways.{AreOthers, TurnsOrStands, LeavesOrStands}

pub turns_first : (m : Drawing) (s t u : Position) (first second : Direction) → AreOthers s first second → t ≡ next s first → u ≡ next s second → IsTaker m t → (IsTaker m u → ⊥) → TurnsTo m s first
turns_first m s t u first second others is_t is_u taker none = record {
  may = (others.first_other, subst (IsTaker m) is_t taker);
  only = λ e may. elim (others.all e may.0) [
    | inl same ↦ same
    | inr same ↦ absurd (none (subst (IsTaker m) (sym is_u) (subst (λ (d : Direction). IsTaker m (next s d)) same may.1)))
  ];
}

pub turns_second : (m : Drawing) (s t u : Position) (first second : Direction) → AreOthers s first second → t ≡ next s first → u ≡ next s second → IsTaker m u → (IsTaker m t → ⊥) → TurnsTo m s second
turns_second m s t u first second others is_t is_u taker none = record {
  may = (others.second_other, subst (IsTaker m) is_u taker);
  only = λ e may. elim (others.all e may.0) [
    | inr same ↦ same
    | inl same ↦ absurd (none (subst (IsTaker m) (sym is_t) (subst (λ (d : Direction). IsTaker m (next s d)) same may.1)))
  ];
}

pub stands_both : (m : Drawing) (s t u : Position) (first second : Direction) → AreOthers s first second → t ≡ next s first → u ≡ next s second → IsTaker m t → IsTaker m u → (d : Direction) → TurnsTo m s d → ⊥
stands_both m s t u first second others is_t is_u taker_t taker_u d to =
    others.apart (to.only first (others.first_other, subst (IsTaker m) is_t taker_t) ∙ sym (to.only second (others.second_other, subst (IsTaker m) is_u taker_u)))

pub stands_none : (m : Drawing) (s t u : Position) (first second : Direction) → AreOthers s first second → t ≡ next s first → u ≡ next s second → (IsTaker m t → ⊥) → (IsTaker m u → ⊥) → (d : Direction) → TurnsTo m s d → ⊥
stands_none m s t u first second others is_t is_u none_t none_u d to = elim (others.all d to.may.0) [
  | inl same ↦ none_t (subst (IsTaker m) (sym is_t) (subst (λ (e : Direction). IsTaker m (next s e)) same to.may.1))
  | inr same ↦ none_u (subst (IsTaker m) (sym is_u) (subst (λ (e : Direction). IsTaker m (next s e)) same to.may.1))
]

pub leaves_turn : (m : Drawing) (s : Position) (found : Option code.Direction) → IsTurn m s → TurnsOrStands m s found → LeavesOrStands m s found
leaves_turn m s None turn none = (turn, stands turn none)
leaves_turn m s (Some d) turn to = turns _ turn to

pub leaves_straight : (m : Drawing) (s : Position) → (IsEnd m s → ⊥) → (IsTurn m s → ⊥) → GoesOn m s (next s s.to ∷ [])
leaves_straight m s no_end no_turn = keeps no_end no_turn

pub axis_back : (a : axes.Axis) → axis_at (axis_in a) ≡ a
axis_back Horizontal = refl
axis_back Vertical = refl

within_covers : (f : Rect) (p : Place) → Within f p → Covers f p
within_covers f p within = record {
  from_top = omega (arith, within.below_top);
  to_bottom = omega (arith, within.above_bottom);
  from_left = omega (arith, within.after_left);
  to_right = omega (arith, within.before_right);
}

end_covers : (m : Drawing) (s : Position) (end : To) → IsLaidOut m → EndsAt m s end → Covers m.frame s.place
end_covers m _ _ laid (at_n p i b there port) = within_covers m.frame p port.0.0
end_covers m _ _ laid (at_w p i b there port) = within_covers m.frame p port.0.0
end_covers m _ _ laid (at_exit row i there) =
    let h = (in_rows m.grid m.frame.right 45 m.frame row).0 (i, slice_get_within (exits_of m.grid m.frame) i row there, get_or_from_slice_get (exits_of m.grid m.frame) i row row there) in record {
      from_top = omega (arith, h.0);
      to_bottom = omega (arith, h.1);
      from_left = omega (arith, laid.wide);
      to_right = omega arith;
    }

-- what takes a wire is a cell of the frame
pub taker_covers : (m : Drawing) (s : Position) → IsLaidOut m → IsTaker m s → Covers m.frame s.place
taker_covers m s laid (inl (inl line)) = within_covers m.frame s.place line.0
taker_covers m s laid (inl (inr cross)) = within_covers m.frame s.place cross.0
taker_covers m s laid (inr (inl turn)) = within_covers m.frame s.place turn.0
taker_covers m s laid (inr (inr end)) = end_covers m s end.0 laid end.1

pub has_neighbours : (m : Drawing) (p : Place) → IsLaidOut m → Covers m.frame p → HasNeighbours p
has_neighbours m p laid covers = record {
  row = omega (arith, laid.top, covers.from_top);
  col = omega (arith, laid.left, covers.from_left);
  last_row = omega (arith, laid.few, covers.to_bottom);
  last_col = omega (arith, laid.narrow, covers.to_right);
}
