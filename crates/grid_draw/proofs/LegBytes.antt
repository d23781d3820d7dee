-- The bytes over which a leg of a drawing goes between its ends.
use Rattle.std.specs.Prelude.{◌≡◌, ◌<◌, ◌⊎◌, ℕ, slice_get, Some}
use Rattle.std.specs.List.{Contains}
use Rattle.std.proofs.Common.{arith, inl, inr, ◌∙◌}
use Rattle.std.proofs.lemmas.Option.{slice_get_within}
use Rattle.two_d.specs.Programs.{ModuleForm}
use Rattle.two_d.specs.Sound.{IsSound}
use Rattle.two_d.specs.Wires.{axis_of, line}
use Rattle.grid_picture.specs.Courses.{along, Leg, Course, legs}
use Rattle.grid_picture.proofs.Inked.{leg_byte}
use Rattle.grid_draw.specs.Layout.{wires_in, track, courses, byte_at}
use Rattle.grid_draw.proofs.Apart.{courses_far, piece_of}
use Rattle.grid_draw.proofs.LegCells.{leg_wired}
use Rattle.grid_draw.proofs.Placed.{courses_turn}
use Rattle.grid_draw.proofs.WiresIn.{contains_at, course_of, ends_there}

-- between its ends a leg has the byte of its axis, or `#`
pub leg_drawn : (m : ModuleForm) → IsSound m → (c : Course) → Contains (courses m) c
    → (k : ℕ) (l : Leg) → slice_get (legs c) k ≡ Some l → (j : ℕ) → 0 < j → j < l.long
    → (byte_at m (along l.to j l.from).row (along l.to j l.from).col ≡ line (axis_of l.to))
    ⊎ (byte_at m (along l.to j l.from).row (along l.to j l.from).col ≡ 35)
leg_drawn m sound c there k l at_k j pos lt =
    let x = course_of m c there in
    let index = slice_get_within (wires_in m) x.number x.w x.is in
    let wired =
    leg_wired m (track m x.number) (omega arith) (omega arith) x.w.from x.w.to
    (ends_there m sound x.w (contains_at (wires_in m) x.number x.w x.is)) k l
    (piece_of m sound c x k l at_k) j pos lt in
    elim (leg_byte (courses m) (courses_far m sound) (courses_turn m sound) c there k l at_k j pos
    lt) [
      | inl straight ↦ inl (wired ∙ straight)
      | inr crossing ↦ inr (wired ∙ crossing)
    ]
