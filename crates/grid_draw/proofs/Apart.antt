-- The wires of a drawing fit, and no two of their legs are near each other.
use Rattle.std.specs.Prelude.{◌≡◌, ℕ, slice_get, Some}
use Rattle.std.proofs.Common.{arith, sym, ap, subst, ◌∙◌}
use Rattle.std.proofs.lemmas.Option.{same_Some}
use Rattle.two_d.specs.Programs.{ModuleForm}
use Rattle.two_d.specs.Sound.{IsSound}
use Rattle.two_d.specs.declared.module.Origin.{Origin}
use Rattle.two_d.specs.declared.module.To.{To}
use Rattle.grid_picture.specs.Courses.{Leg, Course, legs}
use Rattle.grid_picture.proofs.Legs.{Fits, Near}
use Rattle.grid_picture.proofs.Courses.{AreFar}
use Rattle.grid_draw.specs.Layout.{wires_in, track, course_on, courses}
use Rattle.grid_draw.proofs.Pieces.{IsPiece, from_west, from_east, out_south, from_south, falls}
use Rattle.grid_draw.proofs.Pieces.{rises, to_n, to_w, to_exit, into_n, down_w, into_w, pieces}
use Rattle.grid_draw.proofs.Lines.{near_one}
use Rattle.grid_draw.proofs.WiresIn.{contains_at, one_wire, tracks_past, IsCourseOf, course_of}
use Rattle.grid_draw.proofs.WiresIn.{ends_there, wires_one}

-- no piece has more cells than there are in its direction
piece_fits : (m : ModuleForm) (t : ℕ) (o : Origin) (e : To) (k : ℕ) (l : Leg) → IsPiece m t o e k l
    → Fits l.to l.from l.long
piece_fits m t o e k l (from_west is) = tt
piece_fits m t o e k l (from_east b is) = tt
piece_fits m t o e k l (out_south b is) = tt
piece_fits m t o e k l (from_south b is) = tt
piece_fits m t o e k l (falls lt) = tt
piece_fits m t o e k l (rises le) = omega arith
piece_fits m t o e k l (to_n b is) = omega arith
piece_fits m t o e k l (to_w b is) = omega arith
piece_fits m t o e k l (to_exit i is) = tt
piece_fits m t o e k l (into_n b is) = tt
piece_fits m t o e k l (down_w b is) = tt
piece_fits m t o e k l (into_w b is) = tt

module _ (m : ModuleForm) (sound : IsSound m) where
  -- a leg of a wire of the drawing is one of its pieces
  pub piece_of : (c : Course) (x : IsCourseOf m c) (k : ℕ) (l : Leg) → slice_get (legs c) k ≡ Some l
      → IsPiece m (track m x.number) x.w.from x.w.to k l
  piece_of c x k l at_k =
      pieces m (track m x.number) (tracks_past m x.number) x.w x.w.from
      (ends_there m sound x.w (contains_at (wires_in m) x.number x.w x.is)) k l
      (subst (λ d. slice_get (legs d) k ≡ Some l) (sym x.same) at_k)

  -- no two legs of the wires are near each other
  pub courses_far : AreFar (courses m)
  courses_far = record {
    fits = λ c there k l at_k.
        (let x = course_of m c there in
        piece_fits m (track m x.number) x.w.from x.w.to k l (piece_of c x k l at_k));
    near = λ c d k j l n there there_d at_k at_j near. by c d (course_of m c there)
        (course_of m d there_d) k j l n at_k at_j near;
  }
    where
      by : (c d : Course) → IsCourseOf m c → IsCourseOf m d → (k j : ℕ) (l n : Leg)
          → slice_get (legs c) k ≡ Some l → slice_get (legs d) j ≡ Some n → Near l n → (c ≡ d)
          × (k ≡ j)
      by c d x y k j l n at_k at_j near =
          let (starts, ends, index) =
          near_one m (track m x.number) (track m y.number) (tracks_past m x.number)
          (tracks_past m y.number) x.w.from y.w.from x.w.to y.w.to
          (ends_there m sound x.w (contains_at (wires_in m) x.number x.w x.is))
          (ends_there m sound y.w (contains_at (wires_in m) y.number y.w y.is))
          (wires_one m sound x.number y.number x.w y.w x.is y.is) k j l n (piece_of c x k l at_k)
          (piece_of d y j n at_j) near in
          let number = one_wire m x.number y.number x.w y.w x.is y.is ends in
          let w = same_Some x.w y.w (sym x.is ∙ (ap (slice_get (wires_in m)) number ∙ y.is)) in (
            sym x.same ∙ (ap (λ i. course_on m (track m i) x.w x.w.from) number
                ∙ (ap (λ v. course_on m (track m y.number) v v.from) w ∙ y.same)),
            index,
          )
