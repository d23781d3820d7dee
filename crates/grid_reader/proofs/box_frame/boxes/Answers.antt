use Rattle.std.proofs.Common.{◌≡◌, ◌<◌, ◌++◌, ◌∷◌, [], List, map, take, length, get_or, sym, ap, subst, ◌∙◌, arith}
use Rattle.std.specs.List.{All}
use Rattle.std.proofs.lemmas.List.{get_or-map, length-map, map-append, take_more}
use Rattle.std.proofs.lemmas.List.Elements.{All-push}
use Rattle.two_d.specs.Boxes.{IsBox}
use Rattle.two_d.specs.Cells.{Grid}
use Rattle.two_d.specs.Places as places
use Rattle.two_d.specs.Places.{corner_of}
use Rattle.grid_reader.specs.declared.rect.Rect.{Rect}
use Rattle.grid_reader.specs.Boxes.{box_rect, IsBoxOf}
use Rattle.grid_reader.specs.Frames.{rect_of}
use Rattle.grid_reader.specs.inner.Rects.{rect_shown, plains}
use Rattle.grid_reader.proofs.box_frame.boxes.Goals as goal

-- what stands where there is none
nowhere : Rect
nowhere = record { top = 0; left = 0; bottom = 0; right = 0 }

-- each rectangle of the list is a box
box_at : (grid : Grid) (f : places.Rect) (items found : List Rect) (i : _) → items ≡ found → All (λ b. IsBox grid f (corner_of b) b) (plains found) → i < length items → IsBox grid f (corner_of (rect_shown (get_or items i nowhere))) (rect_shown (get_or items i nowhere))
box_at grid f items found i same all within =
    subst (λ b. IsBox grid f (corner_of b) b) (get_or-map rect_shown items i nowhere (rect_shown nowhere) within) (subst (λ xs. All (λ b. IsBox grid f (corner_of b) b) (plains xs)) (sym same) all i (rect_shown nowhere) (omega (arith, length-map items rect_shown)))

pub box_of-requires-clause-wide : goal.box_of-requires-clause-wide
unfolding nowhere
box_of-requires-clause-wide c =
    (box_at c.args.grid.now (rect_of c.args.frame.now) c.deref-rect-items.result.now c.in_ok-rects.rects.items c.loop-rect.rect-index c.deref-rect-items.ensures.value c.in_ok-rects.ensures.shown (omega arith)).wide

pub box_of-requires-clause-high : goal.box_of-requires-clause-high
unfolding nowhere
box_of-requires-clause-high c =
    (box_at c.args.grid.now (rect_of c.args.frame.now) c.deref-rect-items.result.now c.in_ok-rects.rects.items c.loop-rect.rect-index c.deref-rect-items.ensures.value c.in_ok-rects.ensures.shown (omega arith)).high

pub loop-rect-preserved : goal.loop-rect-preserved
unfolding nowhere
loop-rect-preserved c =
    let items = c.deref-rect-items.result.now in
    let i = c.loop-rect.rect-index in
    let within : i < length items = omega arith in
    let one = c.in_ok-box_of.field-0 in
    record {
      same = ap (map box_rect) c.in_ok-push.ensures.items ∙ map-append box_rect c.loop-rect.boxes.items (one ∷ [])
          ∙ ap (λ xs. xs ++ box_rect one ∷ []) c.loop-rect.invariant.same ∙ ap (λ r. plains (take i items) ++ r ∷ []) c.in_ok-box_of.ensures.rect
          ∙ sym (map-append rect_shown (take i items) (get_or items i nowhere ∷ [])) ∙ ap plains (sym (take_more items i nowhere within));
      shown = subst (All (IsBoxOf c.args.grid.now (rect_of c.args.frame.now))) (sym c.in_ok-push.ensures.items) (All-push (IsBoxOf c.args.grid.now (rect_of c.args.frame.now)) c.loop-rect.boxes.items one c.loop-rect.invariant.shown (record {
        borders = subst (λ r. IsBox c.args.grid.now (rect_of c.args.frame.now) (corner_of r) r) (sym c.in_ok-box_of.ensures.rect) (box_at c.args.grid.now (rect_of c.args.frame.now) items c.in_ok-rects.rects.items i c.deref-rect-items.ensures.value c.in_ok-rects.ensures.shown within);
        text = c.in_ok-box_of.ensures.text;
      }));
    }
