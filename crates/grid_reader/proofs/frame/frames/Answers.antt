use Rattle.std.proofs.Common.{◌≡◌, ◌<◌, Ok, ◌++◌, ◌∷◌, [], map, take, length, get_or, sym, ap, subst, ◌∙◌, arith}
use Rattle.std.specs.List.{All}
use Rattle.std.proofs.lemmas.List.{get_or-map, length-map, map-append, take_more, take_all}
use Rattle.std.proofs.lemmas.List.Elements.{All-push}
use Rattle.two_d.specs.Frames.{IsFrame, one_entry_a_side}
use Rattle.two_d.proofs.Passed.{frames_entered}
use Rattle.two_d.specs.Places.{corner_of}
use Rattle.grid_reader.specs.declared.rect.Rect.{Rect}
use Rattle.grid_reader.specs.Frames.{rect_of, IsFrameOf}
use Rattle.grid_reader.specs.inner.Rects.{rect_shown, plains}
use Rattle.grid_reader.proofs.frame.frames.Goals as goal

-- what stands where there is none
nowhere : Rect
nowhere = record { top = 0; left = 0; bottom = 0; right = 0 }

pub frame_of-requires : goal.frame_of-requires
unfolding nowhere
frame_of-requires c =
    let items = c.deref-rect-items.result.now in
    let i = c.loop-rect.rect-index in
    let within : i < length items = omega arith in
    let all = subst (λ xs. All (λ f. IsFrame c.args.grid.now (corner_of f) f) (plains xs)) (sym c.deref-rect-items.ensures.value) c.in_ok-rects.ensures.shown in
    subst (λ f. IsFrame c.args.grid.now (corner_of f) f) (get_or-map rect_shown items i nowhere (rect_shown nowhere) within) (all i (rect_shown nowhere) (omega (arith, length-map items rect_shown)))

pub loop-rect-preserved : goal.loop-rect-preserved
unfolding nowhere
loop-rect-preserved c =
    let items = c.deref-rect-items.result.now in
    let i = c.loop-rect.rect-index in
    let within : i < length items = omega arith in
    let one = c.in_ok-frame_of.field-0 in
    record {
      same = ap (map rect_of) c.in_ok-push.ensures.items ∙ map-append rect_of c.loop-rect.frames.items (one ∷ [])
          ∙ ap (λ xs. xs ++ rect_of one ∷ []) c.loop-rect.invariant.same ∙ ap (λ r. plains (take i items) ++ r ∷ []) c.in_ok-frame_of.ensures.rect
          ∙ sym (map-append rect_shown (take i items) (get_or items i nowhere ∷ [])) ∙ ap plains (sym (take_more items i nowhere within));
      shown = subst (All (IsFrameOf c.args.grid.now)) (sym c.in_ok-push.ensures.items) (All-push (IsFrameOf c.args.grid.now) c.loop-rect.frames.items one c.loop-rect.invariant.shown c.in_ok-frame_of.ensures.shown);
    }

pub returns-clause-entries : goal.returns-clause-entries
returns-clause-entries c k d lt =
    let items = c.deref-rect-items.result.now in
    let rects = c.in_ok-rects.rects.items in
    let frames = c.loop-rect.frames.items in
    let grid = c.args.grid.now in
    let all = frames_entered grid (plains rects) c.in_ok-rects.ensures.read in
    let same : map rect_of frames ≡ plains rects = c.loop-rect.invariant.same ∙ ap plains (take_all c.loop-rect.rect-index items (omega arith)) ∙ ap plains c.deref-rect-items.ensures.value in
    let mine = subst (All (λ f. one_entry_a_side grid f (Ok tt))) (sym same) all in
    subst (λ f. one_entry_a_side grid f (Ok tt)) (get_or-map rect_of frames k d (rect_of d) lt) (mine k (rect_of d) (omega (arith, length-map frames rect_of)))
