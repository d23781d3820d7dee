use Rattle.std.proofs.Common.{Err, sym, ap, subst, ◌∙◌}
use Rattle.std.specs.List.{slice_get}
use Rattle.std.specs.List.Sorted.{IsStrictlyIncreasing}
use Rattle.std.proofs.lemmas.List.Sorted.{searched}
use Rattle.grid_reader.specs.Frames.{rect_of}
use Rattle.wire_trace.proofs.EndLemmas.{not_found, exits_rise, rise}
use Rattle.wire_trace.proofs.ends.exit_number.Goals as goal

pub returns-in-Err : goal.returns-in-Err
returns-in-Err c i border there =
    let xs = c.deref.result.now in
    let e = c.deref.ensures.value ∙ c.requires.exits in
    let up = subst IsStrictlyIncreasing (sym e) (exits_rise c.args.sheet.now.grid.now (rect_of c.args.sheet.now.frame.now)) in
    let h = searched xs c.args.place.row (Err c.in-Err.field-0) c.in-Err.ensures.position (rise xs up) in
    not_found xs c.args.place.row c.in-Err.field-0 h.1 h.2 i (ap (λ ys. slice_get ys i) e ∙ there)
