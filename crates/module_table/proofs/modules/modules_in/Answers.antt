-- Frame by frame a module is read.
use Rattle.std.specs.Prelude.{◌<◌, ◌++◌, ◌∷◌, [], map, length, Ok}
use Rattle.std.proofs.Common.{arith, refl, sym, ap, subst}
use Rattle.std.proofs.lemmas.Result.{err_from_is_err_and}
use Rattle.grid_reader.specs.Frames.{rect_of, rects_of}
use Rattle.two_d.specs.Faults.{number_and_place}
use Rattle.two_d.specs.Frames.{one_entry_a_side}
use Rattle.two_d.specs.Program.{module_in}
use Rattle.two_d.specs.Programs.{module_of}
use Rattle.two_d.specs.Reading.{gave, each}
use Rattle.module_table.specs.Answers.{answer_of}
use Rattle.module_table.specs.Drawn.{AreCorners}
use Rattle.module_table.proofs.ModulesRead.{shapes_more, corners_more}
use Rattle.module_table.proofs.Telling.{refuses_whole, each_more, each_stops, mapped_there}
use Rattle.module_table.proofs.modules.modules_in.Goals as goal

pub frames-init : goal.frames-init
frames-init c = (
  [],
  gave,
  record {
    shapes = ap (map module_of) c.new-modules.ensures.items;
    corners = subst (λ l. AreCorners l []) (sym c.new-corners.ensures.items) (record { frames = refl; boxes = refl });
  },
)

pub module_at-requires-clause-entries : goal.module_at-requires-clause-entries
module_at-requires-clause-entries c =
    let items = c.args.frames.now.items in
    let f = c.index.result.now in
    let lt : c.frames.number < length items = omega arith in
    subst (λ g. one_entry_a_side c.args.grid.now (rect_of g) (Ok tt)) (sym c.index.ensures) (c.requires.entries c.frames.number f lt)

pub returns-in_err-module : goal.returns-in_err-module
returns-in_err-module c =
    let p = err_from_is_err_and c.from_residual.result c.from_residual.ensures.1 in
    let grid = c.args.grid.now in
    let rects = rects_of c.args.frames.now in
    let n = c.frames.number in
    let f = c.index.result.now in
    let lt : n < length c.args.frames.now.items = omega arith in
    let (ds, done, are) = c.frames.invariant in
    rw (p.1, p.2) (refuses_whole number_and_place (answer_of c.in_err-module.field-0.0) (module_in grid (rect_of f)) (each (module_in grid) rects)
    (λ fault h. each_stops (module_in grid) rects n (rect_of f) ds fault (mapped_there rect_of c.args.frames.now.items n f lt c.index.ensures) done h)
    c.in_err-module.ensures)

pub frames-preserved : goal.frames-preserved
frames-preserved c =
    let grid = c.args.grid.now in
    let rects = rects_of c.args.frames.now in
    let n = c.frames.number in
    let f = c.index.result.now in
    let lt : n < length c.args.frames.now.items = omega arith in
    let (ds, done, are) = c.frames.invariant in
    let (d, read, is) = c.in_ok-module.ensures in (
      ds ++ d ∷ [],
      each_more (module_in grid) rects n (rect_of f) ds d (mapped_there rect_of c.args.frames.now.items n f lt c.index.ensures) done read,
      record {
        shapes = rw c.in_ok-push.ensures.items (shapes_more c.frames.modules.items _ _ ds d are.shapes is);
        corners = rw c.in_ok-push-2.ensures.items (corners_more c.frames.corners.items _ _ ds d are.corners is);
      },
    )
