-- Grid, frames and modules.
use Rattle.std.proofs.lemmas.Result.{err_from_is_err_and}
use Rattle.grid_reader.specs.Faults.{fault_of}
use Rattle.grid_reader.specs.Frames.{rects_of}
use Rattle.two_d.specs.Cells.{grid_of}
use Rattle.two_d.specs.Faults.{number_and_place}
use Rattle.two_d.specs.Frames.{frames_of}
use Rattle.two_d.specs.Program.{module_in}
use Rattle.two_d.specs.Reading.{goes_on, stops, each}
use Rattle.module_table.specs.Answers.{answer_of}
use Rattle.module_table.specs.Drawn.{drawn_of}
use Rattle.module_table.proofs.WholeReading.{sound_list, few_listed}
use Rattle.module_table.proofs.ModuleAt.{part_refused}
use Rattle.module_table.proofs.Telling.{refuses_whole}
use Rattle.module_table.proofs.drawing.drawn.Goals as goal

pub returns-in_err-grid-clause-read : goal.returns-in_err-grid-clause-read
returns-in_err-grid-clause-read c =
    let p = err_from_is_err_and c.from_residual.result c.from_residual.ensures.1 in
    rw p.1 (part_refused (fault_of c.in_err-grid.field-0.0) (answer_of p.0) (grid_of c.args.bytes.now) (drawn_of c.args.bytes.now) (λ f h. stops f h) p.2 c.in_err-grid.ensures)

pub returns-in_err-frames-clause-read : goal.returns-in_err-frames-clause-read
returns-in_err-frames-clause-read c =
    let p = err_from_is_err_and c.from_residual-in_err-frames.result c.from_residual-in_err-frames.ensures.1 in
    rw p.1 (part_refused (fault_of c.in_err-frames.field-0.0) (answer_of p.0) (frames_of c.in_ok-grid.grid) (drawn_of c.args.bytes.now) (λ f h. goes_on c.in_ok-grid.grid c.in_ok-grid.ensures (stops f h)) p.2 c.in_err-frames.ensures.read)

pub returns-in_err-modules-clause-read : goal.returns-in_err-modules-clause-read
returns-in_err-modules-clause-read c =
    let p = err_from_is_err_and c.from_residual-in_err-modules.result c.from_residual-in_err-modules.ensures.1 in
    let fs = rects_of c.in_ok-frames.frames in
    rw (p.1, p.2) (refuses_whole number_and_place (answer_of c.in_err-modules.field-0.0) (each (module_in c.in_ok-grid.grid) fs) (drawn_of c.args.bytes.now)
    (λ f h. goes_on c.in_ok-grid.grid c.in_ok-grid.ensures (goes_on fs c.in_ok-frames.ensures.read h)) c.in_err-modules.ensures)

pub returns-clause-read : goal.returns-clause-read
returns-clause-read c =
    let (ds, read, are) = c.in_ok-modules.ensures in
    (ds, goes_on c.in_ok-grid.grid c.in_ok-grid.ensures (goes_on (rects_of c.in_ok-frames.frames) c.in_ok-frames.ensures.read read), are)

pub returns-clause-few : goal.returns-clause-few
returns-clause-few c =
    let (ds, read, are) = c.in_ok-modules.ensures in
    few_listed c.args.bytes.now c.in_ok-grid.grid (rects_of c.in_ok-frames.frames) ds c.in_ok-grid.ensures c.in_ok-frames.ensures.read read c.in_ok-modules.modules.modules.items are.shapes

pub returns-clause-sound : goal.returns-clause-sound
returns-clause-sound c =
    let (ds, read, are) = c.in_ok-modules.ensures in
    sound_list c.args.bytes.now c.in_ok-grid.grid (rects_of c.in_ok-frames.frames) ds c.in_ok-grid.ensures c.in_ok-frames.ensures.read read c.in_ok-modules.modules.modules.items are.shapes
