-- Box by box a command is read.
use Rattle.std.specs.Prelude.{◌<◌, ◌++◌, ◌∷◌, [], map, length}
use Rattle.std.proofs.Common.{arith, sym, ap, subst}
use Rattle.std.proofs.lemmas.List.{length-map}
use Rattle.std.proofs.lemmas.Result.{err_from_is_err_and}
use Rattle.grid_reader.specs.Boxes.{box_rect, box_rects, HasTextOf}
use Rattle.two_d.specs.Faults.{number_and_place}
use Rattle.two_d.specs.Program.{CommandOf}
use Rattle.two_d.specs.Programs.{box_of}
use Rattle.two_d.specs.Reading.{gave, each}
use Rattle.module_table.specs.Answers.{answer_of}
use Rattle.module_table.specs.inner.Drawings.{bare}
use Rattle.module_table.proofs.Building.{bare_more}
use Rattle.module_table.proofs.Telling.{refuses_whole, each_more, each_stops, each_all, mapped_there}
use Rattle.module_table.proofs.commands.rows_of.Goals as goal

pub boxes-init : goal.boxes-init
boxes-init c = λ grid texts. ([], gave, ap (map box_of) c.new-rows.ensures.items)

pub returns-in_err-command : goal.returns-in_err-command
returns-in_err-command c = λ grid texts.
    let p = err_from_is_err_and c.from_residual.result c.from_residual.ensures.1 in
    let items = c.args.boxes.now.items in
    let n = c.boxes.number in
    let b = c.index.result.now in
    let (commands, done, bares) = c.boxes.invariant grid texts in
    let lt : n < length items = omega arith in
    let text : HasTextOf grid b = subst (HasTextOf grid) (sym c.index.ensures) (texts n b lt) in
    rw (p.1, p.2) (refuses_whole number_and_place (answer_of c.in_err-command.field-0.0) (CommandOf grid (box_rect b)) (each (CommandOf grid) (box_rects c.args.boxes.now))
    (λ f h. each_stops (CommandOf grid) (box_rects c.args.boxes.now) n (box_rect b) commands f (mapped_there box_rect items n b lt c.index.ensures) done h)
    (c.in_err-command.ensures grid text))

pub boxes-preserved : goal.boxes-preserved
boxes-preserved c = λ grid texts.
    let items = c.args.boxes.now.items in
    let n = c.boxes.number in
    let b = c.index.result.now in
    let (commands, done, bares) = c.boxes.invariant grid texts in
    let lt : n < length items = omega arith in
    let text : HasTextOf grid b = subst (HasTextOf grid) (sym c.index.ensures) (texts n b lt) in
    let (form, read, same) = c.in_ok-command.ensures grid text in (
      commands ++ form ∷ [],
      each_more (CommandOf grid) (box_rects c.args.boxes.now) n (box_rect b) commands form (mapped_there box_rect items n b lt c.index.ensures) done read,
      rw c.in_ok-push.ensures.items (bare_more c.boxes.rows.items _ commands form bares (ap bare same)),
    )

pub returns : goal.returns
returns c = λ grid texts.
    let (commands, done, bares) = c.boxes.invariant grid texts in
    (commands, each_all (CommandOf grid) (box_rects c.args.boxes.now) c.boxes.number commands (let long = length-map c.args.boxes.now.items box_rect in omega arith) done, bares)
