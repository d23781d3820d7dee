use Rattle.std.specs.Prelude.{◌==◌}
use Rattle.std.specs.List.{slice_split}
use Rattle.text_picture.proofs.Window.{few_read}
use Rattle.text_picture.proofs.around.rows_around.Goals as goal

pub returns-clause-few : goal.returns-clause-few
returns-clause-few c =
    few_read c.in_ok-rows.rows.items (slice_split (λ b. b == 10) c.less_end.result.now) c.args.row c.first_row-first.result c.first_row-first.ensures.row
    c.in_ok-rows.ensures
