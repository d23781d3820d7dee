-- The outcome is that of the cells and of what is pulled.
use Rattle.std.specs.Prelude.{◌≡◌, length}
use Rattle.std.proofs.Common.{sym, ◌∙◌, ap, subst}
use Rattle.two_d.specs.Programs.{module_at, module_of, box_count}
use Rattle.two_d.specs.Trails.{trails_of}
use Rattle.fire_core.specs.inner.Rows.{RowForm, RowFits}
use Rattle.fire_core.proofs.FireLemmas.{module-is}
use Rattle.fire_core.proofs.PlainLemmas.{ended-outcome, known-ended}
use Rattle.fire_core.proofs.plain.rounds.ended.Goals as goal

pub returns-clause-means : goal.returns-clause-means
returns-clause-means c = λ values answer a row round.
    let here : c.row_with-after.result.kind ≡ c.args.row.kind = ap (λ (r : RowForm). r.kind) c.row_with-after.ensures in
    let cells : c.row_with-after.result.cells.items ≡ c.args.round.cells.items = ap (λ (r : RowForm). r.cells) c.row_with-after.ensures in
    let is : module_at c.args.program.now c.args.row.kind ≡ module_of c.index.result.now =
    module-is c.args.program.now c.modules.result.now.items c.modules.ensures.modules c.args.row.kind c.index.result.now c.requires.kind c.index.ensures in
    known-ended c.args.program.now answer c.args.row.kind values (trails_of c.args.trails.now) a _ _ _ c.args.round c.saturating_add.result round c.saturating_add.ensures
    (c.in_ok-outcome.ensures.outcome c.args.program.now values (ap (module_at c.args.program.now) here ∙ is)
    (ap length cells ∙ (round.sized ∙ ap (box_count c.args.program.now) (sym here)))
    ∙ ended-outcome c.args.program.now answer c.args.row.kind values (trails_of c.args.trails.now) c.modules.ensures.good a _ _ c.args.round c.row_with-after.ensures row.inputs round)

pub returns-clause-fits : goal.returns-clause-fits
returns-clause-fits c = λ n fits cells.
    c.in_ok-outcome.ensures.fits n
    (subst (RowFits n (length c.args.trails.now)) (sym c.row_with-after.ensures)
    (record { north = fits.north; west = fits.west; cells = cells; outcome = tt }))
