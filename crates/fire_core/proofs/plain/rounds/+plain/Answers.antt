-- Each value is pulled through one box more by each round.
use Rattle.std.specs.Prelude.{◌≡◌, ◌-◌, [], length, Some}
use Rattle.std.specs.Option.{option_map}
use Rattle.std.proofs.Common.{refl, sym, ◌∙◌, ap, subst, arith}
use Rattle.std.proofs.lemmas.List.{length-map}
use Rattle.codex_values.specs.Store.{values_of}
use Rattle.codex_values.proofs.StoreLemmas as store
use Rattle.two_d.specs.Meaning as mean
use Rattle.two_d.specs.Programs.{ModuleForm, box_count, box_of}
use Rattle.two_d.specs.Trails.{trails_of}
use Rattle.two_d.proofs.TrailLemmas as trail
use Rattle.fire_core.specs.inner.Acts.{effect_in}
use Rattle.fire_core.specs.inner.Plain.{EffectFitsIn, IsFired, IsRound, effects_in, row_for}
use Rattle.fire_core.specs.inner.Rows.{RowFits, row_of}
use Rattle.fire_core.proofs.FireLemmas.{module-is}
use Rattle.fire_core.proofs.PlainLemmas.{round-none, round-added, cells-added, row-none, row-round, row-same, row-kept, row-of_kind, effects-kept, as-pulled, means-none, means-some, means-zero, not-true, not-false, inputs-kept, row-fits}
use Rattle.fire_core.proofs.TableLemmas.{row-more}
use Rattle.fire_core.proofs.plain.rounds.+plain.Goals as goal

pub fired-returns-in-None-clause-fired : goal.fired-returns-in-None-clause-fired
fired-returns-in-None-clause-fired t c =
    subst (λ e. IsFired (values_of c.effect_at.new.values) (trails_of c.effect_at.new.trails) (mean.mean c.args.program.now c.args.depth) c.args.row.now.kind c.args.bx e c.waiting.result)
    (ap (option_map (effect_in (values_of c.effect_at.new.values) (trails_of c.effect_at.new.trails))) (sym c.in-None.is) ∙ c.in_ok-effect_at.ensures.effect)
    (c.waiting.ensures.fired _ _ _ _ _)

pub fired-returns-in-None-clause-fits : goal.fired-returns-in-None-clause-fits
fired-returns-in-None-clause-fits t c = c.waiting.ensures.fits _ _

pub fired-returns-in-Some-Done-clause-fired : goal.fired-returns-in-Some-Done-clause-fired
fired-returns-in-Some-Done-clause-fired t c =
    subst (λ e. IsFired (values_of c.effect_at.new.values) (trails_of c.effect_at.new.trails) (mean.mean c.args.program.now c.args.depth) c.args.row.now.kind c.args.bx e c.done.result)
    (ap (option_map (effect_in (values_of c.effect_at.new.values) (trails_of c.effect_at.new.trails))) (sym (c.in-Some-Done.is ∙ ap Some c.in-Some-Done.field-0-is)) ∙ c.in_ok-effect_at.ensures.effect)
    (c.done.ensures.fired _ _ _ _ _)

pub fired-returns-in-Some-Done-clause-fits : goal.fired-returns-in-Some-Done-clause-fits
fired-returns-in-Some-Done-clause-fits t c =
    c.done.ensures.fits _ _ (subst (EffectFitsIn _ _ _) (c.in-Some-Done.is ∙ ap Some c.in-Some-Done.field-0-is) c.in_ok-effect_at.ensures.fits).0

pub mean_at-returns-then-depth-eq0-clause-means : goal.mean_at-returns-then-depth-eq0-clause-means
mean_at-returns-then-depth-eq0-clause-means t c = means-zero c.args.program.now c.args.depth c.args.kind _ (omega (arith, c.if-depth-eq0.true))

pub mean_at-returns-then-not-round-clause-means : goal.mean_at-returns-then-not-round-clause-means
mean_at-returns-then-not-round-clause-means t c =
    means-none c.args.program.now (c.args.depth - 1) c.args.kind _ _ _ _ _ (row_of c.in_ok-row.row) c.in_ok-round.round c.in_ok-row.ensures.row c.in_ok-round.ensures.round
    c.args.depth (omega (arith, c.if-depth-eq0.false)) (not-true _ c.if-not-round.true)

pub mean_at-returns-in_err-known-clause-keeps_trails : goal.mean_at-returns-in_err-known-clause-keeps_trails
mean_at-returns-in_err-known-clause-keeps_trails t c =
    trail.keeps-keeps _ _ _ c.pulled.ensures.keeps_trails (trail.keeps-keeps _ _ _ c.next_round.ensures.keeps_trails c.ended.ensures.keeps)

pub mean_at-returns-clause-means : goal.mean_at-returns-clause-means
mean_at-returns-clause-means t c =
    let row = row-kept _ _ _ _ c.in_ok-round.ensures.keeps c.in_ok-round.ensures.keeps_trails c.args.kind _ _ (row_of c.in_ok-row.row) c.in_ok-row.ensures.fits c.in_ok-row.ensures.row in
    means-some c.args.program.now (c.args.depth - 1) c.args.kind _ _ _ _ _ (row_of c.in_ok-row.row) c.in_ok-round.round c.in_ok-row.ensures.row c.in_ok-round.ensures.round
    c.args.depth (omega (arith, c.if-depth-eq0.false)) (not-false _ c.if-not-round.false) _
    (c.in_ok-known.ensures.means _ (mean.mean c.args.program.now (c.args.depth - 1)) _ (row-of_kind _ _ _ _ _ _ _ row)
    (as-pulled c.args.program.now (c.args.depth - 1) c.args.kind _ _ _ _ _ (row_of c.in_ok-row.row) c.in_ok-round.round c.in_ok-row.ensures.row c.in_ok-round.ensures.round))

pub mean_at-returns-clause-fits : goal.mean_at-returns-clause-fits
mean_at-returns-clause-fits t c =
    c.in_ok-known.ensures.fits _
    (row-more _ _ _ _ _ c.in_ok-round.ensures.keeps.longer c.in_ok-round.ensures.keeps_trails.longer c.in_ok-row.ensures.fits) c.in_ok-round.ensures.fits

pub mean_at-returns-clause-keeps_trails : goal.mean_at-returns-clause-keeps_trails
mean_at-returns-clause-keeps_trails t c =
    trail.keeps-keeps _ _ _ c.pulled.ensures.keeps_trails (trail.keeps-keeps _ _ _ c.next_round.ensures.keeps_trails c.ended.ensures.keeps)

pub next_round-loop-bx-init : goal.next_round-loop-bx-init
next_round-loop-bx-init t c = record {
  round = round-none c.args.program.now _ _ _ _ _ _ c.new.ensures.items refl refl refl;
  fits = λ b. rw c.new.ensures.items tt;
  keeps = store.keeps_itself _;
  keeps_trails = trail.keeps_itself _;
}

pub next_round-fired-requires : goal.next_round-fired-requires
next_round-fired-requires t c =
    let size : c.len-bx-end.result ≡ box_count c.args.program.now c.args.row.now.kind =
    omega (arith, c.len-bx-end.ensures, ap (λ (m : ModuleForm). length m.boxes) (module-is c.args.program.now c.modules.result.now.items c.modules.ensures.modules c.args.row.now.kind c.index.result.now c.requires.kind c.index.ensures), length-map c.index.result.now.boxes.items box_of) in (
      omega (arith, c.decreases),
      (
        c.requires.kind,
        (
          omega (arith, size, c.loop-bx-test.true),
          row-more _ _ _ _ _ c.loop-bx.invariant.keeps.longer c.loop-bx.invariant.keeps_trails.longer c.requires.fits,
        ),
      ),
    )

pub next_round-returns-in_err-fired-clause-keeps : goal.next_round-returns-in_err-fired-clause-keeps
next_round-returns-in_err-fired-clause-keeps t c = store.keeps-keeps _ _ _ c.loop-bx.invariant.keeps c.fired.ensures.keeps

pub next_round-returns-in_err-fired-clause-keeps_trails : goal.next_round-returns-in_err-fired-clause-keeps_trails
next_round-returns-in_err-fired-clause-keeps_trails t c = trail.keeps-keeps _ _ _ c.loop-bx.invariant.keeps_trails c.fired.ensures.keeps_trails

pub next_round-returns-in_err-add-clause-keeps : goal.next_round-returns-in_err-add-clause-keeps
next_round-returns-in_err-add-clause-keeps t c = store.keeps-keeps _ _ _ c.loop-bx.invariant.keeps c.fired.ensures.keeps

pub next_round-returns-in_err-add-clause-keeps_trails : goal.next_round-returns-in_err-add-clause-keeps_trails
next_round-returns-in_err-add-clause-keeps_trails t c = trail.keeps-keeps _ _ _ c.loop-bx.invariant.keeps_trails c.fired.ensures.keeps_trails

pub next_round-loop-bx-preserved : goal.next_round-loop-bx-preserved
next_round-loop-bx-preserved t c = record {
  round = round-added c.loop-bx.values c.fired.new.values c.loop-bx.trails c.fired.new.trails c.in_ok-fired.ensures.keeps c.in_ok-fired.ensures.keeps_trails
      _ _ _ c.loop-bx.bx c.loop-bx.round c.add.new.round _ c.in_ok-fired.fired c.loop-bx.invariant.round c.loop-bx.invariant.fits
      (effects-kept c.args.values.now c.loop-bx.values c.args.trails.now c.loop-bx.trails c.loop-bx.invariant.keeps c.loop-bx.invariant.keeps_trails c.args.program.now (row_of c.args.row.now) c.loop-bx.bx c.requires.fits)
      c.in_ok-fired.ensures.fired c.in_ok-add.ensures.cells c.in_ok-add.ensures.known c.in_ok-add.ensures.firings c.in_ok-add.ensures.instances;
  fits = cells-added c.loop-bx.values c.fired.new.values c.loop-bx.trails c.fired.new.trails c.in_ok-fired.ensures.keeps c.in_ok-fired.ensures.keeps_trails
      c.loop-bx.round.cells.items c.add.new.round.cells.items c.in_ok-fired.fired.cell c.in_ok-add.ensures.cells c.loop-bx.invariant.fits c.in_ok-fired.ensures.fits;
  keeps = store.keeps-keeps _ _ _ c.loop-bx.invariant.keeps c.in_ok-fired.ensures.keeps;
  keeps_trails = trail.keeps-keeps _ _ _ c.loop-bx.invariant.keeps_trails c.in_ok-fired.ensures.keeps_trails;
}

pub next_round-returns-clause-round : goal.next_round-returns-clause-round
next_round-returns-clause-round t c =
    let size : c.len-bx-end.result ≡ box_count c.args.program.now c.args.row.now.kind =
    omega (arith, c.len-bx-end.ensures, ap (λ (m : ModuleForm). length m.boxes) (module-is c.args.program.now c.modules.result.now.items c.modules.ensures.modules c.args.row.now.kind c.index.result.now c.requires.kind c.index.ensures), length-map c.index.result.now.boxes.items box_of) in
    let all : c.loop-bx.bx ≡ box_count c.args.program.now c.args.row.now.kind = omega (arith, size) in
    subst (λ n. IsRound (values_of c.loop-bx.values) (trails_of c.loop-bx.trails) (mean.mean c.args.program.now c.args.depth) c.args.row.now.kind
    (effects_in c.args.program.now (values_of c.args.values.now) (trails_of c.args.trails.now) (row_of c.args.row.now)) n c.loop-bx.round) all c.loop-bx.invariant.round

pub pulled-loop-init : goal.pulled-loop-init
pulled-loop-init t c =
    let is : row_of c.row_with-row.result ≡ row_for c.args.kind c.args.inputs [] = c.row_with-row.ensures ∙ ap (row_for c.args.kind c.args.inputs) c.new.ensures.items in
    record {
      row = row-same _ _ _ _ _ _ _ is
          (row-none c.args.program.now (mean.mean c.args.program.now c.args.depth) c.args.kind (values_of c.args.values.now) (trails_of c.args.trails.now) _ c.args.inputs refl);
      fits = subst (RowFits _ _) (sym is) (row-fits _ _ _ c.args.kind c.args.inputs [] (omega arith) c.requires.fits (λ b. tt));
      keeps = store.keeps_itself _;
      keeps_trails = trail.keeps_itself _;
    }

pub pulled-loop-preserved : goal.pulled-loop-preserved
pulled-loop-preserved t c =
    let keeps = store.keeps-keeps _ _ _ c.loop.invariant.keeps c.in_ok-next.ensures.keeps in
    record {
      row = row-same _ _ _ _ _ _ _ c.row_with-row-in-loop.ensures
          (row-round c.args.program.now (mean.mean c.args.program.now c.args.depth) c.args.kind c.loop.counter _ _ _ _ _ (row_of c.loop.row) c.args.inputs c.in_ok-next.next
          c.loop.invariant.row c.in_ok-next.ensures.round (inputs-kept _ _ keeps c.args.inputs c.requires.fits));
      fits = subst (RowFits _ _) (sym c.row_with-row-in-loop.ensures)
          (row-fits _ _ _ c.args.kind c.args.inputs _ keeps.longer c.requires.fits c.in_ok-next.ensures.fits);
      keeps = keeps;
      keeps_trails = trail.keeps-keeps _ _ _ c.loop.invariant.keeps_trails c.in_ok-next.ensures.keeps_trails;
    }
