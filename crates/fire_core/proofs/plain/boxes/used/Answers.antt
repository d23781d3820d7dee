use Rattle.std.specs.Prelude.{length}
use Rattle.std.proofs.Common.{subst}
use Rattle.fire_core.specs.inner.Plain.{KnownFits}
use Rattle.fire_core.proofs.plain.boxes.used.Goals as goal

pub returns-in_ok-cell-in-Some-clause-fits : goal.returns-in_ok-cell-in-Some-clause-fits
returns-in_ok-cell-in-Some-clause-fits c = λ n fits.
    c.in_ok-cell-in-Some.ensures.fits n (subst (KnownFits n (length c.args.trails.now)) c.in-Some.is fits)
