use Rattle.std.proofs.Common.{◌≡◌, ap, sym, subst, ◌∙◌, arith}
use Rattle.two_d.specs.Programs.{modules_of}
use Rattle.grid_draw.specs.Answers.{NoneTooWide}
use Rattle.grid_draw.specs.Layout.{drawing_of}
use Rattle.grid_draw.specs.inner.Sizes.{sizes_of}
use Rattle.grid_draw.proofs.ReadsBack.{law}
use Rattle.grid_draw.proofs.Sizes.{size_is}
use Rattle.grid_draw.proofs.drawing.draw.Goals as goal

pub returns-then-size-gt-MOST_BYTES-clause-refused : goal.returns-then-size-gt-MOST_BYTES-clause-refused
returns-then-size-gt-MOST_BYTES-clause-refused c =
    let same = ap modules_of c.as_slice-modules.ensures.value ∙ c.modules.ensures.modules in (
      subst NoneTooWide same c.in_ok-size.ensures.counted.1,
      c.in_ok-size.ensures.counted.0 ∙ (ap sizes_of same ∙ sym (size_is c.args.program.now)),
      c.if-size-gt-MOST_BYTES.true,
    )

pub returns-clause-drawn : goal.returns-clause-drawn
returns-clause-drawn c =
    let same = ap modules_of c.as_slice-modules.ensures.value ∙ c.modules.ensures.modules in
    record {
      bytes = c.in_ok-drawing.ensures ∙ ap drawing_of same;
      narrow = subst NoneTooWide same c.in_ok-size.ensures.counted.1;
      short = omega (arith, size_is c.args.program.now, ap sizes_of same, c.in_ok-size.ensures.counted.0, c.if-size-gt-MOST_BYTES.false);
    }

pub returns-clause-again : goal.returns-clause-again
returns-clause-again c =
    let same = ap modules_of c.as_slice-modules.ensures.value ∙ c.modules.ensures.modules in
    let P = c.args.program.now in
    λ leads. law P c.modules.ensures.good leads (subst NoneTooWide same c.in_ok-size.ensures.counted.1)
    (omega (arith, size_is P, ap sizes_of same, c.in_ok-size.ensures.counted.0, c.if-size-gt-MOST_BYTES.false))
