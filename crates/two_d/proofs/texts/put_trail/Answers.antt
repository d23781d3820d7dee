-- The site's line, and then a prefix of the callers' lines.
use Rattle.std.proofs.Common.{rules, subst}
use Rattle.std.specs.Prelude.{◌++◌, reverse}
use Rattle.codex_values.specs.Writing.{HasWrittenPart}
use Rattle.codex_values.proofs.PieceLemmas.{failed-writes}
use Rattle.two_d.specs.Texts.{site_line, caller_lines}
use Rattle.two_d.specs.Trails.{trail_at}
use Rattle.codex_values.proofs.Written.{part_behind}
use Rattle.two_d.proofs.texts.put_trail.Goals as goal

pub returns-in_err-put_callers-clause-written : goal.returns-in_err-put_callers-clause-written
returns-in_err-put_callers-clause-written g c =
    let P = c.args.program.now in
    failed-writes _ _ _ _ (search rules)
    (subst (λ callers. HasWrittenPart (site_line P (trail_at c.args.trails.now c.args.at).site ++ caller_lines P callers) (g.S.Sink.written c.args.sink.now) (g.S.Sink.written c.put_callers.new.sink))
    c.in_ok-site.ensures.callers
    (subst (λ site. HasWrittenPart (site_line P site ++ caller_lines P (reverse c.in_ok-site.callers.items)) (g.S.Sink.written c.args.sink.now) (g.S.Sink.written c.put_callers.new.sink))
    c.in_ok-site.ensures.site
    (part_behind _ _ _ (site_line P c.in_ok-site.site) _ c.in_ok-put_site.ensures.written c.in_err-put_callers.ensures.written)))
