-- One more earlier end has a wire that begins elsewhere.
use Rattle.std.proofs.Common.{sym, ◌∙◌}
use Rattle.std.proofs.lemmas.Bool.{iff_false}
use Rattle.two_d.specs.Programs.{module_of}
use Rattle.two_d.proofs.EndLemmas.{apart_more}
use Rattle.two_d.proofs.soundness.is_apart.Goals as goal

pub loop-earlier-preserved : goal.loop-earlier-preserved
loop-earlier-preserved c =
    apart_more (module_of c.args.module.now) c.args.end c.loop-earlier.earlier c.in-Some.origin c.loop-earlier.invariant (sym c.origin_at.ensures ∙ c.in-Some.is)
    (iff_false c.begins_at.ensures c.if-begins_at.false)
