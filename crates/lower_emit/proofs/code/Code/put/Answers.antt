-- The words of a template say its operators.
use Rattle.std.proofs.Common.{◌∙◌}
use Rattle.lower_emit.proofs.Adding.{adds_filled}
use Rattle.lower_emit.proofs.code.Code.put.Goals as goal

pub returns : goal.returns
returns g c = adds_filled c.args.self.now.words.items c.extend_from_slice.new.self.items c.as_slice.result.now c.args.values c.args.template.now.rows c.in_ok-extend_from_slice.ensures.items (c.as_slice.ensures ∙ c.fill-words.ensures.words) c.requires.holes
