use Rattle.std.specs.Prelude.{string_bytes}
use Rattle.explain_top.specs.Words.{stuck}
use Rattle.explain_top.proofs.Asking.{one_text}
use Rattle.explain_top.proofs.words.stuck_of.Goals as goal

pub returns-in-len1 : goal.returns-in-len1
returns-in-len1 c =
    rw (one_text string_bytes c.args.rest.now _ c.in-len1.len_at_least c.in-len1.len_below c.file-item.is _ c.as_str.ensures.value) (stuck _)
