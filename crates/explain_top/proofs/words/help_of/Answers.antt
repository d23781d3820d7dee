use Rattle.std.specs.Prelude.{string_bytes}
use Rattle.explain_top.specs.Words.{help}
use Rattle.explain_top.proofs.Asking.{no_text}
use Rattle.explain_top.proofs.words.help_of.Goals as goal

pub returns-in-empty : goal.returns-in-empty
returns-in-empty c = rw (no_text string_bytes c.args.rest.now c.in-empty.len_below) help
