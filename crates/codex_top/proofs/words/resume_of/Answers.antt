use Rattle.std.specs.Prelude.{string_bytes}
use Rattle.codex_top.specs.Words.{resume}
use Rattle.codex_top.proofs.Asking.{two_texts}
use Rattle.codex_top.proofs.words.resume_of.Goals as goal

pub returns : goal.returns
returns c =
    rw (two_texts string_bytes c.args.rest.now _ _ c.in-len2.len_at_least c.in-len2.len_below c.file-item.is c.number-item.is _ _
    c.as_str-2.ensures.value c.as_str.ensures.value) (resume _ _ c.in-Some.cycles c.in-Some.ensures)
