use Rattle.std.specs.Prelude.{string_bytes}
use Rattle.codex_top.specs.Words.{type}
use Rattle.codex_top.proofs.Asking.{two_texts}
use Rattle.codex_top.proofs.words.types_of.Goals as goal

pub returns-in-len2 : goal.returns-in-len2
returns-in-len2 c =
    rw (two_texts string_bytes c.args.rest.now _ _ c.in-len2.len_at_least c.in-len2.len_below c.file-item.is c.sheet-item.is _ _
    c.as_str.ensures.value c.as_str-in-len2.ensures.value) (type _ _)
