use Rattle.std.specs.Prelude.{string_bytes}
use Rattle.codex_top.specs.Words.{save}
use Rattle.codex_top.proofs.Asking.{three_texts}
use Rattle.codex_top.proofs.words.save_of.Goals as goal

pub returns : goal.returns
returns c =
    rw (three_texts string_bytes c.args.rest.now _ _ _ c.in-len3.len_at_least c.in-len3.len_below c.file-item.is c.number-item.is c.out-item.is _ _ _
    c.as_str-2.ensures.value c.as_str.ensures.value c.as_str-3.ensures.value) (save _ _ _ c.in-Some.cycles c.in-Some.ensures)
