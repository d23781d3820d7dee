use Rattle.std.specs.Prelude.{string_bytes}
use Rattle.codex_top.specs.Words.{run, run_for}
use Rattle.codex_top.proofs.Asking.{one_text, two_texts}
use Rattle.codex_top.proofs.words.run_of.Goals as goal

pub returns-in-len1 : goal.returns-in-len1
returns-in-len1 c =
    rw (one_text string_bytes c.args.rest.now _ c.in-len1.len_at_least c.in-len1.len_below c.file-item.is _ c.as_str.ensures.value) (run _)

pub returns-in-Some : goal.returns-in-Some
returns-in-Some c =
    rw (two_texts string_bytes c.args.rest.now _ _ c.in-len2.len_at_least c.in-len2.len_below c.file-item-then-rest-lt3.is c.number-item.is _ _
    c.as_str-in-len2-2.ensures.value c.as_str-in-len2.ensures.value) (run_for _ _ c.in-Some.cycles c.in-Some.ensures)
