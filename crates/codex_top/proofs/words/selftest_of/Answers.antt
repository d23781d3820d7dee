use Rattle.std.specs.Prelude.{string_bytes}
use Rattle.codex_top.specs.Words.{selftest}
use Rattle.codex_top.proofs.Asking.{one_text}
use Rattle.codex_top.proofs.words.selftest_of.Goals as goal

pub returns : goal.returns
returns c =
    rw (one_text string_bytes c.args.rest.now _ c.in-len1.len_at_least c.in-len1.len_below c.word-item.is _ c.as_str.ensures.value)
    (selftest _ c.in-Some.number c.in-Some.ensures)
