use Rattle.std.specs.Prelude.{string_bytes}
use Rattle.codex_top.specs.Words.{eval, eval_by, eval_for}
use Rattle.codex_top.proofs.Asking.{one_text, two_texts, three_texts}
use Rattle.codex_top.proofs.words.eval_of.Goals as goal

pub returns-in-len1 : goal.returns-in-len1
returns-in-len1 c =
    rw (one_text string_bytes c.args.rest.now _ c.in-len1.len_at_least c.in-len1.len_below c.file-item.is _ c.as_str.ensures.value) (eval _)

pub returns-in-Some : goal.returns-in-Some
returns-in-Some c =
    rw (two_texts string_bytes c.args.rest.now _ _ c.in-len2.len_at_least c.in-len2.len_below c.file-item-then-rest-lt3.is c.picks-item.is _ _
    c.as_str-in-len2-2.ensures.value c.as_str-in-len2.ensures.value) (eval_by _ _ _ (rw c.in-Some.is at c.in_ok-picks-in-len2.ensures))

pub returns-in-Some-2 : goal.returns-in-Some-2
returns-in-Some-2 c =
    rw (three_texts string_bytes c.args.rest.now _ _ _ c.in-len3.len_at_least c.in-len3.len_below c.file-item-then-rest-lt4.is
    c.picks-item-then-rest-lt4.is c.number-item.is _ _ _ c.as_str-in-len3-3.ensures.value c.as_str-in-len3-2.ensures.value c.as_str-in-len3.ensures.value)
    (eval_for _ _ _ _ _ (rw c.in-Some-2.is at c.in_ok-picks-in-len3.ensures) c.in-Some-number_of.ensures)
