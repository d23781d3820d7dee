use Rattle.std.proofs.Common.{◌<◌, ◌≤◌, length, inl, inr, refl, ◌∙◌, arith}
use Rattle.std.proofs.lemmas.Result.{err_from_is_err_and}
use Rattle.um_word.specs.Scroll.{most_scroll_words}
use Rattle.um_asm.specs.inner.Definitions.{meaning_in}
use Rattle.um_asm.proofs.Walking.{assembled_by, too_long, short_enough}
use Rattle.um_asm.proofs.assembler.assemble.Goals as goal

pub returns-in_err-words-clause-fault : goal.returns-in_err-words-clause-fault
returns-in_err-words-clause-fault c =
    let p = err_from_is_err_and c.from_residual-in_err-words.result c.from_residual-in_err-words.ensures.1 in
    let text = assembled_by c.args.text.now (meaning_in c.in_ok-labels.labels.definitions) c.in_ok-labels.ensures.meaning in
    rw (p.1, p.2) (elim c.in_err-words.ensures [
      | inl memory ↦ inl memory
      | inr fault ↦ inr (text ∙ rw fault refl)
    ])

pub returns-then-len-gt-MOST_SCROLL_WORDS-clause-fault : goal.returns-then-len-gt-MOST_SCROLL_WORDS-clause-fault
returns-then-len-gt-MOST_SCROLL_WORDS-clause-fault c =
    let text = assembled_by c.args.text.now (meaning_in c.in_ok-labels.labels.definitions) c.in_ok-labels.ensures.meaning in
    let long : most_scroll_words < length c.in_ok-words.words.items = omega (arith, c.len.ensures, c.in_ok-words.words.ok) in
    inr (text ∙ rw c.in_ok-words.ensures (too_long c.in_ok-words.words.items long))

pub returns-clause-words : goal.returns-clause-words
returns-clause-words c =
    let text = assembled_by c.args.text.now (meaning_in c.in_ok-labels.labels.definitions) c.in_ok-labels.ensures.meaning in
    let short : length c.in_ok-words.words.items ≤ most_scroll_words = omega (arith, c.len.ensures, c.in_ok-words.words.ok) in
    text ∙ rw c.in_ok-words.ensures (short_enough c.in_ok-words.words.items short)
