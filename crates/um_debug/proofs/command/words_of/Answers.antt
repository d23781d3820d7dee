use Rattle.std.proofs.Common.{arith}
use Rattle.um_debug.proofs.Spaces.{whole_word, cut_word}
use Rattle.um_debug.proofs.Naming.{shows, no_shows, no_second, first_part, second_part, same_count, same_offset, shows_parts, words_line}
use Rattle.um_debug.proofs.command.words_of.Goals.{then-count-eq0-via-then-count-eq0, then-count-eq0-via-else-count-eq0+then-place-count}
use Rattle.um_debug.proofs.command.words_of.Goals as goal

pub returns-in_err-id : goal.returns-in_err-id
returns-in_err-id c =
    rw c.from_residual.ensures
    (λ command is. no_shows c.args.numbers.now (whole_word c.args.numbers.now c.split_once.result c.in_err-id.was c.split_once.ensures.cases) (shows c.args.numbers.now command is))

pub returns-in_err-offset : goal.returns-in_err-offset
returns-in_err-offset c =
    let cut = cut_word c.args.numbers.now c.split_once.result c.in_ok-id.id c.in_ok-id.others c.in_ok-id.was c.split_once.ensures.cases in
    let none = whole_word c.in_ok-id.others.now c.split_once-2.result c.in_err-offset.was c.split_once-2.ensures.cases in
    rw c.from_residual-in_err-offset.ensures (λ command is. no_second c.args.numbers.now c.in_ok-id.id.now c.in_ok-id.others.now cut (shows c.args.numbers.now command is) none)

pub returns-in_err-word_of : goal.returns-in_err-word_of
returns-in_err-word_of c =
    let cut = cut_word c.args.numbers.now c.split_once.result c.in_ok-id.id c.in_ok-id.others c.in_ok-id.was c.split_once.ensures.cases in
    rw c.from_residual-in_err-word_of.ensures
    (λ command is. let s = shows c.args.numbers.now command is in
    c.in_err-word_of.ensures s.id (record { writes = (first_part c.args.numbers.now c.in_ok-id.id.now c.in_ok-id.others.now cut s).first; small = omega (arith, s.small_id) }))

pub returns-in_err-word_of-2 : goal.returns-in_err-word_of-2
returns-in_err-word_of-2 c =
    let cut = cut_word c.args.numbers.now c.split_once.result c.in_ok-id.id c.in_ok-id.others c.in_ok-id.was c.split_once.ensures.cases in
    let other = cut_word c.in_ok-id.others.now c.split_once-2.result c.in_ok-offset.offset c.in_ok-offset.count c.in_ok-offset.was c.split_once-2.ensures.cases in
    rw c.from_residual-in_err-word_of-2.ensures
    (λ command is. let s = shows c.args.numbers.now command is in
    c.in_err-word_of-2.ensures s.offset
    (record { writes = (second_part c.args.numbers.now c.in_ok-id.id.now c.in_ok-id.others.now cut s c.in_ok-offset.offset.now c.in_ok-offset.count.now other).first; small = omega (arith, s.small_offset) }))

pub returns-in_err-count : goal.returns-in_err-count
returns-in_err-count c =
    let cut = cut_word c.args.numbers.now c.split_once.result c.in_ok-id.id c.in_ok-id.others c.in_ok-id.was c.split_once.ensures.cases in
    let other = cut_word c.in_ok-id.others.now c.split_once-2.result c.in_ok-offset.offset c.in_ok-offset.count c.in_ok-offset.was c.split_once-2.ensures.cases in
    rw c.from_residual-in_err-count.ensures
    (λ command is. let s = shows c.args.numbers.now command is in
    c.in_err-count.ensures s.count
    (record { writes = (second_part c.args.numbers.now c.in_ok-id.id.now c.in_ok-id.others.now cut s c.in_ok-offset.offset.now c.in_ok-offset.count.now other).others; small = s.most }))

pub returns-then-count-eq0 : goal.returns-then-count-eq0
returns-then-count-eq0 c command is =
    let cut = cut_word c.args.numbers.now c.split_once.result c.in_ok-id.id c.in_ok-id.others c.in_ok-id.was c.split_once.ensures.cases in
    let other = cut_word c.in_ok-id.others.now c.split_once-2.result c.in_ok-offset.offset c.in_ok-offset.count c.in_ok-offset.was c.split_once-2.ensures.cases in
    let s = shows c.args.numbers.now command is in
    let count = same_count c.args.numbers.now c.in_ok-id.id.now c.in_ok-id.others.now cut s c.in_ok-offset.offset.now c.in_ok-offset.count.now other c.in_ok-count.count c.in_ok-count.ensures.small c.in_ok-count.ensures.writes in
    let offset = same_offset c.args.numbers.now c.in_ok-id.id.now c.in_ok-id.others.now cut s c.in_ok-offset.offset.now c.in_ok-offset.count.now other c.in_ok-word_of-2.field-0 (omega (arith, c.in_ok-word_of-2.ensures.small)) c.in_ok-word_of-2.ensures.writes in
    elim c.then-count-eq0.branch [
      | then-count-eq0-via-then-count-eq0 w ↦ absurd (omega (arith, count, s.least, w.if-count-eq0.true))
      | then-count-eq0-via-else-count-eq0+then-place-count w ↦ absurd (omega (arith, count, offset, s.within, w.if-place-count.true))
    ]

pub returns : goal.returns
returns c =
    let cut = cut_word c.args.numbers.now c.split_once.result c.in_ok-id.id c.in_ok-id.others c.in_ok-id.was c.split_once.ensures.cases in
    let other = cut_word c.in_ok-id.others.now c.split_once-2.result c.in_ok-offset.offset c.in_ok-offset.count c.in_ok-offset.was c.split_once-2.ensures.cases in
    words_line c.args.numbers.now c.in_ok-word_of.field-0 c.in_ok-word_of-2.field-0 c.in_ok-count.count
    (omega (arith, c.in_ok-word_of.ensures.small)) (omega (arith, c.in_ok-word_of-2.ensures.small))
    (omega (arith, c.if-count-eq0.false)) c.in_ok-count.ensures.small (omega (arith, c.if-place-count.false))
    (shows_parts c.args.numbers.now c.in_ok-id.id.now c.in_ok-id.others.now c.in_ok-offset.offset.now c.in_ok-offset.count.now c.in_ok-word_of.field-0 c.in_ok-word_of-2.field-0 c.in_ok-count.count cut other
    c.in_ok-word_of.ensures.writes c.in_ok-word_of-2.ensures.writes c.in_ok-count.ensures.writes)
