use Rattle.std.proofs.Common.{arith}
use Rattle.um_debug.proofs.Spaces.{whole_word, cut_word}
use Rattle.um_debug.proofs.Naming.{no_place, place_cut}
use Rattle.um_debug.proofs.command.place_of.Goals as goal

pub returns-in_err-id : goal.returns-in_err-id
returns-in_err-id c =
    rw c.from_residual.ensures
    (λ place is. no_place c.args.numbers.now place (whole_word c.args.numbers.now c.split_once.result c.in_err-id.was c.split_once.ensures.cases) is)

pub returns-in_err-word_of : goal.returns-in_err-word_of
returns-in_err-word_of c =
    let cut = cut_word c.args.numbers.now c.split_once.result c.in_ok-id.id c.in_ok-id.offset c.in_ok-id.was c.split_once.ensures.cases in
    rw c.from_residual-in_err-word_of.ensures
    (λ place is. c.in_err-word_of.ensures place.id
    (record { writes = (place_cut c.args.numbers.now c.in_ok-id.id.now c.in_ok-id.offset.now place cut is).first; small = omega (arith, is.id) }))

pub returns-in_err-word_of-2 : goal.returns-in_err-word_of-2
returns-in_err-word_of-2 c =
    let cut = cut_word c.args.numbers.now c.split_once.result c.in_ok-id.id c.in_ok-id.offset c.in_ok-id.was c.split_once.ensures.cases in
    rw c.from_residual-in_err-word_of-2.ensures
    (λ place is. c.in_err-word_of-2.ensures place.offset
    (record { writes = (place_cut c.args.numbers.now c.in_ok-id.id.now c.in_ok-id.offset.now place cut is).others; small = omega (arith, is.offset) }))
