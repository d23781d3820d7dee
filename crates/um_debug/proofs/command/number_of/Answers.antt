use Rattle.std.proofs.Common.{rules, ◌≡◌, sym, ap, ◌∙◌, arith, true, false, not}
use Rattle.std.specs.Prelude.{decimal, Ok, Err}
use Rattle.std.proofs.lemmas.Fmt.{parse-decimal}
use Rattle.std.proofs.lemmas.Slice.Eq.{bytes_eq-Decides}
use Rattle.um_debug.proofs.command.number_of.Goals as goal

pub returns-in_default : goal.returns-in_default
returns-in_default c n is =
    let reads : c.parse.result ≡ Ok n = parse-decimal 64 n c.args.word.now c.parse.result (omega (arith, is.small, c.ranges.most)) (omega (arith, is.small, c.ranges.most)) is.writes c.parse.ensures.value.0 in
    let other : c.parse.result ≡ Err c.in_default.field-0 = search rules in
    cc

pub returns-then-number-most : goal.returns-then-number-most
returns-then-number-most c n is =
    let reads : c.parse.result ≡ Ok n = parse-decimal 64 n c.args.word.now c.parse.result (omega (arith, is.small, c.ranges.most)) (omega (arith, is.small, c.ranges.most)) is.writes c.parse.ensures.value.0 in
    let same : Ok c.in-Ok.number ≡ Ok n = sym c.in-Ok.is ∙ reads in
    let number : c.in-Ok.number ≡ n = cc in
    absurd (omega (arith, number, is.small, c.if-number-most.true))

pub returns-then-ne : goal.returns-then-ne
returns-then-ne c n is =
    let reads : c.parse.result ≡ Ok n = parse-decimal 64 n c.args.word.now c.parse.result (omega (arith, is.small, c.ranges.most)) (omega (arith, is.small, c.ranges.most)) is.writes c.parse.ensures.value.0 in
    let same : Ok c.in-Ok.number ≡ Ok n = sym c.in-Ok.is ∙ reads in
    let number : c.in-Ok.number ≡ n = cc in
    let text : c.format.result.now ≡ c.args.word.now = c.format.ensures.text ∙ ap decimal number ∙ sym is.writes in
    let same_bytes : c.ne.result ≡ false = c.ne.ensures ∙ ap not ((bytes_eq-Decides c.format.result.now c.args.word.now).1 text) in
    let differ : c.ne.result ≡ true = c.if-ne.true in
    cc
