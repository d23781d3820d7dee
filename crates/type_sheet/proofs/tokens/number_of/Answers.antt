use Rattle.std.proofs.Common.{rules, ◌≡◌, sym, ap, subst, ◌∙◌, arith, true, false, not}
use Rattle.std.specs.Prelude.{decimal, Ok, Err}
use Rattle.std.specs.Str.{IsUtf8}
use Rattle.std.proofs.lemmas.Fmt.{parse-decimal, IsAscii-decimal}
use Rattle.std.proofs.lemmas.Str.{IsUtf8-from_ascii}
use Rattle.std.proofs.lemmas.Slice.Eq.{bytes_eq-Decides}
use Rattle.type_sheet.proofs.tokens.number_of.Goals as goal

pub returns-in_default : goal.returns-in_default
returns-in_default c k is writes =
    let utf8 : IsUtf8 c.args.text.now = subst IsUtf8 writes (IsUtf8-from_ascii (decimal k) (IsAscii-decimal k (omega (arith, is.1)))) in
    c.in_default.ensures.cases.0 utf8

pub returns-in_default-parse : goal.returns-in_default-parse
returns-in_default-parse c k is writes =
    let same : c.in-Ok.digits.now ≡ c.args.text.now = search rules in
    let reads : c.parse.result ≡ Ok k = parse-decimal 32 k c.in-Ok.digits.now c.parse.result (omega (arith, is.1)) (omega (arith, is.1)) (same ∙ sym writes) c.parse.ensures.value.0 in
    let other : c.parse.result ≡ Err c.in_default-parse.field-0 = c.in_default-parse.is in
    cc

pub returns-then-number-eq0 : goal.returns-then-number-eq0
returns-then-number-eq0 c k is writes =
    let same : c.in-Ok.digits.now ≡ c.args.text.now = search rules in
    let reads : c.parse.result ≡ Ok k = parse-decimal 32 k c.in-Ok.digits.now c.parse.result (omega (arith, is.1)) (omega (arith, is.1)) (same ∙ sym writes) c.parse.ensures.value.0 in
    let equal : Ok c.in-Ok-parse.number ≡ Ok k = sym c.in-Ok-parse.is ∙ reads in
    let number : c.in-Ok-parse.number ≡ k = cc in
    absurd (omega (arith, number, is.0, c.if-number-eq0.true))

pub returns-then-ne : goal.returns-then-ne
returns-then-ne c k is writes =
    let same : c.in-Ok.digits.now ≡ c.args.text.now = search rules in
    let reads : c.parse.result ≡ Ok k = parse-decimal 32 k c.in-Ok.digits.now c.parse.result (omega (arith, is.1)) (omega (arith, is.1)) (same ∙ sym writes) c.parse.ensures.value.0 in
    let equal : Ok c.in-Ok-parse.number ≡ Ok k = sym c.in-Ok-parse.is ∙ reads in
    let number : c.in-Ok-parse.number ≡ k = cc in
    let text : c.format.result.now ≡ c.in-Ok.digits.now = c.format.ensures.text ∙ ap decimal number ∙ writes ∙ sym same in
    let same_bytes : c.ne.result ≡ false = c.ne.ensures ∙ ap not ((bytes_eq-Decides c.format.result.now c.in-Ok.digits.now).1 text) in
    let differ : c.ne.result ≡ true = c.if-ne.true in
    cc
