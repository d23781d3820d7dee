use Rattle.std.proofs.Common.{◌+◌, ◌*◌, ◌<◌, drop, get_or, refl, arith}
use Rattle.std.specs.Char.{digit_value}
use Rattle.std.specs.Str.Parse.{digits_value}
use Rattle.um_asm.proofs.Numbers.{after_grows, next_digit, not_at_most}
use Rattle.um_asm.proofs.number.number_up_to.Goals as goal

pub returns-then-number-greatest : goal.returns-then-number-greatest
returns-then-number-greatest c =
    let digits = c.args.digits.now in
    let radix = c.args.radix in
    let i = c.loop-byte.byte-index in
    let number = c.loop-byte.number * radix + digit_value (get_or digits i 0) in
    let next = next_digit radix c.loop-byte.number i digits (omega arith) in
    let grows = after_grows radix number (drop (i + 1) digits) (omega arith) in
    let large : c.args.greatest < digits_value radix digits = omega (arith, next, grows, c.loop-byte.invariant.so_far, c.digit.ensures) in
    rw (not_at_most (digits_value radix digits) c.args.greatest large) refl
