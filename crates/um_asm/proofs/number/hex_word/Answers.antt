use Rattle.std.proofs.Common.{refl, ap, ◌∙◌}
use Rattle.std.specs.Int.{w32, from_be_bytes}
use Rattle.um_asm.proofs.Numbers.{hex_eight}
use Rattle.um_asm.proofs.number.hex_word.Goals as goal

pub unwrap-requires : goal.unwrap-requires
unwrap-requires c =
    let word = hex_eight c.args.digits.now c.requires.eight c.requires.digits in
    let told = rw word.1 at c.decode_to_slice.ensures.value in
    rw told.0 refl

pub returns : goal.returns
returns c =
    let word = hex_eight c.args.digits.now c.requires.eight c.requires.digits in
    let told = rw word.1 at c.decode_to_slice.ensures.value in
    c.from_be_bytes.ensures ∙ (ap (from_be_bytes w32) told.1 ∙ word.2)
