-- Worked texts.
use Rattle.std.proofs.Common.{◌≡◌, [], ◌∷◌, codes, refl, Ok, Err}
use Rattle.um_asm.specs.declared.fault.AsmFault.TheVariants.{BadLine, SameLabel, NoLabel, ValueTooLarge}
use Rattle.um_asm.specs.Assembly.{assembled}

three_lines : assembled (codes "set r0, 65\nout r0\nhalt\n") ≡ Ok (0xd0000041 ∷ 0xa0000000 ∷ 0x70000000 ∷ [])
three_lines = refl

block : assembled (codes "set r1, blk.len\nset r2, blk\nhalt\n.array blk\ntop: add r0, r0, r0\nset r3, top\n.end\n")
    ≡ Ok (0xd2000002 ∷ 0xd4000003 ∷ 0x70000000 ∷ 0x30000000 ∷ 0xd6000000 ∷ [])
block = refl

seven_digits : assembled (codes ".hex 7000020") ≡ Err (BadLine 1)
seven_digits = refl

too_large : assembled (codes "set r0, 33554432") ≡ Err (ValueTooLarge 1)
too_large = refl

same : assembled (codes "a: halt\na: halt") ≡ Err (SameLabel 2)
same = refl

nowhere : assembled (codes "set r0, b") ≡ Err (NoLabel 1)
nowhere = refl

nothing : assembled [] ≡ Ok []
nothing = refl
