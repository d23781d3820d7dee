-- Worked scrolls.
use Rattle.std.proofs.Common.{◌≡◌, ℕ, List, [], ◌∷◌, Option, Some, None, refl}
use Rattle.umix_base.specs.declared.limits.Limits.{Limits}
use Rattle.um_word.specs.declared.op.Op.TheVariants.{Set}
use Rattle.um_word.specs.Operators.{decode_word}
use Rattle.um_word.specs.State.{start_of}
use Rattle.um_word.specs.Table.{Fault, FingerOutside, BadOperator, OutputTooLarge, DivideByZero}
use Rattle.um_word.specs.Run.{Standing, Stands, Failed, run, next_number}
use Rattle.um_word.proofs.Arrays.{get-insert_same}

abbrev ample : Limits
ample = record { arrays = 100; words = 1000 }

-- what was written, and the fault with the number of its cycle
abbrev told : Standing (List ℕ) → List ℕ × Option (Fault × ℕ)
told (Stands s ids) = (s.out, None)
told (Failed s ids fault) = (s.out, Some (fault, next_number s))

decodes_set : decode_word 0xd0000041 ≡ Some (Set 0 65)
decodes_set = refl

decodes_none : decode_word 0xe0000000 ≡ None
decodes_none = refl

writes_a : told (run ample 9 [] (start_of (0xd0000041 ∷ 0xa0000000 ∷ 0x70000000 ∷ []) [])) ≡ (65 ∷ [], None)
writes_a = simp get-insert_same

nothing_there : told (run ample 9 [] (start_of [] [])) ≡ ([], Some (FingerOutside, 1))
nothing_there = simp get-insert_same

too_large : told (run ample 9 [] (start_of (0xd0000100 ∷ 0xa0000000 ∷ 0x70000000 ∷ []) [])) ≡ ([], Some (OutputTooLarge, 2))
too_large = simp get-insert_same

no_operator : told (run ample 9 [] (start_of (0xe0000000 ∷ []) [])) ≡ ([], Some (BadOperator, 1))
no_operator = simp get-insert_same

no_quotient : told (run ample 9 [] (start_of (0x50000000 ∷ []) [])) ≡ ([], Some (DivideByZero, 1))
no_quotient = simp get-insert_same
