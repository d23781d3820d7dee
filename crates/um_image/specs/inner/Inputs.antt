-- What one cycle takes from the input.
use Rattle.std.specs.Prelude.{ℕ, nat_lt, if◌then◌else◌, List, Option, Some, None, slice_index}
use Rattle.um_word.specs.declared.op.Op.{Op}
use Rattle.um_word.specs.declared.op.Op.TheVariants.{Input}

-- the register that an Input under the finger fills
abbrev pub asked_by : Option Op → Option ℕ
asked_by (Some (Input c)) = Some c
asked_by op = None

-- whether a byte came into it
abbrev pub given_by : Option ℕ → List ℕ → ℕ
given_by (Some c) registers = if nat_lt (slice_index registers c) 256 then 1 else 0
given_by None registers = 0
