-- What may be taken to be left of an input.
use Rattle.std.proofs.Common.{◌≤◌, ℕ, List, [], Option, Some, None, refl, arith}
use Rattle.std.proofs.lemmas.List.Elements.{All-nil}
use Rattle.umix_base.specs.Causes.{Rose}
use Rattle.um_machine.specs.Outside.{IsInput, MayRest, MayHold}

-- a source may always be taken to have some rest, and a sink to hold some bytes
pub some_rest : (o : Option (List ℕ)) → (rest : List ℕ) × MayRest o rest
some_rest None = ([], All-nil IsInput)
some_rest (Some told) = (told, refl)

pub some_held : (o : Option (List ℕ)) → (held : List ℕ) × MayHold o held
some_held None = ([], tt)
some_held (Some told) = (told, refl)

pub rose_later : (a b c : ℕ) → a ≤ b → Rose b c → Rose a c
rose_later a b c le r = omega arith
