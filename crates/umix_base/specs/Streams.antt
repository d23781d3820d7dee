-- What a call does to the bytes that a source still has, and to those that a sink was given.
use Rattle.std.specs.Prelude.{◌≡◌, ℕ, List, [], ◌∷◌, ◌++◌, length, take, ◌≤◌, Option, Some, None}
use Rattle.std.specs.Prelude.{Result, Ok, Err, option_map}
use Rattle.umix_base.specs.declared.Failed.{Failed}

-- the first byte of the rest was given and is gone, or nothing is left; a failed call leaves the rest
abbrev pub Takes : Option (List ℕ) → Option (List ℕ) → Result (Option ℕ) Failed → Type 0
Takes None new result = Unit {0}
Takes (Some bytes) new (Ok None) = (bytes ≡ []) × (new ≡ Some [])
Takes (Some bytes) new (Ok (Some byte)) = (rest : List ℕ) × (bytes ≡ byte ∷ rest) × (new ≡ Some rest)
Takes (Some bytes) new (Err failed) = new ≡ Some bytes

-- the whole piece was appended, or some prefix of it by a failed call
abbrev pub Appends : List ℕ → Option (List ℕ) → Option (List ℕ) → Result (Unit {0}) Failed → Type 0
Appends piece old new (Ok done) = new ≡ option_map (λ held. held ++ piece) old
Appends piece old new (Err failed) = (k : ℕ) × (k ≤ length piece) ×
    (new ≡ option_map (λ held. held ++ take k piece) old)
