-- What was written to a sink that tells it, in one call or in several.
use Rattle.std.specs.Prelude.{◌≡◌, ◌≤◌, ℕ, List, ◌++◌, length, take, Option, option_map, Result, Ok, Err}

-- these bytes were written
abbrev pub HasWritten : List ℕ → Option (List ℕ) → Option (List ℕ) → Type 0
HasWritten bytes old new = new ≡ option_map (λ held. held ++ bytes) old

-- a prefix of these bytes was written
abbrev pub HasWrittenPart : List ℕ → Option (List ℕ) → Option (List ℕ) → Type 0
HasWrittenPart bytes old new = (k : ℕ) × (k ≤ length bytes) × HasWritten (take k bytes) old new

-- the text was written whole, or a prefix of it by a call that failed
abbrev pub Writes : {T E : Type 0} → List ℕ → Option (List ℕ) → Option (List ℕ) → Result T E → Type 0
Writes text old new (Ok done) = HasWritten text old new
Writes text old new (Err fault) = HasWrittenPart text old new
