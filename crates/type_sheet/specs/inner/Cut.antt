-- Texts cut at a byte.
use Rattle.std.specs.Prelude.{ℕ, ◌+◌, ◌==◌, List, drop, Option}
use Rattle.std.specs.List.{before_first, position}
use Rattle.std.specs.Option.{option_map}

-- what stands before the first such byte, or all where there is none
abbrev pub before : ℕ → List ℕ → List ℕ
before mark text = before_first (λ b. b == mark) text

-- what stands behind the first such byte
abbrev pub behind_byte : ℕ → List ℕ → Option (List ℕ)
behind_byte mark text = option_map (λ at. drop (at + 1) text) (position (λ b. b == mark) text)
