-- What a scroll is to weigh, so that what it spends is within the bounds.
use Rattle.std.specs.Prelude.{◌≡◌, ℕ, zero, suc, ◌+◌, ◌*◌, ◌<◌, ◌≤◌, length}
use Rattle.two_d.specs.Programs.{Program, main_of}
use Rattle.lower_emit.specs.inner.Trips.{Plans, Prices}
use Rattle.lower_link.specs.inner.Boot.{Places}

-- the parts of n modules, from number i on
abbrev pub parts_from : (ℕ → ℕ) → (i n : ℕ) → ℕ
parts_from part i zero = 0
parts_from part i (suc n) = part i + parts_from part (suc i) n

-- each module has a part of the weight g
pub record IsWeighed (P : Program) (plans : Plans) (c : Prices) (p : Places) (part : ℕ → ℕ) (g : ℕ) : Type 0 where
  pub whole : g ≡ parts_from part 0 (length P)
  pub some : (m : ℕ) → m < length P → 7 ≤ part m
  pub blocks : (m : ℕ) → m < length P → p.size m ≤ 18 * part m
  pub printer : p.size (length P) ≤ 147 + 16 * g
  pub frame : (plans (main_of P)).layout.size ≤ g + 12
  pub price : c.price ≤ 160 * g
