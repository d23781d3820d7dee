-- The ends of a module's wires by number: first the north sides of the boxes, then their west sides, then the exits.
use Rattle.std.specs.Prelude.{◌≡◌, ℕ, ◌+◌, ◌-◌, ◌<◌, nat_lt, if◌then◌else◌, length, Option, Some, None, slice_get}
use Rattle.std.specs.Option.{unwrap_or, option_map}
use Rattle.two_d.specs.Programs.{BoxForm, ModuleForm, Origin}
use Rattle.two_d.specs.Sound.{Exists}
use Rattle.two_d.specs.declared.module.To.{To}
use Rattle.two_d.specs.declared.module.To.TheVariants.{N, W, Exit}

-- how many ends there are
abbrev pub end_count : ModuleForm → ℕ
end_count m = length m.boxes + length m.boxes + length m.exits

-- the number of an end
abbrev pub end_number : ModuleForm → To → ℕ
end_number m (N b) = b
end_number m (W b) = length m.boxes + b
end_number m (Exit i) = length m.boxes + length m.boxes + i

-- from where the wire to an end comes
abbrev pub origin_at : ModuleForm → ℕ → Option Origin
origin_at m k =
    if nat_lt k (length m.boxes) then unwrap_or (option_map (λ (row : BoxForm). row.n) (slice_get m.boxes k)) None
    else if nat_lt k (length m.boxes + length m.boxes)
    then unwrap_or (option_map (λ (row : BoxForm). row.w)
    (slice_get m.boxes (k - length m.boxes))) None
    else unwrap_or (slice_get m.exits (k - length m.boxes - length m.boxes)) None

-- the first n ends have wires that begin where something is
abbrev pub AreKnown : ModuleForm → ℕ → Type 0
AreKnown m n = (k : ℕ) (o : Origin) → k < n → origin_at m k ≡ Some o → Exists m o

-- the wire to end k begins where none of those to the first n ends does
abbrev pub AreApartFrom : ModuleForm → ℕ → ℕ → Type 0
AreApartFrom m k n = (j : ℕ) (o : Origin) → j < n → origin_at m j ≡ Some o → origin_at m k ≡ Some o → ⊥
