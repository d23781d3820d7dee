-- The ends of wires as the code finds them.
use Rattle.std.specs.Prelude.{◌≡◌, ℕ, slice_get, Option, Some, MatchOption}
use Rattle.umix_base.specs.declared.place.Place.{Place}
use Rattle.two_d.specs.Frames.{exits_of}
use Rattle.two_d.specs.Ports.{Drawing}
use Rattle.two_d.specs.Wires.{Position, EndsAt}
use Rattle.two_d.specs.declared.module.To.{To}

-- the end of a wire that comes to a position, or it doesn't end there
abbrev pub FindsEnd : Drawing → Position → Option To → Type 0
FindsEnd m s found = MatchOption found ((end : To) → EndsAt m s end → ⊥) (λ end. EndsAt m s end)

-- the exit at a cell, or none is there
abbrev pub FindsExit : Drawing → Place → Option ℕ → Type 0
FindsExit m p found =
    MatchOption found ((i : ℕ) → p.col ≡ m.frame.right → slice_get (exits_of m.grid m.frame) i ≡ Some p.row → ⊥)
    (λ i. (p.col ≡ m.frame.right) × (slice_get (exits_of m.grid m.frame) i ≡ Some p.row))
