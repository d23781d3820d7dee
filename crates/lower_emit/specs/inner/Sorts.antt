-- What a `case` and a `split` do.
use Rattle.std.specs.Prelude.{List, ◌∷◌, Option, Some, None, ℕ, slice_index_or, ◌==◌, if◌then◌else◌}
use Rattle.std.specs.Prelude.{◌≡◌, ◌<◌, []}
use Rattle.codex_values.specs.Value.{Value, unit, pair, inl, inr}
use Rattle.lower_emit.specs.Stands.{TextTrail, At}
use Rattle.lower_emit.specs.inner.Frames.{carrying, IsWireSlot}
use Rattle.lower_emit.specs.Layouts.{SideSlot, Layout, temporary, slot_of_side}

-- the values for which the words of a value's cell stand
abbrev pub cell_parts : Value → List (Option Value)
cell_parts unit = None ∷ None ∷ None ∷ None ∷ []
cell_parts (inl a) = Some a ∷ None ∷ None ∷ None ∷ []
cell_parts (inr a) = None ∷ Some a ∷ None ∷ None ∷ []
cell_parts (pair a b) = None ∷ None ∷ Some a ∷ Some b ∷ []

-- a part of a value, if it has that part
abbrev pub part_of_value : ℕ → Value → Option Value
part_of_value f v = slice_index_or (cell_parts v) f None

-- the first that is there
abbrev pub or_else : Option Value → Option Value → Option Value
or_else None w = w
or_else (Some v) w = Some v

-- the box is stuck at the text where the value has neither part
abbrev pub stuck_at : ℕ → Option Value → Option TextTrail
stuck_at text None = Some (At text)
stuck_at text (Some v) = None

-- the mark of a box becomes this
abbrev pub marking : ℕ → Option TextTrail → (ℕ → Option TextTrail) → ℕ → Option TextTrail
marking b mark stuck = λ j. if j == b then mark else stuck j

-- the wires after a value was sorted
abbrev pub sorted : (v : Value) (f g : ℕ) (one two both : SideSlot) → (ℕ → Option Value) → ℕ →
    Option Value
sorted v f g one two both wires =
    carrying both.wire (or_else (part_of_value f v) (part_of_value g v))
    (carrying two.wire (part_of_value g v) (carrying one.wire (part_of_value f v) wires))

-- the slots are in the frame, and those that are read later are apart
pub record CanSort (y : Layout) (x f g : ℕ) (one two both : SideSlot) (box : ℕ) : Type 0 where
  pub one_wire : IsWireSlot y one.wire
  pub two_wire : IsWireSlot y two.wire
  pub both_wire : IsWireSlot y both.wire
  pub one_inside : slot_of_side y one < y.size
  pub two_inside : slot_of_side y two < y.size
  pub both_inside : slot_of_side y both < y.size
  pub box_inside : box < y.boxes
  pub size : temporary y 4 < y.size
  pub x_inside : x < y.size
  pub f_is : f < 4
  pub g_is : g < 4
  pub x_apart : x ≡ slot_of_side y one → ⊥
  pub one_apart : slot_of_side y one ≡ slot_of_side y two → ⊥
  pub both_apart : slot_of_side y both ≡ temporary y 3 → ⊥
