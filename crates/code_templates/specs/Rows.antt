-- The words of a filled template, and the operators that they say.
use Rattle.std.specs.Prelude.{◌≡◌, ℕ, ◌+◌, ◌*◌, ◌/◌, ◌^◌, ◌<◌, List, map}
use Rattle.std.specs.Prelude.{slice_index, Option, Some, None}
use Rattle.um_word.specs.declared.op.Op.{Op}
use Rattle.um_word.specs.declared.op.Op.TheVariants.{Set}
use Rattle.um_word.specs.Operators.{decode_word}
use Rattle.code_templates.specs.declared.template.Hole.{Hole}
use Rattle.code_templates.specs.declared.template.Hole.TheVariants.{Empty, Value}
use Rattle.code_templates.specs.declared.template.Row.{Row}

-- bits 0 to 24 become the hole's value
abbrev pub filled_by : Hole → ℕ → List ℕ → ℕ
filled_by Empty word values = word
filled_by (Value number) word values = word / 2 ^ 25 * 2 ^ 25 + slice_index values number

-- the word of a row with these values in the holes
abbrev pub filled : List ℕ → Row → ℕ
filled values row = filled_by row.hole row.word values

-- a hole's number is below 8, and its value is below 2 ^ 25
abbrev pub FitsHole : Hole → List ℕ → Type 0
FitsHole Empty values = Unit {0}
FitsHole (Value number) values = (number < 8) × (slice_index values number < 2 ^ 25)

-- the row's hole has a number below 8, and its value is below 2 ^ 25
abbrev pub HoleFits : List ℕ → Row → Type 0
HoleFits values row = FitsHole row.hole values

-- what a row says whose own word decodes to this
abbrev pub row_said : Hole → Option Op → List ℕ → Option Op
row_said Empty op values = op
row_said (Value number) (Some (Set a value)) values = Some (Set a (slice_index values number))
row_said (Value number) _ values = None

-- the operator that a row says with these values in the holes; a hole is that of an Orthography
abbrev pub says : List ℕ → Row → Option Op
says values row = row_said row.hole (decode_word row.word) values

-- with these values in the holes, the rows say these operators
abbrev pub Say : List Row → List ℕ → List Op → Type 0
Say rows values ops = map (says values) rows ≡ map Some ops

-- a hole's number is below 8
abbrev pub IsNumber : Hole → Type 0
IsNumber Empty = Unit {0}
IsNumber (Value number) = number < 8

-- the row's hole has a number below 8
abbrev pub HoleIsNumbered : Row → Type 0
HoleIsNumbered row = IsNumber row.hole
