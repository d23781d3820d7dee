-- Where the lines of a text stand, and what its labels stand for.
use Rattle.std.specs.Prelude.{ℕ, ◌+◌, ◌-◌, nat_eq, Bool, true, false, ◌&&◌, if◌then◌else◌, List, []}
use Rattle.std.specs.Prelude.{◌∷◌, Option, Some, None}
use Rattle.std.specs.List.{list_any, find, flat_map}
use Rattle.std.specs.Option.{option_map, option_eq}
use Rattle.std.specs.Str.{bytes_eq}
use Rattle.um_asm.specs.declared.line.Line.{Line}
use Rattle.um_asm.specs.declared.line.Line.TheVariants.{Code, Array, End}
use Rattle.um_asm.specs.declared.position.Block.{Block}
use Rattle.um_asm.specs.declared.labels.Definition.{Definition}
use Rattle.um_asm.specs.Lines.{size_of}

-- what a line says, if it is of the forms of a line
abbrev pub Said : Type 0
Said = Option (Line (List ℕ))

-- a line where it stands: its number from 1; its block, if it stands in one; how many words of the
-- scroll come before it; what it says there; and how many words come between it and the next `.end`
pub record PlacedLine : Type 0 where
  pub number : ℕ
  pub block : Option (Block (List ℕ))
  pub place : ℕ
  pub line : Said
  pub until_end : ℕ

abbrev pub is_end : Said → Bool
is_end (Some End) = true
is_end _ = false

-- whether a block before these lines is ended
abbrev pub is_ended : List Said → Bool
is_ended lines = list_any is_end lines

-- the words of these lines up to the next `.end`
abbrev pub words_until_end : List Said → ℕ
words_until_end [] = 0
words_until_end (line ∷ lines) = if is_end line then 0 else size_of line + words_until_end lines

-- what a line says in its block, before these lines: blocks don't stand in one another, `.end` stands
-- in a block, and a block is ended
abbrev pub in_block : Option (Block (List ℕ)) → Said → List Said → Said
in_block None (Some (Array name)) lines = if is_ended lines then Some (Array name) else None
in_block None (Some End) lines = None
in_block (Some block) (Some (Array name)) lines = None
in_block block line lines = line

-- the block of the line after this one: also a block that isn't ended has lines
abbrev pub block_after : (number place : ℕ) → Option (Block (List ℕ)) → Said → Option (Block (List ℕ))
block_after number place None (Some (Array name)) = Some (record { name = name; begun = number; first = place })
block_after number place (Some block) (Some End) = None
block_after number place block line = block

-- lines that follow others: the number of the first, its block, and how many words come before it
abbrev pub standing : (number : ℕ) → Option (Block (List ℕ)) → (place : ℕ) → List Said → List PlacedLine
standing number block place [] = []
standing number block place (line ∷ lines) =
    record {
      number = number;
      block = block;
      place = place;
      line = in_block block line lines;
      until_end = words_until_end lines;
    }
    ∷ standing (number + 1) (block_after number place block line) (place + size_of line) lines

-- the lines of a text
abbrev pub all_standing : List Said → List PlacedLine
all_standing lines = standing 1 None 0 lines

-- a block by its line, or none outside blocks
abbrev pub scope_of : Option (Block (List ℕ)) → Option ℕ
scope_of block = option_map (λ b. b.begun) block

-- a place in the scroll, counted from the first word of the block
abbrev pub place_in_block : Option (Block (List ℕ)) → ℕ → ℕ
place_in_block None place = place
place_in_block (Some block) place = place - block.first

-- a label or the name of a block, with the scope in which it is defined
pub record Named : Type 0 where
  pub scope : Option ℕ
  pub name : List ℕ
  pub definition : Definition

-- a label stands for the place of the next word, and a block's name for the place of its first word
abbrev pub defined_by : PlacedLine → Said → List Named
defined_by s (Some (Code (Some label) statement)) =
    record {
      scope = scope_of s.block;
      name = label;
      definition = record {
        line = s.number;
        place = place_in_block s.block s.place;
        length = None;
      };
    } ∷ []
defined_by s (Some (Array name)) =
    record {
      scope = None;
      name = name;
      definition = record {
        line = s.number;
        place = s.place;
        length = Some s.until_end;
      };
    } ∷ []
defined_by s _ = []

abbrev pub defined_at : PlacedLine → List Named
defined_at s = defined_by s s.line

-- all that the lines define, in order
abbrev pub definitions : List PlacedLine → List Named
definitions lines = flat_map defined_at lines

-- whether this is a definition of that name in that scope
abbrev pub defines : Option ℕ → List ℕ → Named → Bool
defines scope name d = option_eq nat_eq d.scope scope && bytes_eq d.name name

-- the first definition of a name in a scope, which counts for every line
abbrev pub lookup : List Named → Option ℕ → List ℕ → Option Definition
lookup named scope name = option_map (λ d. d.definition) (find (defines scope name) named)
