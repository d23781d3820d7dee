-- What a map of definitions keeps.
use Rattle.std.specs.Prelude.{◌≡◌, ℕ, nat_eq, Bool, ◌&&◌, List, [], ◌∷◌, Option, Some, None}
use Rattle.std.specs.HashMap.{HashMap, get_by}
use Rattle.std.specs.Option.{option_eq, option_or}
use Rattle.std.specs.Str.{bytes_eq}
use Rattle.std.specs.declared.hash.FoldHasher.{FoldHasher}
use Rattle.std.specs.declared.hash.BuildHasherDefault.{BuildHasherDefault}
use Rattle.um_asm.specs.declared.labels.Definition.{Definition}
use Rattle.um_asm.specs.declared.labels.Name.{Name}
use Rattle.um_asm.specs.declared.position.Block.{Block}
use Rattle.um_asm.specs.declared.line.Line.TheVariants.{Code, End}
use Rattle.um_asm.specs.Scopes.{Said, Named, scope_of, place_in_block, lookup}
use Rattle.um_asm.specs.Assembly.{NameMeaning}

-- definitions under names
abbrev pub Definitions : Type 0
Definitions = HashMap Name Definition (BuildHasherDefault FoldHasher)

-- whether a key is this name in this scope
abbrev pub is_key_of : Option ℕ → List ℕ → Name → Bool
is_key_of scope name key = option_eq nat_eq scope key.scope && bytes_eq name key.text.now

-- what a name stands for
abbrev pub meaning_in : Definitions → NameMeaning
meaning_in definitions scope name = get_by (is_key_of scope name) definitions

-- new has these definitions too, where old has no definition of their names
abbrev pub Adds : (old new : Definitions) → List Named → Type 0
Adds old new named =
    (scope : Option ℕ) (name : List ℕ)
    → meaning_in new scope name ≡ option_or (meaning_in old scope name) (lookup named scope name)

-- a name with its definition
abbrev pub named_by : Name → Definition → Named
named_by name definition = record { scope = name.scope; name = name.text.now; definition = definition }

-- what is known behind a line: its label, or the block that ends there
abbrev pub known_by : (number : ℕ) → Option (Block (List ℕ)) → (place : ℕ) → Said → List Named
known_by number block place (Some (Code (Some label) statement)) =
    record {
      scope = scope_of block;
      name = label;
      definition = record {
        line = number;
        place = place_in_block block place;
        length = None;
      };
    } ∷ []
known_by number (Some block) place (Some End) =
    record {
      scope = None;
      name = block.name;
      definition = record {
        line = block.begun;
        place = block.first;
        length = Some (place_in_block (Some block) place);
      };
    } ∷ []
known_by number block place _ = []
