-- The module that a strip shows.
use Rattle.std.specs.Prelude.{ℕ, ◌-◌, zero, suc, Bool, true, false, List, [], ◌∷◌, length, Option}
use Rattle.std.specs.Prelude.{Some, None}
use Rattle.two_d.specs.Programs.{BoxForm, ModuleForm}
use Rattle.two_d.specs.Trees.{Form}
use Rattle.two_d.specs.declared.module.Origin.{Origin}
use Rattle.two_d.specs.declared.module.Origin.TheVariants.{West, East}

-- From where the wire to the west side of a box comes: of the first from the entry, if there is one,
-- of each other from the box before.
abbrev pub source : Bool → ℕ → Option Origin
source true zero = Some West
source false zero = None
source west (suc b) = Some (East b)

-- the boxes of these commands, numbered from b on
abbrev pub rows_from : Bool → ℕ → List Form → List BoxForm
rows_from west b [] = []
rows_from west b (c ∷ cs) =
    record { command = c; n = None; w = source west b } ∷ rows_from west (suc b) cs

-- boxes with these commands, each wired to the next, the last to the one exit
abbrev pub strip_module : List ℕ → Bool → List Form → ModuleForm
strip_module name west commands = record {
  name = name;
  north = false;
  west = west;
  boxes = rows_from west 0 commands;
  exits = Some (East (length commands - 1)) ∷ [];
}
