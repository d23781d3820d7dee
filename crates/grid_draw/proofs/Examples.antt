-- A module of one box and one exit, drawn.
use Rattle.std.specs.Prelude.{◌≡◌, [], ◌∷◌, Some, None, false, codes}
use Rattle.std.proofs.Common.{refl}
use Rattle.two_d.specs.Programs.{ModuleForm}
use Rattle.two_d.specs.declared.module.Origin.TheVariants.{East}
use Rattle.two_d.specs.Trees.{unit, send}
use Rattle.two_d.specs.declared.command.Side.TheVariants.{E}
use Rattle.grid_picture.specs.Lined.{lined}
use Rattle.grid_draw.specs.Layout.{drawing_of}

-- one box that sends, one exit
one_box : ModuleForm
one_box = record {
  name = codes "main";
  north = false;
  west = false;
  boxes = record { command = send ((unit, E) ∷ []); n = None; w = None } ∷ [];
  exits = Some (East 0) ∷ [];
}

-- it is drawn so
drawn : drawing_of (one_box ∷ []) ≡ lined
    (codes ",......................,"
    ∷ codes ":main                  :"
    ∷ codes ":                      :"
    ∷ codes ":                      :"
    ∷ codes ":                      :"
    ∷ codes ":                      :"
    ∷ codes ":   *=============*    :"
    ∷ codes ":   !send [((),E)]!--+ :"
    ∷ codes ":   *=============*  | :"
    ∷ codes ":                    | :"
    ∷ codes ":                    | :"
    ∷ codes ":                    +--"
    ∷ codes "'......................'"
    ∷ [])
unfolding one_box
drawn = refl
