-- A drawing with all kinds of wires.
use Rattle.std.specs.Prelude.{◌≡◌, [], ◌∷◌, Some, None, false, true, codes}
use Rattle.std.proofs.Common.{refl}
use Rattle.two_d.specs.Programs.{ModuleForm}
use Rattle.two_d.specs.declared.module.Origin.TheVariants as from
use Rattle.two_d.specs.Trees as tree
use Rattle.two_d.specs.Trees.{send, split, call}
use Rattle.two_d.specs.declared.command.Side.TheVariants.{E, S}
use Rattle.grid_picture.specs.Lined.{lined}
use Rattle.grid_draw.specs.Layout.{drawing_of}

-- N and W of one box, S and E of one, an exit without a wire
first_module : ModuleForm
first_module = record {
  name = codes "main";
  north = false;
  west = false;
  boxes = record {
    command = send ((tree.unit, S) ∷ (tree.inl tree.unit, E) ∷ []);
    n = None;
    w = None;
  }
      ∷ record {
        command = call (codes "a_name_of_thirty_two_bytes_here_");
        n = Some (from.South 0);
        w = Some (from.East 0);
      } ∷ [];
  exits = Some (from.East 1) ∷ None ∷ [];
}

-- both entries, a crossing, a name that is longer than the boxes reach
other_module : ModuleForm
other_module = record {
  name = codes "a_name_of_thirty_two_bytes_here_";
  north = true;
  west = true;
  boxes = record {
    command = send ((tree.n, E) ∷ (tree.w, S) ∷ []);
    n = Some from.North;
    w = Some from.West;
  }
      ∷ record { command = send []; n = Some (from.East 0); w = None }
      ∷ record {
        command = split (tree.pair tree.w tree.unit);
        n = None;
        w = Some (from.South 0);
      } ∷ [];
  exits = None ∷ Some (from.South 2) ∷ Some (from.East 2) ∷ [];
}

-- it is drawn so
drawn : drawing_of (first_module ∷ other_module ∷ []) ≡ lined
    (codes ",.................................................,"
    ∷ codes ":main                                             :"
    ∷ codes ":                                                 :"
    ∷ codes ":                                                 :"
    ∷ codes ":                                                 :"
    ∷ codes ":                                                 :"
    ∷ codes ":   *========================*                    :"
    ∷ codes ":   !send [((),S),(Inl (),E)]!----------------+   :"
    ∷ codes ":   *========================*                |   :"
    ∷ codes ":    |                                        |   :"
    ∷ codes ":    +--------------------------------------+ |   :"
    ∷ codes ": +-----------------------------------------#-+   :"
    ∷ codes ": |  +--------------------------------------+     :"
    ∷ codes ": |  v                                            :"
    ∷ codes ": | *====================================*        :"
    ∷ codes ": +>!use a_name_of_thirty_two_bytes_here_!------+ :"
    ∷ codes ":   *====================================*      | :"
    ∷ codes ":                                               | :"
    ∷ codes ":                                               | :"
    ∷ codes ":                                               +--"
    ∷ codes ":                                                 -"
    ∷ codes "'.................................................'"
    ∷ codes ",..................................|...........,"
    ∷ codes ":a_name_of_thirty_two_bytes_here_  |           :"
    ∷ codes "-----------------------------------#-+         :"
    ∷ codes ": +--------------------------------#-+         :"
    ∷ codes ": |  +-----------------------------+           :"
    ∷ codes ": |  v                                         :"
    ∷ codes ": | *==================*                       :"
    ∷ codes ": +>!send [(N,E),(W,S)]!---------------+       :"
    ∷ codes ":   *==================*               |       :"
    ∷ codes ":    |                                 |       :"
    ∷ codes ":    +---------------------------------#-+     :"
    ∷ codes ":                                      | |     :"
    ∷ codes ":    +---------------------------------+ |     :"
    ∷ codes ":    v                                   |     :"
    ∷ codes ":   *=======*                            |     :"
    ∷ codes ":   !send []!                            |     :"
    ∷ codes ":   *=======*                            |     :"
    ∷ codes ":                                        |     :"
    ∷ codes ":                                        |     :"
    ∷ codes ": +--------------------------------------+     :"
    ∷ codes ": |                                            :"
    ∷ codes ": |                                            :"
    ∷ codes ": | *============*                             :"
    ∷ codes ": +>!split (W,())!---------------------------+ :"
    ∷ codes ":   *============*                           | :"
    ∷ codes ":    |                                       | :"
    ∷ codes ":    +-------------------------------------+ | :"
    ∷ codes ":                                          | | -"
    ∷ codes ":                                          +-#--"
    ∷ codes ":                                            +--"
    ∷ codes "'..............................................'"
    ∷ [])
unfolding first_module other_module
drawn = refl
