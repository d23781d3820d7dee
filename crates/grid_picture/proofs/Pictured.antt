-- A module that is drawn in a frame is the module that is read there.
use Rattle.std.specs.Prelude.{◌≡◌, ◌↔◌, List, length, map, slice_get, is_some, Ok}
use Rattle.std.specs.List.{Contains}
use Rattle.std.proofs.Common.{refl}
use Rattle.two_d.specs.Places.{Rect}
use Rattle.two_d.specs.Cells.{Grid}
use Rattle.two_d.specs.Reading.{goes_on, gave, it, found, each}
use Rattle.two_d.specs.Frames.{IsNameOf, north_entries, west_entries, exits_of}
use Rattle.two_d.specs.Boxes.{box_kind}
use Rattle.two_d.specs.Program.{CommandOf, drawing, module_in}
use Rattle.two_d.specs.Programs.{BoxForm, ModuleForm}
use Rattle.two_d.specs.Sound.{Comes}
use Rattle.two_d.specs.declared.module.Origin.{Origin}
use Rattle.two_d.specs.declared.module.To.{To}
use Rattle.grid_picture.proofs.Figured.{AreFigures, figures_read, boxes_proper}
use Rattle.grid_picture.proofs.Laid.{Route, AreLaid, wires_read}

-- The frame shows the module: its name, its entries and exits, its boxes with their commands, its wires on these routes.
pub record IsPictured (grid : Grid) (f : Rect) (s : ModuleForm) (boxes : List Rect) (routes : List Route) : Type 0 where
  pub named : IsNameOf grid f s.name
  pub figures : AreFigures (box_kind grid f) boxes
  pub commands : each (CommandOf grid) boxes (Ok (map (λ (row : BoxForm). row.command) s.boxes))
  pub laid : AreLaid (drawing grid f s.name boxes) routes
  pub north : s.north ≡ is_some (slice_get (north_entries grid f) 0)
  pub west : s.west ≡ is_some (slice_get (west_entries grid f) 0)
  pub exits : length s.exits ≡ length (exits_of grid f)
  pub wires : (o : Origin) (end : To) → Comes s o end ↔ Contains (map (λ (r : Route). r.wire) routes) (record { from = o; to = end })

pub module_read : (grid : Grid) (f : Rect) (s : ModuleForm) (boxes : List Rect) (routes : List Route) → IsPictured grid f s boxes routes
    → module_in grid f (Ok (record { shape = s; frame = f; boxes = boxes }))
module_read grid f s boxes routes is =
    let (wires, traced, same) = wires_read (drawing grid f s.name boxes) routes is.laid in
    goes_on s.name (found s.name is.named)
    (goes_on boxes (figures_read (box_kind grid f) (boxes_proper grid f) boxes is.figures)
    (goes_on (map (λ (row : BoxForm). row.command) s.boxes) is.commands
    (goes_on wires traced
    (goes_on s (it s (record {
      named = refl;
      north = is.north;
      west = is.west;
      commands_are = refl;
      exits = is.exits;
      wires_are = λ o end. (
        (λ comes. (same (record { from = o; to = end })).1 ((is.wires o end).0 comes)),
        (λ there. (is.wires o end).1 ((same (record { from = o; to = end })).0 there)),
      );
    })) gave))))
