-- A text has one reading, where each box has one command or one fault at a byte of its text.
use Rattle.std.specs.Prelude.{◌≡◌, ℕ, List, map, Result, Ok}
use Rattle.umix_base.specs.declared.place.Place.{Place}
use Rattle.two_d.specs.Places.{Rect}
use Rattle.two_d.specs.Faults.{TextFault}
use Rattle.two_d.specs.Reading.{The, Gave, Told, each}
use Rattle.two_d.specs.Cells.{Grid, grid_of}
use Rattle.two_d.specs.Frames.{IsFrame, frames_of, name_of}
use Rattle.two_d.specs.Boxes.{boxes_of}
use Rattle.two_d.specs.Clean.{wires_of}
use Rattle.two_d.specs.Program.{CommandOf, drawing, Shows, Drawn, module_in, placed_fault, program_of}
use Rattle.two_d.specs.Programs.{Program}
use Rattle.two_d.specs.Table.{table_of}
use Rattle.two_d.proofs.EndsApart.{wires_gave}
use Rattle.two_d.proofs.FiguresApart.{boxes_gave, frame_gave}
use Rattle.two_d.proofs.GoodTable.{table-one}
use Rattle.two_d.proofs.InOrder.{each_gave}
use Rattle.two_d.proofs.OneReading.{HasOneAnswer, then_one, then_one_of, list_one_of, told_one, the_one, gave_one, one_grid, one_list_of_frames, one_name, one_list_of_boxes}
use Rattle.two_d.proofs.OneShape.{some_shape, shape_one}
use Rattle.two_d.proofs.OneWire.{IsWellDrawn}
use Rattle.two_d.proofs.SomeGrid.{some_grid, some_list_of_frames, some_name, some_list_of_boxes}
use Rattle.two_d.proofs.SomeReading.{HasAnswer, then_some, then_some_of, list_some, list_some_of, told_some, the_some, gave_some}
use Rattle.two_d.proofs.SomeTable.{table_some}
use Rattle.two_d.proofs.SomeWires.{some_wires, one_list_of_wires}

-- the drawing of a frame of the grid and its boxes
well_drawn : (grid : Grid) (f : Rect) → (p : Place) × IsFrame grid p f → (name : List ℕ) (boxes : List Rect) → boxes_of grid f (Ok boxes) → IsWellDrawn (drawing grid f name boxes)
well_drawn grid f (p, frame) name boxes read = record { boxes = boxes_gave grid f boxes read; wide = frame.wide }

module _ (some_command : (grid : Grid) (b : Rect) → HasAnswer (CommandOf grid b)) (one_command : (grid : Grid) (b : Rect) → HasOneAnswer (CommandOf grid b)) where
  some_module : (grid : Grid) (f : Rect) → (p : Place) × IsFrame grid p f → HasAnswer (module_in grid f)
  some_module grid f frame =
      then_some (name_of grid f) _ (some_name grid f)
      (λ name. then_some_of (boxes_of grid f) _ (some_list_of_boxes grid f)
      (λ boxes read. let well = well_drawn grid f frame name boxes read in
      then_some_of (each (CommandOf grid) boxes) _ (list_some (CommandOf grid) (some_command grid) boxes)
      (λ commands told. then_some_of (wires_of (drawing grid f name boxes)) _ (some_wires (drawing grid f name boxes))
      (λ wires traced. then_some (The (Shows (drawing grid f name boxes) name commands wires)) (λ shape. Gave (record { shape = shape; frame = f; boxes = boxes }))
      (the_some (Shows (drawing grid f name boxes) name commands wires) (some_shape (drawing grid f name boxes) well wires (wires_gave (drawing grid f name boxes) wires traced) name commands (each_gave (CommandOf grid) boxes commands told).0))
      (λ shape. gave_some (record { shape = shape; frame = f; boxes = boxes }))))))

  one_module : (grid : Grid) (f : Rect) → (p : Place) × IsFrame grid p f → HasOneAnswer (module_in grid f)
  one_module grid f frame =
      then_one (name_of grid f) _ (one_name grid f)
      (λ name. then_one_of (boxes_of grid f) _ (one_list_of_boxes grid f)
      (λ boxes read. let well = well_drawn grid f frame name boxes read in
      then_one (each (CommandOf grid) boxes) _ (list_one_of (CommandOf grid) boxes (λ b there. one_command grid b))
      (λ commands. then_one (wires_of (drawing grid f name boxes)) _ (one_list_of_wires (drawing grid f name boxes) well)
      (λ wires. then_one (The (Shows (drawing grid f name boxes) name commands wires)) (λ shape. Gave (record { shape = shape; frame = f; boxes = boxes }))
      (the_one (Shows (drawing grid f name boxes) name commands wires) (shape_one (drawing grid f name boxes) name commands wires))
      (λ shape. gave_one (record { shape = shape; frame = f; boxes = boxes }))))))

  some_program : (text : List ℕ) → HasAnswer (program_of text)
  some_program text =
      then_some (grid_of text) _ (some_grid text)
      (λ grid. then_some_of (frames_of grid) _ (some_list_of_frames grid)
      (λ frames read. then_some (each (module_in grid) frames) (λ modules. Told (placed_fault modules) (table_of (map (λ (m : Drawn). m.shape) modules)))
      (list_some_of (module_in grid) frames (λ f there. some_module grid f (frame_gave grid frames read f there)))
      (λ modules. told_some (placed_fault modules) (table_of (map (λ (m : Drawn). m.shape) modules)) (table_some (map (λ (m : Drawn). m.shape) modules)))))

  one_program : (text : List ℕ) → HasOneAnswer (program_of text)
  one_program text =
      then_one (grid_of text) _ (one_grid text)
      (λ grid. then_one_of (frames_of grid) _ (one_list_of_frames grid)
      (λ frames read. then_one (each (module_in grid) frames) (λ modules. Told (placed_fault modules) (table_of (map (λ (m : Drawn). m.shape) modules)))
      (list_one_of (module_in grid) frames (λ f there. one_module grid f (frame_gave grid frames read f there)))
      (λ modules. told_one (placed_fault modules) (table_of (map (λ (m : Drawn). m.shape) modules)) (table-one (map (λ (m : Drawn). m.shape) modules)))))

  pub one_reading : (text : List ℕ) → (r : Result Program TextFault) × program_of text r × ((s : Result Program TextFault) → program_of text s → r ≡ s)
  one_reading text = let (r, is) = some_program text in (r, is, λ s also. one_program text r s is also)
