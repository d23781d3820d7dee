-- The parts of a module's reading, as its code goes through them.
use Rattle.std.specs.Prelude.{◌≡◌, ◌+◌, ◌-◌, ◌*◌, ◌<◌, ℕ, List, length, map, Ok, Err, Option, Some, None, All}
use Rattle.std.specs.Option.{option_map}
use Rattle.std.proofs.Common.{arith, sym, ap, subst, ◌∙◌}
use Rattle.umix_base.specs.declared.place.Place.{Place}
use Rattle.two_d.specs.Boxes.{boxes_of}
use Rattle.two_d.specs.Cells.{Grid}
use Rattle.two_d.specs.Clean.{WireForm, wires_of}
use Rattle.two_d.specs.Faults.{TextFault, number_and_place}
use Rattle.two_d.specs.Frames.{name_of, exits_of}
use Rattle.two_d.specs.Places.{Rect}
use Rattle.two_d.specs.Program.{CommandOf, drawing, Drawn, module_in, placed_fault}
use Rattle.two_d.specs.Programs.{ModuleForm, Program, box_of, modules_of}
use Rattle.two_d.specs.Reading.{Reading, Refuses, went, failed, goes_on, it, gave, faults_mapped, each}
use Rattle.two_d.specs.Table.{Wrong, table_of}
use Rattle.two_d.specs.Trees.{Form}
use Rattle.two_d.specs.declared.module.BoxRow.{BoxRow}
use Rattle.two_d.specs.declared.module.Module.{Module}
use Rattle.two_d.proofs.FiguresApart.{boxes_gave}
use Rattle.two_d.proofs.InOrder.{each_gave}
use Rattle.two_d.proofs.OneWire.{IsWellDrawn}
use Rattle.grid_reader.specs.Boxes.{box_rect, HasTextOf, IsBoxOf}
use Rattle.grid_reader.specs.Frames.{rect_of, IsFrameOf}
use Rattle.grid_reader.specs.declared.box_frame.BoxFrame.{BoxFrame}
use Rattle.grid_reader.specs.declared.frame.Frame.{Frame}
use Rattle.module_table.specs.inner.Drawings.{AreBare, AreEndsApart, IsBuilt, IsRoomy, placed_reading}
use Rattle.module_table.proofs.Building.{built_shows, read_ends, bare_many}
use Rattle.module_table.proofs.Telling.{refuses_as, refuses_told, refuses_whole}
use Rattle.module_table.proofs.TextWeight.{text_long}

-- a fault of a part, told, is one of the whole
pub part_refused : {A B : Type 0} (o : Option TextFault) (told : Option (ℕ × Option Place)) (m : Reading TextFault A) (w : Reading TextFault B) → ((f : TextFault) → m (Err f) → w (Err f)) → told ≡ option_map number_and_place o → Refuses m o
    → Refuses (faults_mapped number_and_place w) told
part_refused o told m w through same h =
    refuses_as (faults_mapped number_and_place w) (option_map number_and_place o) told same (refuses_whole number_and_place (option_map number_and_place o) m w through (refuses_told number_and_place o m h))

-- a fault in a command, told
pub command_refused : (grid : Grid) (b : Rect) (f : TextFault) (told : Option (ℕ × Option Place)) → told ≡ Some (number_and_place f) → CommandOf grid b (Err f) → Refuses (faults_mapped number_and_place (CommandOf grid b)) told
command_refused grid b f told same is = subst (Refuses (faults_mapped number_and_place (CommandOf grid b))) (sym same) (failed f is)

-- a box that was read has room for its text
pub roomy_boxes : (grid : Grid) (f : Rect) (bs : List BoxFrame) → All (IsBoxOf grid f) bs → All IsRoomy bs
roomy_boxes grid f bs all = λ k d lt. by _ (all k d lt)
  where
    by : (b : BoxFrame) → IsBoxOf grid f b → IsRoomy b
    by b is = record { wide = is.borders.wide; high = is.borders.high; room = room }
      where
        room : length b.text.items < (b.bottom - b.top - 1) * (b.right - b.left)
        room =
            let long = text_long grid (box_rect b) is.borders.high in
            let same = ap length is.text in
            let wide = is.borders.wide in
            let n : b.right - b.left - 1 + 1 ≡ b.right - b.left = omega arith in
            let whole : length b.text.items + 1 ≡ (b.bottom - b.top - 1) * (b.right - b.left) = ap (λ l. l + 1) same ∙ (long ∙ ap (λ w. (b.bottom - b.top - 1) * w) n) in
            omega arith

pub text_boxes : (grid : Grid) (f : Rect) (bs : List BoxFrame) → All (IsBoxOf grid f) bs → All (HasTextOf grid) bs
text_boxes grid f bs all = λ k d lt. (all k d lt).text

module _ (grid : Grid) (frame : Frame) (shown : IsFrameOf grid frame) (name : List ℕ) (boxes : List Rect) (read : boxes_of grid (rect_of frame) (Ok boxes)) (commands : List Form) (told : each (CommandOf grid) boxes (Ok commands))
    (rows : List BoxRow) (bares : AreBare rows commands) (wires : List WireForm) (traced : wires_of (drawing grid (rect_of frame) name boxes) (Ok wires)) where
  pub ends_of_module : AreEndsApart (length rows) (length frame.exits.items) wires
  ends_of_module =
      let well : IsWellDrawn (drawing grid (rect_of frame) name boxes) = record { boxes = boxes_gave grid (rect_of frame) boxes read; wide = shown.borders.wide } in
      let (many, each_command) = each_gave (CommandOf grid) boxes commands told in
      subst (λ e. AreEndsApart (length rows) e wires) (sym (ap length shown.exits))
      (subst (λ b. AreEndsApart b (length (exits_of grid (rect_of frame))) wires) (sym (bare_many rows commands bares)) (read_ends (drawing grid (rect_of frame) name boxes) well wires traced name commands many))

  -- the module that was built is that of the frame
  pub module_gave : name_of grid (rect_of frame) (Ok name) → (m : ModuleForm) → IsBuilt frame name (map box_of rows) wires m → module_in grid (rect_of frame) (Ok (record { shape = m; frame = rect_of frame; boxes = boxes }))
  module_gave named m built =
      goes_on name named (goes_on boxes read (goes_on commands told (goes_on wires traced
      (goes_on m (it m (built_shows grid frame shown name boxes rows commands bares wires m built)) gave))))

-- what the table of modules that were read gives
pub table_gave : (modules : List Module) (ds : List Drawn) (P : Program) → modules_of modules ≡ map (λ (d : Drawn). d.shape) ds → table_of (modules_of modules) (Ok P) → placed_reading ds (Ok P)
table_gave modules ds P same is = went P (went P (subst (λ Q. table_of Q (Ok P)) same is))

pub table_refused : (modules : List Module) (ds : List Drawn) (o : Option Wrong) (told : Option (ℕ × Option Place)) → modules_of modules ≡ map (λ (d : Drawn). d.shape) ds
    → told ≡ option_map (λ wrong. number_and_place (placed_fault ds wrong)) o → Refuses (table_of (modules_of modules)) o → Refuses (placed_reading ds) told
table_refused modules ds None told same is h = subst (Refuses (placed_reading ds)) (sym is) tt
table_refused modules ds (Some w) told same is h =
    subst (Refuses (placed_reading ds)) (sym is) (failed (placed_fault ds w) (failed w (subst (λ Q. table_of Q (Err w)) same h)))
