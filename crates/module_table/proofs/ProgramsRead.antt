-- What is known of the modules of a text that was read: each is sound and leads on, they are few, and their weight is at most the text's bytes.
use Rattle.std.specs.Prelude.{◌≡◌, ◌+◌, ◌*◌, ◌<◌, ◌≤◌, ◌^◌, ℕ, zero, suc, List, [], ◌∷◌, length, map, slice_get, Some, Result, Ok, All}
use Rattle.std.specs.Str.Lines.{lines}
use Rattle.std.proofs.Common.{arith, refl, sym, ap, subst, get_or}
use Rattle.std.proofs.lemmas.Option.{slice_get_within, slice_get-get_or, get_or_from_slice_get}
use Rattle.two_d.specs.Places.{Rect, corner_of, IsLeast, at}
use Rattle.two_d.specs.Cells.{Grid, grid_of, IsBadByte, IsTooLong, place_at}
use Rattle.two_d.specs.Faults.{no_name, too_long, bad_byte, line_too_long}
use Rattle.two_d.specs.Frames.{IsFrame, IsNameOf, name_of, first_inner, frames_of, one_entry_a_side}
use Rattle.two_d.specs.Boxes.{boxes_of}
use Rattle.two_d.specs.Clean.{WireForm, wires_of}
use Rattle.two_d.specs.Reading.{Reading, Gave, The, Told, went, failed, Then, Refused, RefusedAt, each}
use Rattle.two_d.specs.Program.{CommandOf, drawing, Shows, Drawn, module_in, placed_fault, program_of}
use Rattle.two_d.specs.Programs.{BoxForm, ModuleForm, Program}
use Rattle.two_d.specs.Names.{IsName}
use Rattle.two_d.specs.Sound.{IsSound, LeadsOn}
use Rattle.two_d.specs.Trees.{Form, IsWithin}
use Rattle.two_d.specs.Table.{table_of}
use Rattle.two_d.specs.inner.TableParts.{uses_of, cycles_of}
use Rattle.two_d.specs.Weights.{boxes_part, part, weight}
use Rattle.two_d.proofs.Alls.{all_mapped, all_of_mapped}
use Rattle.two_d.proofs.EndsApart.{wires_gave}
use Rattle.two_d.proofs.FiguresApart.{boxes_gave}
use Rattle.two_d.proofs.GoodTable.{not_so, table_parts}
use Rattle.two_d.proofs.InOrder.{then_ok, gave_is, the_has, each_gave}
use Rattle.two_d.proofs.OneWire.{IsWellDrawn}
use Rattle.two_d.proofs.Passed.{frames_entered}
use Rattle.two_d.proofs.Shown.{written_within}
use Rattle.module_table.proofs.Sums.{added}
use Rattle.module_table.proofs.TextWeight.{lines_added}
use Rattle.module_table.proofs.FiguresRead.{found_is, AreFrames, frames_gave}
use Rattle.module_table.proofs.ProgramWeight.{command_is, modules_cells, frames_cells}
use Rattle.module_table.proofs.ReadModules.{AreBegun, wires_begun, leads_on, known, once}

-- the grid of a text is its lines, and the text isn't long
pub grid_gave : (text : List ℕ) (grid : Grid) → grid_of text (Ok grid) → (grid ≡ lines text) × (length text ≤ 262144)
grid_gave text grid done =
    let (u, short, more) = then_ok (Refused too_long (262144 < length text)) _ grid done in
    let (v, printable, rest) = then_ok (RefusedAt (λ i. bad_byte (place_at text i)) (IsLeast (IsBadByte text))) _ grid more in
    let (w, narrow, last) = then_ok (RefusedAt (λ i. line_too_long (at (i + 1) 4097)) (IsLeast (IsTooLong (lines text)))) (λ _. Gave (lines text)) grid rest in
    ((let e = gave_is (lines text) (Ok grid) last in cc), by (not_so too_long (262144 < length text) (Ok u) short refl))
  where
    by : (262144 < length text → ⊥) → length text ≤ 262144
    by not_long = omega arith

-- the drawing of a module that was read
pub record IsReadModule (grid : Grid) (f : Rect) (d : Drawn) : Type 0 where
  pub name : List ℕ
  pub boxes : List Rect
  pub commands : List Form
  pub wires : List WireForm
  pub named : IsNameOf grid f name
  pub read : boxes_of grid f (Ok boxes)
  pub told : each (CommandOf grid) boxes (Ok commands)
  pub traced : wires_of (drawing grid f name boxes) (Ok wires)
  pub shows : Shows (drawing grid f name boxes) name commands wires d.shape

pub module_read : (grid : Grid) (f : Rect) (d : Drawn) → module_in grid f (Ok d) → IsReadModule grid f d
module_read grid f d done =
    let (name, named, more) = then_ok (name_of grid f) _ d done in
    let (boxes, read, rest) = then_ok (boxes_of grid f) _ d more in
    let (commands, told, others) = then_ok (each (CommandOf grid) boxes) _ d rest in
    let (wires, traced, last) = then_ok (wires_of (drawing grid f name boxes)) _ d others in
    let (shape, shows, given) = then_ok (The (Shows (drawing grid f name boxes) name commands wires)) (λ shape. Gave (record { shape = shape; frame = f; boxes = boxes })) d last in
    let e = gave_is (record { shape = shape; frame = f; boxes = boxes }) (Ok d) given in
    let same : d ≡ (record { shape = shape; frame = f; boxes = boxes }) = cc in
    record {
      name = name;
      boxes = boxes;
      commands = commands;
      wires = wires;
      named = found_is (no_name (first_inner f)) (IsNameOf grid f) name named;
      read = read;
      told = told;
      traced = traced;
      shows = subst (Shows (drawing grid f name boxes) name commands wires) (sym (ap (λ (x : Drawn). x.shape) same)) (the_has (Shows (drawing grid f name boxes) name commands wires) shape shows);
    }

boxes_few : (rows : List BoxForm) → 8 * length rows ≤ boxes_part rows
boxes_few [] = omega arith
boxes_few (row ∷ rows) = let rest = boxes_few rows in omega arith

module _ (grid : Grid) (f : Rect) (frame : IsFrame grid (corner_of f) f) (entered : one_entry_a_side grid f (Ok tt)) (d : Drawn) (is : IsReadModule grid f d) where
  well : IsWellDrawn (drawing grid f is.name is.boxes)
  well = record { boxes = boxes_gave grid f is.boxes is.read; wide = frame.wide }

  pub module_leads_on : LeadsOn d.shape
  module_leads_on = leads_on (drawing grid f is.name is.boxes) well is.wires (wires_begun (drawing grid f is.name is.boxes) is.wires is.traced) is.name is.commands d.shape is.shows

  commands_within : All IsWithin is.commands
  commands_within = λ k c lt.
      let (long, each_command) = each_gave (CommandOf grid) is.boxes is.commands is.told in
      let (b, at_b, told) = each_command k (get_or is.commands k c) (slice_get-get_or is.commands k c lt) in
      written_within _ (get_or is.commands k c) (command_is grid b (get_or is.commands k c) told)

  pub module_sound : part d.shape ≤ 262144 → IsSound d.shape
  module_sound light = record {
    named = subst IsName (sym is.shows.named) is.named.valid;
    known = known (drawing grid f is.name is.boxes) well is.wires begun is.name is.commands d.shape is.shows (each_gave (CommandOf grid) is.boxes is.commands is.told).0;
    once = once (drawing grid f is.name is.boxes) well is.wires begun is.name is.commands d.shape is.shows entered (wires_gave (drawing grid f is.name is.boxes) is.wires is.traced).ports;
    commands = all_of_mapped (λ (row : BoxForm). row.command) IsWithin d.shape.boxes (subst (All IsWithin) (sym is.shows.commands_are) commands_within);
    few_boxes = (let few = boxes_few d.shape.boxes in omega arith);
    few_exits = omega arith;
  }
    where
      begun : AreBegun (drawing grid f is.name is.boxes) is.wires
      begun = wires_begun (drawing grid f is.name is.boxes) is.wires is.traced

part_le : (ms : Program) (k : ℕ) (m : ModuleForm) → slice_get ms k ≡ Some m → part m ≤ weight ms
part_le [] k m at_m = absurd (cc)
part_le (n ∷ ms) zero m at_m = let same : n ≡ m = cc in let e = ap part same in omega arith
part_le (n ∷ ms) (suc k) m at_m = let rest = part_le ms k m at_m in omega arith

modules_few_of : (ms : Program) → length ms ≤ weight ms
modules_few_of [] = omega arith
modules_few_of (m ∷ ms) = let rest = modules_few_of ms in omega arith

abbrev pub shapes : List Drawn → Program
shapes ds = map (λ (d : Drawn). d.shape) ds

module _ (text : List ℕ) (grid : Grid) (fs : List Rect) (ds : List Drawn) (gridded : grid_of text (Ok grid)) (framed : frames_of grid (Ok fs)) (read : each (module_in grid) fs (Ok ds)) where
  are : AreFrames grid fs
  are = frames_gave grid fs framed

  pub modules_weight : weight (shapes ds) ≤ length text
  modules_weight =
      let modules = modules_cells grid fs ds are.frames read in
      let frames = frames_cells grid fs are in
      let (same, short) = grid_gave text grid gridded in
      let long : added length grid ≡ added length (lines text) = ap (added length) same in
      let lines = lines_added text in
      omega arith

  -- each module with its frame
  pub module_from : (k : ℕ) (d : Drawn) → slice_get ds k ≡ Some d → (f : Rect) × IsFrame grid (corner_of f) f × one_entry_a_side grid f (Ok tt) × IsReadModule grid f d
  module_from k d at_d =
      let (f, at_f, done) = (each_gave (module_in grid) fs ds read).1 k d at_d in
      let entered = frames_entered grid fs framed k f (slice_get_within fs k f at_f) in
      (f, are.frames k f at_f, subst (λ g. one_entry_a_side grid g (Ok tt)) (get_or_from_slice_get fs k f f at_f) entered, module_read grid f d done)

  pub modules_sound : All IsSound (shapes ds)
  modules_sound = all_mapped (λ (d : Drawn). d.shape) IsSound ds (λ k d lt.
      let at_d = slice_get-get_or ds k d lt in
      let (f, frame, entered, is) = module_from k (get_or ds k d) at_d in
      module_sound grid f frame entered (get_or ds k d) is (light k (get_or ds k d) at_d))
    where
      shape_at : (es : List Drawn) (k : ℕ) (d : Drawn) → slice_get es k ≡ Some d → slice_get (shapes es) k ≡ Some d.shape
      shape_at [] k d at_d = absurd (cc)
      shape_at (e ∷ es) zero d at_d = let same : e ≡ d = cc in ap (λ (x : Drawn). Some x.shape) same
      shape_at (e ∷ es) (suc k) d at_d = shape_at es k d at_d

      light : (k : ℕ) (d : Drawn) → slice_get ds k ≡ Some d → part d.shape ≤ 262144
      light k d at_d =
          let one = part_le (shapes ds) k d.shape (shape_at ds k d at_d) in
          let all = modules_weight in
          let (same, short) = grid_gave text grid gridded in
          omega arith

  pub modules_few : length (shapes ds) < 2 ^ 32
  modules_few = let few = modules_few_of (shapes ds) in let all = modules_weight in let (same, short) = grid_gave text grid gridded in omega arith

  pub modules_lead_on : All LeadsOn (shapes ds)
  modules_lead_on = all_mapped (λ (d : Drawn). d.shape) LeadsOn ds (λ k d lt.
      let (f, frame, entered, is) = module_from k (get_or ds k d) (slice_get-get_or ds k d lt) in
      module_leads_on grid f frame entered (get_or ds k d) is)

-- what is told in another way is the same where nothing is wrong
pub told_ok : {F G A : Type 0} (tell : F → G) (m : Reading F A) (x : A) → Told tell m (Ok x) → m (Ok x)
told_ok {G} {A} tell m x done = by (Ok x) done refl
  where
    by : (r : Result A G) → Told tell m r → r ≡ Ok x → m (Ok x)
    by _ (went y is) e = let same : y ≡ x = cc in subst (λ z. m (Ok z)) same is
    by _ (failed f is) e = absurd (cc)

table_is : (P Q : Program) → table_of P (Ok Q) → Q ≡ P
table_is P Q done =
    let (u, uses, rest) = then_ok (uses_of P) (λ _. Then (cycles_of P) (λ _. Gave P)) Q (table_parts P (Ok Q) done) in
    let (v, rings, last) = then_ok (cycles_of P) (λ _. Gave P) Q rest in
    (let e = gave_is P (Ok Q) last in cc)

pub program_read : (text : List ℕ) (P : Program) → program_of text (Ok P) → (weight P ≤ length text) × All LeadsOn P
program_read text P done =
    let (grid, gridded, more) = then_ok (grid_of text) _ P done in
    let (fs, framed, rest) = then_ok (frames_of grid) _ P more in
    let (ds, read, last) = then_ok (each (module_in grid) fs) (λ modules. Told (placed_fault modules) (table_of (map (λ (m : Drawn). m.shape) modules))) P rest in
    let same = table_is (shapes ds) P (told_ok (placed_fault ds) (table_of (shapes ds)) P last) in
    subst (λ Q. (weight Q ≤ length text) × All LeadsOn Q) (sym same) (modules_weight text grid fs ds gridded framed read, modules_lead_on text grid fs ds gridded framed read)
