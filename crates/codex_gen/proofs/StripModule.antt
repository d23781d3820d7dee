-- A strip shows its module.
use Rattle.std.specs.Prelude.{◌≡◌, ◌+◌, ◌-◌, ◌<◌, ℕ, zero, suc, Bool, true, false, cond, List, [], ◌∷◌, length, map, slice_get, Some, None, is_some, Ok}
use Rattle.std.specs.List.{Contains}
use Rattle.std.proofs.Common.{arith, refl, sym, ap, subst, ◌∙◌, get_or}
use Rattle.std.proofs.lemmas.Option.{slice_get_within, slice_get-get_or, same_Some}
use Rattle.two_d.specs.Places.{Rect}
use Rattle.two_d.specs.Cells.{Grid}
use Rattle.two_d.specs.Clean.{WireForm}
use Rattle.two_d.specs.Programs.{BoxForm, ModuleForm}
use Rattle.two_d.specs.Sound.{Comes}
use Rattle.two_d.specs.Trees.{Form}
use Rattle.two_d.specs.declared.module.Origin.{Origin}
use Rattle.two_d.specs.declared.module.Origin.TheVariants as origin
use Rattle.two_d.specs.declared.module.To.{To}
use Rattle.two_d.specs.declared.module.To.TheVariants as to_
use Rattle.two_d.proofs.MapLists.{map_contains, contains_map}
use Rattle.grid_picture.specs.Courses.{Course}
use Rattle.grid_picture.proofs.Laid.{Route}
use Rattle.grid_picture.proofs.Courses.{route, courses_laid}
use Rattle.grid_picture.proofs.Pictured.{IsPictured, module_read}
use Rattle.grid_picture.proofs.Stacked.{Stands}
use Rattle.codex_gen.specs.inner.Strips.{source, rows_from, strip_module}
use Rattle.two_d.specs.Program.{CommandOf}
use Rattle.two_d.specs.Reading.{each}
use Rattle.codex_gen.proofs.BoxRow.{HasBoxes, boxes_from, length-boxes_from}
use Rattle.codex_gen.proofs.Strip.{IsStrip, frame_of, framed, corner, entered, named, alone, north_none, west_is, exits_are}
use Rattle.codex_gen.proofs.StripBoxes.{Spell, nothing, text_of, boxes_figures, commands_read}
use Rattle.codex_gen.proofs.StripWires.{eastward, strip_courses, IsCourseOf, entry, on, out, which, is_there, strip_wires, m}

pub row_at : (w : Bool) (k : ℕ) (commands : List Form) (i n : ℕ) (row : BoxForm) → slice_get (rows_from w k commands) i ≡ Some row → n ≡ k + i → (row.n ≡ None) × (row.w ≡ source w n)
row_at w k [] i n row at_i e = absurd (cc)
row_at w k (c ∷ cs) zero n row at_i e =
    let same : (record { command = c; n = None; w = source w k }) ≡ row = same_Some (record { command = c; n = None; w = source w k }) row at_i in
    let number : k ≡ n = omega arith in
    (sym (ap (λ (z : BoxForm). z.n) same), sym (ap (λ (z : BoxForm). z.w) same) ∙ ap (source w) number)
row_at w k (c ∷ cs) (suc i) n row at_i e = row_at w (suc k) cs i n row at_i (omega arith)

pub row_there : (w : Bool) (k : ℕ) (commands : List Form) (i n : ℕ) → i < length commands → n ≡ k + i → (row : BoxForm) × (slice_get (rows_from w k commands) i ≡ Some row) × (row.w ≡ source w n)
row_there w k [] i n lt e = absurd (omega arith)
row_there w k (c ∷ cs) zero n lt e = (record { command = c; n = None; w = source w k }, refl, ap (source w) (by e))
  where
    by : n ≡ k + 0 → k ≡ n
    by e = omega arith
row_there w k (c ∷ cs) (suc i) n lt e = row_there w (suc k) cs i n (omega arith) (omega arith)

commands_of : (w : Bool) (k : ℕ) (commands : List Form) → map (λ (row : BoxForm). row.command) (rows_from w k commands) ≡ commands
commands_of w k [] = refl
commands_of w k (c ∷ cs) = ap (λ l. c ∷ l) (commands_of w (suc k) cs)

pub long_rows : (w : Bool) (k : ℕ) (commands : List Form) → length (rows_from w k commands) ≡ length commands
long_rows w k [] = refl
long_rows w k (c ∷ cs) = ap suc (long_rows w (suc k) cs)

spell_long : (texts : List (List ℕ)) (commands : List Form) → Spell texts commands → length texts ≡ length commands
spell_long _ _ nothing = refl
spell_long _ _ (text_of {texts = texts} {forms = forms} is more) = ap suc (spell_long texts forms more)

module _ (grid : Grid) (t right : ℕ) (name : List ℕ) (west : Bool) (texts : List (List ℕ)) (is : IsStrip grid t right name west texts) (commands : List Form) (spell : Spell texts commands) where
  abbrev boxes : List Rect
  boxes = boxes_from t 3 texts

  abbrev s : ModuleForm
  s = strip_module name west commands

  abbrev cs : List Course
  cs = strip_courses west (t + 3) boxes

  abbrev wires : List WireForm
  wires = map (λ (r : Route). r.wire) (map route cs)

  long : length boxes ≡ length commands
  long = length-boxes_from t 3 texts ∙ spell_long texts commands spell

  wire_there : (c : Course) → IsCourseOf west (t + 3) boxes c → Contains wires c.wire
  wire_there c whose = contains_map (λ (r : Route). r.wire) (map route cs) (route c) (contains_map route cs c (is_there west (t + 3) boxes c whose))

  box_at_number : (k : ℕ) → k < length commands → (b : Rect) × (slice_get boxes k ≡ Some b)
  box_at_number k lt = let l = long in (get_or boxes k (frame_of t right), slice_get-get_or boxes k (frame_of t right) (omega arith))

  some_command : (us : List (List ℕ)) (cs : List Form) → Spell us cs → HasBoxes grid t right 3 us → 0 < length cs
  some_command _ _ nothing h = elim h [ ]
  some_command _ _ (text_of {forms = forms} x more) h = omega arith

  from_comes : (o : Origin) (end : To) → Comes s o end → Contains wires (record { from = o; to = end })
  from_comes o (to_.N b) (row, at_b, comes) = absurd (let (no_n, w_is) = row_at west 0 commands b b row at_b (omega arith) in let e : Some o ≡ None = sym comes ∙ no_n in cc)
  from_comes o (to_.W b) (row, at_b, comes) =
      let (no_n, w_is) = row_at west 0 commands b b row at_b (omega arith) in
      let lt = slice_get_within (rows_from west 0 commands) b row at_b in
      let n = long_rows west 0 commands in
      by west refl b (sym comes ∙ w_is) (omega arith)
    where
      by : (v : Bool) → west ≡ v → (b : ℕ) → Some o ≡ source v b → b < length commands → Contains wires (record { from = o; to = to_.W b })
      by true with_entry zero e lt =
          let same : o ≡ origin.West = same_Some o origin.West e in
          subst (λ z. Contains wires (record { from = z; to = to_.W 0 })) (sym same) (wire_there (eastward (t + 3) 1 1 origin.West (to_.W 0)) (entry with_entry refl))
      by false without zero e lt = absurd (cc)
      by v any (suc b) e lt =
          let same : o ≡ origin.East b = same_Some o (origin.East b) (by_source v e) in
          let (one, at_one) = box_at_number b (omega arith) in
          let (next, at_next) = box_at_number (suc b) lt in
          subst (λ z. Contains wires (record { from = z; to = to_.W (suc b) })) (sym same) (wire_there (eastward (t + 3) (one.right + 1) 1 (origin.East b) (to_.W (suc b))) (on b one next at_one at_next refl))
        where
          by_source : (v : Bool) → Some o ≡ source v (suc b) → Some o ≡ Some (origin.East b)
          by_source true e = e
          by_source false e = e
  from_comes o (to_.Exit zero) comes =
      let same : origin.East (length commands - 1) ≡ o = same_Some (origin.East (length commands - 1)) o (same_Some (Some (origin.East (length commands - 1))) (Some o) comes) in
      let (one, at_one) = box_at_number (length commands - 1) (let k = some_command texts commands spell is.boxes in omega arith) in
      let l = long in
      let k = some_command texts commands spell is.boxes in
      subst (λ z. Contains wires (record { from = z; to = to_.Exit 0 })) same
      (wire_there (eastward (t + 3) (one.right + 1) 0 (origin.East (length commands - 1)) (to_.Exit 0)) (out (length commands - 1) one at_one (omega arith) refl))
  from_comes o (to_.Exit (suc i)) comes = absurd (cc)

  to_comes : (o : Origin) (end : To) → Contains wires (record { from = o; to = end }) → Comes s o end
  to_comes o end there =
      let (r, r_there, wire) = map_contains (λ (r : Route). r.wire) (map route cs) (record { from = o; to = end }) there in
      let (c, c_there, same) = map_contains route cs r r_there in
      let w : c.wire ≡ (record { from = o; to = end }) = ap (λ (z : Route). z.wire) same ∙ wire in
      subst (λ (z : WireForm). Comes s z.from z.to) w (by c (which west (t + 3) boxes c c_there))
    where
      by : (c : Course) → IsCourseOf west (t + 3) boxes c → Comes s c.wire.from c.wire.to
      by c (entry with_entry same) = subst (λ (z : Course). Comes s z.wire.from z.wire.to) same
          (let (row, at_row, w_is) = row_there west 0 commands 0 0 (some_command texts commands spell is.boxes) (omega arith) in (row, at_row, w_is ∙ ap (λ v. source v 0) with_entry))
      by c (on k b d at_k at_more same) = subst (λ (z : Course). Comes s z.wire.from z.wire.to) same
          (let lt = slice_get_within boxes (suc k) d at_more in let l = long in
          let (row, at_row, w_is) = row_there west 0 commands (suc k) (suc k) (omega arith) (omega arith) in (row, at_row, w_is ∙ by_source west))
        where
          by_source : (v : Bool) → source v (suc k) ≡ Some (origin.East k)
          by_source true = refl
          by_source false = refl
      by c (out k b at_k long_k same) = subst (λ (z : Course). Comes s z.wire.from z.wire.to) same
          (let l = long in let n : length commands - 1 ≡ k = omega arith in ap (λ i. Some (Some (origin.East i))) n)

  pictured : IsPictured grid (frame_of t right) s boxes (map route cs)
  pictured = record {
    named = named grid t right name west texts is;
    figures = boxes_figures grid t right name west texts is;
    commands = subst (λ l. each (CommandOf grid) boxes (Ok l)) (sym (commands_of west 0 commands)) (commands_read grid t right name west texts is commands spell);
    laid = courses_laid (m grid t right name west texts is) cs (strip_wires grid t right name west texts is);
    north = ap (λ l. is_some (slice_get l 0)) (sym (north_none grid t right name west texts is));
    west = by west ∙ ap (λ l. is_some (slice_get l 0)) (sym (west_is grid t right name west texts is));
    exits = ap length (sym (exits_are grid t right name west texts is));
    wires = λ o end. (from_comes o end, to_comes o end);
  }
    where
      by : (w : Bool) → w ≡ is_some (slice_get (cond w ((t + 3) ∷ []) []) 0)
      by true = refl
      by false = refl

  -- the strip stands in the lines after these many
  pub stands : (above : ℕ) → t ≡ above + 1 → Stands grid above 6 s
  stands above e = record {
    frame = frame_of t right;
    boxes = boxes;
    top = e;
    bottom = omega arith;
    framed = framed grid t right name west texts is;
    entered = entered grid t right name west texts is;
    corner = corner grid t right name west texts is;
    alone = λ p c below within. alone grid t right name west texts is p c (omega arith) (omega arith);
    read = module_read grid (frame_of t right) s boxes (map route cs) pictured;
  }
