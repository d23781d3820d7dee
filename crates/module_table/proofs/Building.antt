-- A module is built from bare boxes by writing the origin of each wire at its end.
use Rattle.std.specs.Prelude.{◌≡◌, ◌↔◌, ◌⊎◌, ◌+◌, ◌<◌, ◌≤◌, ◌++◌, ℕ, zero, suc, List, [], ◌∷◌, length, map, slice_get, is_some, Option, Some, None, Ok}
use Rattle.std.specs.List.{Contains}
use Rattle.std.proofs.Common.{arith, refl, sym, ap, subst, ◌∙◌, inl, inr}
use Rattle.std.proofs.Math.ListN.{set, length-set}
use Rattle.std.proofs.Math.Seq.{map-set_same}
use Rattle.std.proofs.lemmas.Bool.{cases_eq, cases_lt}
use Rattle.std.proofs.lemmas.List.{length-map, map-append}
use Rattle.std.proofs.lemmas.Option.{slice_get_within, slice_get-get_or, get_or_from_slice_get, same_Some}
use Rattle.two_d.specs.Cells.{Grid}
use Rattle.two_d.specs.Clean.{WireForm, wires_of}
use Rattle.two_d.specs.Frames.{exits_of}
use Rattle.two_d.specs.Places.{Rect}
use Rattle.two_d.specs.Ports.{Drawing}
use Rattle.two_d.specs.Program.{drawing, Shows}
use Rattle.two_d.specs.Programs.{BoxForm, ModuleForm, box_of}
use Rattle.two_d.specs.Sound.{Comes}
use Rattle.two_d.specs.Trees.{Form}
use Rattle.two_d.specs.declared.module.BoxRow.{BoxRow}
use Rattle.two_d.specs.declared.module.Origin.{Origin}
use Rattle.two_d.specs.declared.module.To.{To}
use Rattle.two_d.specs.declared.module.To.TheVariants.{N, W, Exit}
use Rattle.two_d.proofs.EndsApart.{AreReadWires, ends_apart, wires_gave}
use Rattle.two_d.proofs.OneShape.{some_shape}
use Rattle.two_d.proofs.OneWire.{IsWellDrawn}
use Rattle.grid_reader.specs.Frames.{IsFrameOf, rect_of}
use Rattle.grid_reader.specs.declared.frame.Frame.{Frame}
use Rattle.module_table.specs.inner.Drawings.{bare, AreBare, IsThere, AreEndsApart, nameless, Connects, IsBuilt}

same_at : {A : Type 0} (xs ys : List A) (i : ℕ) (x : A) → xs ≡ ys → slice_get xs i ≡ Some x → slice_get ys i ≡ Some x
same_at xs ys i x same at_x = ap (λ l. slice_get l i) (sym same) ∙ at_x

-- what stands where something was written, and where not
set_here : {A : Type 0} (xs : List A) (i : ℕ) (y : A) → i < length xs → slice_get (set xs i y) i ≡ Some y
set_here [] i y lt = absurd (omega arith)
set_here (x ∷ xs) zero y lt = refl
set_here (x ∷ xs) (suc i) y lt = set_here xs i y (omega arith)

set_there : {A : Type 0} (xs : List A) (i j : ℕ) (y : A) → (j ≡ i → ⊥) → slice_get (set xs i y) j ≡ slice_get xs j
set_there [] i j y apart = refl
set_there (x ∷ xs) zero zero y apart = absurd (apart refl)
set_there (x ∷ xs) zero (suc j) y apart = refl
set_there (x ∷ xs) (suc i) zero y apart = refl
set_there (x ∷ xs) (suc i) (suc j) y apart = set_there xs i j y (λ e. apart (ap suc e))

-- an origin is written at a side of a box, or at an exit
module _ (from : Origin) (boxes : List BoxForm) (exits : List (Option Origin)) (b : ℕ) (row : BoxForm) (at_b : slice_get boxes b ≡ Some row) where
  with_n : BoxForm
  with_n = record { command = row.command; n = Some from; w = row.w }

  with_w : BoxForm
  with_w = record { command = row.command; n = row.n; w = Some from }

  pub connects_n : Connects from (N b) boxes exits (set boxes b (record { command = row.command; n = Some from; w = row.w })) exits
  unfolding with_n
  connects_n = record {
    commands = map-set_same (λ (r : BoxForm). r.command) boxes b with_n row (ap (λ (r : BoxForm). r.command) (sym (get_or_from_slice_get boxes b row row at_b)));
    as_many = refl;
    here = λ o. (
      (λ (r, at_r, is). let same : with_n ≡ r = same_Some with_n r (sym (set_here boxes b with_n lt) ∙ at_r) in let e : Some from ≡ Some o = ap (λ (x : BoxForm). x.n) same ∙ is in cc),
      (λ is. (with_n, set_here boxes b with_n lt, ap (λ z. Some z) (sym is))),
    );
    others = others;
  }
    where
      lt : b < length boxes
      lt = slice_get_within boxes b row at_b

      others : (o : Origin) (end : To) → (end ≡ N b → ⊥) → Comes (nameless (set boxes b with_n) exits) o end ↔ Comes (nameless boxes exits) o end
      others o (N c) apart = ((λ (r, at_r, is). (r, sym (set_there boxes b c with_n (λ e. apart (ap N e))) ∙ at_r, is)), (λ (r, at_r, is). (r, set_there boxes b c with_n (λ e. apart (ap N e)) ∙ at_r, is)))
      others o (W c) apart = elim (cases_eq c b) [
        | inl e ↦ (
          (λ (r, at_r, is). let same : with_n ≡ r = same_Some with_n r (sym (set_here boxes b with_n lt) ∙ (ap (slice_get (set boxes b with_n)) (sym e) ∙ at_r)) in (row, ap (slice_get boxes) e ∙ at_b, ap (λ (x : BoxForm). x.w) same ∙ is)),
          (λ (r, at_r, is). let same : row ≡ r = same_Some row r (sym at_b ∙ (ap (slice_get boxes) (sym e) ∙ at_r)) in (with_n, ap (slice_get (set boxes b with_n)) e ∙ set_here boxes b with_n lt, ap (λ (x : BoxForm). x.w) same ∙ is)),
        )
        | inr ne ↦ ((λ (r, at_r, is). (r, sym (set_there boxes b c with_n ne) ∙ at_r, is)), (λ (r, at_r, is). (r, set_there boxes b c with_n ne ∙ at_r, is)))
      ]
      others o (Exit i) apart = ((λ h. h), (λ h. h))

  pub connects_w : Connects from (W b) boxes exits (set boxes b (record { command = row.command; n = row.n; w = Some from })) exits
  unfolding with_w
  connects_w = record {
    commands = map-set_same (λ (r : BoxForm). r.command) boxes b with_w row (ap (λ (r : BoxForm). r.command) (sym (get_or_from_slice_get boxes b row row at_b)));
    as_many = refl;
    here = λ o. (
      (λ (r, at_r, is). let same : with_w ≡ r = same_Some with_w r (sym (set_here boxes b with_w lt) ∙ at_r) in let e : Some from ≡ Some o = ap (λ (x : BoxForm). x.w) same ∙ is in cc),
      (λ is. (with_w, set_here boxes b with_w lt, ap (λ z. Some z) (sym is))),
    );
    others = others;
  }
    where
      lt : b < length boxes
      lt = slice_get_within boxes b row at_b

      others : (o : Origin) (end : To) → (end ≡ W b → ⊥) → Comes (nameless (set boxes b with_w) exits) o end ↔ Comes (nameless boxes exits) o end
      others o (W c) apart = ((λ (r, at_r, is). (r, sym (set_there boxes b c with_w (λ e. apart (ap W e))) ∙ at_r, is)), (λ (r, at_r, is). (r, set_there boxes b c with_w (λ e. apart (ap W e)) ∙ at_r, is)))
      others o (N c) apart = elim (cases_eq c b) [
        | inl e ↦ (
          (λ (r, at_r, is). let same : with_w ≡ r = same_Some with_w r (sym (set_here boxes b with_w lt) ∙ (ap (slice_get (set boxes b with_w)) (sym e) ∙ at_r)) in (row, ap (slice_get boxes) e ∙ at_b, ap (λ (x : BoxForm). x.n) same ∙ is)),
          (λ (r, at_r, is). let same : row ≡ r = same_Some row r (sym at_b ∙ (ap (slice_get boxes) (sym e) ∙ at_r)) in (with_w, ap (slice_get (set boxes b with_w)) e ∙ set_here boxes b with_w lt, ap (λ (x : BoxForm). x.n) same ∙ is)),
        )
        | inr ne ↦ ((λ (r, at_r, is). (r, sym (set_there boxes b c with_w ne) ∙ at_r, is)), (λ (r, at_r, is). (r, set_there boxes b c with_w ne ∙ at_r, is)))
      ]
      others o (Exit i) apart = ((λ h. h), (λ h. h))

pub connects_exit : (from : Origin) (boxes : List BoxForm) (exits : List (Option Origin)) (i : ℕ) → i < length exits → Connects from (Exit i) boxes exits boxes (set exits i (Some from))
connects_exit from boxes exits i lt = record {
  commands = refl;
  as_many = length-set exits i (Some from);
  here = λ o. (
    (λ at_o. let e : Some from ≡ Some o = same_Some (Some from) (Some o) (sym (set_here exits i (Some from) lt) ∙ at_o) in cc),
    (λ is. set_here exits i (Some from) lt ∙ ap (λ z. Some (Some z)) (sym is)),
  );
  others = others;
}
  where
    others : (o : Origin) (end : To) → (end ≡ Exit i → ⊥) → Comes (nameless boxes (set exits i (Some from))) o end ↔ Comes (nameless boxes exits) o end
    others o (N c) apart = ((λ h. h), (λ h. h))
    others o (W c) apart = ((λ h. h), (λ h. h))
    others o (Exit j) apart = ((λ at_o. sym (set_there exits i j (Some from) (λ e. apart (ap Exit e))) ∙ at_o), (λ at_o. set_there exits i j (Some from) (λ e. apart (ap Exit e)) ∙ at_o))

-- whether two ends are one
told_ends : (a b : To) → (a ≡ b) ⊎ (a ≡ b → ⊥)
told_ends (N i) (N j) = elim (cases_eq i j) [ inl same ↦ inl (ap N same) | inr apart ↦ inr (λ e. let same : i ≡ j = cc in apart same) ]
told_ends (W i) (W j) = elim (cases_eq i j) [ inl same ↦ inl (ap W same) | inr apart ↦ inr (λ e. let same : i ≡ j = cc in apart same) ]
told_ends (Exit i) (Exit j) = elim (cases_eq i j) [ inl same ↦ inl (ap Exit same) | inr apart ↦ inr (λ e. let same : i ≡ j = cc in apart same) ]
told_ends (N i) (W j) = inr (λ e. cc)
told_ends (N i) (Exit j) = inr (λ e. cc)
told_ends (W i) (N j) = inr (λ e. cc)
told_ends (W i) (Exit j) = inr (λ e. cc)
told_ends (Exit i) (N j) = inr (λ e. cc)
told_ends (Exit i) (W j) = inr (λ e. cc)

abbrev pub wire : Origin → To → WireForm
wire o end = record { from = o; to = end }

-- the boxes and the exits after the first n wires were written
pub record AreConnected (wires : List WireForm) (commands : List Form) (so_many n : ℕ) (boxes : List BoxForm) (exits : List (Option Origin)) : Type 0 where
  pub commands_are : map (λ (row : BoxForm). row.command) boxes ≡ commands
  pub as_many : length exits ≡ so_many
  pub to : (o : Origin) (end : To) → Comes (nameless boxes exits) o end → (i : ℕ) × (i < n) × (slice_get wires i ≡ Some (wire o end))
  pub back : (o : Origin) (end : To) (i : ℕ) → i < n → slice_get wires i ≡ Some (wire o end) → Comes (nameless boxes exits) o end

commands_bare : (commands : List Form) → map (λ (row : BoxForm). row.command) (map bare commands) ≡ commands
commands_bare [] = refl
commands_bare (c ∷ cs) = ap (λ l. c ∷ l) (commands_bare cs)

bare_at : (commands : List Form) (b : ℕ) (row : BoxForm) → slice_get (map bare commands) b ≡ Some row → (row.n ≡ None) × (row.w ≡ None)
bare_at [] b row at_b = absurd (cc)
bare_at (c ∷ cs) zero row at_b = let same : bare c ≡ row = cc in (ap (λ (r : BoxForm). r.n) (sym same), ap (λ (r : BoxForm). r.w) (sym same))
bare_at (c ∷ cs) (suc b) row at_b = bare_at cs b row at_b

pub connected_none : (wires : List WireForm) (commands : List Form) (boxes : List BoxForm) (exits : List (Option Origin)) (so_many : ℕ) → boxes ≡ map bare commands → length exits ≡ so_many → ((i : ℕ) (o : Origin) → slice_get exits i ≡ Some (Some o) → ⊥)
    → AreConnected wires (map (λ (row : BoxForm). row.command) boxes) so_many 0 boxes exits
connected_none wires commands boxes exits so_many same long none = record {
  commands_are = refl;
  as_many = long;
  to = to;
  back = λ o end i lt at_i. absurd (omega arith);
}
  where
    to : (o : Origin) (end : To) → Comes (nameless boxes exits) o end → (i : ℕ) × (i < 0) × (slice_get wires i ≡ Some (wire o end))
    to o (N b) (row, at_b, is) = absurd (let (n, w) = bare_at commands b row (same_at boxes (map bare commands) b row same at_b) in cc)
    to o (W b) (row, at_b, is) = absurd (let (n, w) = bare_at commands b row (same_at boxes (map bare commands) b row same at_b) in cc)
    to o (Exit i) at_i = absurd (none i o at_i)

pub connected_more : (wires : List WireForm) (commands : List Form) (so_many n : ℕ) (boxes boxes' : List BoxForm) (exits exits' : List (Option Origin)) (w : WireForm) (room rest : ℕ) → AreEndsApart room rest wires → slice_get wires n ≡ Some w
    → AreConnected wires commands so_many n boxes exits → Connects w.from w.to boxes exits boxes' exits' → AreConnected wires commands so_many (n + 1) boxes' exits'
connected_more wires commands so_many n boxes boxes' exits exits' w room rest apart at_n are new = record {
  commands_are = new.commands ∙ are.commands_are;
  as_many = new.as_many ∙ are.as_many;
  to = to;
  back = back;
}
  where
    to : (o : Origin) (end : To) → Comes (nameless boxes' exits') o end → (i : ℕ) × (i < n + 1) × (slice_get wires i ≡ Some (wire o end))
    to o end comes = elim (told_ends end w.to) [
      | inl same ↦ (
          let from : o ≡ w.from = (new.here o).0 (subst (λ e. Comes (nameless boxes' exits') o e) same comes) in
          (n, omega arith, at_n ∙ ap (λ z. Some z) (λ i. record { from = sym from i; to = sym same i })))
      | inr other ↦ (let (i, lt, at_i) = are.to o end ((new.others o end other).0 comes) in (i, omega arith, at_i))
    ]

    back : (o : Origin) (end : To) (i : ℕ) → i < n + 1 → slice_get wires i ≡ Some (wire o end) → Comes (nameless boxes' exits') o end
    back o end i lt at_i = elim (cases_lt i n) [
      | inl low ↦ (new.others o end (λ same. apart.apart i n (wire o end) w low at_i at_n same)).1 (are.back o end i low at_i)
      | inr high ↦ (
          let last : i ≡ n = omega arith in
          let same : w ≡ wire o end = same_Some w (wire o end) (sym at_n ∙ (ap (slice_get wires) (sym last) ∙ at_i)) in
          let to : w.to ≡ end = ap (λ (v : WireForm). v.to) same in
          let from : o ≡ w.from = ap (λ (v : WireForm). v.from) (sym same) in
          subst (λ e. Comes (nameless boxes' exits') o e) to ((new.here o).1 from))
    ]

-- the ends of the wires of a drawing are there, and apart
pub read_ends : (m : Drawing) → IsWellDrawn m → (wires : List WireForm) → wires_of m (Ok wires) → (name : List ℕ) (commands : List Form) → length commands ≡ length m.boxes → AreEndsApart (length commands) (length (exits_of m.grid m.frame)) wires
read_ends m well wires traced name commands long = record {
  there = λ k w at_w. there w.from w.to (k, slice_get_within wires k w at_w, get_or_from_slice_get wires k w w at_w);
  apart = ends_apart m well wires read;
}
  where
    read : AreReadWires m wires
    read = wires_gave m wires traced

    there : (o : Origin) (end : To) → Contains wires (wire o end) → IsThere (length commands) (length (exits_of m.grid m.frame)) end
    there o end contains = by (some_shape m well wires read name commands long) end contains
      where
        by : (s : ModuleForm) × Shows m name commands wires s → (end : To) → Contains wires (wire o end) → IsThere (length commands) (length (exits_of m.grid m.frame)) end
        by (s, shows) (N b) contains = let (row, at_b, is) = (shows.wires_are o (N b)).1 contains in let lt = slice_get_within s.boxes b row at_b in let long = length-map s.boxes (λ (r : BoxForm). r.command) in let same = ap length shows.commands_are in omega arith
        by (s, shows) (W b) contains = let (row, at_b, is) = (shows.wires_are o (W b)).1 contains in let lt = slice_get_within s.boxes b row at_b in let long = length-map s.boxes (λ (r : BoxForm). r.command) in let same = ap length shows.commands_are in omega arith
        by (s, shows) (Exit i) contains = let lt = slice_get_within s.exits i (Some o) ((shows.wires_are o (Exit i)).1 contains) in let same = shows.exits in omega arith

-- what was built is what the drawing shows
pub built_shows : (grid : Grid) (frame : Frame) → IsFrameOf grid frame → (name : List ℕ) (boxes : List Rect) (rows : List BoxRow) (commands : List Form) → AreBare rows commands → (wires : List WireForm) (m : ModuleForm)
    → IsBuilt frame name (map box_of rows) wires m → Shows (drawing grid (rect_of frame) name boxes) name commands wires m
built_shows grid frame shown name boxes rows commands bares wires m built = record {
  named = built.named;
  north = built.north ∙ ap is_some shown.north;
  west = built.west ∙ ap is_some shown.west;
  commands_are = built.commands ∙ (ap (map (λ (row : BoxForm). row.command)) bares ∙ commands_bare commands);
  exits = built.exits ∙ ap length shown.exits;
  wires_are = built.wires_are;
}

comes_same : (s t : ModuleForm) → s.boxes ≡ t.boxes → s.exits ≡ t.exits → (o : Origin) (end : To) → Comes s o end → Comes t o end
comes_same s t boxes exits o (N b) (row, at_b, is) = (row, same_at s.boxes t.boxes b row boxes at_b, is)
comes_same s t boxes exits o (W b) (row, at_b, is) = (row, same_at s.boxes t.boxes b row boxes at_b, is)
comes_same s t boxes exits o (Exit i) at_i = same_at s.exits t.exits i (Some o) exits at_i

-- after all wires the module is built
pub built_whole : (frame : Frame) (name : List ℕ) (boxes : List BoxForm) (wires : List WireForm) (n : ℕ) (m : ModuleForm) → length wires ≤ n → AreConnected wires (map (λ (row : BoxForm). row.command) boxes) (length frame.exits.items) n m.boxes m.exits
    → m.name ≡ name → m.north ≡ is_some frame.north → m.west ≡ is_some frame.west → IsBuilt frame name boxes wires m
built_whole frame name boxes wires n m whole are named north west = record {
  named = named;
  north = north;
  west = west;
  commands = are.commands_are;
  exits = are.as_many;
  wires_are = λ o end. (
    (λ comes. let (i, lt, at_i) = are.to o end (comes_same m (nameless m.boxes m.exits) refl refl o end comes) in (i, slice_get_within wires i (wire o end) at_i, get_or_from_slice_get wires i (wire o end) (wire o end) at_i)),
    (λ (i, lt, is). comes_same (nameless m.boxes m.exits) m refl refl o end (are.back o end i (omega arith) (slice_get-get_or wires i (wire o end) lt ∙ ap (λ z. Some z) is))),
  );
}

-- an end is there by other numbers of boxes and exits
pub there_same : (boxes exits boxes' exits' : ℕ) (end : To) → boxes ≡ boxes' → exits ≡ exits' → IsThere boxes exits end → IsThere boxes' exits' end
there_same boxes exits boxes' exits' (N b) same also lt = omega arith
there_same boxes exits boxes' exits' (W b) same also lt = omega arith
there_same boxes exits boxes' exits' (Exit i) same also lt = omega arith

-- boxes whose commands are the same are as many
pub as_many_boxes : (rows more : List BoxForm) → map (λ (row : BoxForm). row.command) rows ≡ map (λ (row : BoxForm). row.command) more → length rows ≡ length more
as_many_boxes rows more same = sym (length-map rows (λ (row : BoxForm). row.command)) ∙ (ap length same ∙ length-map more (λ (row : BoxForm). row.command))

pub bare_more : (rows : List BoxRow) (row : BoxRow) (commands : List Form) (c : Form) → AreBare rows commands → box_of row ≡ bare c → AreBare (rows ++ row ∷ []) (commands ++ c ∷ [])
bare_more rows row commands c same one = map-append box_of rows (row ∷ []) ∙ (ap (λ l. l ++ box_of row ∷ []) same ∙ (ap (λ b. map bare commands ++ b ∷ []) one ∙ sym (map-append bare commands (c ∷ []))))

pub bare_many : (rows : List BoxRow) (commands : List Form) → AreBare rows commands → length rows ≡ length commands
bare_many rows commands same = sym (length-map rows box_of) ∙ (ap length same ∙ length-map commands bare)
