-- A drawing with its commands and wires shows one module.
use Rattle.std.specs.Prelude.{◌≡◌, ◌⊎◌, ◌↔◌, ◌+◌, ◌<◌, ℕ, zero, suc, List, [], ◌∷◌, length, map, slice_get, is_some, Option, Some, None}
use Rattle.std.specs.List.{Contains}
use Rattle.std.proofs.Common.{arith, refl, sym, ap, ◌∙◌, inl, inr, get_or}
use Rattle.std.proofs.lemmas.Bool.{cases_eq, cases_order}
use Rattle.std.proofs.lemmas.List.{length-map, get_or-map, same_lists}
use Rattle.std.proofs.lemmas.Option.{slice_get_within, slice_get-get_or, get_or_from_slice_get, same_Some}
use Rattle.two_d.specs.Frames.{north_entries, west_entries, exits_of}
use Rattle.two_d.specs.Ports.{Drawing}
use Rattle.two_d.specs.Clean.{WireForm}
use Rattle.two_d.specs.Program.{Shows}
use Rattle.two_d.specs.Programs.{BoxForm, ModuleForm}
use Rattle.two_d.specs.Sound.{Comes}
use Rattle.two_d.specs.Trees.{Form}
use Rattle.two_d.specs.declared.module.Origin.{Origin}
use Rattle.two_d.specs.declared.module.To.{To}
use Rattle.two_d.specs.declared.module.To.TheVariants.{N, W, Exit}
use Rattle.two_d.proofs.Decide.{Decided}
use Rattle.two_d.proofs.EndsApart.{AreReadWires, ends_apart}
use Rattle.two_d.proofs.OneReading.{IsOne}
use Rattle.two_d.proofs.OneWire.{IsWellDrawn, to_is}
use Rattle.two_d.proofs.Options.{same_option}
use Rattle.two_d.proofs.SomePorts.{decided_numbered}
use Rattle.two_d.proofs.SomeWires.{there_at}

decided_to : (a b : To) → Decided (a ≡ b)
decided_to (N i) (N j) = elim (cases_eq i j) [ inl same ↦ inl (ap N same) | inr apart ↦ inr (λ e. let same : i ≡ j = cc in apart same) ]
decided_to (W i) (W j) = elim (cases_eq i j) [ inl same ↦ inl (ap W same) | inr apart ↦ inr (λ e. let same : i ≡ j = cc in apart same) ]
decided_to (Exit i) (Exit j) = elim (cases_eq i j) [ inl same ↦ inl (ap Exit same) | inr apart ↦ inr (λ e. let same : i ≡ j = cc in apart same) ]
decided_to (N i) (W j) = inr (λ e. cc)
decided_to (N i) (Exit j) = inr (λ e. cc)
decided_to (W i) (N j) = inr (λ e. cc)
decided_to (W i) (Exit j) = inr (λ e. cc)
decided_to (Exit i) (N j) = inr (λ e. cc)
decided_to (Exit i) (W j) = inr (λ e. cc)

-- a list made of another, by number
numbered : {A B : Type 0} → (ℕ → A → B) → ℕ → List A → List B
numbered f i [] = []
numbered f i (x ∷ xs) = f i x ∷ numbered f (i + 1) xs

length_numbered : {A B : Type 0} (f : ℕ → A → B) (i : ℕ) (xs : List A) → length (numbered f i xs) ≡ length xs
unfolding numbered
length_numbered f i [] = refl
length_numbered f i (x ∷ xs) = ap suc (length_numbered f (i + 1) xs)

at_numbered : {A B : Type 0} (f : ℕ → A → B) (i : ℕ) (xs : List A) (k : ℕ) (x : A) → slice_get xs k ≡ Some x → slice_get (numbered f i xs) k ≡ Some (f (i + k) x)
unfolding numbered
at_numbered f i [] k x at = absurd (cc)
at_numbered f i (y ∷ xs) zero x at = let e : y ≡ x = cc in let n : i ≡ i + 0 = omega arith in ap (λ z. Some (f i z)) e ∙ ap (λ j. Some (f j x)) n
at_numbered f i (y ∷ xs) (suc k) x at = let n : i + 1 + k ≡ i + suc k = omega arith in at_numbered f (i + 1) xs k x at ∙ ap (λ j. Some (f j x)) n

first_numbered : {A B : Type 0} (f : ℕ → A → B) (xs : List A) (k : ℕ) (x : A) → slice_get xs k ≡ Some x → slice_get (numbered f 0 xs) k ≡ Some (f k x)
first_numbered f xs k x at = let n : 0 + k ≡ k = omega arith in at_numbered f 0 xs k x at ∙ ap (λ j. Some (f j x)) n

map_numbered : {A B : Type 0} (f : ℕ → A → B) (g : B → A) → ((i : ℕ) (x : A) → g (f i x) ≡ x) → (i : ℕ) (xs : List A) → map g (numbered f i xs) ≡ xs
unfolding numbered
map_numbered f g back i [] = refl
map_numbered f g back i (x ∷ xs) = let here = back i x in let rest = map_numbered f g back (i + 1) xs in cc (here, rest)

abbrev wire : Origin → To → WireForm
wire o end = record { from = o; to = end }

module _ (m : Drawing) (well : IsWellDrawn m) (wires : List WireForm) (read : AreReadWires m wires) where
  wire_at_place : (w : WireForm) → Contains wires w → (k : ℕ) × (slice_get wires k ≡ Some w)
  wire_at_place w (k, lt, is) = (k, slice_get-get_or wires k w lt ∙ ap (λ z. Some z) is)

  ends_once : (o q : Origin) (end : To) → Contains wires (wire o end) → Contains wires (wire q end) → o ≡ q
  ends_once o q end one other =
      let (k, at_k) = wire_at_place (wire o end) one in
      let (j, at_j) = wire_at_place (wire q end) other in
      elim (cases_order k j) [
        | inl same ↦ ap (λ (w : WireForm). w.from) (same_Some (wire o end) (wire q end) (sym at_k ∙ (ap (slice_get wires) same ∙ at_j)))
        | inr (inl less) ↦ absurd (ends_apart m well wires read k j (wire o end) (wire q end) less at_k at_j refl)
        | inr (inr more) ↦ absurd (ends_apart m well wires read j k (wire q end) (wire o end) more at_j at_k refl)
      ]

  -- where the wire to an end comes from, if there is one
  source : (end : To) → (r : Option Origin) × ((o : Origin) → (r ≡ Some o) ↔ Contains wires (wire o end))
  source end = elim (decided_numbered (λ (w : WireForm). w.to ≡ end) (λ w. decided_to w.to end) wires) [
    | inl (k, w, at, is) ↦ (
      Some w.from,
      λ o. (
        (λ e. (k, slice_get_within wires k w at, get_or_from_slice_get wires k w (wire o end) at ∙ whole w o end (same_Some w.from o e) is)),
        (λ there. ap (λ z. Some z) (ends_once w.from o end (k, slice_get_within wires k w at, get_or_from_slice_get wires k w (wire w.from end) at ∙ whole w w.from end refl is) there)),
      ),
    )
    | inr none ↦ (None, λ o. ((λ e. absurd (cc)), (λ there. let (k, at) = wire_at_place (wire o end) there in absurd (none (k, wire o end, at, refl)))))
  ]
    where
      whole : (w : WireForm) (o : Origin) (end : To) → w.from ≡ o → w.to ≡ end → w ≡ wire o end
      whole w o end from to = λ i. record { from = from i; to = to i }

  -- a wire's end is in the module
  box_there : (o : Origin) (i : ℕ) (end : To) → (end ≡ N i) ⊎ (end ≡ W i) → Contains wires (wire o end) → i < length m.boxes
  box_there o i end is there =
      let (k, at_k) = wire_at_place (wire o end) there in
      let (trace, at_trace, its) = read.each_wire k (wire o end) at_k in
      elim (to_is m its.last end its.ends) [
        | inl (to, (j, b, same, at_b, port)) ↦ elim is [
          | inl is_n ↦ (let e : N i ≡ N j = sym is_n ∙ same in let index : i ≡ j = cc in let lt = slice_get_within m.boxes j b at_b in omega arith)
          | inr is_w ↦ absurd (let e : W i ≡ N j = sym is_w ∙ same in cc)
        ]
        | inr (to, those) ↦ elim those [
          | inl (j, b, same, at_b, port) ↦ elim is [
            | inl is_n ↦ absurd (let e : N i ≡ W j = sym is_n ∙ same in cc)
            | inr is_w ↦ (let e : W i ≡ W j = sym is_w ∙ same in let index : i ≡ j = cc in let lt = slice_get_within m.boxes j b at_b in omega arith)
          ]
          | inr (j, same, at_j, right) ↦ elim is [
            | inl is_n ↦ absurd (let e : N i ≡ Exit j = sym is_n ∙ same in cc)
            | inr is_w ↦ absurd (let e : W i ≡ Exit j = sym is_w ∙ same in cc)
          ]
        ]
      ]

  exit_there : (o : Origin) (i : ℕ) → Contains wires (wire o (Exit i)) → i < length (exits_of m.grid m.frame)
  exit_there o i there =
      let (k, at_k) = wire_at_place (wire o (Exit i)) there in
      let (trace, at_trace, its) = read.each_wire k (wire o (Exit i)) at_k in
      elim (to_is m its.last (Exit i) its.ends) [
        | inl (to, (j, b, same, at_b, port)) ↦ absurd (cc)
        | inr (to, those) ↦ elim those [
          | inl (j, b, same, at_b, port) ↦ absurd (cc)
          | inr (j, same, at_j, right) ↦ (let index : i ≡ j = cc in let lt = slice_get_within (exits_of m.grid m.frame) j its.last.place.row at_j in omega arith)
        ]
      ]

  row_of : ℕ → Form → BoxForm
  row_of i c = record { command = c; n = (source (N i)).0; w = (source (W i)).0 }

  exit_of : ℕ → ℕ → Option Origin
  exit_of i row = (source (Exit i)).0

  shape : List ℕ → List Form → ModuleForm
  shape name commands = record {
    name = name;
    north = is_some (slice_get (north_entries m.grid m.frame) 0);
    west = is_some (slice_get (west_entries m.grid m.frame) 0);
    boxes = numbered row_of 0 commands;
    exits = numbered exit_of 0 (exits_of m.grid m.frame);
  }

  pub some_shape : (name : List ℕ) (commands : List Form) → length commands ≡ length m.boxes → (s : ModuleForm) × Shows m name commands wires s
  unfolding row_of exit_of shape
  some_shape name commands long = (
    shape name commands,
    record {
      named = refl;
      north = refl;
      west = refl;
      commands_are = map_numbered row_of (λ (row : BoxForm). row.command) (λ i c. refl) 0 commands;
      exits = length_numbered exit_of 0 (exits_of m.grid m.frame);
      wires_are = λ o end. (to o end, from o end);
    },
  )
    where
      row_at : (b : ℕ) (row : BoxForm) → slice_get (numbered row_of 0 commands) b ≡ Some row → ((source (N b)).0 ≡ row.n) × ((source (W b)).0 ≡ row.w)
      row_at b row at =
          let lt = slice_get_within (numbered row_of 0 commands) b row at in
          let as_many = length_numbered row_of 0 commands in
          let (c, at_c) = there_at commands b (omega arith) in
          let same : row_of b c ≡ row = same_Some (row_of b c) row (sym (first_numbered row_of commands b c at_c) ∙ at) in
          (ap (λ (r : BoxForm). r.n) same, ap (λ (r : BoxForm). r.w) same)

      to : (o : Origin) (end : To) → Comes (shape name commands) o end → Contains wires (wire o end)
      to o (N b) (row, at, is) = ((source (N b)).1 o).0 ((row_at b row at).0 ∙ is)
      to o (W b) (row, at, is) = ((source (W b)).1 o).0 ((row_at b row at).1 ∙ is)
      to o (Exit i) at =
          let lt = slice_get_within (numbered exit_of 0 (exits_of m.grid m.frame)) i (Some o) at in
          let as_many = length_numbered exit_of 0 (exits_of m.grid m.frame) in
          let (row, at_row) = there_at (exits_of m.grid m.frame) i (omega arith) in
          ((source (Exit i)).1 o).0 (same_Some (exit_of i row) (Some o) (sym (first_numbered exit_of (exits_of m.grid m.frame) i row at_row) ∙ at))

      from : (o : Origin) (end : To) → Contains wires (wire o end) → Comes (shape name commands) o end
      from o (N b) there =
          let lt = box_there o b (N b) (inl refl) there in
          let (c, at_c) = there_at commands b (omega arith) in
          (row_of b c, first_numbered row_of commands b c at_c, ((source (N b)).1 o).1 there)
      from o (W b) there =
          let lt = box_there o b (W b) (inr refl) there in
          let (c, at_c) = there_at commands b (omega arith) in
          (row_of b c, first_numbered row_of commands b c at_c, ((source (W b)).1 o).1 there)
      from o (Exit i) there =
          let (row, at_row) = there_at (exits_of m.grid m.frame) i (exit_there o i there) in
          first_numbered exit_of (exits_of m.grid m.frame) i row at_row ∙ ap (λ z. Some z) (((source (Exit i)).1 o).1 there)

same_row : (r s : BoxForm) → r.command ≡ s.command → r.n ≡ s.n → r.w ≡ s.w → r ≡ s
same_row r s command n w = λ i. record { command = command i; n = n i; w = w i }

same_module : (s t : ModuleForm) → s.name ≡ t.name → s.north ≡ t.north → s.west ≡ t.west → s.boxes ≡ t.boxes → s.exits ≡ t.exits → s ≡ t
same_module s t name north west boxes exits = λ i. record { name = name i; north = north i; west = west i; boxes = boxes i; exits = exits i }

pub shape_one : (m : Drawing) (name : List ℕ) (commands : List Form) (wires : List WireForm) → IsOne (Shows m name commands wires)
shape_one m name commands wires s t one other = same_module s t (one.named ∙ sym other.named) (one.north ∙ sym other.north) (one.west ∙ sym other.west) boxes exits
  where
    over : (o : Origin) (end : To) → Comes s o end → Comes t o end
    over o end comes = (other.wires_are o end).1 ((one.wires_are o end).0 comes)

    back : (o : Origin) (end : To) → Comes t o end → Comes s o end
    back o end comes = (one.wires_are o end).1 ((other.wires_are o end).0 comes)

    commands_alike : map (λ (row : BoxForm). row.command) s.boxes ≡ map (λ (row : BoxForm). row.command) t.boxes
    commands_alike = one.commands_are ∙ sym other.commands_are

    long : length s.boxes ≡ length t.boxes
    long = sym (length-map s.boxes (λ (row : BoxForm). row.command)) ∙ (ap length commands_alike ∙ length-map t.boxes (λ (row : BoxForm). row.command))

    row_n : (u : ModuleForm) (k : ℕ) (d : BoxForm) (o : Origin) → k < length u.boxes → Comes u o (N k) → (get_or u.boxes k d).n ≡ Some o
    row_n u k d o lt (row, at, is) = ap (λ (r : BoxForm). r.n) (get_or_from_slice_get u.boxes k row d at) ∙ is

    row_w : (u : ModuleForm) (k : ℕ) (d : BoxForm) (o : Origin) → k < length u.boxes → Comes u o (W k) → (get_or u.boxes k d).w ≡ Some o
    row_w u k d o lt (row, at, is) = ap (λ (r : BoxForm). r.w) (get_or_from_slice_get u.boxes k row d at) ∙ is

    boxes : s.boxes ≡ t.boxes
    boxes = same_lists s.boxes t.boxes long (λ k d lt.
        let there : k < length t.boxes = omega (arith, lt, long) in
        same_row (get_or s.boxes k d) (get_or t.boxes k d)
        (sym (get_or-map (λ (row : BoxForm). row.command) s.boxes k d d.command lt) ∙ (ap (λ l. get_or l k d.command) commands_alike ∙ get_or-map (λ (row : BoxForm). row.command) t.boxes k d d.command there))
        (same_option (get_or s.boxes k d).n (get_or t.boxes k d).n
        (λ o is. row_n t k d o there (over o (N k) (get_or s.boxes k d, slice_get-get_or s.boxes k d lt, is)))
        (λ o is. row_n s k d o lt (back o (N k) (get_or t.boxes k d, slice_get-get_or t.boxes k d there, is))))
        (same_option (get_or s.boxes k d).w (get_or t.boxes k d).w
        (λ o is. row_w t k d o there (over o (W k) (get_or s.boxes k d, slice_get-get_or s.boxes k d lt, is)))
        (λ o is. row_w s k d o lt (back o (W k) (get_or t.boxes k d, slice_get-get_or t.boxes k d there, is)))))

    exits : s.exits ≡ t.exits
    exits = same_lists s.exits t.exits (one.exits ∙ sym other.exits) (λ k d lt.
        let there : k < length t.exits = omega (arith, lt, one.exits, other.exits) in
        same_option (get_or s.exits k d) (get_or t.exits k d)
        (λ o is. get_or_from_slice_get t.exits k (Some o) d (over o (Exit k) (slice_get-get_or s.exits k d lt ∙ ap (λ z. Some z) is)))
        (λ o is. get_or_from_slice_get s.exits k (Some o) d (back o (Exit k) (slice_get-get_or t.exits k d there ∙ ap (λ z. Some z) is))))
