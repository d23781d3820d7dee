-- A module that was read is sound, and each of its entries leads on.
use Rattle.std.specs.Prelude.{◌≡◌, ◌<◌, ℕ, IsTrue, List, [], ◌∷◌, length, slice_get, is_some, Some, Ok}
use Rattle.std.specs.List.{Contains}
use Rattle.std.proofs.Common.{arith, refl, sym, ap, subst, ◌∙◌, inl, inr, get_or}
use Rattle.std.proofs.lemmas.Bool.{cases_order}
use Rattle.std.proofs.lemmas.List.{length-map}
use Rattle.std.proofs.lemmas.Option.{slice_get_within, slice_get-get_or, get_or_from_slice_get, same_Some}
use Rattle.umix_base.specs.declared.place.Place.{Place}
use Rattle.two_d.specs.Places.{Rect, at, Before, IsFirstPlace}
use Rattle.two_d.specs.Faults.{stray}
use Rattle.two_d.specs.Reading.{The, RefusedAt, each, each_after}
use Rattle.two_d.specs.Frames.{north_entries, west_entries, one_entry_a_side}
use Rattle.two_d.specs.Ports.{Drawing}
use Rattle.two_d.specs.Wires.{Position, south, east, StartsAt, at_north, at_west}
use Rattle.two_d.specs.Clean.{ports_at, AreStarts, wire_at, IsStray, WireForm, IsWire, wires_of}
use Rattle.two_d.specs.Program.{Shows}
use Rattle.two_d.specs.Programs.{BoxForm, ModuleForm}
use Rattle.two_d.specs.Sound.{Comes, Exists, LeadsOn}
use Rattle.two_d.specs.declared.module.Origin.{Origin}
use Rattle.two_d.specs.declared.module.Origin.TheVariants.{North, West}
use Rattle.two_d.specs.declared.module.To.{To}
use Rattle.two_d.specs.Trees.{Form}
use Rattle.two_d.proofs.InOrder.{then_ok, each_gave, the_has}
use Rattle.two_d.proofs.OneWire.{IsWellDrawn, FromSouth, FromEast, from_is, one_origin}
use Rattle.two_d.proofs.Options.{some_from}
use Rattle.two_d.proofs.ReadingOrder.{Before-irreflexive}
use Rattle.two_d.proofs.SomeWires.{traces_gave, there_at}
use Rattle.module_table.proofs.StartsOne.{one_start}

-- the wires that were read, with the positions at which they begin
pub record AreBegun (m : Drawing) (wires : List WireForm) : Type 0 where
  pub starts : List Position
  pub are : AreStarts m starts
  pub long : length wires ≡ length starts
  pub each : (k : ℕ) (w : WireForm) → slice_get wires k ≡ Some w → (s : Position) × (slice_get starts k ≡ Some s) × StartsAt m s w.from

pub wires_begun : (m : Drawing) (wires : List WireForm) → wires_of m (Ok wires) → AreBegun m wires
wires_begun m wires done =
    let (us, ports, more) = then_ok (each (ports_at m) m.boxes) _ wires done in
    let (starts, read, rest) = then_ok (The (AreStarts m)) _ wires more in
    let are = the_has (AreStarts m) starts read in
    let (traces, told, others) = then_ok (each_after (wire_at m) [] starts) _ wires rest in
    let (u, no_stray, last) = then_ok (RefusedAt stray (IsFirstPlace (IsStray m traces))) (λ _. each (λ trace. The (IsWire m trace)) traces) wires others in
    let (long, each_trace) = traces_gave m starts are traces told in
    let (as_many, each_wire) = each_gave (λ trace. The (IsWire m trace)) traces wires last in
    record {
      starts = starts;
      are = are;
      long = as_many ∙ long;
      each = λ k w at_w.
          let (trace, at_trace, wired) = each_wire k w at_w in
          let (start, at_start, is_read) = each_trace k trace at_trace in
          let wire = the_has (IsWire m trace) w wired in
          let same : wire.first ≡ start = same_Some wire.first start (sym wire.is_first ∙ is_read.is.way.first) in
          (start, at_start, subst (λ s. StartsAt m s w.from) same wire.starts);
    }

wire_there : (wires : List WireForm) (w : WireForm) → Contains wires w → (k : ℕ) × (slice_get wires k ≡ Some w)
wire_there wires w (k, lt, is) = (k, slice_get-get_or wires k w lt ∙ ap (λ z. Some z) is)

there_wire : (wires : List WireForm) (w : WireForm) (k : ℕ) → slice_get wires k ≡ Some w → Contains wires w
there_wire wires w k at_w = (k, slice_get_within wires k w at_w, get_or_from_slice_get wires k w w at_w)

some_first : (xs : List ℕ) (a : ℕ) → Contains xs a → IsTrue (is_some (slice_get xs 0))
some_first [] a (k, lt, is) = absurd (omega arith)
some_first (x ∷ xs) a there = refl

first_there : (xs : List ℕ) → IsTrue (is_some (slice_get xs 0)) → (a : ℕ) × Contains xs a
first_there xs some =
    let (a, is) = some_from (slice_get xs 0) some in
    (a, (0, slice_get_within xs 0 a is, get_or_from_slice_get xs 0 a a is))

module _ (m : Drawing) (well : IsWellDrawn m) (wires : List WireForm) (begun : AreBegun m wires) where
  -- a wire begins at each start
  wire_from : (s : Position) (o : Origin) → StartsAt m s o → (end : To) × Contains wires (record { from = o; to = end })
  wire_from s o starts =
      let (k, lt, is) = (begun.are.each s).1 (o, starts) in
      let at_s = slice_get-get_or begun.starts k s lt ∙ ap (λ z. Some z) is in
      let long = begun.long in
      let (w, at_w) = there_at wires k (omega arith) in
      let (t, at_t, from) = begun.each k w at_w in
      let same : t ≡ s = same_Some t s (sym at_t ∙ at_s) in
      let origin : w.from ≡ o = one_origin m well s w.from o (subst (λ z. StartsAt m z w.from) same from) starts in
      (w.to, there_wire wires (record { from = o; to = w.to }) k (at_w ∙ ap (λ z. Some z) (by w o origin)))
    where
      by : (w : WireForm) (o : Origin) → w.from ≡ o → w ≡ (record { from = o; to = w.to })
      by w o from = λ i. record { from = from i; to = w.to }

  module _ (name : List ℕ) (commands : List Form) (s : ModuleForm) (shown : Shows m name commands wires s) where
    pub leads_on : LeadsOn s
    leads_on = record { north = north; west = west }
      where
        north : IsTrue s.north → (end : To) × Comes s North end
        north is =
            let (col, there) = first_there (north_entries m.grid m.frame) (sym shown.north ∙ is) in
            let (end, wire) = wire_from (record { place = at m.frame.top col; to = south }) North (at_north (at m.frame.top col) (refl, there)) in
            (end, (shown.wires_are North end).1 wire)

        west : IsTrue s.west → (end : To) × Comes s West end
        west is =
            let (row, there) = first_there (west_entries m.grid m.frame) (sym shown.west ∙ is) in
            let (end, wire) = wire_from (record { place = at row m.frame.left; to = east }) West (at_west (at row m.frame.left) (refl, there)) in
            (end, (shown.wires_are West end).1 wire)

    module _ (many : length commands ≡ length m.boxes) where
      box_count : length s.boxes ≡ length m.boxes
      box_count = sym (length-map s.boxes (λ (row : BoxForm). row.command)) ∙ (ap length shown.commands_are ∙ many)

      pub known : (o : Origin) (end : To) → Comes s o end → Exists s o
      known o end comes =
          let (k, at_w) = wire_there wires (record { from = o; to = end }) ((shown.wires_are o end).0 comes) in
          let (t, at_t, from) = begun.each k (record { from = o; to = end }) at_w in
          elim (from_is m t o from) [ inl (to, there) ↦ from_south t.place o there | inr (to, there) ↦ from_east t.place o there ]
        where
          from_south : (p : Place) (o : Origin) → FromSouth m p o → Exists s o
          from_south p o (inl (is, entry)) = subst (Exists s) (sym is) (shown.north ∙ some_first (north_entries m.grid m.frame) p.col entry.1)
          from_south p o (inr (i, b, is, at_b, port)) = subst (Exists s) (sym is) (let lt = slice_get_within m.boxes i b at_b in let count = box_count in omega arith)

          from_east : (p : Place) (o : Origin) → FromEast m p o → Exists s o
          from_east p o (inl (is, entry)) = subst (Exists s) (sym is) (shown.west ∙ some_first (west_entries m.grid m.frame) p.row entry.1)
          from_east p o (inr (i, b, is, at_b, port)) = subst (Exists s) (sym is) (let lt = slice_get_within m.boxes i b at_b in let count = box_count in omega arith)

    module _ (entered : one_entry_a_side m.grid m.frame (Ok tt)) (ports : (i : ℕ) (b : Rect) → slice_get m.boxes i ≡ Some b → ports_at m b (Ok tt)) where
      pub once : (o : Origin) (e f : To) → Comes s o e → Comes s o f → e ≡ f
      once o e f one other =
          let (k, at_k) = wire_there wires (record { from = o; to = e }) ((shown.wires_are o e).0 one) in
          let (j, at_j) = wire_there wires (record { from = o; to = f }) ((shown.wires_are o f).0 other) in
          let (t, at_t, from) = begun.each k (record { from = o; to = e }) at_k in
          let (u, at_u, also) = begun.each j (record { from = o; to = f }) at_j in
          let same : t.place ≡ u.place = one_start m entered ports t u o from also in
          elim (cases_order k j) [
            | inl index ↦ ap (λ (w : WireForm). w.to) (same_Some (record { from = o; to = e }) (record { from = o; to = f }) (sym at_k ∙ (ap (slice_get wires) index ∙ at_j)))
            | inr (inl less) ↦ absurd (apart k j t u less at_t at_u same)
            | inr (inr more) ↦ absurd (apart j k u t more at_u at_t (sym same))
          ]
        where
          apart : (k j : ℕ) (t u : Position) → k < j → slice_get begun.starts k ≡ Some t → slice_get begun.starts j ≡ Some u → t.place ≡ u.place → ⊥
          apart k j t u less at_t at_u same =
              let ordered = begun.are.in_order k j t less (slice_get_within begun.starts j u at_u) in
              let before : Before t.place u.place = subst (λ (z : Position). Before z.place u.place) (get_or_from_slice_get begun.starts k t t at_t)
              (subst (λ (z : Position). Before (get_or begun.starts k t).place z.place) (get_or_from_slice_get begun.starts j u t at_u) ordered) in
              Before-irreflexive u.place (subst (λ p. Before p u.place) same before)
