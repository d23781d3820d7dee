use Rattle.std.specs.Prelude.{slice_index_or, Option, None, Result, map}
use Rattle.std.specs.Option.{option_copied, option_map}
use Rattle.std.proofs.Common.{◌≡◌, ℕ, ◌<◌, ◌≤◌, List, length, slice_get, Some, Err, sym, ◌∙◌, ap, arith, subst}
use Rattle.std.proofs.lemmas.List.{length-map, get_or_past}
use Rattle.std.proofs.lemmas.Option.{slice_get-get_or}
use Rattle.two_d.specs.declared.module.BoxRow.{BoxRow}
use Rattle.two_d.specs.declared.module.Origin.{Origin}
use Rattle.two_d.specs.Programs.{ModuleForm, box_of, module_of}
use Rattle.two_d.specs.Reading.{Gives, it, goes_on, stops, each_from}
use Rattle.two_d.specs.Sound.{IsKeptOrder}
use Rattle.type_sheet.proofs.Holes.{box_in_order}
use Rattle.two_d.proofs.TableLemmas.{goes_on_first, goes_on_next, stops_at, goes_on_end, row_there}
use Rattle.type_sheet.specs.declared.fault.At.TheVariants.{Bx, Exit}
use Rattle.type_sheet.specs.declared.fault.SheetFault.TheVariants.{Mismatch}
use Rattle.type_sheet.specs.declared.fault.SheetFault.{SheetFault}
use Rattle.type_sheet.specs.declared.line.SheetRow.{SheetRow}
use Rattle.type_sheet.specs.Said.{ModuleTypes}
use Rattle.type_sheet.specs.Said.{module_line, result_type}
use Rattle.type_sheet.specs.Wires.{wire_type, WireTypes}
use Rattle.type_sheet.specs.Sheets.{fault_of}
use Rattle.type_sheet.specs.Fits.{box_fits, boxes_fit, exits_fit, wire_fits, module_fits, want}
use Rattle.type_sheet.specs.inner.Carried.{types_in}
use Rattle.type_sheet.proofs.Ordered.{start-known, known-next, rule-same, all-known}
use Rattle.type_sheet.proofs.Wanting.{wanted-ok, wanted-err, gives-through}
use Rattle.type_sheet.proofs.fitting.check_module.Goals as goal

row_at : (rows slice : List BoxRow) → slice ≡ rows → (b : ℕ) (row : BoxRow) → b < length (map box_of rows) → row ≡ slice_index_or slice b row →
    slice_get (map box_of rows) b ≡ Some (box_of row)
row_at rows slice same b row lt is = row_there rows b row (omega (arith, lt, length-map rows box_of)) (is ∙ ap (λ l. slice_index_or l b row) same)

stopped : (rows : List SheetRow) (i : ℕ) (m : ModuleForm) (order : List ℕ) → IsKeptOrder m order → (fault : SheetFault) →
    boxes_fit rows i m order (Err fault) → module_fits rows i m (Err fault)
stopped rows i m order kept fault bad = goes_on order (it order kept) (stops fault bad)

exits_same : (r : Result (Unit {0}) SheetFault) (rows : List SheetRow) (i : ℕ) (m : ModuleForm) (types : WireTypes) (kind : Option (List ℕ)) (exits : List (Option Origin)) →
    types ≡ wire_type rows m → kind ≡ result_type rows m.name → exits ≡ m.exits →
    Gives (λ _. tt) fault_of r (each_from (λ j exit. want (Mismatch (Exit i j)) (wire_fits types exit kind)) 0 exits) →
    Gives (λ _. tt) fault_of r (exits_fit rows i m)
exits_same r rows i m types kind exits carried result same h =
    subst (λ (types : WireTypes). Gives (λ _. tt) fault_of r (each_from (λ j exit. want (Mismatch (Exit i j)) (wire_fits types exit (result_type rows m.name))) 0 m.exits)) carried
    (subst (λ (kind : Option (List ℕ)). Gives (λ _. tt) fault_of r (each_from (λ j exit. want (Mismatch (Exit i j)) (wire_fits types exit kind)) 0 m.exits)) result
    (subst (λ (exits : List (Option Origin)). Gives (λ _. tt) fault_of r (each_from (λ j exit. want (Mismatch (Exit i j)) (wire_fits types exit kind)) 0 exits)) same h))

in_order : (m : ModuleForm) (order : List ℕ) → IsKeptOrder m order → (k : ℕ) → k < length order → slice_index_or order k 0 < length m.boxes
in_order m order kept k lt = box_in_order m order kept.valid k (slice_index_or order k 0) (slice_get-get_or order k 0 lt)

pub bounds-boxes-bx : goal.bounds-boxes-bx
bounds-boxes-bx c =
    let lt = in_order (module_of c.args.module.now) c.args.order.now c.requires.kept c.loop-bx.bx-index c.loop-bx-test.true in
    omega (arith, lt, length-map c.args.module.now.boxes.items box_of, ap length c.as_slice-boxes.ensures.value)

pub tell-requires-clause-within : goal.tell-requires-clause-within
tell-requires-clause-within c = in_order (module_of c.args.module.now) c.args.order.now c.requires.kept c.loop-bx.bx-index c.loop-bx-test.true

pub tell-requires-clause-small : goal.tell-requires-clause-small
tell-requires-clause-small c =
    let lt = in_order (module_of c.args.module.now) c.args.order.now c.requires.kept c.loop-bx.bx-index c.loop-bx-test.true in
    omega (arith, lt, c.requires.few)

pub box_fits-requires-clause-within : goal.box_fits-requires-clause-within
box_fits-requires-clause-within c = in_order (module_of c.args.module.now) c.args.order.now c.requires.kept c.loop-bx.bx-index c.loop-bx-test.true

pub box_fits-requires-clause-small : goal.box_fits-requires-clause-small
box_fits-requires-clause-small c =
    let lt = in_order (module_of c.args.module.now) c.args.order.now c.requires.kept c.loop-bx.bx-index c.loop-bx-test.true in
    omega (arith, lt, c.requires.few)

pub loop-bx-init : goal.loop-bx-init
loop-bx-init c =
    let rows = c.args.declared.now.rows.now in
    let m = module_of c.args.module.now in
    record {
      room = c.in_ok-types.ensures.room;
      known = start-known rows m (types_in c.in_ok-types.types) c.in_ok-types.ensures.north c.in_ok-types.ensures.west;
      fit = goes_on_first (λ _ b. want (Mismatch (Bx c.args.number b)) (box_fits rows m b)) c.args.order.now;
    }

pub offset_bounds-boxes-bx : goal.offset_bounds-boxes-bx
offset_bounds-boxes-bx c =
    let lt = in_order (module_of c.args.module.now) c.args.order.now c.requires.kept c.loop-bx.bx-index c.loop-bx-test.true in
    omega (arith, lt, c.requires.few)

pub loop-bx-preserved : goal.loop-bx-preserved
loop-bx-preserved c =
    let rows = c.args.declared.now.rows.now in
    let m = module_of c.args.module.now in
    let order = c.args.order.now in
    let k = c.loop-bx.bx-index in
    let b = slice_index_or order k 0 in
    let at : slice_get order k ≡ Some b = slice_get-get_or order k 0 c.loop-bx-test.true in
    let there = row_at c.args.module.now.boxes.items c.as_slice-boxes.result.now c.as_slice-boxes.ensures.value b c.index-boxes-bx.result
    (in_order m order c.requires.kept k c.loop-bx-test.true) c.index-boxes-bx.is in
    let row = box_of c.index-boxes-bx.result in
    let old = types_in c.loop-bx.types in
    let new = types_in c.tell.new.self in
    record {
      room = c.tell.ensures.room;
      known = known-next rows m order c.requires.kept.valid k b at row there old new c.loop-bx.invariant.known c.tell.ensures.types;
      fit = goes_on_next (λ _ b. want (Mismatch (Bx c.args.number b)) (box_fits rows m b)) order k b at
          (wanted-ok (Mismatch (Bx c.args.number b)) (box_fits rows m b)
          (sym (rule-same rows m order c.requires.kept.valid k b at row there old new c.loop-bx.invariant.known c.tell.ensures.types) ∙ (sym c.box_fits.ensures ∙ c.if-not-box_fits.false)))
          c.loop-bx.invariant.fit;
    }

pub returns-then-not-box_fits : goal.returns-then-not-box_fits
returns-then-not-box_fits c =
    let rows = c.args.declared.now.rows.now in
    let m = module_of c.args.module.now in
    let order = c.args.order.now in
    let k = c.loop-bx.bx-index in
    let b = slice_index_or order k 0 in
    let at : slice_get order k ≡ Some b = slice_get-get_or order k 0 c.loop-bx-test.true in
    let there = row_at c.args.module.now.boxes.items c.as_slice-boxes.result.now c.as_slice-boxes.ensures.value b c.index-boxes-bx.result
    (in_order m order c.requires.kept k c.loop-bx-test.true) c.index-boxes-bx.is in
    let row = box_of c.index-boxes-bx.result in
    let old = types_in c.loop-bx.types in
    let new = types_in c.tell.new.self in
    stopped rows c.args.number m order c.requires.kept (Mismatch (Bx c.args.number b))
    (stops_at (λ _ b. want (Mismatch (Bx c.args.number b)) (box_fits rows m b)) order k b at c.loop-bx.invariant.fit (Mismatch (Bx c.args.number b))
    (wanted-err (Mismatch (Bx c.args.number b)) (box_fits rows m b)
    (sym (rule-same rows m order c.requires.kept.valid k b at row there old new c.loop-bx.invariant.known c.tell.ensures.types) ∙ (sym c.box_fits.ensures ∙ c.if-not-box_fits.true))))

pub returns : goal.returns
returns c =
    let rows = c.args.declared.now.rows.now in
    let i = c.args.number in
    let m = module_of c.args.module.now in
    let order = c.args.order.now in
    let k = c.loop-bx.bx-index in
    let past : length order ≤ k = omega (arith, c.loop-bx-test.false) in
    let known = all-known rows m order c.requires.kept.valid k past (types_in c.loop-bx.types) c.loop-bx.invariant.known
    (λ b le. ap option_copied (get_or_past c.loop-bx.types.souths.items b None (omega (arith, le, c.loop-bx.invariant.room.souths))))
    (λ b le. ap option_copied (get_or_past c.loop-bx.types.easts.items b None (omega (arith, le, c.loop-bx.invariant.room.easts)))) in
    let kind = c.result_of-result.ensures ∙ ap (option_map (λ (t : ModuleTypes). t.result)) (c.module.ensures ∙ ap (module_line rows) c.bytes.ensures.bytes) in
    let boxes = goes_on_end (λ _ b. want (Mismatch (Bx i b)) (box_fits rows m b)) order k past c.loop-bx.invariant.fit in
    gives-through c.check_exits.result (exits_fit rows i m) (module_fits rows i m)
    (λ r h. goes_on order (it order c.requires.kept) (goes_on tt boxes h))
    (exits_same c.check_exits.result rows i m (types_in c.loop-bx.types) (option_copied c.result_of-result.result) c.deref.result.now known kind c.deref.ensures.value c.check_exits.ensures)
