-- The box, those to which its wires lead, and then the end.
use Rattle.std.specs.Prelude.{◌≡◌, ◌<◌, ◌⊎◌, ℕ, Some, None, length, map, slice_index_or}
use Rattle.std.proofs.Common.{sym, ap, subst, ◌∙◌, arith}
use Rattle.std.proofs.lemmas.List.{get_or_read, length-map}
use Rattle.ready_marks.specs.Slots.{boxes_of, IsRightAt}
use Rattle.ready_marks.specs.Ways.{WaysForm, AreWaysOf, ways_form}
use Rattle.ready_marks.proofs.Noted.{south-there, east-there}
use Rattle.two_d.specs.Programs.{module_at}
use Rattle.two_d.specs.Steps.{Instance, instance_at}
use Rattle.fire_core.specs.inner.Changes.{AreBoxesRight, IsNear, ways_in}
use Rattle.fire_core.proofs.RightLemmas.{keeps-then, around-right, all-right, ways-read}
use Rattle.fire_core.proofs.StateLemmas.{kinds_fit}
use Rattle.fire_core.proofs.kept.renew_around.Goals as goal

pub renew_led-requires-clause-box_there : goal.renew_led-requires-clause-box_there
renew_led-requires-clause-box_there c =
    let P = c.args.program.now in
    let T = c.args.instances.now.table in
    let i = c.args.number in
    let way = ways_form c.index-ways-row.result in
    let there : (instance_at T i).kind < length P = kinds_fit P T c.modules-modules.ensures.good c.requires.state i c.requires.there in
    let kind : c.row-row.result.now.kind ≡ (instance_at T i).kind = ap (λ (x : Instance). x.kind) c.row-row.ensures.row in
    let is : way ≡ ways_in (map ways_form c.args.ways.now) T i =
    rw kind at (ways-read P c.args.ways.now c.row-row.result.now.kind c.index-ways-row.result c.requires.ways (rw kind there) c.index-ways-row.is) in
    let are : AreWaysOf (module_at P (instance_at T i).kind) way = rw is (c.requires.ways.each (instance_at T i).kind there) in
    let within : c.args.bx < length c.index-ways-row.result.south.items = omega (arith, are.south_sized, c.requires.box_there) in
    λ b leads. south-there (module_at P (instance_at T i).kind) way are c.args.bx b (sym (get_or_read c.index-ways-row.result.south.items c.args.bx c.index.result.now within c.index.ensures None) ∙ leads)

pub renew_led-requires-2-clause-box_there : goal.renew_led-requires-2-clause-box_there
renew_led-requires-2-clause-box_there c =
    let P = c.args.program.now in
    let T = c.args.instances.now.table in
    let i = c.args.number in
    let way = ways_form c.index-ways-row.result in
    let there : (instance_at T i).kind < length P = kinds_fit P T c.modules-modules.ensures.good c.requires.state i c.requires.there in
    let kind : c.row-row.result.now.kind ≡ (instance_at T i).kind = ap (λ (x : Instance). x.kind) c.row-row.ensures.row in
    let is : way ≡ ways_in (map ways_form c.args.ways.now) T i =
    rw kind at (ways-read P c.args.ways.now c.row-row.result.now.kind c.index-ways-row.result c.requires.ways (rw kind there) c.index-ways-row.is) in
    let are : AreWaysOf (module_at P (instance_at T i).kind) way = rw is (c.requires.ways.each (instance_at T i).kind there) in
    let within : c.args.bx < length c.index-ways-row.result.east.items = omega (arith, are.east_sized, c.requires.box_there) in
    λ b leads. east-there (module_at P (instance_at T i).kind) way are c.args.bx b (sym (get_or_read c.index-ways-row.result.east.items c.args.bx c.index-2.result.now within c.index-2.ensures None) ∙ leads)

pub renew_end-requires-clause-boxes : goal.renew_end-requires-clause-boxes
renew_end-requires-clause-boxes c =
    let P = c.args.program.now in
    let T = c.args.instances.now.table in
    let i = c.args.number in
    let way = ways_form c.index-ways-row.result in
    let there : (instance_at T i).kind < length P = kinds_fit P T c.modules-modules.ensures.good c.requires.state i c.requires.there in
    let kind : c.row-row.result.now.kind ≡ (instance_at T i).kind = ap (λ (x : Instance). x.kind) c.row-row.ensures.row in
    let is : way ≡ ways_in (map ways_form c.args.ways.now) T i =
    rw kind at (ways-read P c.args.ways.now c.row-row.result.now.kind c.index-ways-row.result c.requires.ways (rw kind there) c.index-ways-row.is) in
    let are : AreWaysOf (module_at P (instance_at T i).kind) way = rw is (c.requires.ways.each (instance_at T i).kind there) in
    let others = subst (λ (w : WaysForm). (d : ℕ) → d < boxes_of P T i → IsRightAt P T c.args.slots.now i d ⊎ IsNear w c.args.bx d) (sym is) c.requires.others in
    let south : c.index.result.now ≡ slice_index_or way.south c.args.bx None =
    get_or_read c.index-ways-row.result.south.items c.args.bx c.index.result.now (omega (arith, are.south_sized, c.requires.box_there)) c.index.ensures None in
    let east : c.index-2.result.now ≡ slice_index_or way.east c.args.bx None =
    get_or_read c.index-ways-row.result.east.items c.args.bx c.index-2.result.now (omega (arith, are.east_sized, c.requires.box_there)) c.index-2.ensures None in
    around-right P T c.args.slots.now c.renew_box.new.slots c.renew_led.new.slots c.renew_led-2.new.slots way i c.args.bx c.index.result.now c.index-2.result.now c.requires.there
    others south east c.renew_box.ensures.keeps c.renew_box.ensures.here c.renew_led.ensures.keeps c.renew_led.ensures.here c.renew_led-2.ensures.keeps c.renew_led-2.ensures.here

pub returns : goal.returns
returns c =
    let P = c.args.program.now in
    let T = c.args.instances.now.table in
    let i = c.args.number in
    let way = ways_form c.index-ways-row.result in
    let there : (instance_at T i).kind < length P = kinds_fit P T c.modules-modules.ensures.good c.requires.state i c.requires.there in
    let kind : c.row-row.result.now.kind ≡ (instance_at T i).kind = ap (λ (x : Instance). x.kind) c.row-row.ensures.row in
    let is : way ≡ ways_in (map ways_form c.args.ways.now) T i =
    rw kind at (ways-read P c.args.ways.now c.row-row.result.now.kind c.index-ways-row.result c.requires.ways (rw kind there) c.index-ways-row.is) in
    let are : AreWaysOf (module_at P (instance_at T i).kind) way = rw is (c.requires.ways.each (instance_at T i).kind there) in
    let others = subst (λ (w : WaysForm). (d : ℕ) → d < boxes_of P T i → IsRightAt P T c.args.slots.now i d ⊎ IsNear w c.args.bx d) (sym is) c.requires.others in
    let south : c.index.result.now ≡ slice_index_or way.south c.args.bx None =
    get_or_read c.index-ways-row.result.south.items c.args.bx c.index.result.now (omega (arith, are.south_sized, c.requires.box_there)) c.index.ensures None in
    let east : c.index-2.result.now ≡ slice_index_or way.east c.args.bx None =
    get_or_read c.index-ways-row.result.east.items c.args.bx c.index-2.result.now (omega (arith, are.east_sized, c.requires.box_there)) c.index-2.ensures None in
    let boxes : AreBoxesRight P T c.renew_led-2.new.slots i =
    around-right P T c.args.slots.now c.renew_box.new.slots c.renew_led.new.slots c.renew_led-2.new.slots way i c.args.bx c.index.result.now c.index-2.result.now c.requires.there
    others south east c.renew_box.ensures.keeps c.renew_box.ensures.here c.renew_led.ensures.keeps c.renew_led.ensures.here c.renew_led-2.ensures.keeps c.renew_led-2.ensures.here in
    record {
      keeps = keeps-then P T _ _ _ c.renew_box.ensures.keeps (keeps-then P T _ _ _ c.renew_led.ensures.keeps (keeps-then P T _ _ _ c.renew_led-2.ensures.keeps c.renew_end.ensures.keeps));
      all = all-right P T c.renew_led-2.new.slots c.renew_end.new.slots i c.requires.there boxes c.renew_end.ensures.keeps c.renew_end.ensures.here;
    }
