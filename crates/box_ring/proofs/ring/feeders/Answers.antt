use Rattle.std.proofs.Common.{refl, ap, ◌∙◌, subst, sym, arith}
use Rattle.std.proofs.lemmas.List.{length-map}
use Rattle.std.proofs.lemmas.Option.{slice_get-map, slice_get_read}
use Rattle.std.specs.Prelude.{◌≡◌, ◌<◌, length, option_map, slice_get, Some}
use Rattle.two_d.specs.Programs.{module_of, box_of}
use Rattle.box_ring.proofs.Finding.{feeds_either}
use Rattle.box_ring.proofs.ring.feeders.Goals as goal

pub returns : goal.returns
returns c a =
    let rows = c.args.module.now.boxes.items in
    let row = c.index-row.result.now in
    let lt : c.args.bx < length rows = omega (arith, c.requires, length-map rows box_of) in
    let here = slice_get_read rows (length rows) c.args.bx row refl lt c.index-row.ensures in
    feeds_either (module_of c.args.module.now) a c.args.bx (box_of row) c.feeder_of.result c.feeder_of-2.result
    (slice_get-map box_of rows c.args.bx ∙ ap (option_map box_of) here) c.feeder_of.ensures c.feeder_of-2.ensures
