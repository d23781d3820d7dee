-- The origin stands at the end of the wire, and nothing else has changed.
use Rattle.std.specs.Prelude.{◌<◌, map, length}
use Rattle.std.proofs.lemmas.List.{map-set}
use Rattle.two_d.specs.Programs.{box_of}
use Rattle.module_table.proofs.Building.{connects_n, connects_w, connects_exit}
use Rattle.module_table.proofs.Telling.{mapped_there}
use Rattle.module_table.proofs.shape.connect.Goals as goal

pub returns-in-N : goal.returns-in-N
returns-in-N c =
    let rows = c.args.boxes.now.items in
    let b = c.in-N.number in
    let lt : b < length rows = rw c.in-N.is at c.requires in
    rw (c.in-N.is, map-set box_of rows b)
    (connects_n c.args.wire.now.from (map box_of rows) c.args.exits.now.items b (box_of c.index_mut.result.now) (mapped_there box_of rows b c.index_mut.result.now lt c.index_mut.ensures.value))

pub returns-in-W : goal.returns-in-W
returns-in-W c =
    let rows = c.args.boxes.now.items in
    let b = c.in-W.number in
    let lt : b < length rows = rw c.in-W.is at c.requires in
    rw (c.in-W.is, map-set box_of rows b)
    (connects_w c.args.wire.now.from (map box_of rows) c.args.exits.now.items b (box_of c.index_mut-in-W.result.now) (mapped_there box_of rows b c.index_mut-in-W.result.now lt c.index_mut-in-W.ensures.value))

pub returns-in-Exit : goal.returns-in-Exit
returns-in-Exit c =
    let i = c.in-Exit.number in
    let lt : i < length c.args.exits.now.items = rw c.in-Exit.is at c.requires in
    rw c.in-Exit.is (connects_exit c.args.wire.now.from (map box_of c.args.boxes.now.items) c.args.exits.now.items i lt)
