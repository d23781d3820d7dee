-- Some box reaches itself.
use Rattle.std.proofs.Common.{arith}
use Rattle.std.proofs.lemmas.List.{length-map}
use Rattle.two_d.specs.Programs.{module_of, box_of}
use Rattle.two_d.proofs.Rings.{reacher_there}
use Rattle.two_d.proofs.ring.first_in_ring.Goals as goal

pub unreachable-requires : goal.unreachable-requires
unreachable-requires c = c.requires.ring (λ b reaches.
    let lt = reacher_there (module_of c.args.module.now) c.requires.sound reaches in
    c.loop-number.invariant b (omega (arith, length-map c.args.module.now.boxes.items box_of)) reaches)
