use Rattle.std.proofs.Common.{◌≤◌, refl, inl, arith}
use Rattle.um_image.proofs.Points.{none_by_word}
use Rattle.um_image.proofs.reading.read_array.Goals as goal

pub returns-then-size-room-clause-fault : goal.returns-then-size-room-clause-fault
returns-then-size-room-clause-fault c =
    inl (record {
      place = refl;
      none = none_by_word c.args.bytes.now c.args.at c.in-Some.size (λ size. size ≤ c.args.room) c.in-Some.ensures
          (λ le. (let gt = c.if-size-room.true in omega (arith, le, gt)));
    })
