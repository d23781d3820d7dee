use Rattle.std.proofs.Common.{[], refl, arith}
use Rattle.um_image.proofs.Points.{none_by_end, none_by_word}
use Rattle.um_image.proofs.Places.{bad}
use Rattle.um_image.proofs.Stops.{IsMark, first_goes_on}
use Rattle.um_image.proofs.reading.read_mark.Goals as goal

pub returns-in_default-clause-fault : goal.returns-in_default-clause-fault
returns-in_default-clause-fault c =
    bad [] IsMark first_goes_on c.args.bytes.now 0 refl (omega arith) (none_by_end c.args.bytes.now 0 IsMark c.in_default.ensures)

pub returns-then-mark-ne-IMAGE_MARK-clause-fault : goal.returns-then-mark-ne-IMAGE_MARK-clause-fault
returns-then-mark-ne-IMAGE_MARK-clause-fault c =
    bad [] IsMark first_goes_on c.args.bytes.now 0 refl (omega arith)
    (none_by_word c.args.bytes.now 0 c.in-Some.mark IsMark c.in-Some.ensures c.if-mark-ne-IMAGE_MARK.true)
