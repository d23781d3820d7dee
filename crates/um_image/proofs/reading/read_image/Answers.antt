use Rattle.std.proofs.Common.{◌≤◌, length, arith}
use Rattle.um_image.specs.Image.{most_image_bytes}
use Rattle.um_image.specs.Refusals.{RefusesImage}
use Rattle.um_image.specs.inner.Reading.{ReaderStops}
use Rattle.um_image.proofs.Sections.{err_weaker}
use Rattle.um_image.proofs.Both.{stops_refuses}
use Rattle.um_image.proofs.reading.read_image.Goals as goal

pub returns-clause-fault : goal.returns-clause-fault
returns-clause-fault c =
    let le : length c.args.bytes.now ≤ most_image_bytes = (let h = c.if-bytes-gt-MOST_IMAGE_BYTES.false in omega (arith, h)) in
    err_weaker (ReaderStops c.args.bytes.now) (RefusesImage c.args.bytes.now) c.read_machine.result
    (λ fault s. stops_refuses c.args.bytes.now fault le s) c.read_machine.ensures.fault
