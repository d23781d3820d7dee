use Rattle.std.proofs.Common.{◌≡◌, arith, sym, ap, subst, ◌∙◌}
use Rattle.std.specs.Str.Lines.{lines}
use Rattle.two_d.specs.Cells.{IsTooLong}
use Rattle.two_d.specs.Places.{IsLeast}
use Rattle.two_d.specs.Reading.{goes_on, stops, gave, passed, refused, refused_at, none}
use Rattle.grid_reader.specs.Rows.{rows}
use Rattle.grid_reader.proofs.grid.read_grid.Goals as goal

pub returns-then-bytes-gt-MAX_BYTES : goal.returns-then-bytes-gt-MAX_BYTES
returns-then-bytes-gt-MAX_BYTES c = stops _ (refused (omega arith))

pub returns-in-Some : goal.returns-in-Some
returns-in-Some c =
    rw c.place_of.ensures (goes_on tt (passed (omega arith)) (stops _ (refused_at c.in-Some.at c.in-Some.ensures.found)))

pub returns-in-Some-first_long_line : goal.returns-in-Some-first_long_line
returns-in-Some-first_long_line c =
    let same : rows c.deref.result.now ≡ lines c.args.bytes.now = ap rows c.deref.ensures.value ∙ c.in_ok-lines.ensures.lines ∙ ap lines c.text_of.ensures in
    let i = c.in-Some-first_long_line.line in
    let long : IsLeast (IsTooLong (lines c.args.bytes.now)) i = subst (λ g. IsLeast (IsTooLong g) i) same c.in-Some-first_long_line.ensures.found in
    goes_on tt (passed (omega arith)) (goes_on tt (none (λ i bad. bad.holds.bad (c.in_default.ensures.none i bad.holds.within))) (stops _ (refused_at i long)))

pub returns : goal.returns
returns c =
    let same : rows c.in_ok-lines.lines.items ≡ lines c.args.bytes.now = c.in_ok-lines.ensures.lines ∙ ap lines c.text_of.ensures in
    let also : rows c.deref.result.now ≡ lines c.args.bytes.now = ap rows c.deref.ensures.value ∙ same in
    rw same (goes_on tt (passed (omega arith)) (goes_on tt (none (λ i bad. bad.holds.bad (c.in_default.ensures.none i bad.holds.within)))
    (goes_on tt (none (λ i long. c.in_default-first_long_line.ensures.none i (subst (λ g. IsTooLong g i) (sym also) long.holds))) gave)))
