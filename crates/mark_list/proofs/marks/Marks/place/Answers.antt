-- Where one mark alone is set, none stands before it, and it is the first.
use Rattle.std.proofs.Common.{arith, ap, length}
use Rattle.mark_list.specs.Marks.{one_if}
use Rattle.mark_list.proofs.Below.{count_before-at}
use Rattle.mark_list.proofs.marks.Marks.place.Goals as goal

pub returns-in-Some-clause-is : goal.returns-in-Some-clause-is
returns-in-Some-clause-is c =
    omega (
      arith,
      c.requires,
      c.in-Some.ensures.one,
      count_before-at c.args.self.now c.in-Some.place (length c.args.self.now) c.in-Some.ensures.there,
      ap one_if c.in-Some.ensures.set,
    )
