use Rattle.std.proofs.Common.{Some, None}
use Rattle.wire_trace.proofs.Numbers.{value_after}
use Rattle.wire_trace.proofs.owners.Owners.set.Goals as goal

pub returns-clause-gets : goal.returns-clause-gets
returns-clause-gets c = record {
  inside = λ q within is. (value_after c.args.self.now.area c.args.self.now.numbers.items c.args.place q c.number-cell.result (Some c.args.number) None c.number-cell.ensures.number c.requires.numbers.long c.requires.place within).0 is;
  outside = λ q within isnt. (value_after c.args.self.now.area c.args.self.now.numbers.items c.args.place q c.number-cell.result (Some c.args.number) None c.number-cell.ensures.number c.requires.numbers.long c.requires.place within).1 isnt;
}
