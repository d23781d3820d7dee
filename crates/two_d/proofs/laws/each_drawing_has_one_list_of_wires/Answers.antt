use Rattle.two_d.proofs.FiguresApart.{boxes_gave}
use Rattle.two_d.proofs.SomeWires.{some_wires, one_list_of_wires}
use Rattle.two_d.proofs.laws.each_drawing_has_one_list_of_wires.Goals as goal

pub returns : goal.returns
returns c = record {
  some = some_wires;
  one = λ m p r s frame read this that. one_list_of_wires m (record { boxes = boxes_gave m.grid m.frame m.boxes read; wide = frame.wide }) r s this that;
}
