use Rattle.two_d.proofs.KeptOrders as orders
use Rattle.two_d.proofs.laws.kept_order_of_a_module.Goals as goal

pub returns : goal.returns
returns c = record { acyclic = orders.kept_acyclic; once = orders.kept_once }
