use Rattle.two_d.proofs.KeptOrders as orders
use Rattle.two_d.proofs.laws.one_route.Goals as goal

pub returns : goal.returns
returns c = record { some = orders.kept_orders; past = orders.kept_past; valid = orders.kept_valid; same = orders.route_same }
