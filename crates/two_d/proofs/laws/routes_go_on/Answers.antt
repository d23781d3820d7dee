use Rattle.two_d.proofs.Staying.{route_stays}
use Rattle.two_d.proofs.Walks.{route_long, route-prefix}
use Rattle.two_d.proofs.laws.routes_go_on.Goals as goal

pub returns-clause-long : goal.returns-clause-long
returns-clause-long c = λ P order blocks printer n are none. route_long P order blocks printer are n none

pub returns-clause-begins : goal.returns-clause-begins
returns-clause-begins c = λ P order blocks printer n d are none. route-prefix P order blocks printer are n none d

pub returns-clause-stays : goal.returns-clause-stays
returns-clause-stays c = λ P order blocks printer n d r are means. route_stays P order blocks printer are n r means d
