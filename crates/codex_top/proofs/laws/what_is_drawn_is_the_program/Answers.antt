use Rattle.codex_top.proofs.Drawn.{done_is_drawn}
use Rattle.codex_top.proofs.laws.what_is_drawn_is_the_program.Goals as goal

pub returns : goal.returns
returns c = done_is_drawn
