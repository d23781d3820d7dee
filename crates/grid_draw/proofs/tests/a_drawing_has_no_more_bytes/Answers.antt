use Rattle.std.proofs.Common.{arith}
use Rattle.grid_draw.proofs.LightPrograms.{light_two}
use Rattle.grid_draw.proofs.tests.a_drawing_has_no_more_bytes.Goals as goal

pub draw-requires : goal.draw-requires
draw-requires g c =
    light_two c.in_ok-modules.modules.items c.in_ok-program.program c.in_ok-main.main c.in_ok-other.other c.in_ok-program.ensures
    c.in_ok-modules.ensures.items (omega (arith, c.in_ok-main.ensures)) (omega (arith, c.in_ok-other.ensures))
