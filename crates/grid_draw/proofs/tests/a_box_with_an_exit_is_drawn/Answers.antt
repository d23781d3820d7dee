use Rattle.grid_draw.proofs.LightPrograms.{light_one}
use Rattle.grid_draw.proofs.tests.a_box_with_an_exit_is_drawn.Goals as goal

pub draw-requires : goal.draw-requires
draw-requires g c =
    light_one c.in_ok-modules.modules.items c.in_ok-program.program c.in_ok-main.main c.in_ok-program.ensures c.in_ok-modules.ensures.items
    c.in_ok-main.ensures
