-- Why a program isn't measured is why it isn't drawn.
use Rattle.two_d.specs.Programs.{Program}
use Rattle.grid_draw.specs.Answers.{HasFault}
use Rattle.grid_draw.specs.declared.drawing.DrawFault.{DrawFault}
use Rattle.grid_draw.specs.declared.drawing.DrawFault.TheVariants.{TooWide, TooLong, Memory}
use Rattle.grid_draw.specs.inner.Answers.{IsNoSize}

pub no_size : (P : Program) (e : DrawFault) → IsNoSize P e → HasFault P e
no_size P (TooWide n) is = is
no_size P (TooLong n) is = absurd is
no_size P Memory is = is
