use Rattle.std.proofs.Common.{ap}
use Rattle.std.specs.Prelude.{Err}
use Rattle.explain_top.specs.Explaining.{holds, unread, no_memory}
use Rattle.explain_top.proofs.top.read_text.Goals as goal

pub returns-in-Ok : goal.returns-in-Ok
returns-in-Ok g c = holds c.in-Ok.bytes c.in-Ok.ensures.bytes c.in-Ok.ensures.files

pub returns-in-Err-Failed : goal.returns-in-Err-Failed
returns-in-Err-Failed g c =
    unread (c.in-Err-Failed.ensures.cause.rose (ap Err c.in-Err-Failed.field-0-is)) c.in-Err-Failed.ensures.files

pub returns-in-Err-Memory : goal.returns-in-Err-Memory
returns-in-Err-Memory g c = no_memory c.in-Err-Memory.ensures.files
