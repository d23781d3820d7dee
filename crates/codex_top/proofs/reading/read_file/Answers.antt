use Rattle.std.proofs.Common.{ap}
use Rattle.std.specs.Prelude.{Err}
use Rattle.codex_top.specs.Reading.{holds, unread, no_memory}
use Rattle.codex_top.proofs.FileLemmas.{first_of}
use Rattle.codex_top.proofs.reading.read_file.Goals as goal

pub returns-in-Ok-clause-read : goal.returns-in-Ok-clause-read
returns-in-Ok-clause-read g c =
    let (held, has, first) = first_of (g.F.Shelf.files c.args.shelf.now) c.args.file.now _ c.in-Ok.bytes c.in-Ok.ensures.short c.in-Ok.ensures.bytes in
    holds held c.in-Ok.bytes has first

pub returns-in-Err-Failed-clause-read : goal.returns-in-Err-Failed-clause-read
returns-in-Err-Failed-clause-read g c = unread (c.in-Err-Failed.ensures.cause.rose (ap Err c.in-Err-Failed.field-0-is))

pub returns-in-Err-Memory-clause-read : goal.returns-in-Err-Memory-clause-read
returns-in-Err-Memory-clause-read g c = no_memory
