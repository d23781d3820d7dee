use Rattle.std.proofs.Common.{subst, ap}
use Rattle.std.specs.Prelude.{Err}
use Rattle.umix_base.specs.Files.{WritesFile}
use Rattle.codex_top.specs.Sending.{written, cut, no_memory}
use Rattle.codex_top.proofs.FileLemmas.{files_stay}
use Rattle.codex_top.proofs.sending.write_file.Goals as goal

pub returns-in-Ok-clause-ends : goal.returns-in-Ok-clause-ends
returns-in-Ok-clause-ends g c = written c.in-Ok.ensures.file

pub returns-in-Err-Failed-clause-ends : goal.returns-in-Err-Failed-clause-ends
returns-in-Err-Failed-clause-ends g c =
    let failed = subst (λ fault. WritesFile c.args.file.now c.args.bytes.now (g.F.Shelf.files c.args.shelf.now) (g.F.Shelf.files c.write.new.self) (Err fault)) c.in-Err-Failed.field-0-is c.in-Err-Failed.ensures.file in
    cut failed (c.in-Err-Failed.ensures.cause.rose (ap Err c.in-Err-Failed.field-0-is))

pub returns-in-Err-Memory-clause-ends : goal.returns-in-Err-Memory-clause-ends
returns-in-Err-Memory-clause-ends g c =
    let wanted = subst (λ fault. WritesFile c.args.file.now c.args.bytes.now (g.F.Shelf.files c.args.shelf.now) (g.F.Shelf.files c.write.new.self) (Err fault)) c.in-Err-Memory.field-0-is c.in-Err-Memory.ensures.file in
    no_memory (files_stay c.args.file.now c.args.bytes.now _ _ wanted c.in-Err-Memory.ensures.tells)
