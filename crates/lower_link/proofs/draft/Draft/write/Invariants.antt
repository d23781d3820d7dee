-- The bytes so far are written.
use Rattle.std.specs.Prelude.{take}
use Rattle.lower_link.specs.inner.Drafts.{DraftAdds}
use Rattle.lower_link.specs.inner.Printer.{writes}
use Rattle.lower_link.proofs.draft.Draft.write.Given as goal

abbrev pub invariant-loop-byte : goal.invariant-loop-byte
invariant-loop-byte l = DraftAdds l.fn.self l.self (writes (take l.byte-index l.bytes))
