-- What a command has written.
use Rattle.std.specs.Prelude.{◌≡◌, ℕ, ◌≤◌, List, length, take, Result, Ok, Err}
use Rattle.umix_base.specs.Causes.{Rose}
use Rattle.umix_base.specs.declared.shelf.ShelfFault.TheVariants as shelf
use Rattle.umix_base.specs.Files.{WritesFile}
use Rattle.um_word.specs.Scroll.{scroll}
use Rattle.codex_top.specs.declared.line.Line.{Line}
use Rattle.codex_top.specs.declared.line.Line.TheVariants.{WriteFault, NoMemory}
use Rattle.codex_top.specs.declared.end.Finish.TheVariants.{Done}
use Rattle.codex_top.specs.Endings.{End}
use Rattle.codex_top.specs.Outside.{Shelved, Stream, Received}

-- The output has received the text; or by a failed write, which was counted, a beginning of it.
pub data IsSent (text : List ℕ) (before now : Stream) : Result (Unit {0}) Line → Type 0 where
  sent : Received text before now → IsSent text before now (Ok tt)
  cut : (k : ℕ) → k ≤ length text → Received (take k text) before now →
      Rose before.faults now.faults → IsSent text before now (Err WriteFault)

-- the end of a command whose text was sent so, and which ends so where all of it went out
abbrev pub end_after : Result (Unit {0}) Line → End → End
end_after (Ok done) whole = whole
end_after (Err line) whole = Err line

-- how a command ends that is done when its text has been sent
pub data TextSent (text : List ℕ) (before now : Stream) : End → Type 0 where
  ends : (sent : Result (Unit {0}) Line) → IsSent text before now sent →
      TextSent text before now (end_after sent (Ok Done))

-- The file holds the bytes; or by a failed write, which was counted, it is as before or holds a
-- beginning of them; or there was no memory. Every other file is as before.
pub data FileWritten (file bytes : List ℕ) (before now : Shelved) : End → Type 0 where
  written : WritesFile file bytes before.files now.files (Ok tt) →
      FileWritten file bytes before now (Ok Done)
  cut : WritesFile file bytes before.files now.files (Err shelf.Failed) →
      Rose before.write_faults now.write_faults → FileWritten file bytes before now (Err WriteFault)
  no_memory : now.files ≡ before.files → FileWritten file bytes before now (Err NoMemory)

-- so it is with the scroll of the words
abbrev pub ScrollWritten : (file words : List ℕ) (before now : Shelved) → End → Type 0
ScrollWritten file words = FileWritten file (scroll words)
