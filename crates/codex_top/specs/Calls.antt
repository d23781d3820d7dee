-- Calls of the program.
use Rattle.std.specs.Prelude.{◌≡◌, ℕ, List, Some, Ok, Err}
use Rattle.std.specs.FinMap as map
use Rattle.umix_base.specs.Files.{Files}
use Rattle.codex_top.specs.declared.status.Status.{Status}
use Rattle.codex_top.specs.Commands.{Does}
use Rattle.codex_top.specs.Endings.{End, status_of_finish}
use Rattle.codex_top.specs.Lines.{status_of}
use Rattle.codex_top.specs.Outside.{Stream, Outside, Received, IsCounted}
use Rattle.codex_top.specs.Words.{Job, Asks}

-- a call: its words; shelf, input and output, and `err`, before it and after it; and its status
pub record Call : Type 0 where
  pub words : List (List ℕ)
  pub before : Outside
  pub now : Outside
  pub err_before : Stream
  pub err_now : Stream
  pub status : Status

-- the call of these words, with all that was before it and after it
abbrev pub call_of :
    List (List ℕ) → (before now : Outside) → (err_before err_now : Stream) → Status → Call
call_of words before now err_before err_now status = record {
  words = words;
  before = before;
  now = now;
  err_before = err_before;
  err_now = err_now;
  status = status;
}

-- the call is one of `codex`, whose contract says this of it
pub record IsOfCodex (c : Call) : Type 0 where
  pub does : Does c.words c.before c.now c.err_before c.err_now c.status
  pub counted : IsCounted c.before c.now

-- The output has received these bytes more, where it tells what it received; or it is as before.
abbrev pub Wrote : List ℕ → Call → Type 0
Wrote bytes c = Received bytes c.before.streams.output c.now.streams.output

abbrev pub WroteNothing : Call → Type 0
WroteNothing c = c.now.streams.output ≡ c.before.streams.output

-- the shelf tells its files, and has this one with these bytes
pub record Has (name bytes : List ℕ) (o : Outside) : Type 0 where
  pub files : Files
  pub shelf_tells : o.shelf.files ≡ Some files
  pub has : map.get files name ≡ Some bytes

-- so it is of each call whose words ask for the job, where this held before it
abbrev pub EachCall :
    (IsCall : Call → Type 0) → Job → (Held : Outside → Type 0) → (Call → Type 0) → Type 0
EachCall IsCall job Held IsSo =
    (c : Call) → IsCall c → Asks c.words job → Held c.before → IsSo c

-- the status that goes with an end
abbrev pub status_of_end : End → Status
status_of_end (Ok finish) = status_of_finish finish
status_of_end (Err line) = status_of line
