-- A shelf in memory, and what a call may answer and leave.
use Rattle.std.specs.Prelude.{◌≡◌, ℕ, ◌||◌, ◌==◌, List, find, take, Option, Some, None, option_map}
use Rattle.std.specs.Prelude.{is_some, is_none, IsTrue, IsSome, IfSome, Result, Ok, Err, Vec}
use Rattle.std.specs.FinMap as files
use Rattle.std.specs.declared.alloc.Global.{Global}
use Rattle.umix_base.specs.Calls.{one_more, counted}
use Rattle.umix_base.specs.Files.{Files}
use Rattle.umix_base.specs.declared.mem_shelf.ShelfFail.{ShelfFail}
use Rattle.umix_base.specs.declared.shelf.ShelfFault.{ShelfFault}
use Rattle.umix_base.specs.declared.shelf.ShelfFault.TheVariants.{Failed, Memory}

-- the files, the calls that fail, the next call's number, and how often a read and a write have failed
pub record ShelfInMemory : Type 0 where
  pub held : Files
  pub fails : List ShelfFail
  pub calls : ℕ
  pub read_faults : ℕ
  pub write_faults : ℕ

-- how the next call fails, by the first entry with its number
abbrev pub failure : ShelfInMemory → Option ShelfFail
failure s = find (λ f. f.call == s.calls) s.fails

-- the shelf with one more call made
abbrev pub called : ShelfInMemory → ShelfInMemory
called s = record s { calls = one_more s.calls }

-- a read fails where its number says so or there is no such file; want of memory takes neither's place
abbrev pub AnswersRead : ShelfInMemory → List ℕ → ℕ → Result (Vec ℕ Global) ShelfFault → Type 0
AnswersRead s name max (Ok bytes) = (failure s ≡ None) ×
    (option_map (take max) (files.get s.held name) ≡ Some bytes.items)
AnswersRead s name max (Err Failed) = IsTrue (is_some (failure s) || is_none (files.get s.held name))
AnswersRead s name max (Err Memory) = (failure s ≡ None) × IsSome (files.get s.held name)

-- the shelf after a read: only a failure that the call's number asks for is counted
abbrev pub after_read : ShelfInMemory → ShelfInMemory
after_read s = record (called s) { read_faults = counted (is_some (failure s)) s.read_faults }

-- the files after a failed write that keeps so many of the bytes, or leaves the file
abbrev pub with_kept : Files → List ℕ → List ℕ → Option ℕ → Files
with_kept held name bytes None = held
with_kept held name bytes (Some k) = files.insert held name (take k bytes)

-- a write fails where its number says so; want of memory, which one that keeps nothing hasn't, changes no file
abbrev pub AnswersWrite : List ℕ → List ℕ → ShelfInMemory → ShelfInMemory → Result (Unit {0}) ShelfFault → Type 0
AnswersWrite name bytes s new (Ok done) =
    (failure s ≡ None) × (new ≡ record (called s) { held = files.insert s.held name bytes })
AnswersWrite name bytes s new (Err Failed) =
    (f : ShelfFail) × (failure s ≡ Some f)
    × (new ≡ record (called s) { held = with_kept s.held name bytes f.kept; write_faults = one_more s.write_faults })
AnswersWrite name bytes s new (Err Memory) =
    (new ≡ called s) × IfSome (failure s) (λ f. IsSome f.kept)
