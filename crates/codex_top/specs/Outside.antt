-- What a command is handed, as contracts see it.
use Rattle.std.specs.Prelude.{◌≡◌, ℕ, ◌≤◌, List, ◌++◌, Option, Some, None, option_map}
use Rattle.std.specs.FinMap as map
use Rattle.umix_base.specs.Files.{Files}
use Rattle.umix_base.specs.Causes.{KeepsTelling}
use Rattle.umix_base.specs.declared.shelf.Shelf as shelf
use Rattle.umix_base.specs.declared.source.Source as source
use Rattle.umix_base.specs.declared.sink.Sink as sink

-- the files, where they are told, and the counts of reads and of writes that failed
pub record Shelved : Type 0 where
  pub files : Option Files
  pub read_faults : ℕ
  pub write_faults : ℕ

-- what a source still has or a sink has received, where it is told, and the count of its faults
pub record Stream : Type 0 where
  pub bytes : Option (List ℕ)
  pub faults : ℕ

pub record Streams : Type 0 where
  pub input : Stream
  pub output : Stream

-- what a command is handed beside `err`
pub record Outside : Type 0 where
  pub shelf : Shelved
  pub streams : Streams

-- a shelf, a source and a sink as contracts see them
abbrev pub shelved : {F : Type 0} → shelf.Ghosts F → F → Shelved
shelved f s =
    record { files = f.files s; read_faults = f.read_faults s; write_faults = f.write_faults s }

abbrev pub heard : {I : Type 0} → source.Ghosts I → I → Stream
heard i input = record { bytes = i.rest input; faults = i.faults input }

abbrev pub told : {O : Type 0} → sink.Ghosts O → O → Stream
told o out = record { bytes = o.written out; faults = o.faults out }

abbrev pub streams : {I O : Type 0} → source.Ghosts I → sink.Ghosts O → I → O → Streams
streams i o input out = record { input = heard i input; output = told o out }

abbrev pub outside : {F I O : Type 0} → shelf.Ghosts F → source.Ghosts I → sink.Ghosts O →
    F → I → O → Outside
outside f i o shelf input out =
    record { shelf = shelved f shelf; streams = streams i o input out }

-- a shelf may be taken to have this file with these bytes: where it tells its files, it has
abbrev pub MayHave : Option Files → List ℕ → List ℕ → Type 0
MayHave None name bytes = Unit {0}
MayHave (Some files) name bytes = map.get files name ≡ Some bytes

-- these bytes more were received
abbrev pub Received : List ℕ → Stream → Stream → Type 0
Received bytes before now = now.bytes ≡ option_map (λ held. held ++ bytes) before.bytes

-- what reads leave of a shelf: no file changed, no write failed, and no fewer reads had
pub record IsOnlyRead (before now : Shelved) : Type 0 where
  pub files : now.files ≡ before.files
  pub writes : now.write_faults ≡ before.write_faults
  pub reads : before.read_faults ≤ now.read_faults

-- no file changed, no write to one failed, and no input was taken
abbrev pub IsOnlyWritten : Outside → Outside → Type 0
IsOnlyWritten before now =
    IsOnlyRead before.shelf now.shelf × (now.streams.input ≡ before.streams.input)

-- No count of faults fell, and nothing began or ceased to tell what it holds.
pub record IsShelfCounted (before now : Shelved) : Type 0 where
  pub files : KeepsTelling before.files now.files
  pub reads : before.read_faults ≤ now.read_faults
  pub writes : before.write_faults ≤ now.write_faults

pub record IsStreamCounted (before now : Stream) : Type 0 where
  pub tells : KeepsTelling before.bytes now.bytes
  pub later : before.faults ≤ now.faults

pub record AreCounted (before now : Streams) : Type 0 where
  pub input : IsStreamCounted before.input now.input
  pub output : IsStreamCounted before.output now.output

pub record IsCounted (before now : Outside) : Type 0 where
  pub shelf : IsShelfCounted before.shelf now.shelf
  pub streams : AreCounted before.streams now.streams
