-- What the program is handed, as contracts see it.
use Rattle.std.specs.Prelude.{◌≡◌, ℕ, List, ◌++◌, Option, option_map}
use Rattle.umix_base.specs.Files.{Files}
use Rattle.umix_base.specs.declared.shelf.Shelf as shelf
use Rattle.umix_base.specs.declared.sink.Sink as sink

-- the files, where they are told, and the counts of reads and of writes that failed
pub record Shelved : Type 0 where
  pub files : Option Files
  pub read_faults : ℕ
  pub write_faults : ℕ

-- what a sink has received, where it is told, and the count of its faults
pub record Stream : Type 0 where
  pub bytes : Option (List ℕ)
  pub faults : ℕ

-- a shelf and a sink as contracts see them
abbrev pub shelved : {F : Type 0} → shelf.Ghosts F → F → Shelved
shelved f s =
    record { files = f.files s; read_faults = f.read_faults s; write_faults = f.write_faults s }

abbrev pub told : {O : Type 0} → sink.Ghosts O → O → Stream
told o out = record { bytes = o.written out; faults = o.faults out }

-- these bytes more were received
abbrev pub Received : List ℕ → Stream → Stream → Type 0
Received bytes before now = now.bytes ≡ option_map (λ held. held ++ bytes) before.bytes
