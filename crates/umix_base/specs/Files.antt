-- Files by their names, and what a call does to them.
use Rattle.std.specs.Prelude.{◌≡◌, ◌⊎◌, ◌≤◌, ℕ, List, length, take, Option, Some, None, option_map}
use Rattle.std.specs.Prelude.{Result, Ok, Err, IfOk, Vec}
use Rattle.std.specs.Ordering.{nat_cmp}
use Rattle.std.specs.Cmp.Lexicographic.{slice_cmp}
use Rattle.std.specs.FinMap as map
use Rattle.std.specs.declared.alloc.Global.{Global}
use Rattle.umix_base.specs.Causes.{Rose}
use Rattle.umix_base.specs.declared.shelf.ShelfFault.{ShelfFault}
use Rattle.umix_base.specs.declared.shelf.ShelfFault.TheVariants.{Failed, Memory}

-- from the bytes of a name to the bytes of its file
abbrev pub Files : Type 0
Files = map.FinMap (slice_cmp nat_cmp) (List ℕ)

-- a read gives the first bytes of the file, as many as were asked for where it has them
abbrev pub ReadsFile : Option Files → List ℕ → ℕ → Result (Vec ℕ Global) ShelfFault → Type 0
ReadsFile None name max result = Unit {0}
ReadsFile (Some files) name max result = IfOk result
    (λ bytes. option_map (take max) (map.get files name) ≡ Some bytes.items)

-- the shelf tells its files, and this one isn't there
abbrev pub Lacks : Option Files → List ℕ → Type 0
Lacks None name = ⊥
Lacks (Some files) name = map.get files name ≡ None

-- the count of reads never falls, and a read failed only where it rose or the file is known not to be there
pub record HasReadCause (files : Option Files) (name : List ℕ) (before now : ℕ)
    (result : Result (Vec ℕ Global) ShelfFault) : Type 0 where
  pub later : before ≤ now
  pub rose : result ≡ Err Failed → Rose before now ⊎ Lacks files name

-- the file is the bytes; or after a fault as before, or by a failed write a prefix of them
abbrev pub WritesFile : List ℕ → List ℕ → Option Files → Option Files → Result (Unit {0}) ShelfFault → Type 0
WritesFile name bytes None new result = Unit {0}
WritesFile name bytes (Some files) new (Ok done) = new ≡ Some (map.insert files name bytes)
WritesFile name bytes (Some files) new (Err Memory) = new ≡ Some files
WritesFile name bytes (Some files) new (Err Failed) =
    (new ≡ Some files) ⊎ ((k : ℕ) × (k ≤ length bytes) × (new ≡ Some (map.insert files name (take k bytes))))
