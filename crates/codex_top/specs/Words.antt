-- What the words of the command line ask for.
use Rattle.std.specs.Prelude.{◌≡◌, ◌≢◌, ℕ, ◌^◌, ◌<◌, ◌≤◌, List, [], ◌∷◌, All, map, codes, decimal}
use Rattle.std.specs.List.{join_with_byte}
use Rattle.std.specs.Str.{byte}
use Rattle.two_d.specs.Steps.{Choice, First, Last, Listed}
use Rattle.codex_top.specs.Limits.{most_made, most_number}

-- a job: what the program is to do with which files, by which picks, and at most how often; or the
-- number of the grid that it is to make
pub data Job : Type 0 where
  checks : (file : List ℕ) → Job
  evaluates : (file : List ℕ) (picks : Choice) (events : ℕ) → Job
  traces : (file : List ℕ) (picks : Choice) (events : ℕ) → Job
  compiles : (file out : List ℕ) → Job
  runs : (file : List ℕ) (cycles : ℕ) → Job
  assembles : (file out : List ℕ) → Job
  lists : (file : List ℕ) → Job
  debugs : (file input : List ℕ) → Job
  selftests : (number : ℕ) → Job
  draws : (file : List ℕ) → Job
  types : (file sheet : List ℕ) → Job
  saves : (file : List ℕ) (cycles : ℕ) (out : List ℕ) → Job
  resumes : (file : List ℕ) (cycles : ℕ) → Job

-- the word writes this number in decimal, and it is at most `most`
pub record IsDecimal (most : ℕ) (word : List ℕ) (n : ℕ) : Type 0 where
  pub writes : word ≡ decimal n
  pub small : n ≤ most

-- the word joins these numbers of 32 bits, of which there is one at least, by commas
pub record AreJoined (word : List ℕ) (numbers : List ℕ) : Type 0 where
  pub some : numbers ≢ []
  pub small : All (λ n. n < 2 ^ 32) numbers
  pub joins : word ≡ join_with_byte (byte ",") (map decimal numbers)

-- the word names these picks
pub data IsPicks : List ℕ → Choice → Type 0 where
  first : IsPicks (codes "first") First
  last : IsPicks (codes "last") Last
  listed : (word numbers : List ℕ) → AreJoined word numbers → IsPicks word (Listed numbers)

-- the lists of words that ask for something; any word may be a file's name
pub data Asks : List (List ℕ) → Job → Type 0 where
  check : (file : List ℕ) → Asks (codes "check" ∷ file ∷ []) (checks file)
  eval : (file : List ℕ) → Asks (codes "eval" ∷ file ∷ []) (evaluates file First most_made)
  eval_by : (file word : List ℕ) (picks : Choice) → IsPicks word picks →
      Asks (codes "eval" ∷ file ∷ word ∷ []) (evaluates file picks most_made)
  eval_for : (file word number : List ℕ) (picks : Choice) (n : ℕ) → IsPicks word picks →
      IsDecimal most_made number n →
      Asks (codes "eval" ∷ file ∷ word ∷ number ∷ []) (evaluates file picks n)
  trace : (file word number : List ℕ) (picks : Choice) (n : ℕ) → IsPicks word picks →
      IsDecimal most_made number n →
      Asks (codes "trace" ∷ file ∷ word ∷ number ∷ []) (traces file picks n)
  compile : (file out : List ℕ) → Asks (codes "compile" ∷ file ∷ out ∷ []) (compiles file out)
  run : (file : List ℕ) → Asks (codes "run" ∷ file ∷ []) (runs file most_made)
  run_for : (file number : List ℕ) (n : ℕ) → IsDecimal most_made number n →
      Asks (codes "run" ∷ file ∷ number ∷ []) (runs file n)
  asm : (file out : List ℕ) → Asks (codes "asm" ∷ file ∷ out ∷ []) (assembles file out)
  dis : (file : List ℕ) → Asks (codes "dis" ∷ file ∷ []) (lists file)
  debug : (file input : List ℕ) → Asks (codes "debug" ∷ file ∷ input ∷ []) (debugs file input)
  selftest : (number : List ℕ) (n : ℕ) → IsDecimal most_number number n →
      Asks (codes "selftest" ∷ number ∷ []) (selftests n)
  draw : (file : List ℕ) → Asks (codes "draw" ∷ file ∷ []) (draws file)
  type : (file sheet : List ℕ) → Asks (codes "type" ∷ file ∷ sheet ∷ []) (types file sheet)
  save : (file number out : List ℕ) (n : ℕ) → IsDecimal most_made number n →
      Asks (codes "save" ∷ file ∷ number ∷ out ∷ []) (saves file n out)
  resume : (file number : List ℕ) (n : ℕ) → IsDecimal most_made number n →
      Asks (codes "resume" ∷ file ∷ number ∷ []) (resumes file n)

-- some picks come next, whichever events are ready
abbrev pub PicksSome : Choice → Type 0
PicksSome (Listed numbers) = numbers ≢ []
PicksSome picks = Unit {0}

-- a job that a list of words may ask for
abbrev pub IsAllowed : Job → Type 0
IsAllowed (evaluates file picks events) = PicksSome picks × (events ≤ most_made)
IsAllowed (traces file picks events) = PicksSome picks × (events ≤ most_made)
IsAllowed (runs file cycles) = cycles ≤ most_made
IsAllowed (saves file cycles out) = cycles ≤ most_made
IsAllowed (resumes file cycles) = cycles ≤ most_made
IsAllowed job = Unit {0}
