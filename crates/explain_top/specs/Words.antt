-- What the words of the command line ask for.
use Rattle.std.specs.Prelude.{ℕ, List, [], ◌∷◌, codes, Option, Some, None}
use Rattle.explain_top.specs.declared.words.Job.{Job as JobKept}
use Rattle.explain_top.specs.declared.words.Job.TheVariants.{Grid, Stuck, Asm, Help}

-- a job: to show the drawing in a file, or where its program is stuck, to list the assembly text in
-- one, or to tell the words of both programs
pub data Job : Type 0 where
  shows : (file : List ℕ) → Job
  evaluates : (file : List ℕ) → Job
  lists : (file : List ℕ) → Job
  helps : Job

-- the lists of words that ask for something; any word may be a file's name
pub data AsksFor : List (List ℕ) → Job → Type 0 where
  grid : (file : List ℕ) → AsksFor (codes "grid" ∷ file ∷ []) (shows file)
  stuck : (file : List ℕ) → AsksFor (codes "stuck" ∷ file ∷ []) (evaluates file)
  asm : (file : List ℕ) → AsksFor (codes "asm" ∷ file ∷ []) (lists file)
  help : AsksFor (codes "help" ∷ []) helps

-- a job of the code as plain data
abbrev pub work_of : JobKept → Job
work_of (Grid file) = shows file.now
work_of (Stuck file) = evaluates file.now
work_of (Asm file) = lists file.now
work_of Help = helps

-- the job that the words ask for was found; or none, and they ask for none
abbrev pub IsFound : List (List ℕ) → Option JobKept → Type 0
IsFound words None = (job : Job) → AsksFor words job → ⊥
IsFound words (Some job) = AsksFor words (work_of job)
