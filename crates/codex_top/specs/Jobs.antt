-- The program's jobs as plain data.
use Rattle.std.specs.Prelude.{ℕ, List, Option, Some, None}
use Rattle.fire_eval.specs.Evaluation.{choice_of}
use Rattle.codex_top.specs.declared.words.Job.{Job}
use Rattle.codex_top.specs.declared.words.Job.TheVariants.{Check, Eval, Trace, Compile, Run, Asm}
use Rattle.codex_top.specs.declared.words.Job.TheVariants.{Dis, Debug, Selftest, Draw, Types, Save}
use Rattle.codex_top.specs.declared.words.Job.TheVariants.{Resume}
use Rattle.codex_top.specs.Words as plain

abbrev pub work_of : Job → plain.Job
work_of (Check file) = plain.checks file.now
work_of (Eval file picks events) = plain.evaluates file.now (choice_of picks) events
work_of (Trace file picks events) = plain.traces file.now (choice_of picks) events
work_of (Compile file out) = plain.compiles file.now out.now
work_of (Run file cycles) = plain.runs file.now cycles
work_of (Asm file out) = plain.assembles file.now out.now
work_of (Dis file) = plain.lists file.now
work_of (Debug file input) = plain.debugs file.now input.now
work_of (Selftest number) = plain.selftests number
work_of (Draw file) = plain.draws file.now
work_of (Types file sheet) = plain.types file.now sheet.now
work_of (Save file cycles out) = plain.saves file.now cycles out.now
work_of (Resume file cycles) = plain.resumes file.now cycles

-- the job that the words ask for was found; or none, and they ask for none
abbrev pub IsFound : List (List ℕ) → Option Job → Type 0
IsFound words None = (job : plain.Job) → plain.Asks words job → ⊥
IsFound words (Some job) = plain.Asks words (work_of job)
