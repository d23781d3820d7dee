-- What `check` tells of the bytes that were read of a file.
use Rattle.std.proofs.Common.{◌≡◌, ◌≤◌, ◌<◌, ℕ, List, length, Option, Some, None, refl, sym, ap, subst, inl, inr, arith}
use Rattle.std.specs.Prelude.{Ok, Err, MatchOption, ⊤}
use Rattle.std.specs.Option.{unwrap_or}
use Rattle.std.proofs.lemmas.Bool.{cases_lt}
use Rattle.umix_base.specs.declared.place.Place.{Place}
use Rattle.two_d.specs.Cells.{Grid, grid_of}
use Rattle.two_d.specs.Faults.{TextFault, too_long, told_as, number_and_place}
use Rattle.two_d.specs.Program.{program_of}
use Rattle.two_d.specs.Programs.{Program}
use Rattle.two_d.specs.Reading.{Reading, goes_on, stops, refused, passed, Told, went, failed, faults_mapped, Refuses}
use Rattle.two_d.specs.Weights.{weight}
use Rattle.module_table.specs.Answers.{answer_of}
use Rattle.module_table.specs.declared.fault.CheckFault.{CheckFault}
use Rattle.module_table.specs.declared.fault.CheckFault.TheVariants.{Bad, Memory}
use Rattle.codex_top.specs.declared.line.Line.{Line}
use Rattle.codex_top.specs.declared.line.Line.TheVariants.{NoMemory}
use Rattle.codex_top.specs.Limits.{most_grid_bytes}
use Rattle.codex_top.specs.Outside.{Shelved}
use Rattle.codex_top.specs.Reading.{ProgramRead}
use Rattle.codex_top.specs.Reading as reading
use Rattle.codex_top.specs.Refusals.{refused as refused_line, after_name, grid_line}
use Rattle.codex_top.proofs.FileLemmas.{Seen}

-- a fault that was told is one of the reading
pub told_ok : {F G A : Type 0} (tell : F → G) (m : Reading F A) (x : A) → Told tell m (Ok x) → m (Ok x)
told_ok tell m x (went _ is) = is

pub told_err : {F G A : Type 0} (tell : F → G) (m : Reading F A) (t : G) → Told tell m (Err t) → (f : F) × m (Err f) × (t ≡ tell f)
told_err tell m _ (failed f is) = (f, is, refl)

-- a text with a grid isn't too long
grid_fits : (text : List ℕ) (grid : Grid) → grid_of text (Ok grid) → length text ≤ most_grid_bytes
grid_fits text grid (goes_on u (passed short) rest) = elim (cases_lt most_grid_bytes (length text)) [ inl over ↦ absurd (short over) | inr fits ↦ fits ]

pub program_fits : (text : List ℕ) (P : Program) → program_of text (Ok P) → length text ≤ most_grid_bytes
program_fits text P (goes_on grid is rest) = grid_fits text grid is

pub program_light : (text : List ℕ) (P : Program) → Told number_and_place (program_of text) (Ok P) → weight P ≤ length text → weight P ≤ most_grid_bytes
program_light text P told weighs =
    let fits = program_fits text P (told_ok number_and_place (program_of text) P told) in
    omega (arith, weighs, fits)

-- a text that is too long has this fault alone
grid_over : (text : List ℕ) (f : TextFault) → most_grid_bytes < length text → grid_of text (Err f) → f ≡ too_long
grid_over text f over (goes_on u (passed short) rest) = absurd (short over)
grid_over text f over (stops _ (refused is)) = refl

program_over : (text : List ℕ) (f : TextFault) → most_grid_bytes < length text → program_of text (Err f) → f ≡ too_long
program_over text f over (goes_on grid is rest) = let fits = grid_fits text grid is in absurd (omega (arith, over, fits))
program_over text f over (stops _ is) = grid_over text f over is

is_over : (text : List ℕ) → most_grid_bytes < length text → program_of text (Err too_long)
is_over text over = stops too_long (stops too_long (refused over))

module _ (file : List ℕ) (before now : Shelved) (bytes : List ℕ) (s : Seen before.files file most_grid_bytes bytes) where
  -- the program of the bytes that were read is that of the file
  pub program_read : (P : Program) → Told number_and_place (program_of bytes) (Ok P) → weight P ≤ length bytes → ProgramRead file before now (Ok P)
  program_read P told weighs =
      let is = told_ok number_and_place (program_of bytes) P told in
      let same = s.whole (program_fits bytes P is) in
      reading.holds s.held P s.has (record {
        reads = subst (λ text. program_of text (Ok P)) (sym same) is;
        weighs = subst (λ text. weight P ≤ length text) (sym same) weighs;
      })

  fault_read : (f : TextFault) → program_of bytes (Err f) → ProgramRead file before now (Err (grid_line f))
  fault_read f is = elim (cases_lt most_grid_bytes (length bytes)) [
    | inl over ↦ rw (program_over bytes f over is) (reading.refused s.held _ s.has (reading.faulty too_long (is_over s.held (s.over over))))
    | inr fits ↦ reading.refused s.held _ s.has (reading.faulty f (subst (λ text. program_of text (Err f)) (sym (s.whole fits)) is))
  ]

  pub fault_told : (fault : CheckFault) (line : Line) → Refuses (faults_mapped number_and_place (program_of bytes)) (answer_of fault) →
      ((f : TextFault) → answer_of fault ≡ Some (number_and_place f) → line ≡ grid_line f) → (fault ≡ Memory → line ≡ NoMemory) →
      ProgramRead file before now (Err line)
  fault_told (Bad number place) line refuses tells memory =
      let (f, is, same) = told_err number_and_place (program_of bytes) (number, place) refuses in
      rw (tells f (ap Some same)) (fault_read f is)
  fault_told Memory line refuses tells memory = rw (memory refl) reading.no_memory

-- what `check` refuses has a fault with its number and its place
pub fault_of : (m : Reading TextFault Program) (fault : CheckFault) → Refuses (faults_mapped number_and_place m) (answer_of fault) →
    MatchOption (answer_of fault) ⊤ (λ told. (f : TextFault) × (number_and_place f ≡ told))
fault_of m (Bad number place) refuses = let (f, is, same) = told_err number_and_place m (number, place) refuses in (f, sym same)
fault_of m Memory refuses = tt

first_of_answer : Option (ℕ × Option Place) → ℕ × Option Place
first_of_answer o = unwrap_or o (0, None)

-- a line with the number, the name and the place of a fault is the fault's
pub line_is : (number : ℕ) (name : List ℕ) (place : Option Place) (f : TextFault) → Some (number, place) ≡ Some (number_and_place f) → name ≡ (told_as f).1 →
    refused_line number name (after_name place) ≡ grid_line f
unfolding first_of_answer
line_is number name place f e named =
    let numbered : number ≡ (told_as f).0 = ap (λ o. (first_of_answer o).0) e in
    let placed : place ≡ (told_as f).2 = ap (λ o. (first_of_answer o).1) e in
    rw (numbered, named, placed) refl
