-- The modules of a text, and where they are drawn.
use Rattle.std.specs.Prelude.{◌≡◌, ℕ, List, map, Result, Ok, MatchResult}
use Rattle.two_d.specs.Places.{corner_of}
use Rattle.two_d.specs.Cells.{grid_of}
use Rattle.two_d.specs.Faults.{TextFault, number_and_place}
use Rattle.two_d.specs.Frames.{frames_of}
use Rattle.two_d.specs.Program.{Drawn, module_in}
use Rattle.two_d.specs.Programs.{modules_of}
use Rattle.two_d.specs.Reading.{Reading, Refuses, each, faults_mapped, ◌>>=◌}
use Rattle.module_table.specs.declared.corners.Corners.{Corners}
use Rattle.module_table.specs.declared.fault.CheckFault.{CheckFault}
use Rattle.module_table.specs.declared.modules.Modules.{Modules}
use Rattle.module_table.specs.Answers.{answer_of}

-- the modules of a text in reading order, or its first fault up to them: what `program_of` reads
-- before it looks at their list
abbrev pub drawn_of : List ℕ → Reading TextFault (List Drawn)
drawn_of text = do
  grid ← grid_of text
  frames ← frames_of grid
  each (module_in grid) frames

-- What a function answered stands for what the reading gives, or its refusal tells the fault by
-- number and place.
abbrev pub Tells : {X A : Type 0} → (X → A → Type 0) → Result X CheckFault → Reading TextFault A → Type 0
Tells {A = A} Is result m =
    MatchResult result (λ x. (a : A) × m (Ok a) × Is x a)
    (λ e. Refuses (faults_mapped number_and_place m) (answer_of e))

-- the corners of modules and of their boxes
pub record AreCorners (corners : List Corners) (ds : List Drawn) : Type 0 where
  pub frames : map (λ (c : Corners). c.frame) corners ≡ map (λ (d : Drawn). corner_of d.frame) ds
  pub boxes : map (λ (c : Corners). c.boxes.items) corners ≡ map (λ (d : Drawn). map corner_of d.boxes) ds

-- modules and their corners are those of what was read
pub record AreModulesRead (x : Modules) (ds : List Drawn) : Type 0 where
  pub shapes : modules_of x.modules.items ≡ map (λ (d : Drawn). d.shape) ds
  pub corners : AreCorners x.corners.items ds
