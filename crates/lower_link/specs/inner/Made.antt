-- What it means that words are made of plans, and what such words do.
use Rattle.std.specs.Prelude.{ℕ, List, ◌≡◌, ◌+◌, ◌*◌, ◌^◌, ◌<◌, ◌≤◌, ◌++◌, length}
use Rattle.lower_link.specs.inner.Boot.{Places, boot_code}
use Rattle.lower_link.specs.Follows.{extent, block_at, AreBlocks, Follows}
use Rattle.two_d.specs.Programs.{Program, module_at, main_of}
use Rattle.two_d.specs.Weights.{part, weight}
use Rattle.code_templates.specs.Lines.{StandsAt}
use Rattle.code_templates.specs.Templates.{return_outcome}
use Rattle.lower_plan.specs.declared.plan.Plan.{Plan}
use Rattle.lower_emit.specs.Blocks.{block_code, block_length}
use Rattle.lower_emit.specs.inner.Plans.{plans_of}
use Rattle.lower_link.specs.inner.Lines.{line_at, all_lines}
use Rattle.lower_link.specs.inner.Printer.{IsPrinter}
use Rattle.two_d.specs.Good.{IsGood}
use Rattle.lower_plan.specs.Plans.{ArePlans}
use Rattle.lower_link.specs.Realises.{Realises}

-- places and sizes by the number of the block
abbrev pub places_of : List (ℕ × ℕ) → Places
places_of blocks = record { place = λ i. (extent blocks i).0; size = λ i. (extent blocks i).1 }

-- The words are not too many, and have the boot; the blocks lie apart in them. The blocks of the
-- modules are the code of the plans, each in its length, and the last is the printer with its
-- texts.
pub record IsMade (P : Program) (plans : List Plan) (blocks : List (ℕ × ℕ))
    (words : List ℕ) : Type 0 where
  pub short : length words ≤ 48 * (weight P + 64)
  pub small : length words ≤ 2 ^ 32
  pub boot : StandsAt words 0 (boot_code (places_of blocks) (length P) (main_of P)
      (12 + part (module_at P (main_of P))))
  pub blocks_are : AreBlocks P words blocks
  pub codes : (m : ℕ) → m < length P → StandsAt (block_at words blocks m) 0
      (block_code (plans_of P plans m) 0 ++ return_outcome)
  pub sizes : (m : ℕ) → m < length P → (extent blocks m).1 ≡ block_length (plans_of P plans m) + 11
  pub printer : IsPrinter (block_at words blocks (length P)) (line_at P) (length (all_lines P))
  pub printer_size : (extent blocks (length P)).1 ≤ 147 + 16 * weight P

-- They realise the program.
unfoldable pub RealisesLaw : Type 0
RealisesLaw = (P : Program) → IsGood P → (plans : List Plan) → ArePlans P plans →
    (blocks : List (ℕ × ℕ)) (words : List ℕ) → IsMade P plans blocks words → Realises P words

-- They follow it, within bounds.
unfoldable pub FollowsLaw : Type 0
FollowsLaw = (P : Program) → IsGood P → (plans : List Plan) → ArePlans P plans →
    (blocks : List (ℕ × ℕ)) (words : List ℕ) → IsMade P plans blocks words → Follows P words blocks
