-- The scroll of a program's blocks.
use Rattle.std.specs.Prelude.{ℕ, ◌+◌, ◌*◌, ◌≤◌, ◌++◌, ◌∷◌, length, Vec, ◌≡◌, List, []}
use Rattle.std.specs.Global.{Global}
use Rattle.two_d.specs.Programs.{Program, module_at, main_of}
use Rattle.two_d.specs.Weights.{part, weight}
use Rattle.lower_link.specs.declared.linking.Linked.{Linked}
use Rattle.lower_link.specs.inner.Boot.{IsLinked}
use Rattle.lower_link.specs.inner.Lines.{line_at, all_lines}
use Rattle.lower_link.specs.Follows.{AreBlocks}
use Rattle.lower_link.specs.inner.Linking.{Blocks, words_of_block}
use Rattle.lower_link.specs.inner.Made.{places_of}
use Rattle.lower_link.specs.inner.Printer.{IsPrinter}
use Rattle.code_templates.specs.Lines.{StandsAt}
use Rattle.code_templates.specs.Templates.{return_outcome}
use Rattle.lower_plan.specs.declared.plan.Plan.{Plan}
use Rattle.lower_emit.specs.Blocks.{block_code, block_length}
use Rattle.lower_emit.specs.inner.Plans.{plans_of}

-- The words are boot, blocks and printer, within the bound on words; the blocks lie apart.
pub record IsScrollOf (P : Program) (blocks : Blocks) (linked : Linked) : Type 0 where
  pub printer : Vec ℕ Global
  pub prints : IsPrinter printer.items (line_at P) (length (all_lines P))
  pub printer_size : length printer.items ≤ 147 + 16 * weight P
  pub is : IsLinked (words_of_block (blocks ++ printer ∷ [])) (places_of linked.blocks.items)
      (length P) (main_of P) (12 + part (module_at P (main_of P))) linked.words.items
  pub apart : AreBlocks P linked.words.items linked.blocks.items
  pub short : length linked.words.items ≤ 48 * (weight P + 64)

-- The words are the block of a module, by its plan.
pub record IsBlockOf (P : Program) (plans : List Plan) (m : ℕ) (words : List ℕ) : Type 0 where
  pub code : StandsAt words 0 (block_code (plans_of P plans m) 0 ++ return_outcome)
  pub size : length words ≡ block_length (plans_of P plans m) + 11
