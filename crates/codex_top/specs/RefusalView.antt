-- A refusal as contracts see it.
use Rattle.std.specs.Prelude.{ℕ, List}
use Rattle.codex_top.specs.declared.refusal.After.{After}

-- a refusal: its number, its name, and what comes after the name
pub record RefusalView : Type 0 where
  pub number : ℕ
  pub name : List ℕ
  pub after : After
