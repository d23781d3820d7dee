-- The first of what is wrong with a list of modules, by the numbers of module and box from 0.
use Rattle.std.specs.Prelude.{◌≡◌, ℕ, ◌<◌, ◌≤◌, ◌⊎◌, IsTrue, List, length}
use Rattle.two_d.specs.Good.{HasInputsOf, IsUnwired}
use Rattle.two_d.specs.Places.{IsLeast}
use Rattle.two_d.specs.Programs.{BoxForm, ModuleForm, Program, find, main_of, module_at}
use Rattle.two_d.specs.Reading.{Reading, give, refuse, refuse_at, each_from, ◌>>◌}
use Rattle.two_d.specs.Sound.{Reaches}
use Rattle.two_d.specs.Trees.{call}

-- what is wrong with a list of modules
pub data Wrong : Type 0 where
  same_name : ℕ → Wrong
  no_main : Wrong
  main_has_input : ℕ → Wrong
  no_module bad_inputs unwired cycle : ℕ → ℕ → Wrong

-- module i has the name of an earlier one
pub record RepeatsName (P : Program) (i : ℕ) : Type 0 where
  pub within : i < length P
  pub earlier : find P (module_at P i).name < i

-- the module has an entry
abbrev pub HasEntry : ModuleForm → Type 0
HasEntry m = IsTrue m.north ⊎ IsTrue m.west

-- the box uses a module of this name
abbrev pub UsesName : BoxForm → List ℕ → Type 0
UsesName row name = row.command ≡ call name

-- the name that the box uses is that of no module
abbrev pub UsesNone : Program → BoxForm → Type 0
UsesNone P row = (name : List ℕ) × UsesName row name × (length P ≤ find P name)

-- the entries of the module that the box uses aren't just those that are wired
abbrev pub UsesBadly : Program → BoxForm → Type 0
UsesBadly P row =
    (name : List ℕ) × UsesName row name × (HasInputsOf row (module_at P (find P name)) → ⊥)

-- box b of module m
abbrev pub box_faults : Program → ℕ → ℕ → BoxForm → Reading Wrong (Unit {0})
box_faults P m b row = do
  refuse (no_module m b) (UsesNone P row)
  refuse (bad_inputs m b) (UsesBadly P row)
  refuse (unwired m b) (IsUnwired row)

-- the modules, or the first of what is wrong with them
abbrev pub table_of : Program → Reading Wrong Program
table_of P = do
  refuse_at same_name (IsLeast (RepeatsName P))
  refuse no_main (length P ≤ main_of P)
  refuse (main_has_input (main_of P)) (HasEntry (module_at P (main_of P)))
  each_from (λ m one. each_from (box_faults P m) 0 one.boxes) 0 P
  each_from (λ m one. refuse_at (cycle m) (IsLeast (λ b. Reaches one b b))) 0 P
  give P
