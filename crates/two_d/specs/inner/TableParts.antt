-- The reading of a list of modules in parts, as the code reads it.
use Rattle.std.specs.Prelude.{◌≡◌, ◌<◌, ◌≤◌, ℕ, List, length, Option, MatchOption}
use Rattle.two_d.specs.Places.{IsLeast}
use Rattle.two_d.specs.Programs.{BoxForm, ModuleForm, Program, find, main_of, module_at}
use Rattle.two_d.specs.Reading.{Reading, refuse, refuse_at, each_from, ◌>>◌}
use Rattle.two_d.specs.Sound.{Reaches}
use Rattle.two_d.specs.Table.{Wrong, same_name, no_main, main_has_input, cycle, RepeatsName, HasEntry, box_faults}

-- the number of the module of a name, or there is none
abbrev pub IsFoundAs : Program → List ℕ → Option ℕ → Type 0
IsFoundAs P name found = MatchOption found (find P name ≡ length P) (λ i. (i < length P) × (find P name ≡ i))

-- a module with the name of an earlier one
abbrev pub names_of : Program → Reading Wrong (Unit {0})
names_of P = refuse_at same_name (IsLeast (RepeatsName P))

-- no module `main`, or one with an entry
abbrev pub start_of : Program → Reading Wrong (Unit {0})
start_of P = do
  refuse no_main (length P ≤ main_of P)
  refuse (main_has_input (main_of P)) (HasEntry (module_at P (main_of P)))

-- the boxes of module m, in order
abbrev pub boxes_of : Program → ℕ → List BoxForm → Reading Wrong (Unit {0})
boxes_of P m rows = each_from (box_faults P m) 0 rows

-- the first box of module m that reaches itself
abbrev pub ring_of : ℕ → ModuleForm → Reading Wrong (Unit {0})
ring_of m one = refuse_at (λ b. cycle m b) (IsLeast (λ b. Reaches one b b))

-- the boxes of the modules, in order
abbrev pub all_boxes_of : Program → Reading Wrong (Unit {0})
all_boxes_of P = each_from (λ m one. boxes_of P m one.boxes) 0 P

-- all but the cycles
abbrev pub uses_of : Program → Reading Wrong (Unit {0})
uses_of P = do
  names_of P
  start_of P
  all_boxes_of P

-- the cycles, module by module
abbrev pub cycles_of : Program → Reading Wrong (Unit {0})
cycles_of P = each_from ring_of 0 P
